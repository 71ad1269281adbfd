-- The blocks of a generated round are those of whole transactions.
use Rattle.std.proofs.Common.{◌≡◌, ℕ, zero, suc, ◌+◌, ◌-◌, ◌<◌, ◌≤◌, ◌==◌, Bool, true, false, cond, List, [], ◌∷◌, ◌++◌, map, flat_map, length, Option, Some, None, refl, sym, ◌∙◌, ap, arith, inl, inr, ⊎_elim}
use Rattle.std.specs.Prelude.{◌⊎◌, ◌%◌, filter_map, if◌then◌else◌, slice_get}
use Rattle.std.specs.List.{list_all, range_with_len}
use Rattle.std.proofs.lemmas.Bool.{cases_lt, cases_eq, eq-eqb}
use Rattle.std.proofs.lemmas.List.{length-map, map-append}
use Rattle.dali_transcripts.specs.Clients.Said.{Transcribed}
use Rattle.dali_generator.specs.Generated.{block, commands_of, draw, generated, key_of, transaction, value_of}
use Rattle.dali_generator.specs.Left.{call_in, calls_at, transactions_of}
use Rattle.dali_generator.proofs.Ranges.{at}
use Rattle.dali_record.specs.declared.records.Call.TheVariants as calls
use Rattle.dali_round.specs.Leads.{lines_in}
use Rattle.dali_script.specs.declared.commands.Block.{Block}
use Rattle.dali_script.specs.declared.commands.ClientCommand.{ClientCommand}
use Rattle.dali_script.specs.declared.commands.ClientCommand.TheVariants.{Update, Delete, Get, Commit}
use Rattle.dali_served.specs.Free.{AllFit, fits_log}
use Rattle.dali_served.specs.Served.{AreTold, acts_of}
use Rattle.dali_served.specs.Generates.{calls_told}
use Rattle.dali_transcripts.specs.Words.{Act, Begins, Calls, Commits, Damaged, Full, Refused, Said, StoreFailed, UnderWay}
use Rattle.dali_transcripts.specs.Transcripts.{Told, is_among}
use Rattle.dali_generator.proofs.Keys.{all_transactions, none_beyond, none_before}
use Rattle.dali_run.specs.declared.halt.Halt.{Halt}
use Rattle.dali_run.specs.Generating.{first_full, full_among, full_in, or_else}
use Rattle.dali_run.specs.Told.{act_by, told_by}
use Rattle.dali_round.proofs.Starts.{get_back}

-- ---- the lines
both_none : (a b : Option Halt) → or_else a b ≡ None → (a ≡ None) × (b ≡ None)
both_none None b e = (refl, e)
both_none (Some halt) b e = absurd cc

line_fits : (said : Said) → full_in said ≡ None → fits_log said ≡ true
line_fits (Refused act (Full end limit)) e = absurd cc
line_fits (Refused act (Damaged region codeword found)) e = refl
line_fits (Refused act StoreFailed) e = refl
line_fits (Refused act UnderWay) e = refl
line_fits _ e = refl

lines_fit : (lines : List Said) → full_among lines ≡ None → list_all fits_log lines ≡ true
lines_fit [] e = refl
lines_fit (said ∷ later) e =
    let two = both_none (full_in said) (full_among later) e in rw (line_fits said two.0) (lines_fit later two.1)

pub all_fit : (ts : List Transcribed) → first_full ts ≡ None → AllFit (map lines_in ts)
all_fit [] e = tt
all_fit (t ∷ ts) e = let two = both_none (full_among (lines_in t)) (first_full ts) e in (lines_fit (lines_in t) two.0, all_fit ts two.1)

-- ---- the acts
unfoldable pub second : (first a b c : Bool) (k : ℕ) (v : List ℕ) → List ClientCommand
second first a b c k v = if first then [] else (if a then Update k v ∷ [] else (if b then Delete k ∷ [] else (if c then Get k ∷ [] else [])))

second_acts : (first a b c : Bool) (k : ℕ) (v : List ℕ) (acts : List Act) → map act_by (second first a b c k v ++ Commit ∷ []) ++ acts ≡ map Calls (filter_map call_in (second first a b c k v ++ Commit ∷ [])) ++ Commits ∷ acts
unfolding second
second_acts true a b c k v acts = refl
second_acts false true b c k v acts = refl
second_acts false false true c k v acts = refl
second_acts false false false true k v acts = refl
second_acts false false false false k v acts = refl

one_acts : (number client i : ℕ) (acts : List Act) → map act_by (transaction client i (draw number client i)) ++ acts ≡ Begins ∷ map Calls (calls_at number client i) ++ Commits ∷ acts
unfolding second
one_acts number client i acts =
    let drawn = draw number client i in
    ap (λ l. Begins ∷ Calls (calls.Insert (key_of client i) (value_of drawn)) ∷ l)
    (second_acts (i == 0) (drawn % 4 == 1) (drawn % 4 == 2) (drawn % 4 == 3) (key_of client (i - 1)) (value_of drawn) acts)

all_acts : (number client n a : ℕ) → map act_by (flat_map (λ i. transaction client i (draw number client i)) (range_with_len a n)) ≡ acts_of (map (calls_at number client) (range_with_len a n))
all_acts number client zero a = refl
all_acts number client (suc n) a =
    map-append act_by (transaction client a (draw number client a)) (flat_map (λ i. transaction client i (draw number client i)) (range_with_len (a + 1) n))
    ∙ (ap (λ l. map act_by (transaction client a (draw number client a)) ++ l) (all_acts number client n (a + 1))
    ∙ one_acts number client a (acts_of (map (calls_at number client) (range_with_len (a + 1) n))))

-- ---- the clients

is_among_them : (number size n a c : ℕ) → a ≤ c → c < a + n → is_among (map told_by (map (block number size) (range_with_len a n))) c ≡ true
is_among_them number size zero a c le lt = absurd (omega (arith, le, lt))
is_among_them number size (suc n) a c le lt = by_test (a == c) (λ away. is_among_them number size n (a + 1) c (omega (arith, le, away)) (omega (arith, lt))) (cases_eq a c)
  where
    by_test : (b : Bool) → ((a ≡ c → ⊥) → is_among (map told_by (map (block number size) (range_with_len (a + 1) n))) c ≡ true) → (a ≡ c) ⊎ (a ≡ c → ⊥)
        → cond (a == c) true (is_among (map told_by (map (block number size) (range_with_len (a + 1) n))) c) ≡ true
    by_test b ih (inl same) = let is = eq-eqb a c same in rw is refl
    by_test b ih (inr away) = or_so (a == c) (ih away)
      where
        or_so : (x : Bool) → is_among (map told_by (map (block number size) (range_with_len (a + 1) n))) c ≡ true → cond x true (is_among (map told_by (map (block number size) (range_with_len (a + 1) n))) c) ≡ true
        or_so true e = refl
        or_so false e = e

pub are_told : (clients size number : ℕ) → AreTold (calls_told clients size number) (map told_by (generated clients size number))
are_told clients size number = record { acts = acts; others = others }
  where
    acts : (i : ℕ) (b : Told) → slice_get (map told_by (generated clients size number)) i ≡ Some b → b.acts ≡ acts_of (calls_told clients size number b.client)
    acts i b e =
        let one = get_back told_by (generated clients size number) i b e in
        let two = at (block number size) clients 1 i one.0 one.1 in
        let client : b.client ≡ 1 + i = ap (λ (t : Told). t.client) one.2 ∙ ap (λ (x : Block). x.client) two.1 in
        let told : b.acts ≡ map act_by (commands_of number size (1 + i)) = ap (λ (t : Told). t.acts) one.2 ∙ ap (λ (x : Block). map act_by x.commands) two.1 in
        let count : transactions_of clients size (1 + i) ≡ size = all_transactions clients size (1 + i) (omega arith) (omega (arith, two.0)) in
        told
        ∙ (all_acts number (1 + i) size 0
        ∙ (ap (λ n. acts_of (map (calls_at number (1 + i)) (range_with_len 0 n))) (sym count) ∙ ap (λ c. acts_of (calls_told clients size number c)) (sym client)))

    none : (c : ℕ) → transactions_of clients size c ≡ 0 → calls_told clients size number c ≡ []
    none c e = ap (λ n. map (calls_at number c) (range_with_len 0 n)) e

    others : (c : ℕ) → is_among (map told_by (generated clients size number)) c ≡ false → calls_told clients size number c ≡ []
    others c e = ⊎_elim
        (λ low. none c (none_before clients size c low))
        (λ some. ⊎_elim
        (λ high. none c (none_beyond clients size c high))
        (λ few. let is = is_among_them number size clients 1 c some (omega (arith, few)) in let never : false ≡ true = sym e ∙ is in absurd cc)
        (cases_lt clients c))
        (cases_lt c 1)

-- ---- one block for each client
count_range : (n a : ℕ) → length (range_with_len a n) ≡ n
count_range zero a = refl
count_range (suc n) a = ap suc (count_range n (a + 1))

pub one_each : (clients size number : ℕ) → length (map told_by (generated clients size number)) ≡ clients
one_each clients size number =
    length-map (generated clients size number) told_by ∙ (length-map (range_with_len 1 clients) (block number size) ∙ count_range clients 1)
