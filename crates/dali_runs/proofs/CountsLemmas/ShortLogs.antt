-- The bytes of a legal log, with a frame for each record, stay below 2^62.
use Rattle.std.proofs.Common.{◌≡◌, ℕ, zero, suc, ◌+◌, ◌*◌, ◌<◌, ◌≤◌, Bool, true, false, cond, List, [], ◌∷◌, ◌++◌, length, take, Option, Some, None, refl, ap, sym, ◌∙◌, arith}
use Rattle.std.specs.Prelude.{◌==◌, ◌&&◌, replicate, not, sum_by, flat_map, slice_get, ◌^◌, count_ones, nat_lt, nat_le, IsSome, is_some, fold}
use Rattle.std.specs.List.{list_all}
use Rattle.std.proofs.lemmas.Bool.{leb-true, ltb-true, eqb-true}
use Rattle.std.proofs.lemmas.List.Sums.{sum_by_push, sum_by-append}
use Rattle.std.proofs.lemmas.List.{length-append, length_push}
use Rattle.dali_lists.proofs.Lists.{length_filter, get_push}
use Rattle.dali_lists.proofs.Tests.{left_true, right_true}
use Rattle.dali_record.specs.Files.{batch_length}
use Rattle.dali_geometry.specs.Sizes.{Sizes}
use Rattle.dali_geometry.specs.Places.{regions}
use Rattle.dali_words.specs.Values.{IsValue}
use Rattle.dali_record.specs.declared.operations.Block.{Block}
use Rattle.dali_record.specs.declared.operations.Op.{Op}
use Rattle.dali_record.specs.declared.operations.Op.TheVariants.{Put, Change}
use Rattle.dali_record.specs.declared.operations.Outcome.{Outcome}
use Rattle.dali_record.specs.declared.operations.Outcome.TheVariants.{Value}
use Rattle.dali_record.specs.declared.operations.Undo.{Undo}
use Rattle.dali_record.specs.declared.operations.Undo.TheVariants.{FreeCell as UndoFreeCell}
use Rattle.dali_record.specs.declared.records.Call.{Call}
use Rattle.dali_record.specs.declared.records.Call.TheVariants.{Insert, Update, Delete, Get}
use Rattle.dali_record.specs.declared.records.Answer.{Answer}
use Rattle.dali_record.specs.declared.records.Answer.TheVariants.{Got}
use Rattle.dali_record.specs.declared.records.Record.{Record}
use Rattle.dali_record.specs.declared.records.Record.TheVariants.{Format, Begin, Forward, Done, Commit, Ended, Solo, AuditBegin, AuditClean, AuditFail, Restarted, Back}
use Rattle.dali_record.specs.Spelling.{CanBeSpelled, IsBlock, IsOperation, IsOutcome, IsCall, IsAnswer, op_length, outcome_length, undo_length, block_length, call_length, answer_length, record_length, ascends}
use Rattle.dali_words.specs.Words.{under}
use Rattle.dali_words.proofs.Lowest.{under_few}
use Rattle.dali_record.specs.Log.{begun, committed, ended}
use Rattle.dali_record.specs.Epochs.{Epoch, Cut, cut, cut_step, last_epoch}
use Rattle.dali_record.specs.Damage.{has, rolled_list, deleted_list, marks, has_corrupt, damage_of}
use Rattle.dali_record.specs.Legal.{Rules, rules_state, rules_next, rules_step, rules_start, rules_first, rules_behind, passes, kept_if, TellsScan}
use Rattle.dali_record.proofs.Makes.{members}
use Rattle.dali_record.proofs.Pushes.{cut_push}
use Rattle.dali_record.proofs.Ends.{by_push}
use Rattle.dali_record.proofs.EpochRules.{rules_before, unless_failed}
use Rattle.dali_runs.proofs.CountsLemmas.SmallLogs.{is_small, of_kept}
use Rattle.dali_runs.specs.Counts.Counts.{AreSpelled, IsShort, FileIsShort}
use Rattle.dali_runs.proofs.CountsLemmas.Fronts.{none_rules}

-- ---- one record that holds no list
size_most : (v : List ℕ) → IsValue v → length v ≤ 40
size_most v is = leb-true (length v) 40 (right_true (nat_le 1 (length v)) _ is.0)

op_most : (o : Op) → IsOperation o → op_length o ≤ 50
op_most (Put v) is = omega (arith, size_most v is)
op_most (Change c v) is = omega (arith, size_most v is.1)
op_most _ is = omega arith

outcome_most : (o : Outcome) → IsOutcome o → outcome_length o ≤ 42
outcome_most (Value v) is = omega (arith, size_most v is)
outcome_most _ is = omega arith

pub undo_most : (o : Option Undo) → undo_length o ≤ 50
undo_most (Some (UndoFreeCell c)) = omega arith
undo_most _ = omega arith

call_most : (c : Call) → IsCall c → call_length c ≤ 50
call_most (Insert k v) is = omega (arith, size_most v is.1)
call_most (Update k v) is = omega (arith, size_most v is.1)
call_most (Delete k) is = omega arith
call_most (Get k) is = omega arith

answer_most : (a : Answer) → IsAnswer a → answer_length a ≤ 42
answer_most (Got v) is = omega (arith, size_most v is)
answer_most _ is = omega arith

ones_most : (m : ℕ) → m < 2 ^ 64 → count_ones m ≤ 64
ones_most m h = let e : length (under m (replicate 64 0)) ≡ count_ones m = members m (replicate 64 0) h in let f : length (under m (replicate 64 0)) ≤ 64 = under_few m (replicate 64 0) in omega (arith, e, f)

pub block_most : (b : Block) → IsBlock b → block_length b ≤ 690
block_most b is = omega (arith, op_most b.op is.op, outcome_most b.outcome is.outcome, undo_most b.undo, is.count, ones_most b.write is.write)

-- ---- one that names regions in ascending order
below_most : (n m : ℕ) (rs : List ℕ) → ascends (m ∷ rs) ≡ true → list_all (λ r. nat_lt r n) (m ∷ rs) ≡ true → m + length (m ∷ rs) ≤ n
below_most n m [] up all = omega (arith, ltb-true m n (left_true (nat_lt m n) true all))
below_most n m (r ∷ rs) up all =
    omega (arith, ltb-true m r (left_true (nat_lt m r) _ up), below_most n r rs (right_true (nat_lt m r) _ up) (right_true (nat_lt m n) _ all))

regions_most : (n : ℕ) (rs : List ℕ) → ascends rs ≡ true → list_all (λ r. nat_lt r n) rs ≡ true → length rs ≤ n
regions_most n [] up all = omega arith
regions_most n (m ∷ rs) up all = omega (arith, below_most n m rs up all)

-- ---- an epoch's lists

pub begun_most : (E : List Record) → length (begun E) ≤ length E
begun_most [] = omega arith
begun_most (Begin t ∷ E) = omega (arith, begun_most E)
begun_most (_ ∷ E) = omega (arith, begun_most E)

rolled_most : (e : Epoch) → length (rolled_list e) ≤ length e.records
rolled_most e = omega (arith, begun_most e.records, length_filter (λ t. not (has (committed e.records) t) && not (has (ended e.records) t)) (begun e.records))

deleted_most : (e : Epoch) → length (deleted_list e) ≤ length e.records
deleted_most e = omega (arith, begun_most e.records, length_filter (λ t. has (committed e.records) t && has_corrupt (marks (damage_of e) e.records) t) (begun e.records))

-- ---- each record: what it adds, against the records of the open epoch before it
abbrev pub open_of : List Record → ℕ
open_of L = length (last_epoch L).records

-- the sizes of a log that begins with its format
abbrev pub HasSizes : Sizes → Type 0
HasSizes s = regions s ≤ 98304

abbrev pub Grows : List Record → Record → Type 0
Grows L x = record_length x + 16 * open_of (L ++ x ∷ []) ≤ 524304 + 16 * open_of L

now_of : (L : List Record) (x : Record) → last_epoch (L ++ x ∷ []) ≡ (cut_step (cut L) x).now
now_of L x = ap (λ (c : Cut). c.now) (cut_push L x)

pub one_open : (L : List Record) (x : Record) → (cut_step (cut L) x).now ≡ record { first = (last_epoch L).first; records = (last_epoch L).records ++ x ∷ [] } → open_of (L ++ x ∷ []) ≡ open_of L + 1
one_open L x e = ap (λ (d : Epoch). length d.records) (now_of L x ∙ e) ∙ length_push (last_epoch L).records x

pub none_open : (L : List Record) (x : Record) → (cut_step (cut L) x).now.records ≡ [] → open_of (L ++ x ∷ []) ≡ 0
none_open L x e = ap (λ (d : Epoch). length d.records) (now_of L x) ∙ ap length e

pub grows : (s : Sizes) (L : List Record) (x : Record) → HasSizes s → CanBeSpelled x → ((b : ℕ) (rs : List ℕ) → x ≡ AuditFail b rs → list_all (λ r. nat_lt r (regions s)) rs ≡ true) → ((rs ds : List ℕ) → x ≡ Restarted rs ds → (rs ≡ rolled_list (last_epoch L)) × (ds ≡ deleted_list (last_epoch L))) → Grows L x
grows s L (Format i h) sizes is fails tells = omega (arith, none_open L (Format i h) refl)
grows s L (Begin t) sizes is fails tells = omega (arith, one_open L (Begin t) refl)
grows s L (Forward t b) sizes is fails tells = omega (arith, one_open L (Forward t b) refl, block_most b is.1)
grows s L (Done t c a) sizes is fails tells = omega (arith, one_open L (Done t c a) refl, call_most c is.1, answer_most a is.2)
grows s L (Commit t) sizes is fails tells = omega (arith, one_open L (Commit t) refl)
grows s L (Ended t) sizes is fails tells = omega (arith, one_open L (Ended t) refl)
grows s L (Solo t p b) sizes is fails tells = omega (arith, one_open L (Solo t p b) refl, block_most b is.2)
grows s L AuditBegin sizes is fails tells = omega (arith, one_open L AuditBegin refl)
grows s L (AuditClean b) sizes is fails tells = omega (arith, one_open L (AuditClean b) refl)
grows s L (AuditFail b rs) sizes is fails tells = omega (arith, one_open L (AuditFail b rs) refl, sizes, regions_most (regions s) rs is.1.2 (fails b rs refl))
grows s L (Restarted rs ds) sizes is fails tells = let lists = tells rs ds refl in omega (arith, none_open L (Restarted rs ds) refl, rolled_most (last_epoch L), deleted_most (last_epoch L), ap length lists.0, ap length lists.1)
grows s L (Back t b) sizes is fails tells = omega (arith, one_open L (Back t b) refl, block_most b is.1)

-- ---- what the rules say of the last record

numbers_of : (s : Sizes) (g h : Rules) (b : ℕ) (rs : List ℕ) → rules_step s g (AuditFail b rs) ≡ Some h → list_all (λ r. nat_lt r (regions s)) rs ≡ true
numbers_of s g h b rs = by_count (g.count == 0)
  where
    by_count : (c : Bool) → cond c (rules_first s g (AuditFail b rs)) (rules_behind s g (AuditFail b rs)) ≡ Some h → list_all (λ r. nat_lt r (regions s)) rs ≡ true
    by_count true e = absurd (cc)
    by_count false e = right_true (has g.audits b && not (has g.closed b)) (list_all (λ r. nat_lt r (regions s)) rs) (of_kept _ _ h (unless_failed g.failed _ h e))

pub numbers_if : (s : Sizes) (g h : Rules) (x : Record) → rules_step s g x ≡ Some h → (b : ℕ) (rs : List ℕ) → x ≡ AuditFail b rs → list_all (λ r. nat_lt r (regions s)) rs ≡ true
numbers_if s g h x e b rs is = numbers_of s g h b rs (sym (ap (rules_step s g) is) ∙ e)

-- ---- the format's sizes

no_first : (s : Sizes) (L : List Record) → IsSome (fold (rules_next s) None L) → ⊥
no_first s L some = let is : is_some (fold (rules_next s) None L) ≡ true = some in let not : is_some (fold (rules_next s) None L) ≡ false = ap is_some (none_rules s L) in cc

pub sizes_most : (s : Sizes) (x : Record) (L : List Record) → IsSome (rules_state s (x ∷ L)) → CanBeSpelled x → HasSizes s
sizes_most s (Format i h) L some is = by_test ((i == s.index) && (h == s.heap)) refl some
  where
    by_test : (c : Bool) → ((i == s.index) && (h == s.heap)) ≡ c → IsSome (fold (rules_next s) (kept_if c (passes rules_start (Format i h))) L) → HasSizes s
    by_test false e k = absurd (no_first s L k)
    by_test true e k = omega (arith, eqb-true i s.index (left_true (i == s.index) (h == s.heap) e), eqb-true h s.heap (right_true (i == s.index) (h == s.heap) e), leb-true i 32768 (right_true (nat_le 1 i) _ is.0), leb-true h 65536 (right_true (nat_le 1 h) _ is.1))
sizes_most s (Begin t) L some is = absurd (no_first s L some)
sizes_most s _ L some is = absurd (no_first s L some)

-- ---- all of it
pub get_old : (L : List Record) (x : Record) (i : ℕ) (r : Record) → slice_get L i ≡ Some r → slice_get (L ++ x ∷ []) i ≡ Some r
get_old [] x i r e = absurd (cc)
get_old (y ∷ L) x zero r e = e
get_old (y ∷ L) x (suc i) r e = get_old L x i r e

pub take_old : (L : List Record) (x : Record) (i : ℕ) (r : Record) → slice_get L i ≡ Some r → take i (L ++ x ∷ []) ≡ take i L
take_old [] x i r e = absurd (cc)
take_old (y ∷ L) x zero r e = refl
take_old (y ∷ L) x (suc i) r e = ap (λ l. y ∷ l) (take_old L x i r e)

pub take_new : (L : List Record) (x : Record) → take (length L) (L ++ x ∷ []) ≡ L
take_new [] x = refl
take_new (y ∷ L) x = ap (λ l. y ∷ l) (take_new L x)

abbrev Bound : Sizes → List Record → Type 0
Bound s L = IsSome (rules_state s L) → AreSpelled L → TellsScan L → sum_by record_length L + 16 * open_of L ≤ 524304 * length L

bounded : (s : Sizes) → HasSizes s → (L : List Record) → Bound s L
bounded s sizes = by_push (Bound s) (λ some spelled tells. omega arith) step
  where
    step : (L : List Record) (x : Record) → Bound s L → Bound s (L ++ x ∷ [])
    step L x ih some spelled tells = by_state (rules_state s (L ++ x ∷ [])) refl some
      where
        by_state : (o : Option Rules) → rules_state s (L ++ x ∷ []) ≡ o → IsSome o → sum_by record_length (L ++ x ∷ []) + 16 * open_of (L ++ x ∷ []) ≤ 524304 * length (L ++ x ∷ [])
        by_state None e k = absurd (cc)
        by_state (Some h) e k =
            let before = rules_before s L x h e in
            let old : sum_by record_length L + 16 * open_of L ≤ 524304 * length L = ih (ap is_some before.1) (λ i r f. spelled i r (get_old L x i r f)) (λ n rs ds f. let t = tells n rs ds (get_old L x n (Restarted rs ds) f) in (t.0 ∙ ap (λ l. rolled_list (last_epoch l)) (take_old L x n (Restarted rs ds) f), t.1 ∙ ap (λ l. deleted_list (last_epoch l)) (take_old L x n (Restarted rs ds) f))) in
            omega (
              arith,
              old,
              length_push L x,
              sum_by_push record_length L x,
              grows s L x sizes (spelled (length L) x (get_push L x)) (numbers_if s before.0 h x before.2)
                  (λ rs ds is. let t = tells (length L) rs ds (get_push L x ∙ ap Some is) in (t.0 ∙ ap (λ l. rolled_list (last_epoch l)) (take_new L x), t.1 ∙ ap (λ l. deleted_list (last_epoch l)) (take_new L x))),
            )

pub is_short : IsShort
is_short s [] legal spelled = omega arith
is_short s (x ∷ L) legal spelled = omega (arith, bounded s (sizes_most s x L legal.rules (spelled 0 x refl)) (x ∷ L) legal.rules spelled legal.scans, is_small s (x ∷ L) legal)

-- ---- a file
pub batches_framed : (batches : List (List Record)) → ((i : ℕ) (b : List Record) → slice_get batches i ≡ Some b → 1 ≤ length b) → sum_by batch_length batches ≤ sum_by record_length (flat_map (λ b. b) batches) + 5 * length (flat_map (λ b. b) batches)
batches_framed [] some = omega arith
batches_framed (b ∷ bs) some =
    let rest : List Record = flat_map (λ b. b) bs in
    let bytes : sum_by record_length (flat_map (λ b. b) (b ∷ bs)) ≡ sum_by record_length b + sum_by record_length rest = sum_by-append record_length b rest in
    let number : length (flat_map (λ b. b) (b ∷ bs)) ≡ length b + length rest = length-append b rest in
    let all : sum_by batch_length (b ∷ bs) ≡ (0 + (5 + sum_by record_length b)) + sum_by batch_length bs = sum_by-append batch_length (b ∷ []) bs in
    let one : 1 ≤ length b = some 0 b refl in
    omega (arith, one, batches_framed bs (λ i c e. some (suc i) c e), bytes, number, all)

pub file_is_short : FileIsShort
file_is_short s batches legal spelled some = omega (arith, is_short s (flat_map (λ b. b) batches) legal spelled, batches_framed batches some)
