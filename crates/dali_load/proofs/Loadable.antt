-- A script of rows that bytes spell is a right one.
use Rattle.std.proofs.Common.{◌≡◌, ℕ, zero, suc, ◌*◌, ◌≤◌, Bool, true, false, cond, List, [], ◌∷◌, ◌++◌, length, map, take, drop, Some, None, Result, Ok, Err, refl, sym, ◌∙◌, subst, arith}
use Rattle.std.specs.Prelude.{nat_eq, codes, ◌==◌, slice_get}
use Rattle.std.specs.List.{AllByRecursion}
use Rattle.std.specs.Cmp.Lexicographic.{pointwise}
use Rattle.dali_access.specs.Index.Records.{below}
use Rattle.dali_listing.specs.declared.Listed.{Listed}
use Rattle.dali_script.specs.Faults.{◌>>=◌, test}
use Rattle.dali_script.specs.Items.{key_in, stored_in}
use Rattle.dali_script.specs.Scripts.{IsRecord, AreInPlace, IsRightRound, IsRightCommand, begins, IsRightScript}
use Rattle.dali_script.specs.declared.faults.Kind.{Kind}
use Rattle.dali_script.specs.declared.faults.Kind.TheVariants as kind
use Rattle.dali_script.specs.declared.commands.Block.{Block}
use Rattle.dali_script.specs.declared.commands.Command.{Command}
use Rattle.dali_script.specs.declared.commands.Command.TheVariants as single
use Rattle.dali_script.specs.declared.commands.ClientCommand.TheVariants.{Commit}
use Rattle.dali_script.proofs.Ranges.{key_fits, stored_is_value}
use Rattle.dali_load.specs.Rows.{Line, is_above, row_of, end_of, verdict, Reads, Spelled}
use Rattle.dali_load.specs.Scripts.{groups, group_at, insert, transaction, round_of, script_of}

-- ---- rows that lines say
abbrev IsRow : Listed → Type 0
IsRow row = IsRecord row.key row.value

bind_ok : {A B E : Type 0} (r : Result A E) (f : A → Result B E) (y : B) → (r >>= f) ≡ Ok y → (x : A) × (r ≡ Ok x) × (f x ≡ Ok y)
bind_ok (Ok x) f y e = (x, refl, e)
bind_ok (Err k) f y e = absurd (cc)

test_ok : {B : Type 0} (passes : Bool) (k : Kind) (f : Unit {0} → Result B Kind) (y : B) → (test passes k >>= f) ≡ Ok y → f tt ≡ Ok y
test_ok true k f y e = e
test_ok false k f y e = absurd (cc)

made : (rows : List Listed) (k v : List ℕ) (row : Listed) → row_of rows k v ≡ Ok (Some row) → IsRow row
made rows k v row e =
    let key = bind_ok (key_in k) (λ key. test (is_above rows key) kind.Number >>= λ rising. stored_in v >>= λ value. Ok (Some (record { key = key; value = value }))) (Some row) e in
    let tested = test_ok (is_above rows key.0) kind.Number (λ rising. stored_in v >>= λ value. Ok (Some (record { key = key.0; value = value }))) (Some row) key.2 in
    let value = bind_ok (stored_in v) (λ value. Ok (Some (record { key = key.0; value = value }))) (Some row) tested in
    let same : record { key = key.0; value = value.0 } ≡ row = cc in
    subst (λ (r : Listed). IsRow r) same (key_fits k key.0 key.1, stored_is_value v value.0 value.1)

never : (rows : List Listed) (text : List ℕ) (row : Listed) → end_of rows text ≡ Ok (Some row) → ⊥
never rows text row e =
    let count = bind_ok (key_in text) (λ count. test (count == length rows) kind.Number >>= λ all. Ok None) (Some row) e in
    let tested = test_ok (count.0 == length rows) kind.Number (λ all. Ok None) (Some row) count.2 in
    cc

said : (rows : List Listed) (words : List (List ℕ)) (row : Listed) → verdict rows words ≡ Ok (Some row) → IsRow row
said rows [] row e = absurd (cc)
said rows (word ∷ []) row e = absurd (cc)
said rows (word ∷ text ∷ []) row e = by_word (pointwise nat_eq word (codes "records")) e
  where
    by_word : (b : Bool) → cond b (end_of rows text) (row_of rows word text) ≡ Ok (Some row) → IsRow row
    by_word true f = absurd (never rows text row f)
    by_word false f = made rows word text row f
said rows (word ∷ text ∷ other ∷ words) row e = absurd (cc)

all_said : (before : List Listed) (lines : List Line) (rows : List Listed) → Reads before lines rows → AllByRecursion IsRow rows
all_said before [] [] h = tt
all_said before [] (row ∷ rows) h = absurd h
all_said before (l ∷ ls) [] h = absurd h
all_said before (l ∷ ls) (row ∷ rows) h = (said before l.1 row h.0, all_said (before ++ row ∷ []) ls rows h.1)

-- ---- a group of them
all_taken : (n : ℕ) (rows : List Listed) → AllByRecursion IsRow rows → AllByRecursion IsRow (take n rows)
all_taken zero rows h = tt
all_taken (suc n) [] h = tt
all_taken (suc n) (row ∷ rows) h = (h.0, all_taken n rows h.1)

all_left : (n : ℕ) (rows : List Listed) → AllByRecursion IsRow rows → AllByRecursion IsRow (drop n rows)
all_left zero rows h = h
all_left (suc n) [] h = tt
all_left (suc n) (row ∷ rows) h = all_left n rows h.1

in_place : (rows : List Listed) → AllByRecursion IsRow rows → AreInPlace true (map insert rows ++ Commit ∷ [])
in_place [] h = tt
in_place (row ∷ rows) h = (h.0, in_place rows h.1)

-- ---- its round
abbrev block : List Listed → Block
block rows = record { client = 1; commands = transaction rows }

only_one : (b c : Block) (i : ℕ) → slice_get (b ∷ []) i ≡ Some c → (i ≡ 0) × (b ≡ c)
only_one b c zero e = (refl, cc)
only_one b c (suc i) e = absurd (cc)

right_round : (rows : List Listed) → AllByRecursion IsRow rows → IsRightRound (block rows ∷ [])
right_round rows h = record {
  numbers = λ i b e. subst (λ (x : Block). (1 ≤ x.client) × (x.client ≤ 64)) (only_one (block rows) b i e).1 (omega arith, omega arith);
  placed = λ i b e. subst (λ (x : Block). AreInPlace false x.commands) (only_one (block rows) b i e).1 (in_place rows h);
  apart = λ i j a b e f same. (only_one (block rows) a i e).0 ∙ sym (only_one (block rows) b j f).0;
}

-- ---- all of them
module _ {X : Type 0} (P : X → Type 0) where
  all_joined : (xs ys : List X) → AllByRecursion P xs → AllByRecursion P ys → AllByRecursion P (xs ++ ys)
  all_joined [] ys h k = k
  all_joined (x ∷ xs) ys h k = (h.0, all_joined xs ys h.1 k)

  all_mapped : (f : ℕ → X) → ((i : ℕ) → P (f i)) → (is : List ℕ) → AllByRecursion P (map f is)
  all_mapped f each [] = tt
  all_mapped f each (i ∷ is) = (each i, all_mapped f each is)

pub right_script : (bytes : List ℕ) (rows : List Listed) (index heap : ℕ) → Spelled bytes rows → 1 ≤ index → index ≤ 32768 → 1 ≤ heap → heap ≤ 65536 → IsRightScript (script_of index heap rows)
right_script bytes rows index heap h i i' k k' =
    let all = all_said [] h.lines rows h.reads in
    let rounds = λ (n : ℕ). round_of (group_at rows n) in
    let numbers : List ℕ = below (groups (length rows)) in
    record {
      right = (
        (i, i', k, k'),
        all_joined IsRightCommand (map rounds numbers) (single.Checkpoint ∷ [])
            (all_mapped IsRightCommand rounds (λ n. right_round (group_at rows n) (all_taken 7 (drop (7 * n) rows) (all_left (7 * n) rows all))) numbers)
            (tt, tt),
      );
      once = (
        refl,
        all_joined (λ (c : Command). begins c ≡ false) (map rounds numbers) (single.Checkpoint ∷ [])
            (all_mapped (λ (c : Command). begins c ≡ false) rounds (λ n. refl) numbers)
            (refl, tt),
      );
    }
