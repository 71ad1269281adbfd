-- The table that an image's rows are read as is the table of its files.
use Rattle.std.proofs.Common.{◌≡◌, ℕ, ◌<◌, ◌≤◌, Bool, true, false, cond, List, [], ◌∷◌, Option, Some, None, refl, ap, sym, subst, ◌∙◌, arith}
use Rattle.std.specs.Prelude.{◌==◌, ◌+◌, zero, suc, map, nat_lt, slice_index}
use Rattle.std.specs.List.{AllByRecursion}
use Rattle.std.specs.List.Sorted.{IsStrictlyIncreasing}
use Rattle.std.specs.Option.{option_map, option_map_or}
use Rattle.std.specs.Ordering.{nat_cmp}
use Rattle.std.specs.FinMap.{empty, get, get-empty}
use Rattle.std.proofs.lemmas.Bool.{ltb-true, eqb-true, and_parts}
use Rattle.std.proofs.lemmas.Bool.Decides.{nat_tests}
use Rattle.dali_geometry.specs.Sizes.{Sizes}
use Rattle.dali_att.specs.Table.{Row as Entry, Table}
use Rattle.dali_att.proofs.Changes.{get-added}
use Rattle.dali_record.specs.declared.operations.Pending.{Pending}
use Rattle.dali_record.specs.Damage.{has}
use Rattle.dali_record.specs.Files.{Files, Row}
use Rattle.dali_record.specs.Spelling.{ascends}
use Rattle.dali_crash.specs.Disks.Disks.{IsRowIn, txn_in}
use Rattle.dali_image.specs.Decoding.{with_row}
use Rattle.dali_image.specs.Laws.{CanBeTable, table_of, with_rows}
use Rattle.dali_image.specs.Rows.{kept, state_read}
use Rattle.dali_resume.specs.Resumed.{row_undos}
use Rattle.dali_resume.specs.Tests.{Status, Running, Waiting, status_in}
use Rattle.dali_redo.specs.Redoing.{status_by}
use Rattle.dali_recovery.specs.Standing.{Starts}

-- ---- the first row of a transaction
found_in : List Row → ℕ → Option (Entry Pending)
found_in [] t = None
found_in (w ∷ ws) t = cond (w.txn == t) (Some (kept w)) (found_in ws t)

else_in : Option (Entry Pending) → Option (Entry Pending) → Option (Entry Pending)
else_in None o = o
else_in (Some e) o = Some e

-- rows above a number
abbrev AreAbove : ℕ → List Row → Type 0
AreAbove l rows = ascends (l ∷ map txn_in rows) ≡ true

none_in : (l t : ℕ) (rows : List Row) → t ≤ l → AreAbove l rows → found_in rows t ≡ None
unfolding found_in
none_in l t [] le up = refl
none_in l t (row ∷ rows) le up =
    let two = and_parts (nat_lt l row.txn) (ascends (row.txn ∷ map txn_in rows)) up in
    let lt : l < row.txn = ltb-true l row.txn two.0 in
    let other : (row.txn == t) ≡ false = grind (arith, nat_tests, lt, le) in
    ap (λ b. cond b (Some (kept row)) (found_in rows t)) other ∙ none_in row.txn t rows (omega (arith, lt, le)) two.1

above_of : (row : Row) (rows : List Row) → ascends (map txn_in (row ∷ rows)) ≡ true → AreAbove row.txn rows
above_of row rows up = up

ascends_on : (row : Row) (rows : List Row) → AreAbove row.txn rows → ascends (map txn_in rows) ≡ true
ascends_on row [] up = refl
ascends_on row (next ∷ rows) up = (and_parts (nat_lt row.txn next.txn) (ascends (map txn_in (next ∷ rows))) up).1

got : (m : Table Pending) (rows : List Row) (t : ℕ) → ascends (map txn_in rows) ≡ true
    → get (with_rows m rows) t ≡ else_in (found_in rows t) (get m t)
unfolding found_in else_in
got m [] t up = refl
got m (row ∷ rows) t up =
    got (with_row m row) rows t (ascends_on row rows up)
    ∙ (ap (λ o. else_in (found_in rows t) o) (get-added m row.txn (kept row) t) ∙ by_test (row.txn == t) refl)
  where
    by_test : (b : Bool) → (row.txn == t) ≡ b
        → else_in (found_in rows t) (cond b (Some (kept row)) (get m t)) ≡ else_in (cond b (Some (kept row)) (found_in rows t)) (get m t)
    by_test false e = refl
    by_test true e =
        let same : row.txn ≡ t = eqb-true row.txn t e in
        ap (λ o. else_in o (Some (kept row))) (none_in row.txn t rows (omega (arith, same)) up)

first_alone : (o : Option (Entry Pending)) → else_in o None ≡ o
unfolding else_in
first_alone None = refl
first_alone (Some e) = refl

found : (rows : List Row) (t : ℕ) → ascends (map txn_in rows) ≡ true → get (table_of rows) t ≡ found_in rows t
found rows t up = got empty rows t up ∙ (ap (λ o. else_in (found_in rows t) o) (get-empty nat_cmp t) ∙ first_alone (found_in rows t))

-- ---- what it says
abbrev status_of : Option (Entry Pending) → Status
status_of o = status_by (option_map (λ row. row.state) o) (option_map_or (λ row. row.undos) o [])

abbrev undos_of : Option (Entry Pending) → List Pending
undos_of o = option_map_or (λ row. row.undos) o []

by_state : (b : Bool) (us : List Pending) → status_by (Some (state_read b)) us ≡ cond b Waiting (Running us)
by_state true us = refl
by_state false us = refl

status_found : (rows : List Row) (t : ℕ) → status_of (found_in rows t) ≡ status_in rows t
unfolding found_in
status_found [] t = refl
status_found (row ∷ rows) t = by_test (row.txn == t) (status_found rows t)
  where
    by_test : (b : Bool) → status_of (found_in rows t) ≡ status_in rows t
        → status_of (cond b (Some (kept row)) (found_in rows t)) ≡ cond b (cond row.is_committed Waiting (Running row.undos)) (status_in rows t)
    by_test true later = by_state row.is_committed row.undos
    by_test false later = later

undos_found : (rows : List Row) (t : ℕ) → row_undos rows t ≡ undos_of (found_in rows t)
unfolding found_in
undos_found [] t = refl
undos_found (row ∷ rows) t = by_test (row.txn == t) (undos_found rows t)
  where
    by_test : (b : Bool) → row_undos rows t ≡ undos_of (found_in rows t)
        → cond b row.undos (row_undos rows t) ≡ undos_of (cond b (Some (kept row)) (found_in rows t))
    by_test true later = refl
    by_test false later = later

drawn_in : (s : Sizes) (next : ℕ) (rows : List Row) (t : ℕ) → AllByRecursion (IsRowIn s next) rows → has (map (λ w. w.txn) rows) t ≡ true
    → t < next
drawn_in s next [] t all e = absurd cc
drawn_in s next (row ∷ rows) t all e = by_test (row.txn == t) refl (drawn_in s next rows t all.1)
  where
    by_test : (b : Bool) → (row.txn == t) ≡ b → (has (map (λ w. w.txn) rows) t ≡ true → t < next) → t < next
    by_test true same later = omega (arith, eqb-true row.txn t same, all.0.txn)
    by_test false other later = later (rw other at e)

increasing : (xs : List ℕ) → ascends xs ≡ true → IsStrictlyIncreasing xs
increasing [] up k lt = absurd (omega (arith, lt))
increasing (x ∷ []) up k lt = absurd (omega (arith, lt))
increasing (x ∷ y ∷ xs) up zero lt = ltb-true x y (and_parts (nat_lt x y) (ascends (y ∷ xs)) up).0
increasing (x ∷ y ∷ xs) up (suc k) lt =
    let next : suc k + 1 ≡ suc (k + 1) = omega arith in
    subst (λ i. slice_index (y ∷ xs) k < slice_index (x ∷ y ∷ xs) i) (sym next)
    (increasing (y ∷ xs) (and_parts (nat_lt x y) (ascends (y ∷ xs)) up).1 k (omega (arith, lt)))

-- the table of an image is that of its files, for whoever goes on behind it
pub are_started : (s : Sizes) (F : Files) → CanBeTable s F.next F.table → 0 < F.first → Starts F (table_of F.table)
are_started s F can some = record {
  positive = some;
  statuses = λ t. ap status_of (found F.table t can.ascending) ∙ status_found F.table t;
  ascend = increasing (map (λ w. w.txn) F.table) can.ascending;
  drawn = λ t e. drawn_in s F.next F.table t can.fit e;
  undos = λ t. undos_found F.table t ∙ sym (ap undos_of (found F.table t can.ascending));
}
