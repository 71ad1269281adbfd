-- The rows of the table after each change of it.
use Rattle.std.proofs.Common.{◌≡◌, ℕ, ◌<◌, ◌+◌, Bool, true, false, cond, List, [], ◌∷◌, ◌++◌, length, take, Option, Some, None, refl, sym, ap, subst, ◌∙◌, arith}
use Rattle.std.specs.Prelude.{◌==◌, ◌-◌, zero, suc}
use Rattle.std.specs.Option.{option_map}
use Rattle.std.specs.List.{AllByRecursion}
use Rattle.std.specs.FinMap.{get, insert, remove, empty, get-empty}
use Rattle.std.specs.Ordering.{nat_cmp}
use Rattle.std.proofs.lemmas.Bool.{eqb-true}
use Rattle.std.proofs.lemmas.Option.{same_Some}
use Rattle.dali_record.specs.declared.operations.Block.{Block}
use Rattle.dali_record.specs.declared.operations.Pending.{Pending}
use Rattle.dali_record.specs.declared.operations.Undo.{Undo}
use Rattle.dali_record.specs.Spelling.{IsUndo, MayBeUndo}
use Rattle.dali_att.specs.Table.{Table, Row, fresh_row, with_row, with_undo, with_state, without_last, without_undos}
use Rattle.dali_att.specs.declared.state.State.{State}
use Rattle.dali_att.proofs.Changes.{get-added, get-ended, get-with_row}
use Rattle.dali_runs.specs.Steps.{undo_kept}
use Rattle.dali_system.specs.Rows.{IsRow, AreRows}

abbrev Undoes : List Pending → Type 0
Undoes us = AllByRecursion (λ (u : Pending). IsUndo u.undo) us

-- the number of the next transaction has no row
pub none_next : (n : ℕ) (m : Table Pending) → AreRows n m → get m n ≡ None
none_next n m rows = go (get m n) refl
  where
    go : (o : Option (Row Pending)) → get m n ≡ o → get m n ≡ None
    go None e = e
    go (Some row) e = let below : n < n = (rows n row e).begun in absurd (omega (arith, below))

pub rows_none : (n : ℕ) (m : Table Pending) → m ≡ empty → AreRows n m
rows_none n m e t row is = let no : None ≡ Some row = sym (get-empty nat_cmp t) ∙ ap (λ (k : Table Pending). get k t) (sym e) ∙ is in absurd cc

-- a row is changed, and its undos stay spelled
pub row_changed : (n : ℕ) (m : Table Pending) (t : ℕ) (f : Row Pending → Row Pending) → ((row : Row Pending) → Undoes row.undos → Undoes (f row).undos) → AreRows n m → AreRows n (with_row m t f)
row_changed n m t f keeps rows q row is = at (t == q) refl
  where
    changed : (o : Option (Row Pending)) → get m t ≡ o → t ≡ q → option_map f o ≡ Some row → IsRow n q row
    changed None e same there = absurd cc
    changed (Some old) e same there =
        let was : IsRow n t old = rows t old e in
        subst (λ (r : Row Pending). IsRow n q r) (same_Some (f old) row there) (record { begun = omega (arith, was.begun, same); undoes = keeps old was.undoes })

    at : (c : Bool) → (t == q) ≡ c → IsRow n q row
    at true e =
        changed (get m t) refl (eqb-true t q e)
        (sym (get-with_row m t f q ∙ ap (λ (b : Bool). cond b (option_map f (get m t)) (get m q)) e) ∙ is)
    at false e = rows q row (sym (get-with_row m t f q ∙ ap (λ (b : Bool). cond b (option_map f (get m t)) (get m q)) e) ∙ is)

-- one more, with the next number
pub row_added : (n : ℕ) (m : Table Pending) → AreRows n m → AreRows (n + 1) (insert m n fresh_row)
row_added n m rows q row is = at (n == q) refl
  where
    at : (c : Bool) → (n == q) ≡ c → IsRow (n + 1) q row
    at true e =
        subst (λ (r : Row Pending). IsRow (n + 1) q r) (same_Some fresh_row row (sym (get-added m n fresh_row q ∙ ap (λ (b : Bool). cond b (Some fresh_row) (get m q)) e) ∙ is))
        (record { begun = omega (arith, eqb-true n q e); undoes = tt })
    at false e =
        let was : IsRow n q row = rows q row (sym (get-added m n fresh_row q ∙ ap (λ (b : Bool). cond b (Some fresh_row) (get m q)) e) ∙ is) in
        record { begun = omega (arith, was.begun); undoes = was.undoes }

-- one fewer
pub row_ended : (n : ℕ) (m : Table Pending) (t : ℕ) → AreRows n m → AreRows n (remove m t)
row_ended n m t rows q row is = at (t == q) refl
  where
    at : (c : Bool) → (t == q) ≡ c → IsRow n q row
    at true e = let no : None ≡ Some row = sym (get-ended m t q ∙ ap (λ (b : Bool). cond b None (get m q)) e) ∙ is in absurd cc
    at false e = rows q row (sym (get-ended m t q ∙ ap (λ (b : Bool). cond b None (get m q)) e) ∙ is)

-- more transactions have begun
pub rows_of_more : (n : ℕ) (m : Table Pending) → AreRows n m → AreRows (n + 1) m
rows_of_more n m rows t row e = let was : IsRow n t row = rows t row e in record { begun = omega (arith, was.begun); undoes = was.undoes }

-- ---- each change
undoes_push : (us : List Pending) (u : Pending) → IsUndo u.undo → Undoes us → Undoes (us ++ u ∷ [])
undoes_push [] u is all = (is, tt)
undoes_push (x ∷ us) u is all = (all.0, undoes_push us u is all.1)

undoes_take : (n : ℕ) (us : List Pending) → Undoes us → Undoes (take n us)
undoes_take zero us all = tt
undoes_take (suc n) [] all = tt
undoes_take (suc n) (x ∷ us) all = (all.0, undoes_take n us all.1)

pub rows_kept : (n : ℕ) (m : Table Pending) (t : ℕ) (b : Block) (o : Option Undo) → MayBeUndo o → AreRows n m → AreRows n (undo_kept m t b o)
rows_kept n m t b None may rows = rows
rows_kept n m t b (Some u) may rows = row_changed n m t (with_undo (record { key = b.key; region = b.region; undo = u })) (λ row all. undoes_push row.undos (record { key = b.key; region = b.region; undo = u }) may all) rows

pub rows_popped : (n : ℕ) (m : Table Pending) (t : ℕ) → AreRows n m → AreRows n (with_row m t without_last)
rows_popped n m t rows = row_changed n m t without_last (λ row all. undoes_take (length row.undos - 1) row.undos all) rows

pub rows_cleared : (n : ℕ) (m : Table Pending) (t : ℕ) → AreRows n m → AreRows n (with_row m t without_undos)
rows_cleared n m t rows = row_changed n m t without_undos (λ row all. tt) rows

pub rows_in_state : (n : ℕ) (m : Table Pending) (t : ℕ) (st : State) → AreRows n m → AreRows n (with_row m t (with_state st))
rows_in_state n m t st rows = row_changed n m t (with_state st) (λ row all. all) rows
