-- Undo lists behind a change of a row.
use Rattle.std.proofs.Common.{◌≡◌, ℕ, Bool, true, false, cond, List, [], ◌∷◌, ◌++◌, Option, Some, None, IsSome, refl, ap, sym, subst, ◌∙◌, rules}
use Rattle.std.specs.Prelude.{◌==◌}
use Rattle.std.specs.Option.{option_map, option_map_or}
use Rattle.std.proofs.lemmas.Bool.{both_ways, eq-eqb, eqb-true}
use Rattle.std.proofs.lemmas.List.{append-nil}
use Rattle.std.specs.FinMap.{get, insert, remove}
use Rattle.dali_att.specs.declared.state.State.{State}
use Rattle.dali_redo.specs.Taint.Tables.{AddsUndo, SameUndos}
use Rattle.dali_att.specs.Table.{Table, state_at, fresh_row, with_row, with_undo, without_last, undos_at}
use Rattle.dali_record.specs.declared.operations.Block.{Block}
use Rattle.dali_record.specs.declared.operations.Undo.{Undo}
use Rattle.dali_record.specs.declared.operations.Pending.{Pending}
use Rattle.dali_record.specs.Blocks.{pending}
use Rattle.dali_record.specs.Log.{drop_last, undo_added}
use Rattle.dali_runs.specs.State.{TxnRow}
use Rattle.dali_runs.proofs.Tables.{Puts, with_undos, added, changed, ended, dropped}

undos_in : Option TxnRow → List Pending
undos_in None = []
undos_in (Some row) = row.undos

at_is : (m : Table Pending) (u : ℕ) → undos_at m u ≡ undos_in (get m u)
unfolding undos_in
at_is m u = by_row (get m u)
  where
    by_row : (o : Option TxnRow) → option_map_or (λ row. row.undos) o [] ≡ undos_in o
    by_row None = refl
    by_row (Some row) = refl

put_undos : (m n : Table Pending) (t : ℕ) (row : Option TxnRow) → Puts m t row n → (u : ℕ) → undos_at n u ≡ cond (t == u) (undos_in row) (undos_at m u)
put_undos m n t row puts u = at_is n u ∙ (ap undos_in (puts u) ∙ (split (t == u) ∙ ap (λ us. cond (t == u) (undos_in row) us) (sym (at_is m u))))
  where
    split : (b : Bool) → undos_in (cond b row (get m u)) ≡ cond b (undos_in row) (undos_in (get m u))
    split true = refl
    split false = refl

-- at the row itself
here : (m : Table Pending) (t u : ℕ) (f : List Pending → List Pending) → cond (t == u) (f (undos_at m t)) (undos_at m u) ≡ cond (t == u) (f (undos_at m u)) (undos_at m u)
here m t u f = by_test (t == u) refl
  where
    by_test : (b : Bool) → (t == u) ≡ b → cond b (f (undos_at m t)) (undos_at m u) ≡ cond b (f (undos_at m u)) (undos_at m u)
    by_test true e = ap (λ x. f (undos_at m x)) (eqb-true t u e)
    by_test false e = refl

pub entered : (m : Table Pending) (t : ℕ) → get m t ≡ None → (u : ℕ) → undos_at (insert m t fresh_row) u ≡ undos_at m u
unfolding undos_in
entered m t none u = put_undos m (insert m t fresh_row) t (Some fresh_row) (added m t fresh_row) u ∙ by_test (t == u) refl
  where
    by_test : (b : Bool) → (t == u) ≡ b → cond b [] (undos_at m u) ≡ undos_at m u
    by_test true e = sym (at_is m u ∙ ap undos_in (ap (get m) (sym (eqb-true t u e)) ∙ none))
    by_test false e = refl

pub present : (m : Table Pending) (t : ℕ) → IsSome (get (insert m t fresh_row) t)
present m t = subst IsSome (sym (added m t fresh_row t)) (by_test (t == t) refl)
  where
    by_test : (b : Bool) → (t == t) ≡ b → IsSome (cond b (Some fresh_row) (get m t))
    by_test true e = search rules
    by_test false e = absurd (both_ways (t == t) e (eq-eqb t t refl))

pub forgotten : (m : Table Pending) (t u : ℕ) → undos_at (remove m t) u ≡ cond (t == u) [] (undos_at m u)
unfolding undos_in
forgotten m t u = put_undos m (remove m t) t None (ended m t) u

pub shortened : (m : Table Pending) (t u : ℕ) → undos_at (with_row m t without_last) u ≡ cond (t == u) (drop_last (undos_at m u)) (undos_at m u)
unfolding undos_in
shortened m t u = put_undos m (with_row m t without_last) t _ (dropped m t) u ∙ (ap (λ us. cond (t == u) us (undos_at m u)) (by_row (get m t) ∙ ap drop_last (sym (at_is m t))) ∙ here m t u drop_last)
  where
    by_row : (o : Option TxnRow) → undos_in (with_undos drop_last o) ≡ drop_last (undos_in o)
    by_row None = refl
    by_row (Some row) = refl

no_row : (o : Option TxnRow) → option_map (λ row. row.state) o ≡ None → o ≡ None
no_row None e = refl
no_row (Some row) e = absurd (cc)

some_row : (o : Option TxnRow) (z : State) → option_map (λ row. row.state) o ≡ Some z → IsSome o
some_row None z e = absurd (cc)
some_row (Some row) z e = search rules

pub entered_by : (m : Table Pending) (t : ℕ) → state_at m t ≡ None → (u : ℕ) → undos_at (insert m t fresh_row) u ≡ undos_at m u
entered_by m t e u = entered m t (no_row (get m t) e) u

pub is_there : (m : Table Pending) (t : ℕ) (z : State) → state_at m t ≡ Some z → IsSome (get m t)
is_there m t z e = some_row (get m t) z e

pub added_undo : (m : Table Pending) (t : ℕ) (p : Pending) → IsSome (get m t) → (u : ℕ) → undos_at (with_row m t (with_undo p)) u ≡ cond (t == u) (undos_at m u ++ p ∷ []) (undos_at m u)
unfolding undos_in
added_undo m t p some u = put_undos m (with_row m t (with_undo p)) t _ (changed m t (with_undo p)) u ∙ (ap (λ us. cond (t == u) us (undos_at m u)) (by_row (get m t) some ∙ ap (λ us. us ++ p ∷ []) (sym (at_is m t))) ∙ here m t u (λ us. us ++ p ∷ []))
  where
    by_row : (o : Option TxnRow) → IsSome o → undos_in (option_map (with_undo p) o) ≡ undos_in o ++ p ∷ []
    by_row None h = absurd (search (rules, h))
    by_row (Some row) h = refl

-- behind a table that has the same lists
pub longer : (m n : Table Pending) (t : ℕ) (b : Block) (undo : Undo) (p : Pending) → SameUndos m n → IsSome (get n t) → b.undo ≡ Some undo → p ≡ pending b undo → AddsUndo m (with_row n t (with_undo p)) t b
longer m n t b undo p same some is made u =
    added_undo n t p some u
    ∙ ap (λ us. cond (t == u) (us ++ p ∷ []) us) (same u)
    ∙ ap (λ x. cond (t == u) (undos_at m u ++ x ∷ []) (undos_at m u)) made
    ∙ ap (λ o. cond (t == u) (undos_at m u ++ undo_added b o) (undos_at m u)) (sym is)

pub no_longer : (m : Table Pending) (t : ℕ) (b : Block) → b.undo ≡ None → AddsUndo m m t b
no_longer m t b is u = by_test (t == u) ∙ ap (λ o. cond (t == u) (undos_at m u ++ undo_added b o) (undos_at m u)) (sym is)
  where
    by_test : (c : Bool) → undos_at m u ≡ cond c (undos_at m u ++ []) (undos_at m u)
    by_test true = sym (append-nil (undos_at m u))
    by_test false = refl
