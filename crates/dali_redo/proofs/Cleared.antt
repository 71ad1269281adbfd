-- Who is committed has no undos, behind a change of one row too.
use Rattle.std.proofs.Common.{◌≡◌, ◌-◌, ℕ, Bool, true, false, cond, List, [], ◌∷◌, ◌++◌, Option, Some, None, length, take, refl, ap, sym, subst, ◌∙◌}
use Rattle.std.specs.Prelude.{◌==◌}
use Rattle.std.specs.Option.{option_map, option_map_or}
use Rattle.std.specs.Ordering.{nat_cmp}
use Rattle.std.specs.FinMap.{empty, get, insert, remove, get-empty}
use Rattle.std.proofs.lemmas.Bool.{eq-eqb}
use Rattle.dali_att.specs.declared.state.State.{State}
use Rattle.dali_att.specs.declared.state.State.TheVariants.{Live, Dead, Cleaning, Committed}
use Rattle.dali_att.specs.Table.{Row, Table, fresh_row, with_row, with_undo, with_state, without_last, without_undos}
use Rattle.dali_record.specs.declared.operations.Pending.{Pending}
use Rattle.dali_resume.specs.Tests.{is_running}
use Rattle.dali_runs.proofs.Tables.{Puts, added, changed, ended}
use Rattle.dali_redo.specs.Redoing.{status_by, status_at}
use Rattle.dali_redo.specs.Steps.{IsCleared}
use Rattle.dali_redo.proofs.Statuses.{status_of}

abbrev IsClearedRow : Option (Row Pending) → Type 0
IsClearedRow o = option_map (λ row. row.state) o ≡ Some Committed → option_map_or (λ row. row.undos) o [] ≡ []

put_cleared : (m n : Table Pending) (t : ℕ) (row : Option (Row Pending)) → Puts m t row n → IsClearedRow row → IsCleared m → IsCleared n
put_cleared m n t row puts here all u = subst (λ (o : Option (Row Pending)). IsClearedRow o) (sym (puts u)) (split (t == u))
  where
    split : (b : Bool) → IsClearedRow (cond b row (get m u))
    split true = here
    split false = all u

pub begun_cleared : (m : Table Pending) (t : ℕ) → IsCleared m → IsCleared (insert m t fresh_row)
begun_cleared m t all = put_cleared m (insert m t fresh_row) t (Some fresh_row) (added m t fresh_row) (λ e. refl) all

pub added_cleared : (m : Table Pending) (t : ℕ) (p : Pending) → is_running (status_at m t) ≡ true → IsCleared m → IsCleared (with_row m t (with_undo p))
added_cleared m t p works all = put_cleared m (with_row m t (with_undo p)) t (option_map (with_undo p) (get m t)) (changed m t (with_undo p)) (by_row (get m t) works) all
  where
    by_state : (s : State) (us : List Pending) → is_running (status_by (Some s) us) ≡ true → Some s ≡ Some Committed → us ++ p ∷ [] ≡ []
    by_state Live us h e = absurd (cc)
    by_state (Dead l) us h e = absurd (cc)
    by_state (Cleaning l) us h e = absurd (cc)
    by_state Committed us h e = absurd (cc)

    by_row : (o : Option (Row Pending)) → is_running (status_of o) ≡ true → IsClearedRow (option_map (with_undo p) o)
    by_row None h = λ e. refl
    by_row (Some row) h = by_state row.state row.undos h

pub dropped_cleared : (m : Table Pending) (t : ℕ) → IsCleared m → IsCleared (with_row m t without_last)
dropped_cleared m t all = put_cleared m (with_row m t without_last) t (option_map without_last (get m t)) (changed m t without_last) (by_row (get m t) (all t)) all
  where
    by_row : (o : Option (Row Pending)) → IsClearedRow o → IsClearedRow (option_map without_last o)
    by_row None h = λ e. refl
    by_row (Some row) h = λ e. ap (λ (us : List Pending). take (length us - 1) us) (h e)

pub committed_cleared : (m : Table Pending) (t : ℕ) → IsCleared m → IsCleared (with_row (with_row m t without_undos) t (with_state Committed))
committed_cleared m t all =
    put_cleared n (with_row n t (with_state Committed)) t (option_map (with_state Committed) (get n t)) (changed n t (with_state Committed))
    (subst (λ (o : Option (Row Pending)). IsClearedRow (option_map (with_state Committed) o)) (sym here) (by_row (get m t)))
    (put_cleared m n t (option_map without_undos (get m t)) (changed m t without_undos) (emptied (get m t)) all)
  where
    n : Table Pending
    n = with_row m t without_undos

    emptied : (o : Option (Row Pending)) → IsClearedRow (option_map without_undos o)
    emptied None = λ e. refl
    emptied (Some row) = λ e. refl

    by_row : (o : Option (Row Pending)) → IsClearedRow (option_map (with_state Committed) (option_map without_undos o))
    by_row None = λ e. refl
    by_row (Some row) = λ e. refl

    here : get n t ≡ option_map without_undos (get m t)
    here = changed m t without_undos t ∙ ap (λ b. cond b (option_map without_undos (get m t)) (get m t)) (eq-eqb t t refl)

pub ended_cleared : (m : Table Pending) (t : ℕ) → IsCleared m → IsCleared (remove m t)
ended_cleared m t all = put_cleared m (remove m t) t None (ended m t) (λ e. refl) all

pub empty_cleared : IsCleared empty
empty_cleared t e = ap (λ (o : Option (Row Pending)). option_map_or (λ row. row.undos) o []) (get-empty {X = Row Pending} nat_cmp t)
