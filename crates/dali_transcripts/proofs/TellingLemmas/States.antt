-- The state of each transaction behind a change of the table.
use Rattle.std.proofs.Common.{◌≡◌, ℕ, Bool, true, false, Option, Some, None, refl, ap, sym, ◌∙◌}
use Rattle.std.specs.Prelude.{if◌then◌else◌, ◌==◌}
use Rattle.std.specs.Option.{option_map}
use Rattle.std.specs.FinMap.{get, insert, remove}
use Rattle.dali_record.specs.declared.operations.Block.{Block}
use Rattle.dali_record.specs.declared.operations.Pending.{Pending}
use Rattle.dali_record.specs.declared.operations.Undo.{Undo}
use Rattle.dali_att.specs.declared.state.State.{State}
use Rattle.dali_att.specs.declared.state.State.TheVariants.{Live, Dead, Cleaning}
use Rattle.dali_att.specs.Table.{Table, fresh_row, with_row, with_state}
use Rattle.dali_att.proofs.Changes.{get-added, get-ended, get-with_row}
use Rattle.dali_runs.proofs.CountsLemmas.Lists.{equal}
use Rattle.dali_runs.specs.State.{TxnRow, state_in}
use Rattle.dali_runs.specs.Steps.{undo_kept}
use Rattle.dali_record.specs.Blocks.{pending}
use Rattle.dali_transcripts.specs.World.{claimed, given_back}
use Rattle.dali_att.specs.Table.{with_undo}

abbrev pub at : Table Pending → ℕ → Option State
at m t = state_in (get m t)

if_state : (b : Bool) (x y : Option TxnRow) → state_in (if b then x else y) ≡ (if b then state_in x else state_in y)
if_state true x y = refl
if_state false x y = refl

-- a transaction begins
pub begun_state : (m : Table Pending) (n t : ℕ) → at (insert m n fresh_row) t ≡ (if n == t then Some Live else at m t)
begun_state m n t = ap state_in (get-added m n fresh_row t) ∙ if_state (n == t) (Some fresh_row) (get m t)

-- it ends
pub ended_state : (m : Table Pending) (n t : ℕ) → at (remove m n) t ≡ (if n == t then None else at m t)
ended_state m n t = ap state_in (get-ended m n t) ∙ if_state (n == t) None (get m t)

-- a row is changed
changed : (m : Table Pending) (n : ℕ) (f : TxnRow → TxnRow) (t : ℕ) → at (with_row m n f) t ≡ (if n == t then state_in (option_map f (get m n)) else at m t)
changed m n f t = ap state_in (get-with_row m n f t) ∙ if_state (n == t) (option_map f (get m n)) (get m t)

-- and its state isn't
pub kept_state : (m : Table Pending) (n : ℕ) (f : TxnRow → TxnRow) → ((row : TxnRow) → (f row).state ≡ row.state) → (t : ℕ) → at (with_row m n f) t ≡ at m t
kept_state m n f same t = changed m n f t ∙ by_test (n == t) refl
  where
    by_row : (o : Option TxnRow) → state_in (option_map f o) ≡ state_in o
    by_row None = refl
    by_row (Some row) = ap Some (same row)

    by_test : (b : Bool) → (n == t) ≡ b → (if b then state_in (option_map f (get m n)) else at m t) ≡ at m t
    by_test true e = by_row (get m n) ∙ ap (at m) (equal n t e)
    by_test false e = refl

-- or it is, where there is one
pub new_state : (m : Table Pending) (n : ℕ) (f : TxnRow → TxnRow) (s : State) → ((row : TxnRow) → (f row).state ≡ s) → (was : State) → at m n ≡ Some was
    → (t : ℕ) → at (with_row m n f) t ≡ (if n == t then Some s else at m t)
new_state m n f s is was there t = changed m n f t ∙ ap (λ o. if n == t then o else at m t) (by_row (get m n) there)
  where
    by_row : (o : Option TxnRow) → state_in o ≡ Some was → state_in (option_map f o) ≡ Some s
    by_row None e = absurd (cc)
    by_row (Some row) e = ap Some (is row)

pub undone_state : (m : Table Pending) (n : ℕ) (b : Block) (o : Option Undo) (t : ℕ) → at (undo_kept m n b o) t ≡ at m t
undone_state m n b None t = refl
undone_state m n b (Some u) t = kept_state m n (with_undo (pending b u)) (λ row. refl) t

-- a dead transaction is claimed, and the claim is given back
pub claim_state : (m : Table Pending) (n : ℕ) (o : Option ℕ) → at m n ≡ Some (Dead o) → (t : ℕ) → at (with_row m n (with_state (Cleaning o))) t ≡ (if n == t then claimed (at m t) else at m t)
claim_state m n o was t = new_state m n (with_state (Cleaning o)) (Cleaning o) (λ row. refl) (Dead o) was t ∙ by_test (n == t) refl
  where
    by_test : (b : Bool) → (n == t) ≡ b → (if b then Some (Cleaning o) else at m t) ≡ (if b then claimed (at m t) else at m t)
    by_test true e = sym (ap claimed (ap (at m) (sym (equal n t e)) ∙ was))
    by_test false e = refl

pub release_state : (m : Table Pending) (n : ℕ) (o was : Option ℕ) → at m n ≡ Some (Cleaning was) → (t : ℕ) → at (with_row m n (with_state (Dead o))) t ≡ (if n == t then given_back o (at m t) else at m t)
release_state m n o was there t = new_state m n (with_state (Dead o)) (Dead o) (λ row. refl) (Cleaning was) there t ∙ by_test (n == t) refl
  where
    by_test : (b : Bool) → (n == t) ≡ b → (if b then Some (Dead o) else at m t) ≡ (if b then given_back o (at m t) else at m t)
    by_test true e = sym (ap (given_back o) (ap (at m) (sym (equal n t e)) ∙ there))
    by_test false e = refl
