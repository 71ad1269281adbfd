-- The states that the steps leave in the table.
use Rattle.std.proofs.Common.{◌≡◌, ℕ, Bool, true, false, cond, List, ◌++◌, Option, Some, None, refl, ap, ◌∙◌}
use Rattle.std.specs.Prelude.{◌==◌}
use Rattle.std.specs.Option.{option_map}
use Rattle.std.specs.FinMap.{get}
use Rattle.std.proofs.lemmas.Bool.{eqb-true}
use Rattle.dali_lists.proofs.Numbers.{eqb-self}
use Rattle.dali_record.specs.declared.operations.Block.{Block}
use Rattle.dali_record.specs.declared.operations.Pending.{Pending}
use Rattle.dali_record.specs.Log.{undo_added, drop_last}
use Rattle.dali_att.specs.declared.state.State.{State}
use Rattle.dali_att.specs.declared.state.State.TheVariants.{Live, Committed}
use Rattle.dali_att.specs.Table.{Table, fresh_row, with_state}
use Rattle.dali_runs.specs.State.{TxnRow, SystemState, row_of, state_in, state_of}
use Rattle.dali_runs.specs.Steps.{committed_row, begun, op_logged, back_logged, commit_logged, in_state}
use Rattle.dali_runs.proofs.Tables.{Puts, with_undos, changed, added, kept, dropped}
use Rattle.dali_runs.proofs.Wholes.{OneState}

pub state_cond : (b : Bool) (x y : Option TxnRow) → state_in (cond b x y) ≡ cond b (state_in x) (state_in y)
state_cond true x y = refl
state_cond false x y = refl

pub puts_states : (old new : Table Pending) (t : ℕ) (row : Option TxnRow) → Puts old t row new → OneState (λ u. state_in (get old u)) t (state_in row) (λ u. state_in (get new u))
puts_states old new t row puts u = ap state_in (puts u) ∙ state_cond (t == u) row (get old u)

-- where the state of the row stays, all states do
pub puts_same : (old new : Table Pending) (t : ℕ) (row : Option TxnRow) → Puts old t row new → state_in row ≡ state_in (get old t) → (u : ℕ) → state_in (get new u) ≡ state_in (get old u)
puts_same old new t row puts same u = puts_states old new t row puts u ∙ by_test (t == u) refl
  where
    by_test : (b : Bool) → (t == u) ≡ b → cond b (state_in row) (state_in (get old u)) ≡ state_in (get old u)
    by_test true e = same ∙ ap (λ v. state_in (get old v)) (eqb-true t u e)
    by_test false e = refl

pub undos_state : (f : List Pending → List Pending) (o : Option TxnRow) → state_in (with_undos f o) ≡ state_in o
undos_state f None = refl
undos_state f (Some row) = refl

-- ---- the states of a row
pub state_there : (o : Option TxnRow) (st new : State) → state_in o ≡ Some st → state_in (option_map (with_state new) o) ≡ Some new
state_there None st new e = absurd (cc)
state_there (Some row) st new e = refl

pub commit_there : (o : Option TxnRow) (st : State) → state_in o ≡ Some st → state_in (option_map committed_row o) ≡ Some Committed
commit_there None st e = absurd (cc)
commit_there (Some row) st e = refl

-- ---- after each kind of step
pub begun_state : (y : SystemState) (u : ℕ) → state_of (begun y) u ≡ cond (y.next == u) (Some Live) (state_of y u)
begun_state y u = puts_states y.table _ y.next (Some fresh_row) (added y.table y.next fresh_row) u

pub op_state : (y : SystemState) (t : ℕ) (b : Block) (u : ℕ) → state_of (op_logged y t b) u ≡ state_of y u
op_state y t b = puts_same y.table _ t _ (kept y.table t b b.undo) (undos_state (λ us. us ++ undo_added b b.undo) (row_of y t))

pub back_state : (y : SystemState) (t : ℕ) (b : Block) (u : ℕ) → state_of (back_logged y t b) u ≡ state_of y u
back_state y t b = puts_same y.table _ t _ (dropped y.table t) (undos_state drop_last (row_of y t))

-- the row whose state changes
pub turned_state : (y : SystemState) (t : ℕ) (st new : State) → state_of y t ≡ Some st → state_of (in_state y t new) t ≡ Some new
turned_state y t st new e = puts_states y.table _ t _ (changed y.table t (with_state new)) t ∙ (rw (eqb-self t) (state_there (row_of y t) st new e))

pub commit_state : (y : SystemState) (t : ℕ) (st : State) → state_of y t ≡ Some st → state_of (commit_logged y t) t ≡ Some Committed
commit_state y t st e = puts_states y.table _ t _ (changed y.table t committed_row) t ∙ (rw (eqb-self t) (commit_there (row_of y t) st e))
