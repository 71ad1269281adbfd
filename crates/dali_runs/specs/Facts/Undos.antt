-- What a run says of the undos of a row.
--     MayBePerformed y t u     the undo u of t can be spelled, is on a region of its kind, and t has its key alone
--     UndosMayBePerformed      so it is of each undo of each row
--     RemovalsMayBePerformed   and of what a committed transaction has still to free, which are undos of removals
use Rattle.std.specs.Prelude.{◌≡◌, ℕ, true, List, Some}
use Rattle.std.specs.List.{AllByRecursion}
use Rattle.dali_record.specs.declared.operations.Pending.{Pending}
use Rattle.dali_record.specs.declared.records.Record.{Record}
use Rattle.dali_record.specs.Operations.{undo_op}
use Rattle.dali_record.specs.Spelling.{IsUndo}
use Rattle.dali_record.specs.Legal.{Committed, is_removal, on_kind, txn_state}
use Rattle.dali_att.specs.Table.{undos_at}
use Rattle.dali_runs.specs.State.{SystemState, CoreState, lock_of}
use Rattle.dali_runs.specs.Run.{Bases, RunsOn, covers}

pub record MayBePerformed (y : SystemState) (t : ℕ) (u : Pending) : Type 0 where
  pub spelled : IsUndo u.undo
  pub kind : on_kind y.sizes u.region (undo_op u.undo) ≡ true
  pub lock : covers (lock_of y t u.key) true ≡ true

abbrev pub UndosMayBePerformed : Type 0
UndosMayBePerformed =
    (bases : Bases) (L : List Record) (c : CoreState) → RunsOn bases L c
    → (t : ℕ) → AllByRecursion (MayBePerformed c.system t) (undos_at c.system.table t)

abbrev pub RemovalsMayBePerformed : Type 0
RemovalsMayBePerformed =
    (bases : Bases) (L : List Record) (c : CoreState) → RunsOn bases L c
    → (t : ℕ) (us : List Pending) → txn_state c.system.sizes t L ≡ Some (Committed us) → AllByRecursion (λ u. (is_removal u.undo ≡ true) × MayBePerformed c.system t u) us
