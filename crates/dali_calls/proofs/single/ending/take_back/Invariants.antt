use Rattle.std.proofs.Common.{◌≡◌, IfSome, None, length}
use Rattle.dali_record.specs.Spelling.{IsUndo}
use Rattle.dali_att.specs.Table.{undos_at}
use Rattle.dali_calls.specs.Flags.{FlagsStay}
use Rattle.dali_calls.proofs.Undoing.{TakesAllBack}
use Rattle.dali_calls.specs.Single.Ending.{UndoesFrom}
use Rattle.dali_calls.proofs.single.ending.take_back.Given as goal

abbrev pub invariant-loop-region : goal.invariant-loop-region
invariant-loop-region l = record {
  goes : UndoesFrom l.initial.regions l.initial.system.state l.txn l.regions l.system.state;
  promised : l.system.promised ≡ l.initial.system.promised;
  flags : FlagsStay l.initial.regions l.regions;
  stands : TakesAllBack l.back l.txn (undos_at l.system.state.table l.txn);
  undoes : IfSome l.back.next (λ u. IsUndo u.undo);
  closed : l.back.operation ≡ None;
}

abbrev pub decreases-loop-region : goal.decreases-loop-region
decreases-loop-region l = length (undos_at l.system.state.table l.txn)
