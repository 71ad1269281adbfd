use Rattle.std.proofs.Common.{◌≡◌, ◌-◌, length}
use Rattle.dali_system.specs.UnderWay.{IsUnderWay}
use Rattle.dali_calls.specs.Operating.{AreWritten}
use Rattle.dali_calls.proofs.single.settling.write_freed.Given as goal

abbrev pub invariant-loop : goal.invariant-loop
invariant-loop l = record {
  under_way : IsUnderWay l.operation.txn l.operation.block l.operation.left l.operation.taken l.region;
  same : (l.operation.txn ≡ l.initial.operation.txn) × (l.operation.block ≡ l.initial.operation.block);
  written : AreWritten l.initial.region l.region;
}

abbrev pub decreases-loop : goal.decreases-loop
decreases-loop l = length l.operation.block.after - l.operation.taken
