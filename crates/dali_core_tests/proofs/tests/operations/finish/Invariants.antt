use Rattle.std.proofs.Common.{◌≡◌}
use Rattle.dali_system.specs.UnderWay.{IsUnderWay}
use Rattle.dali_core_tests.proofs.tests.operations.finish.Given as goal

abbrev pub invariant-loop-words : goal.invariant-loop-words
invariant-loop-words l = record {
  same : (l.operation.txn ≡ l.fn.operation.txn) × (l.operation.block ≡ l.fn.operation.block);
  under_way : IsUnderWay l.operation.txn l.operation.block l.operation.left l.operation.taken l.region;
}
