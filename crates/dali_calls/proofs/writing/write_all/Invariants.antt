use Rattle.std.proofs.Common.{◌≡◌, IsSomeAnd, IfSome}
use Rattle.dali_system.specs.UnderWay.{OneIsUnderWay, words_left}
use Rattle.dali_calls.specs.Plans.{with_operation}
use Rattle.dali_calls.specs.Operating.{AreWritten}
use Rattle.dali_calls.proofs.writing.write_all.Given as goal

abbrev pub invariant-loop : goal.invariant-loop
invariant-loop l = record {
  under_way : OneIsUnderWay l.plan.operation l.region;
  same : IfSome l.initial.plan.operation (λ o. IsSomeAnd l.plan.operation (λ p. (p.txn ≡ o.txn) × (p.block ≡ o.block)));
  rest : l.plan ≡ with_operation l.initial.plan l.plan.operation;
  written : AreWritten l.initial.region l.region;
}

abbrev pub decreases-loop : goal.decreases-loop
decreases-loop l = words_left l.plan.operation
