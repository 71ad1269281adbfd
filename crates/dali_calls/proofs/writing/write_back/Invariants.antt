use Rattle.std.proofs.Common.{◌≡◌, IsSomeAnd, IfSome}
use Rattle.dali_system.specs.UnderWay.{OneIsUnderWay, words_left}
use Rattle.dali_calls.specs.Operating.{AreWritten}
use Rattle.dali_calls.proofs.writing.write_back.Given as goal

abbrev pub invariant-loop : goal.invariant-loop
invariant-loop l = record {
  under_way : OneIsUnderWay l.back.operation l.region;
  same : IfSome l.initial.back.operation (λ o. IsSomeAnd l.back.operation (λ p. (p.txn ≡ o.txn) × (p.block ≡ o.block)));
  rest : l.back ≡ record l.initial.back { operation = l.back.operation };
  written : AreWritten l.initial.region l.region;
}

abbrev pub decreases-loop : goal.decreases-loop
decreases-loop l = words_left l.back.operation
