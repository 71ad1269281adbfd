use Rattle.std.proofs.Common.{◌≡◌}
use Rattle.dali_calls.specs.Single.Advanced.{Advanced}
use Rattle.dali_calls.proofs.SingleLemmas.Measure.{plan_left}
use Rattle.dali_calls.proofs.single.call.advance.Given as goal

abbrev pub invariant-loop-region : goal.invariant-loop-region
invariant-loop-region l = record {
  goes : Advanced l.precheck l.initial.regions l.initial.system.state l.initial.plan l.regions l.system.state l.plan;
  promised : l.system.promised ≡ l.initial.system.promised;
}

abbrev pub decreases-loop-region : goal.decreases-loop-region
decreases-loop-region l = plan_left l.plan
