use Rattle.std.proofs.Common.{ap, ◌∙◌}
use Rattle.std.proofs.lemmas.Option.{slice_get-get_or}
use Rattle.dali_system.specs.Served.{Served}
use Rattle.dali_calls.proofs.SingleLemmas.Reaching.{region_there, one_further, none_further}
use Rattle.dali_calls.proofs.SingleLemmas.Refusing.{halts}
use Rattle.dali_calls.proofs.SingleLemmas.Measure.{fewer_left}
use Rattle.dali_calls.proofs.single.call.advance.Goals as goal

pub bounds-regions-region : goal.bounds-regions-region
bounds-regions-region c = region_there c.loop-region.regions c.loop-region.system.state c.loop-region.plan c.in-Region.region c.loop-region.invariant.goes.rest c.wants.ensures.whole c.in-Region.ensures.wants

pub loop-region-smaller : goal.loop-region-smaller
loop-region-smaller c = fewer_left c.args.precheck c.loop-region.plan c.operate.new.plan _ c.operate.new.region c.loop-region.system.state c.operate.new.system.state c.wants.ensures.whole c.in-Ok.ensures.ok

pub loop-region-preserved : goal.loop-region-preserved
loop-region-preserved c =
    let there = region_there c.loop-region.regions c.loop-region.system.state c.loop-region.plan c.in-Region.region c.loop-region.invariant.goes.rest c.wants.ensures.whole c.in-Region.ensures.wants in
    record {
      goes = one_further c.args.precheck c.args.regions.now c.loop-region.regions c.args.system.now.state c.loop-region.system.state c.operate.new.system.state c.args.plan.now c.loop-region.plan c.operate.new.plan c.in-Region.region _ c.operate.new.region c.loop-region.invariant.goes c.wants.ensures.whole c.in-Region.ensures.wants (slice_get-get_or c.loop-region.regions c.in-Region.region _ there) c.in-Ok.ensures.ok;
      promised = c.operate.ensures.promised ∙ c.loop-region.invariant.promised;
    }

pub returns-in-Err-clause-goes : goal.returns-in-Err-clause-goes
returns-in-Err-clause-goes c =
    let there = region_there c.loop-region.regions c.loop-region.system.state c.loop-region.plan c.in-Region.region c.loop-region.invariant.goes.rest c.wants.ensures.whole c.in-Region.ensures.wants in
    none_further c.args.precheck c.args.regions.now c.loop-region.regions c.args.system.now.state c.loop-region.system.state c.operate.new.system.state c.args.plan.now c.loop-region.plan c.operate.new.plan c.in-Region.region _ c.operate.new.region c.loop-region.invariant.goes (slice_get-get_or c.loop-region.regions c.in-Region.region _ there) c.in-Err.ensures.err.0 (ap (λ (s : Served). s.state) c.in-Err.ensures.err.1) c.in-Err.ensures.err.2

pub returns-in-Err-clause-cause : goal.returns-in-Err-clause-cause
returns-in-Err-clause-cause c =
    let there = region_there c.loop-region.regions c.loop-region.system.state c.loop-region.plan c.in-Region.region c.loop-region.invariant.goes.rest c.wants.ensures.whole c.in-Region.ensures.wants in
    halts c.args.precheck c.args.regions.now c.loop-region.regions c.args.system.now.state c.loop-region.system.state c.operate.new.system.state c.args.plan.now c.loop-region.plan c.operate.new.plan c.in-Region.region _ c.operate.new.region c.in-Err.cause c.loop-region.invariant.goes c.wants.ensures.whole c.in-Region.ensures.wants (slice_get-get_or c.loop-region.regions c.in-Region.region _ there) c.in-Err.ensures.err.0 (ap (λ (s : Served). s.state) c.in-Err.ensures.err.1) c.in-Err.ensures.err.2 c.in-Err.ensures.cause
