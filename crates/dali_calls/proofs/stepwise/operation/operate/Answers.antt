use Rattle.std.proofs.lemmas.Option.{slice_get-get_or}
use Rattle.std.proofs.lemmas.Result.{IfErr-weaker}
use Rattle.dali_locks.proofs.Outcomes.{on_either}
use Rattle.dali_calls.specs.Single.Refusals.{IsRefusal}
use Rattle.dali_calls.proofs.SingleLemmas.Reaching.{region_there}
use Rattle.dali_calls.proofs.StepwiseLemmas.Stepping.{on_ok, one_further, refused_there, others_then, same_others}
use Rattle.dali_calls.proofs.stepwise.operation.operate.Goals as goal

pub bounds-regions-region : goal.bounds-regions-region
bounds-regions-region g c = region_there c.args.regions.now c.args.system.now.state c.args.plan.now c.in-Region.region c.requires.rest c.wants.ensures.whole c.in-Region.ensures.wants

pub returns-clause-further : goal.returns-clause-further
returns-clause-further g c =
    let there = region_there c.args.regions.now c.args.system.now.state c.args.plan.now c.in-Region.region c.requires.rest c.wants.ensures.whole c.in-Region.ensures.wants in
    on_ok c.make.result _ _ (one_further c.args.precheck c.args.regions.now c.args.system.now.state c.make.new.system.state c.args.plan.now c.make.new.plan c.in-Region.region _ c.make.new.region c.requires.rest c.wants.ensures.whole c.in-Region.ensures.wants (slice_get-get_or c.args.regions.now c.in-Region.region _ there)) c.make.ensures.made

pub returns-clause-cause : goal.returns-clause-cause
returns-clause-cause g c =
    let there = region_there c.args.regions.now c.args.system.now.state c.args.plan.now c.in-Region.region c.requires.rest c.wants.ensures.whole c.in-Region.ensures.wants in
    IfErr-weaker c.make.result _ (IsRefusal c.args.precheck c.args.plan.now c.args.regions.now c.args.system.now.state) (λ e why. refused_there c.args.precheck c.args.regions.now c.args.system.now.state c.args.plan.now c.in-Region.region _ e c.in-Region.ensures.wants (slice_get-get_or c.args.regions.now c.in-Region.region _ there) why) c.make.ensures.cause

pub returns-clause-others : goal.returns-clause-others
returns-clause-others g c =
    let there = region_there c.args.regions.now c.args.system.now.state c.args.plan.now c.in-Region.region c.requires.rest c.wants.ensures.whole c.in-Region.ensures.wants in
    on_either c.make.result c.make.ensures.made c.make.ensures.err
    (λ made. others_then c.args.precheck c.args.regions.now c.args.system.now.state c.make.new.system.state c.args.plan.now c.make.new.plan c.in-Region.region _ c.make.new.region c.requires.rest c.wants.ensures.whole c.in-Region.ensures.wants (slice_get-get_or c.args.regions.now c.in-Region.region _ there) made)
    (λ same. same_others c.args.system.now c.make.new.system c.args.plan.now same.2)
