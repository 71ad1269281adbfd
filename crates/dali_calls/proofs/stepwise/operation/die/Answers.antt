use Rattle.std.proofs.Common.{ap}
use Rattle.std.proofs.lemmas.Option.{slice_get-get_or}
use Rattle.dali_system.specs.Served.{Served}
use Rattle.dali_calls.specs.declared.single.error.StepError.TheVariants.{Latch}
use Rattle.dali_calls.proofs.SingleLemmas.Reaching.{region_there}
use Rattle.dali_calls.proofs.StepwiseLemmas.Stepping.{death, others_dead, refused_there}
use Rattle.dali_calls.proofs.stepwise.operation.die.Goals as goal

pub bounds-regions-number : goal.bounds-regions-number
bounds-regions-number g c = region_there c.args.regions.now c.args.system.now.state c.args.plan.now c.in-Region.number c.requires.rest c.wants.ensures.whole c.in-Region.ensures.wants

pub returns-in-Err-clause-cause : goal.returns-in-Err-clause-cause
returns-in-Err-clause-cause g c =
    let there = region_there c.args.regions.now c.args.system.now.state c.args.plan.now c.in-Region.number c.requires.rest c.wants.ensures.whole c.in-Region.ensures.wants in
    refused_there c.args.precheck c.args.regions.now c.args.system.now.state c.args.plan.now c.in-Region.number _ (Latch c.in-Err.cause) c.in-Region.ensures.wants (slice_get-get_or c.args.regions.now c.in-Region.number _ there) c.in-Err.ensures.cause

pub returns-in-Ok-clause-dies : goal.returns-in-Ok-clause-dies
returns-in-Ok-clause-dies g c =
    let there = region_there c.args.regions.now c.args.system.now.state c.args.plan.now c.in-Region.number c.requires.rest c.wants.ensures.whole c.in-Region.ensures.wants in
    death c.args.precheck c.args.regions.now c.args.system.now.state c.mark_dead.new.self.state c.args.plan.now c.in-Region.number c.in-Ok.txn _ c.die_on.new.region c.requires.rest c.in-Region.ensures.wants (slice_get-get_or c.args.regions.now c.in-Region.number _ there) c.in-Ok.ensures.dies (ap (λ (s : Served). s.state) c.mark_dead.ensures)

pub returns-in-Ok-clause-others : goal.returns-in-Ok-clause-others
returns-in-Ok-clause-others g c = others_dead c.args.system.now.state c.mark_dead.new.self.state c.args.plan.now c.in-Ok.txn c.in-Region.number c.in-Ok.ensures.dies.own (ap (λ (s : Served). s.state) c.mark_dead.ensures)
