use Rattle.dali_turns.proofs.Moments.{makes_from}
use Rattle.dali_turns.proofs.steps.step.Goals as goal

pub returns-in-None-clause-step : goal.returns-in-None-clause-step
returns-in-None-clause-step g c =
    let past = c.next_region.ensures.past c.in-None.is in
    makes_from g.V.Store c.args.setting.now.precheck c.next_region.new.client c.args.client.now c.next_region.new.core c.args.core.now (λ k. k.regions.items) (λ k. k.system.state) (λ k. k.vault) c.step_on.result c.step_on.new.client c.step_on.new.core.regions.items c.step_on.new.core.system.state c.step_on.new.core.vault past.0 past.1 c.step_on.ensures.step

pub returns-in-Some-clause-step : goal.returns-in-Some-clause-step
returns-in-Some-clause-step g c = c.in-Some.ensures.step c.args.setting.now.precheck
