use Rattle.std.proofs.Common.{is_some, is_ok, ap, refl, subst, ◌∙◌, OnOk}
use Rattle.dali_calls.specs.Plans.{Planned, plan_next}
use Rattle.dali_turns.specs.Goes.{StepGoes}
use Rattle.dali_turns.specs.declared.client.State.TheVariants.{TakingBack as IsTakingBack}
use Rattle.dali_turns.proofs.CallSteps.{goes_back, refused_still, goes_still, vault_still}
use Rattle.dali_turns.proofs.Placed.{places_beside, places_then}
use Rattle.dali_turns.proofs.Meeting.{further_met_back, met_back_by}
use Rattle.dali_runs.specs.State.{SystemState}
use Rattle.dali_turns.specs.Refuses.{IsMetBack}
use Rattle.dali_turns.proofs.steps.calls.go_back.Goals as goal

pub stuck-requires-clause-wants : goal.stuck-requires-clause-wants
stuck-requires-clause-wants g c = ap (λ (m : Planned). is_some (plan_next m)) c.in-Err.ensures.err.0 ∙ c.requires.wants

pub returns-in-Ok-clause-goes : goal.returns-in-Ok-clause-goes
returns-in-Ok-clause-goes g c =
    vault_still g.V.Store c.args.setting.now.precheck (IsTakingBack c.args.transaction c.args.plan c.args.why) c.args.client.now _ c.args.core.now.regions.items c.make_next.new.core.regions.items c.args.core.now.system.state c.make_next.new.core.system.state c.args.core.now.vault c.make_next.new.core.vault _ c.in-Ok.ensures.vault
    (goes_back g.V.Store c.args.setting.now.precheck c.args.core.now.regions.items c.args.core.now.system.state c.args.core.now.vault c.args.client.now _ c.args.transaction c.args.plan c.args.why
    c.make_next.new.core.regions.items c.make_next.new.core.system.state c.make_next.new.plan c.in-Ok.ensures.further refl refl refl)

pub stuck-requires-clause-cause : goal.stuck-requires-clause-cause
stuck-requires-clause-cause g c = (c.args.setting.now.precheck, refused_still c.args.core.now.regions.items c.make_next.new.core.regions.items c.args.core.now.system.state c.make_next.new.core.system.state c.in-Err.ensures.err.1 c.in-Err.ensures.err.2 c.args.plan c.make_next.new.plan c.in-Err.ensures.err.0 c.args.setting.now.precheck c.in-Err.error c.in-Err.ensures.cause)

pub returns-in-Err-clause-goes : goal.returns-in-Err-clause-goes
returns-in-Err-clause-goes g c =
    goes_still g.V.Store c.args.client.now c.args.core.now.regions.items c.make_next.new.core.regions.items c.args.core.now.system.state c.make_next.new.core.system.state c.args.core.now.vault c.make_next.new.core.vault c.in-Err.ensures.err.1 c.in-Err.ensures.err.2 c.in-Err.ensures.vault
    c.args.setting.now.precheck (IsTakingBack c.args.transaction c.args.plan c.args.why) _ _ _ _ _
    (subst (λ (m : Planned). StepGoes g.V.Store c.args.setting.now.precheck (IsTakingBack c.args.transaction m c.args.why) c.args.client.now c.make_next.new.core.regions.items c.make_next.new.core.system.state c.make_next.new.core.vault (is_ok c.stuck.result) c.stuck.new.client c.stuck.new.core.regions.items c.stuck.new.core.system.state c.stuck.new.core.vault) c.in-Err.ensures.err.0
    (c.stuck.ensures.goes c.args.setting.now.precheck (refused_still c.args.core.now.regions.items c.make_next.new.core.regions.items c.args.core.now.system.state c.make_next.new.core.system.state c.in-Err.ensures.err.1 c.in-Err.ensures.err.2 c.args.plan c.make_next.new.plan c.in-Err.ensures.err.0 c.args.setting.now.precheck c.in-Err.error c.in-Err.ensures.cause)))

pub returns-in-Ok-clause-places : goal.returns-in-Ok-clause-places
returns-in-Ok-clause-places g c = places_beside g.V.Store.told (IsTakingBack c.args.transaction c.args.plan c.args.why) _ c.args.core.now.regions.items c.make_next.new.core.regions.items c.args.core.now.vault c.make_next.new.core.vault c.in-Ok.ensures.flags c.in-Ok.ensures.vault tt

pub returns-in-Err-clause-places : goal.returns-in-Err-clause-places
returns-in-Err-clause-places g c = places_then g.V.Store.told (IsTakingBack c.args.transaction c.args.plan c.args.why) (IsTakingBack c.args.transaction c.make_next.new.plan c.args.why) c.stuck.new.client.state c.args.core.now.regions.items c.make_next.new.core.regions.items c.stuck.new.core.regions.items c.args.core.now.vault c.make_next.new.core.vault c.stuck.new.core.vault c.in-Err.ensures.err.1 c.in-Err.ensures.vault tt c.stuck.ensures.places

pub returns-in-Ok-clause-met : goal.returns-in-Ok-clause-met
returns-in-Ok-clause-met g c = λ e why.
    further_met_back c.args.setting.now.precheck c.args.plan c.args.core.now.system.state c.args.client.now _ c.args.transaction c.args.core.now.regions.items e why c.make_next.new.plan c.make_next.new.core.regions.items c.make_next.new.core.system.state c.in-Ok.ensures.further

pub returns-in-Err-clause-met : goal.returns-in-Err-clause-met
returns-in-Err-clause-met g c = λ e why.
    met_back_by c.args.setting.now.precheck c.args.plan c.args.core.now.system.state c.args.client.now c.stuck.new.client c.args.transaction c.args.core.now.regions.items e why c.in-Err.error c.stuck.result c.in-Err.ensures.cause
    (subst (λ (y : SystemState). OnOk c.stuck.result (IsMetBack c.in-Err.error y.stop c.args.client.now c.args.transaction c.stuck.new.client)) c.in-Err.ensures.err.2 c.stuck.ensures.met)
