use Rattle.std.proofs.Common.{is_ok, refl, subst, OnOk}
use Rattle.dali_calls.specs.Plans.{Planned}
use Rattle.dali_calls.specs.declared.single.error.StepError.TheVariants.{Latch}
use Rattle.dali_turns.specs.Goes.{StepGoes}
use Rattle.dali_turns.specs.declared.client.State.TheVariants.{Calling as IsCalling}
use Rattle.dali_turns.proofs.Commands.{err_false}
use Rattle.dali_turns.proofs.CallSteps.{dies_goes, dies_silently, some_next, makes_still, refused_still, goes_still, vault_still}
use Rattle.dali_turns.proofs.Placed.{places_beside, places_then}
use Rattle.dali_runs.specs.State.{SystemState}
use Rattle.dali_turns.specs.Refuses.{IsMet}
use Rattle.dali_turns.proofs.Meeting.{death_met, met_by, on_no_ok}
use Rattle.dali_turns.proofs.steps.calls.die.Goals as goal

pub die_next-requires-clause-wants : goal.die_next-requires-clause-wants
die_next-requires-clause-wants g c = some_next g.V.Store c.args.core.now.regions.items c.args.core.now.system.state c.args.core.now.vault c.args.client.now c.args.transaction c.args.plan c.args.region c.requires.makes.wants

pub returns-in_ok-say-in-Ok-clause-goes : goal.returns-in_ok-say-in-Ok-clause-goes
returns-in_ok-say-in-Ok-clause-goes g c =
    vault_still g.V.Store c.args.setting.now.precheck (IsCalling c.args.transaction c.args.plan) c.args.client.now _ c.args.core.now.regions.items c.die_next.new.core.regions.items c.args.core.now.system.state c.die_next.new.core.system.state c.args.core.now.vault c.die_next.new.core.vault _ c.in-Ok.ensures.vault
    (dies_goes g.V.Store c.args.setting.now.precheck c.args.core.now.regions.items c.args.core.now.system.state c.args.core.now.vault c.args.client.now _ c.args.transaction c.args.plan
    c.die_next.new.core.regions.items c.die_next.new.core.system.state c.requires.makes.whole c.requires.way c.requires.deadly c.in-Ok.ensures.dies c.in_ok-say-in-Ok.ensures.ok refl)

pub returns-in_err-say-in-Ok-clause-goes : goal.returns-in_err-say-in-Ok-clause-goes
returns-in_err-say-in-Ok-clause-goes g c =
    vault_still g.V.Store c.args.setting.now.precheck (IsCalling c.args.transaction c.args.plan) c.args.client.now _ c.args.core.now.regions.items c.die_next.new.core.regions.items c.args.core.now.system.state c.die_next.new.core.system.state c.args.core.now.vault c.die_next.new.core.vault _ c.in-Ok.ensures.vault
    (dies_silently g.V.Store c.args.setting.now.precheck c.args.core.now.regions.items c.args.core.now.system.state c.args.core.now.vault c.args.client.now _ c.args.transaction c.args.plan
    c.die_next.new.core.regions.items c.die_next.new.core.system.state _ (err_false c.from_residual.result c.from_residual.ensures.0) c.requires.makes.whole c.requires.way c.requires.deadly c.in-Ok.ensures.dies c.in_err-say-in-Ok.ensures.err)

pub hindered-requires-clause-makes : goal.hindered-requires-clause-makes
hindered-requires-clause-makes g c = makes_still c.args.core.now.regions.items c.die_next.new.core.regions.items c.args.core.now.system.state c.die_next.new.core.system.state c.in-Err.ensures.err.1 c.in-Err.ensures.err.2 c.args.plan c.die_next.new.plan c.in-Err.ensures.err.0 _ c.args.region c.requires.makes

pub hindered-requires-clause-cause : goal.hindered-requires-clause-cause
hindered-requires-clause-cause g c = (c.args.setting.now.precheck, refused_still c.args.core.now.regions.items c.die_next.new.core.regions.items c.args.core.now.system.state c.die_next.new.core.system.state c.in-Err.ensures.err.1 c.in-Err.ensures.err.2 c.args.plan c.die_next.new.plan c.in-Err.ensures.err.0 c.args.setting.now.precheck (Latch c.in-Err.cause) c.in-Err.ensures.cause)

pub hindered-requires-clause-lives : goal.hindered-requires-clause-lives
hindered-requires-clause-lives g c = λ way deadly. tt

pub returns-in-Err-clause-goes : goal.returns-in-Err-clause-goes
returns-in-Err-clause-goes g c =
    goes_still g.V.Store c.args.client.now c.args.core.now.regions.items c.die_next.new.core.regions.items c.args.core.now.system.state c.die_next.new.core.system.state c.args.core.now.vault c.die_next.new.core.vault c.in-Err.ensures.err.1 c.in-Err.ensures.err.2 c.in-Err.ensures.vault
    c.args.setting.now.precheck (IsCalling c.args.transaction c.args.plan) _ _ _ _ _
    (subst (λ (m : Planned). StepGoes g.V.Store c.args.setting.now.precheck (IsCalling c.args.transaction m) c.args.client.now c.die_next.new.core.regions.items c.die_next.new.core.system.state c.die_next.new.core.vault (is_ok c.hindered.result) c.hindered.new.client c.hindered.new.core.regions.items c.hindered.new.core.system.state c.hindered.new.core.vault) c.in-Err.ensures.err.0
    (c.hindered.ensures.goes c.args.setting.now.precheck (refused_still c.args.core.now.regions.items c.die_next.new.core.regions.items c.args.core.now.system.state c.die_next.new.core.system.state c.in-Err.ensures.err.1 c.in-Err.ensures.err.2 c.args.plan c.die_next.new.plan c.in-Err.ensures.err.0 c.args.setting.now.precheck (Latch c.in-Err.cause) c.in-Err.ensures.cause)))

pub returns-in_ok-say-in-Ok-clause-places : goal.returns-in_ok-say-in-Ok-clause-places
returns-in_ok-say-in-Ok-clause-places g c = places_beside g.V.Store.told (IsCalling c.args.transaction c.args.plan) _ c.args.core.now.regions.items c.die_next.new.core.regions.items c.args.core.now.vault c.die_next.new.core.vault c.in-Ok.ensures.flags c.in-Ok.ensures.vault tt

pub returns-in_err-say-in-Ok-clause-places : goal.returns-in_err-say-in-Ok-clause-places
returns-in_err-say-in-Ok-clause-places g c = places_beside g.V.Store.told (IsCalling c.args.transaction c.args.plan) _ c.args.core.now.regions.items c.die_next.new.core.regions.items c.args.core.now.vault c.die_next.new.core.vault c.in-Ok.ensures.flags c.in-Ok.ensures.vault tt

pub returns-in-Err-clause-places : goal.returns-in-Err-clause-places
returns-in-Err-clause-places g c = places_then g.V.Store.told (IsCalling c.args.transaction c.args.plan) (IsCalling c.args.transaction c.die_next.new.plan) c.hindered.new.client.state c.args.core.now.regions.items c.die_next.new.core.regions.items c.hindered.new.core.regions.items c.args.core.now.vault c.die_next.new.core.vault c.hindered.new.core.vault c.in-Err.ensures.err.1 c.in-Err.ensures.vault tt c.hindered.ensures.places

pub returns-in_ok-say-in-Ok-clause-met : goal.returns-in_ok-say-in-Ok-clause-met
returns-in_ok-say-in-Ok-clause-met g c = λ e why latched.
    death_met c.args.setting.now.precheck c.args.plan c.args.core.now.system.state c.args.client.now _ c.args.transaction c.args.core.now.regions.items e why c.die_next.new.core.regions.items c.die_next.new.core.system.state c.in-Ok.ensures.dies latched

pub returns-in_err-say-in-Ok-clause-met : goal.returns-in_err-say-in-Ok-clause-met
returns-in_err-say-in-Ok-clause-met g c = λ e why latched. on_no_ok _ c.from_residual.result c.from_residual.ensures.0

pub returns-in-Err-clause-met : goal.returns-in-Err-clause-met
returns-in-Err-clause-met g c = λ e why latched.
    met_by c.args.setting.now.precheck c.args.plan c.args.core.now.system.state c.args.client.now c.hindered.new.client c.args.transaction c.args.core.now.regions.items e why (Latch c.in-Err.cause) c.hindered.result c.in-Err.ensures.cause
    (subst (λ (y : SystemState). OnOk c.hindered.result (IsMet (Latch c.in-Err.cause) y.stop c.args.client.now c.args.transaction c.args.plan c.hindered.new.client)) c.in-Err.ensures.err.2
    (subst (λ (m : Planned). OnOk c.hindered.result (IsMet (Latch c.in-Err.cause) c.die_next.new.core.system.state.stop c.args.client.now c.args.transaction m c.hindered.new.client)) c.in-Err.ensures.err.0 c.hindered.ensures.met))
