use Rattle.std.proofs.Common.{◌≡◌, Some, None, true, false, ap, refl, sym, subst, ◌∙◌}
use Rattle.dali_calls.specs.Plans.{Planned, want_of}
use Rattle.dali_calls.specs.Single.Stands.{IsAtRest}
use Rattle.dali_turns.specs.declared.client.State.TheVariants.{Outside, Calling}
use Rattle.dali_turns.specs.Calls.{call_in}
use Rattle.dali_turns.proofs.Here.{in_no_run}
use Rattle.dali_turns.proofs.CallSteps.{at_rest, command_there, calling_more}
use Rattle.dali_turns.proofs.Placed.{places_still, at_state}
use Rattle.dali_turns.proofs.Meeting.{on_no_ok}
use Rattle.dali_turns.proofs.steps.calls.call.Goals as goal

pub returns-in_default-clause-goes : goal.returns-in_default-clause-goes
returns-in_default-clause-goes g c =
    in_no_run g.V.Store c.args.setting.now.precheck c.args.client.now c.args.core.now.regions.items c.args.core.now.system.state c.args.core.now.vault _ c.args.client.now c.args.core.now.regions.items c.args.core.now.system.state c.args.core.now.vault (Calling c.args.transaction c.args.plan)
    (λ may. let there = command_there g.V.Store c.args.core.now.regions.items c.args.core.now.system.state c.args.core.now.vault c.args.client.now c.args.transaction c.args.plan may in let none : None ≡ Some there.0 = sym c.in_default.is ∙ (c.called.ensures ∙ ap call_in there.1) in absurd (cc))

pub returns-then-not-is_at_rest-clause-goes : goal.returns-then-not-is_at_rest-clause-goes
returns-then-not-is_at_rest-clause-goes g c =
    in_no_run g.V.Store c.args.setting.now.precheck c.args.client.now c.args.core.now.regions.items c.args.core.now.system.state c.args.core.now.vault _ c.args.client.now c.args.core.now.regions.items c.args.core.now.system.state c.args.core.now.vault (Calling c.args.transaction c.args.plan)
    (λ may. let rest : true ≡ false = sym (c.is_at_rest.ensures.told (subst (λ (p : Planned). IsAtRest c.args.core.now.regions.items c.args.core.now.system.state p) (sym c.get-held.ensures) (at_rest g.V.Store c.args.core.now.regions.items c.args.core.now.system.state c.args.core.now.vault c.args.client.now c.args.transaction c.args.plan may))) ∙ c.if-not-is_at_rest.true in absurd (cc))

pub returns-in-Nothing-clause-goes : goal.returns-in-Nothing-clause-goes
returns-in-Nothing-clause-goes g c =
    in_no_run g.V.Store c.args.setting.now.precheck c.args.client.now c.args.core.now.regions.items c.args.core.now.system.state c.args.core.now.vault _ c.args.client.now c.args.core.now.regions.items c.args.core.now.system.state c.args.core.now.vault (Calling c.args.transaction c.args.plan)
    (λ may. calling_more c.args.plan may.fits.plan_is.phase_is (sym (ap want_of c.get-held.ensures) ∙ (sym c.wants.ensures.wants ∙ c.in-Nothing.is)))

pub returns-in_default-clause-places : goal.returns-in_default-clause-places
returns-in_default-clause-places g c = places_still g.V.Store.told (Calling c.args.transaction c.args.plan) c.args.client.now.state c.args.core.now.regions.items c.args.core.now.regions.items c.args.core.now.vault c.args.core.now.vault refl refl (at_state g.V.Store.told _ _ c.args.client.now.state Outside c.args.core.now.vault c.requires.stands tt)

pub returns-then-not-is_at_rest-clause-places : goal.returns-then-not-is_at_rest-clause-places
returns-then-not-is_at_rest-clause-places g c = places_still g.V.Store.told (Calling c.args.transaction c.args.plan) c.args.client.now.state c.args.core.now.regions.items c.args.core.now.regions.items c.args.core.now.vault c.args.core.now.vault refl refl (at_state g.V.Store.told _ _ c.args.client.now.state Outside c.args.core.now.vault c.requires.stands tt)

pub returns-in-Nothing-clause-places : goal.returns-in-Nothing-clause-places
returns-in-Nothing-clause-places g c = places_still g.V.Store.told (Calling c.args.transaction c.args.plan) c.args.client.now.state c.args.core.now.regions.items c.args.core.now.regions.items c.args.core.now.vault c.args.core.now.vault refl refl (at_state g.V.Store.told _ _ c.args.client.now.state Outside c.args.core.now.vault c.requires.stands tt)

pub returns-in_default-clause-refuses : goal.returns-in_default-clause-refuses
returns-in_default-clause-refuses g c = λ e why lives. on_no_ok _ _ c.no_run.ensures

pub returns-then-not-is_at_rest-clause-refuses : goal.returns-then-not-is_at_rest-clause-refuses
returns-then-not-is_at_rest-clause-refuses g c = λ e why lives. on_no_ok _ _ c.no_run-then-not-is_at_rest.ensures

pub returns-in-Nothing-clause-refuses : goal.returns-in-Nothing-clause-refuses
returns-in-Nothing-clause-refuses g c = λ e why lives. on_no_ok _ _ c.no_run-in-Nothing.ensures

pub returns-in-Done-clause-refuses : goal.returns-in-Done-clause-refuses
returns-in-Done-clause-refuses g c = λ e why lives. c.answer.ensures.met c.args.setting.now.precheck e why
