use Rattle.std.proofs.Common.{◌≡◌, true, false, is_some, ap, refl, sym, subst, ◌∙◌}
use Rattle.dali_calls.specs.Plans.{Planned, IsWhole, want_of}
use Rattle.dali_calls.specs.Single.Stands.{IsAtRest}
use Rattle.dali_turns.specs.declared.client.State.TheVariants.{Outside, Within, TakingBack}
use Rattle.dali_turns.specs.Clients.{next_of}
use Rattle.dali_turns.specs.Calls.{call_in}
use Rattle.dali_turns.proofs.Here.{in_no_run}
use Rattle.dali_turns.proofs.Commands.{err_false}
use Rattle.dali_turns.proofs.CallSteps.{some_command, back_at_rest, back_command, never_done, ends_back, ends_back_silently}
use Rattle.dali_turns.proofs.Placed.{places_still, at_state, call_refused}
use Rattle.dali_system.specs.declared.want.Want.TheVariants.{Region, Nothing}
use Rattle.dali_turns.proofs.Meeting.{done_met, says_call}
use Rattle.dali_turns.proofs.AtOnce.{refuses_none}
use Rattle.dali_turns.proofs.steps.calls.take_back.Goals as goal

pub refuse_call-requires : goal.refuse_call-requires
refuse_call-requires g c = some_command (next_of c.args.client.now) (sym c.is_called.ensures ∙ c.if-not-is_called.false)

pub returns-then-not-is_called-clause-goes : goal.returns-then-not-is_called-clause-goes
returns-then-not-is_called-clause-goes g c =
    in_no_run g.V.Store c.args.setting.now.precheck c.args.client.now c.args.core.now.regions.items c.args.core.now.system.state c.args.core.now.vault _ c.args.client.now c.args.core.now.regions.items c.args.core.now.system.state c.args.core.now.vault (TakingBack c.args.transaction c.args.plan c.args.why)
    (λ may. let there : true ≡ false = sym (c.is_called.ensures ∙ ap (λ o. is_some (call_in o)) (back_command g.V.Store c.args.core.now.regions.items c.args.core.now.system.state c.args.core.now.vault c.args.client.now c.args.transaction c.args.plan c.args.why may).1) ∙ c.if-not-is_called.true in absurd (cc))

pub returns-then-not-is_at_rest-clause-goes : goal.returns-then-not-is_at_rest-clause-goes
returns-then-not-is_at_rest-clause-goes g c =
    in_no_run g.V.Store c.args.setting.now.precheck c.args.client.now c.args.core.now.regions.items c.args.core.now.system.state c.args.core.now.vault _ c.args.client.now c.args.core.now.regions.items c.args.core.now.system.state c.args.core.now.vault (TakingBack c.args.transaction c.args.plan c.args.why)
    (λ may. let rest : true ≡ false = sym (c.is_at_rest.ensures.told (subst (λ (p : Planned). IsAtRest c.args.core.now.regions.items c.args.core.now.system.state p) (sym c.get-held.ensures) (back_at_rest g.V.Store c.args.core.now.regions.items c.args.core.now.system.state c.args.core.now.vault c.args.client.now c.args.transaction c.args.plan c.args.why may))) ∙ c.if-not-is_at_rest.true in absurd (cc))

pub returns-in-Done-clause-goes : goal.returns-in-Done-clause-goes
returns-in-Done-clause-goes g c =
    in_no_run g.V.Store c.args.setting.now.precheck c.args.client.now c.args.core.now.regions.items c.args.core.now.system.state c.args.core.now.vault _ c.args.client.now c.args.core.now.regions.items c.args.core.now.system.state c.args.core.now.vault (TakingBack c.args.transaction c.args.plan c.args.why)
    (λ may. never_done g.V.Store c.args.core.now.regions.items c.args.core.now.system.state c.args.core.now.vault c.args.client.now c.args.transaction c.args.plan c.args.why may (sym (ap want_of c.get-held.ensures) ∙ (sym c.wants.ensures.wants ∙ c.in-Done.is)))

pub returns-in_err-refuse_call-in-Nothing-clause-goes : goal.returns-in_err-refuse_call-in-Nothing-clause-goes
returns-in_err-refuse_call-in-Nothing-clause-goes g c =
    ends_back_silently g.V.Store c.args.setting.now.precheck c.args.core.now.regions.items c.args.core.now.system.state c.args.core.now.vault c.args.client.now c.refuse_call.new.self c.args.transaction c.args.plan c.args.why _ (subst IsWhole c.get-held.ensures c.wants.ensures.whole) (sym (ap want_of c.get-held.ensures) ∙ (sym c.wants.ensures.wants ∙ c.in-Nothing.is))
    (err_false c.from_residual.result c.from_residual.ensures.0) c.in_err-refuse_call-in-Nothing.ensures.err.transcript

pub returns-in_ok-refuse_call-in-Nothing-clause-goes : goal.returns-in_ok-refuse_call-in-Nothing-clause-goes
returns-in_ok-refuse_call-in-Nothing-clause-goes g c =
    ends_back g.V.Store c.args.setting.now.precheck c.args.core.now.regions.items c.args.core.now.system.state c.args.core.now.vault c.args.client.now c.refuse_call.new.self c.args.transaction c.args.plan c.args.why (subst IsWhole c.get-held.ensures c.wants.ensures.whole) (sym (ap want_of c.get-held.ensures) ∙ (sym c.wants.ensures.wants ∙ c.in-Nothing.is))
    c.in_ok-refuse_call-in-Nothing.ensures.ok

pub returns-then-not-is_called-clause-places : goal.returns-then-not-is_called-clause-places
returns-then-not-is_called-clause-places g c = places_still g.V.Store.told (TakingBack c.args.transaction c.args.plan c.args.why) c.args.client.now.state c.args.core.now.regions.items c.args.core.now.regions.items c.args.core.now.vault c.args.core.now.vault refl refl (at_state g.V.Store.told _ _ c.args.client.now.state Outside c.args.core.now.vault c.requires.stands tt)

pub returns-then-not-is_at_rest-clause-places : goal.returns-then-not-is_at_rest-clause-places
returns-then-not-is_at_rest-clause-places g c = places_still g.V.Store.told (TakingBack c.args.transaction c.args.plan c.args.why) c.args.client.now.state c.args.core.now.regions.items c.args.core.now.regions.items c.args.core.now.vault c.args.core.now.vault refl refl (at_state g.V.Store.told _ _ c.args.client.now.state Outside c.args.core.now.vault c.requires.stands tt)

pub returns-in-Done-clause-places : goal.returns-in-Done-clause-places
returns-in-Done-clause-places g c = places_still g.V.Store.told (TakingBack c.args.transaction c.args.plan c.args.why) c.args.client.now.state c.args.core.now.regions.items c.args.core.now.regions.items c.args.core.now.vault c.args.core.now.vault refl refl (at_state g.V.Store.told _ _ c.args.client.now.state Outside c.args.core.now.vault c.requires.stands tt)

pub returns-in_err-refuse_call-in-Nothing-clause-places : goal.returns-in_err-refuse_call-in-Nothing-clause-places
returns-in_err-refuse_call-in-Nothing-clause-places g c = places_still g.V.Store.told (TakingBack c.args.transaction c.args.plan c.args.why) c.refuse_call.new.self.state c.args.core.now.regions.items c.args.core.now.regions.items c.args.core.now.vault c.args.core.now.vault refl refl (at_state g.V.Store.told _ _ c.refuse_call.new.self.state (Within c.args.transaction) c.args.core.now.vault c.in_err-refuse_call-in-Nothing.ensures.err.stands tt)

pub returns-in_ok-refuse_call-in-Nothing-clause-places : goal.returns-in_ok-refuse_call-in-Nothing-clause-places
returns-in_ok-refuse_call-in-Nothing-clause-places g c = places_still g.V.Store.told (TakingBack c.args.transaction c.args.plan c.args.why) c.refuse_call.new.self.state c.args.core.now.regions.items c.args.core.now.regions.items c.args.core.now.vault c.args.core.now.vault refl refl (at_state g.V.Store.told _ _ c.refuse_call.new.self.state (Within c.args.transaction) c.args.core.now.vault (call_refused c.args.client.now c.args.transaction _ c.refuse_call.new.self (some_command (next_of c.args.client.now) (sym c.is_called.ensures ∙ c.if-not-is_called.false)) c.in_ok-refuse_call-in-Nothing.ensures.ok) tt)

pub returns-then-not-is_called-clause-refuses : goal.returns-then-not-is_called-clause-refuses
returns-then-not-is_called-clause-refuses g c = refuses_none c.args.core.now.vault.flushed c.args.core.now.vault.stopped c.args.setting.now.precheck c.args.client.now _ c.args.core.now.regions.items c.args.core.now.system.state _ c.no_run.ensures (TakingBack c.args.transaction c.args.plan c.args.why)

pub returns-then-not-is_at_rest-clause-refuses : goal.returns-then-not-is_at_rest-clause-refuses
returns-then-not-is_at_rest-clause-refuses g c = refuses_none c.args.core.now.vault.flushed c.args.core.now.vault.stopped c.args.setting.now.precheck c.args.client.now _ c.args.core.now.regions.items c.args.core.now.system.state _ c.no_run-then-not-is_at_rest.ensures (TakingBack c.args.transaction c.args.plan c.args.why)

pub returns-in-Done-clause-refuses : goal.returns-in-Done-clause-refuses
returns-in-Done-clause-refuses g c = refuses_none c.args.core.now.vault.flushed c.args.core.now.vault.stopped c.args.setting.now.precheck c.args.client.now _ c.args.core.now.regions.items c.args.core.now.system.state _ c.no_run-in-Done.ensures (TakingBack c.args.transaction c.args.plan c.args.why)

pub returns-in_err-refuse_call-in-Nothing-clause-refuses : goal.returns-in_err-refuse_call-in-Nothing-clause-refuses
returns-in_err-refuse_call-in-Nothing-clause-refuses g c = refuses_none c.args.core.now.vault.flushed c.args.core.now.vault.stopped c.args.setting.now.precheck c.args.client.now _ c.args.core.now.regions.items c.args.core.now.system.state c.from_residual.result c.from_residual.ensures.0 (TakingBack c.args.transaction c.args.plan c.args.why)

pub returns-in_ok-refuse_call-in-Nothing-clause-refuses : goal.returns-in_ok-refuse_call-in-Nothing-clause-refuses
returns-in_ok-refuse_call-in-Nothing-clause-refuses g c = (
  λ e is. absurd (done_met c.args.setting.now.precheck c.args.plan c.args.core.now.system.state c.args.core.now.regions.items e is (sym (ap want_of c.get-held.ensures) ∙ (sym c.wants.ensures.wants ∙ c.in-Nothing.is))),
  λ done. says_call c.args.core.now.system.state.stop c.args.client.now c.refuse_call.new.self c.args.transaction c.args.plan c.args.why c.in_ok-refuse_call-in-Nothing.ensures.ok,
)

pub returns-in-Region-clause-refuses : goal.returns-in-Region-clause-refuses
returns-in-Region-clause-refuses g c =
    (c.go_back.ensures.met, λ done. let both : Region _ ≡ Nothing = sym c.in-Region.is ∙ (c.wants.ensures.wants ∙ (ap want_of c.get-held.ensures ∙ done)) in absurd (cc))
