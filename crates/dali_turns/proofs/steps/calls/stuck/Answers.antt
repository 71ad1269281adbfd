use Rattle.std.proofs.Common.{ap, refl, subst, ◌∙◌}
use Rattle.std.proofs.lemmas.Result.{on_ok_weaker}
use Rattle.dali_transcripts.specs.declared.clients.line.Why.{Why}
use Rattle.dali_calls.specs.declared.single.error.StepError.TheVariants.{Latch}
use Rattle.dali_calls.specs.Single.Refusals.{IsRefusal}
use Rattle.dali_turns.specs.Clients.{next_of, RefusesCall}
use Rattle.dali_turns.specs.declared.client.State.TheVariants.{Outside, Within, TakingBack}
use Rattle.dali_turns.proofs.Here.{in_a_run, in_no_run}
use Rattle.dali_turns.proofs.Commands.{err_false}
use Rattle.dali_turns.proofs.CallSteps.{some_command, back_not_held, back_clean, back_says, goes_back_now, stop_why, stuck_goes, stuck_silently, stuck_nowhere}
use Rattle.dali_turns.proofs.CleanSteps.{back_holder_is_dead, back_clears}
use Rattle.dali_turns.proofs.Placed.{places_beside, places_still, at_state, call_refused, cleared_reaches}
use Rattle.dali_turns.proofs.Meeting.{holder_met_back, held_cleared, stop_met_back, on_no_ok}
use Rattle.dali_turns.proofs.steps.calls.stuck.Goals as goal

pub clear_way-requires : goal.clear_way-requires
clear_way-requires g c = some_command (next_of c.args.client.now) c.requires.called

pub refuse_call-requires : goal.refuse_call-requires
refuse_call-requires g c = some_command (next_of c.args.client.now) c.requires.called

pub returns-in-Latched-clause-goes : goal.returns-in-Latched-clause-goes
returns-in-Latched-clause-goes g c = λ precheck why.
    in_no_run g.V.Store precheck c.args.client.now c.args.core.now.regions.items c.args.core.now.system.state c.args.core.now.vault _ c.args.client.now c.args.core.now.regions.items c.args.core.now.system.state c.args.core.now.vault (TakingBack c.args.transaction c.args.plan c.args.why)
    (λ may. back_not_held g.V.Store c.args.core.now.regions.items c.args.core.now.system.state c.args.core.now.vault c.args.client.now c.args.transaction c.args.plan c.args.why may c.requires.cause.0 _
    (subst (λ e. IsRefusal c.requires.cause.0 c.args.plan c.args.core.now.regions.items c.args.core.now.system.state e) (c.in-Latch.is ∙ ap Latch c.in-Latched.is) c.requires.cause.1))

pub returns-in-Damaged-clause-goes : goal.returns-in-Damaged-clause-goes
returns-in-Damaged-clause-goes g c = λ precheck why.
    in_no_run g.V.Store precheck c.args.client.now c.args.core.now.regions.items c.args.core.now.system.state c.args.core.now.vault _ c.args.client.now c.args.core.now.regions.items c.args.core.now.system.state c.args.core.now.vault (TakingBack c.args.transaction c.args.plan c.args.why)
    (λ may. back_clean c.requires.cause.0 c.args.plan c.args.core.now.regions.items c.args.core.now.system.state _ _ (goes_back_now g.V.Store c.args.core.now.regions.items c.args.core.now.system.state c.args.core.now.vault c.args.client.now c.args.transaction c.args.plan c.args.why may)
    (subst (λ e. IsRefusal c.requires.cause.0 c.args.plan c.args.core.now.regions.items c.args.core.now.system.state e) (c.in-Latch.is ∙ ap Latch c.in-Damaged.is) c.requires.cause.1))

pub returns-in_err-why_of-in-System-clause-goes : goal.returns-in_err-why_of-in-System-clause-goes
returns-in_err-why_of-in-System-clause-goes g c = λ precheck why.
    stuck_nowhere g.V.Store precheck c.args.core.now.regions.items c.args.core.now.system.state c.args.core.now.vault c.args.client.now c.args.client.now c.args.transaction c.args.plan c.args.why _
    (err_false c.from_residual.result c.from_residual.ensures.0) refl

pub returns-in_err-refuse_call-in-System-clause-goes : goal.returns-in_err-refuse_call-in-System-clause-goes
returns-in_err-refuse_call-in-System-clause-goes g c = λ precheck why.
    in_a_run g.V.Store precheck c.args.client.now c.args.core.now.regions.items c.args.core.now.system.state c.args.core.now.vault _ c.refuse_call.new.self c.args.core.now.regions.items c.args.core.now.system.state c.args.core.now.vault (TakingBack c.args.transaction c.args.plan c.args.why) (λ may.
    let says = back_says precheck c.args.plan c.args.core.now.regions.items c.args.core.now.system.state c.in-System.cause (goes_back_now g.V.Store c.args.core.now.regions.items c.args.core.now.system.state c.args.core.now.vault c.args.client.now c.args.transaction c.args.plan c.args.why may) c.requires.wants
    (subst (λ e. IsRefusal precheck c.args.plan c.args.core.now.regions.items c.args.core.now.system.state e) c.in-System.is why) in
    let stop = stop_why c.args.core.now.system.state.stop c.in-System.cause c.in_ok-why_of-in-System.field-0 says c.in_ok-why_of-in-System.ensures.given in
    stuck_silently g.V.Store precheck c.args.core.now.regions.items c.args.core.now.system.state c.args.core.now.vault c.args.client.now c.refuse_call.new.self c.args.transaction c.args.plan c.args.why _ stop.0
    (err_false c.from_residual-in_err-refuse_call-in-System.result c.from_residual-in_err-refuse_call-in-System.ensures.0) stop.2 c.in_err-refuse_call-in-System.ensures.err.transcript)

pub returns-in_ok-refuse_call-in-System-clause-goes : goal.returns-in_ok-refuse_call-in-System-clause-goes
returns-in_ok-refuse_call-in-System-clause-goes g c = λ precheck why.
    in_a_run g.V.Store precheck c.args.client.now c.args.core.now.regions.items c.args.core.now.system.state c.args.core.now.vault _ c.refuse_call.new.self c.args.core.now.regions.items c.args.core.now.system.state c.args.core.now.vault (TakingBack c.args.transaction c.args.plan c.args.why) (λ may.
    let says = back_says precheck c.args.plan c.args.core.now.regions.items c.args.core.now.system.state c.in-System.cause (goes_back_now g.V.Store c.args.core.now.regions.items c.args.core.now.system.state c.args.core.now.vault c.args.client.now c.args.transaction c.args.plan c.args.why may) c.requires.wants
    (subst (λ e. IsRefusal precheck c.args.plan c.args.core.now.regions.items c.args.core.now.system.state e) c.in-System.is why) in
    let stop = stop_why c.args.core.now.system.state.stop c.in-System.cause c.in_ok-why_of-in-System.field-0 says c.in_ok-why_of-in-System.ensures.given in
    stuck_goes g.V.Store precheck c.args.core.now.regions.items c.args.core.now.system.state c.args.core.now.vault c.args.client.now c.refuse_call.new.self c.args.transaction c.args.plan c.args.why stop.0 stop.2
    (subst (λ (z : Why). RefusesCall c.args.client.now c.args.transaction z c.refuse_call.new.self) stop.1 c.in_ok-refuse_call-in-System.ensures.ok))

pub returns-in-DeadHolder-clause-goes : goal.returns-in-DeadHolder-clause-goes
returns-in-DeadHolder-clause-goes g c = λ precheck why.
    back_clears g.V.Store precheck c.args.client.now c.clear_way.new.client c.args.core.now.regions.items c.clear_way.new.core.regions.items c.args.core.now.system.state c.clear_way.new.core.system.state c.args.core.now.vault c.clear_way.new.core.vault c.args.transaction c.in-DeadHolder.txn c.clear_way.ensures.vault c.args.plan c.args.why
    (λ may. back_holder_is_dead g.V.Store c.args.client.now c.args.core.now.regions.items c.args.core.now.system.state c.args.core.now.vault c.args.transaction c.args.plan c.args.why may c.requires.cause.0 c.in-DeadHolder.txn (subst (λ e. IsRefusal c.requires.cause.0 c.args.plan c.args.core.now.regions.items c.args.core.now.system.state e) (c.in-Latch.is ∙ ap Latch c.in-DeadHolder.is) c.requires.cause.1))
    c.clear_way.result c.clear_way.ensures.clears

pub returns-in-DeadHolder-clause-places : goal.returns-in-DeadHolder-clause-places
returns-in-DeadHolder-clause-places g c =
    places_beside g.V.Store.told (TakingBack c.args.transaction c.args.plan c.args.why) c.clear_way.new.client.state c.args.core.now.regions.items c.clear_way.new.core.regions.items c.args.core.now.vault c.clear_way.new.core.vault c.clear_way.ensures.flags c.clear_way.ensures.vault
    (cleared_reaches g.V.Store.told c.args.core.now.regions.items c.clear_way.new.core.regions.items c.in-DeadHolder.txn c.args.transaction (TakingBack c.args.transaction c.args.plan c.args.why) c.args.client.now c.clear_way.new.client c.args.core.now.system.state c.clear_way.new.core.system.state c.clear_way.new.core.vault c.requires.stands (some_command (next_of c.args.client.now) c.requires.called) tt c.clear_way.result c.clear_way.ensures.clears)

pub returns-in-Latched-clause-places : goal.returns-in-Latched-clause-places
returns-in-Latched-clause-places g c = places_still g.V.Store.told (TakingBack c.args.transaction c.args.plan c.args.why) c.args.client.now.state c.args.core.now.regions.items c.args.core.now.regions.items c.args.core.now.vault c.args.core.now.vault refl refl (at_state g.V.Store.told _ _ c.args.client.now.state Outside c.args.core.now.vault c.requires.stands tt)

pub returns-in-Damaged-clause-places : goal.returns-in-Damaged-clause-places
returns-in-Damaged-clause-places g c = places_still g.V.Store.told (TakingBack c.args.transaction c.args.plan c.args.why) c.args.client.now.state c.args.core.now.regions.items c.args.core.now.regions.items c.args.core.now.vault c.args.core.now.vault refl refl (at_state g.V.Store.told _ _ c.args.client.now.state Outside c.args.core.now.vault c.requires.stands tt)

pub returns-in_err-why_of-in-System-clause-places : goal.returns-in_err-why_of-in-System-clause-places
returns-in_err-why_of-in-System-clause-places g c = places_still g.V.Store.told (TakingBack c.args.transaction c.args.plan c.args.why) c.args.client.now.state c.args.core.now.regions.items c.args.core.now.regions.items c.args.core.now.vault c.args.core.now.vault refl refl (at_state g.V.Store.told _ _ c.args.client.now.state Outside c.args.core.now.vault c.requires.stands tt)

pub returns-in_err-refuse_call-in-System-clause-places : goal.returns-in_err-refuse_call-in-System-clause-places
returns-in_err-refuse_call-in-System-clause-places g c = places_still g.V.Store.told (TakingBack c.args.transaction c.args.plan c.args.why) c.refuse_call.new.self.state c.args.core.now.regions.items c.args.core.now.regions.items c.args.core.now.vault c.args.core.now.vault refl refl (at_state g.V.Store.told _ _ c.refuse_call.new.self.state (Within c.args.transaction) c.args.core.now.vault c.in_err-refuse_call-in-System.ensures.err.stands tt)

pub returns-in_ok-refuse_call-in-System-clause-places : goal.returns-in_ok-refuse_call-in-System-clause-places
returns-in_ok-refuse_call-in-System-clause-places g c = places_still g.V.Store.told (TakingBack c.args.transaction c.args.plan c.args.why) c.refuse_call.new.self.state c.args.core.now.regions.items c.args.core.now.regions.items c.args.core.now.vault c.args.core.now.vault refl refl (at_state g.V.Store.told _ _ c.refuse_call.new.self.state (Within c.args.transaction) c.args.core.now.vault (call_refused c.args.client.now c.args.transaction _ c.refuse_call.new.self (some_command (next_of c.args.client.now) c.requires.called) c.in_ok-refuse_call-in-System.ensures.ok) tt)

pub returns-in-DeadHolder-clause-met : goal.returns-in-DeadHolder-clause-met
returns-in-DeadHolder-clause-met g c =
    on_ok_weaker c.clear_way.result (holder_met_back c.args.core.now.system.state.stop c.args.client.now c.clear_way.new.client c.args.transaction c.args.plan c.args.error c.in-DeadHolder.txn (c.in-Latch.is ∙ ap Latch c.in-DeadHolder.is))
    (held_cleared c.args.core.now.system.state.stop c.args.client.now c.clear_way.new.client c.args.transaction c.args.plan c.in-DeadHolder.txn (TakingBack c.args.transaction c.args.plan c.args.why) c.args.core.now.regions.items c.clear_way.new.core.regions.items c.args.core.now.system.state c.clear_way.new.core.system.state refl c.clear_way.result c.clear_way.ensures.clears)

pub returns-in-Latched-clause-met : goal.returns-in-Latched-clause-met
returns-in-Latched-clause-met g c = on_no_ok _ _ c.no_run.ensures

pub returns-in-Damaged-clause-met : goal.returns-in-Damaged-clause-met
returns-in-Damaged-clause-met g c = on_no_ok _ _ c.no_run-in-Damaged.ensures

pub returns-in_err-why_of-in-System-clause-met : goal.returns-in_err-why_of-in-System-clause-met
returns-in_err-why_of-in-System-clause-met g c = on_no_ok _ c.from_residual.result c.from_residual.ensures.0

pub returns-in_err-refuse_call-in-System-clause-met : goal.returns-in_err-refuse_call-in-System-clause-met
returns-in_err-refuse_call-in-System-clause-met g c = on_no_ok _ c.from_residual-in_err-refuse_call-in-System.result c.from_residual-in_err-refuse_call-in-System.ensures.0

pub returns-in_ok-refuse_call-in-System-clause-met : goal.returns-in_ok-refuse_call-in-System-clause-met
returns-in_ok-refuse_call-in-System-clause-met g c = stop_met_back c.args.core.now.system.state.stop c.args.client.now c.refuse_call.new.self c.args.transaction c.args.plan c.args.error c.in-System.cause c.in_ok-why_of-in-System.field-0 c.in-System.is c.in_ok-why_of-in-System.ensures.given c.in_ok-refuse_call-in-System.ensures.ok
