use Rattle.std.proofs.Common.{is_some, is_ok, ap, refl, sym, subst, ◌∙◌}
use Rattle.dali_calls.specs.Plans.{Planned}
use Rattle.dali_system.specs.Served.{Served}
use Rattle.dali_transcripts.specs.declared.clients.line.Why.{Why}
use Rattle.dali_turns.specs.declared.client.State.TheVariants.{Outside, Within, Calling}
use Rattle.dali_turns.specs.Clients.{RefusesCall}
use Rattle.dali_turns.proofs.Commands.{err_false}
use Rattle.dali_turns.proofs.Asking.{new_plan}
use Rattle.dali_turns.proofs.CallSteps.{ran_there, asked_says, stop_why, unasked_goes, unasked_silently, unasked_nowhere}
use Rattle.dali_turns.proofs.Requests.{granted_then, waits_then, yield_then, clean_behind}
use Rattle.dali_turns.proofs.Placed.{places_still, at_state, call_refused}
use Rattle.dali_transcripts.specs.declared.clients.command.Command.TheVariants.{Call as IsCall}
use Rattle.dali_turns.proofs.Meeting.{on_no_ok}
use Rattle.dali_turns.proofs.AtOnce.{never_up, stop_told}
use Rattle.dali_turns.proofs.steps.calls.ask.Goals as goal

pub returns-in-Granted-clause-goes : goal.returns-in-Granted-clause-goes
returns-in-Granted-clause-goes g c = λ precheck.
    granted_then g.V.Store c.args.core.now.regions.items c.args.core.now.system.state c.ask.new.system.state c.args.core.now.vault c.args.client.now c.args.transaction c.args.call c.requires.next c.get.result.now (c.get.ensures ∙ (c.in_ok-plan.ensures ∙ (c.new-fresh.ensures ∙ ap (λ n. new_plan n c.args.transaction.txn c.args.call) c.geometry.ensures))) c.in-Ok.answer c.in-Ok.ensures.answer (ap (λ (m : Served). m.state) c.in-Ok.ensures.ok) c.in-Ok.ensures.asked (ran_there c.args.core.now.system.state c.ask.result c.in-Ok.answer c.in-Ok.is c.ask.ensures.refused) c.in-Granted.is precheck _ (record { rest = refl; stands = ap (λ (p : Planned). Calling c.args.transaction p) (sym c.get.ensures); points = refl; transcript = refl })

pub returns-else-is_dead-clause-goes : goal.returns-else-is_dead-clause-goes
returns-else-is_dead-clause-goes g c = λ precheck.
    waits_then g.V.Store c.args.core.now.regions.items c.args.core.now.system.state c.ask.new.system.state c.args.core.now.vault c.args.client.now c.args.transaction c.args.call c.requires.next c.get.result.now (c.get.ensures ∙ (c.in_ok-plan.ensures ∙ (c.new-fresh.ensures ∙ ap (λ n. new_plan n c.args.transaction.txn c.args.call) c.geometry.ensures))) c.in-Ok.answer c.in-Ok.ensures.answer (ap (λ (m : Served). m.state) c.in-Ok.ensures.ok) c.in-Ok.ensures.asked (ran_there c.args.core.now.system.state c.ask.result c.in-Ok.answer c.in-Ok.is c.ask.ensures.refused) c.in-Wait.holder c.in-Wait.is precheck _ (record { rest = refl; stands = refl; points = refl; transcript = refl })

pub returns-then-is_dead-2-clause-goes : goal.returns-then-is_dead-2-clause-goes
returns-then-is_dead-2-clause-goes g c = λ precheck.
    clean_behind g.V.Store c.args.core.now.regions.items c.args.core.now.system.state c.ask.new.system.state c.args.core.now.vault c.args.client.now c.args.transaction c.args.call c.requires.next c.get.result.now (c.get.ensures ∙ (c.in_ok-plan.ensures ∙ (c.new-fresh.ensures ∙ ap (λ n. new_plan n c.args.transaction.txn c.args.call) c.geometry.ensures))) c.in-Ok.answer c.in-Ok.ensures.answer (ap (λ (m : Served). m.state) c.in-Ok.ensures.ok) c.in-Ok.ensures.asked (ran_there c.args.core.now.system.state c.ask.result c.in-Ok.answer c.in-Ok.is c.ask.ensures.refused) c.in-Busy.holder c.in-Busy.is (sym c.is_dead-in-Busy.ensures ∙ c.if-is_dead-2.true) precheck (is_ok c.clean_holder-then-is_dead-2.result) c.clean_holder-then-is_dead-2.new.client c.clean_holder-then-is_dead-2.new.core.regions.items c.clean_holder-then-is_dead-2.new.core.system.state c.clean_holder-then-is_dead-2.new.core.vault (c.clean_holder-then-is_dead-2.ensures.goes precheck)

pub returns-else-is_dead-2-clause-goes : goal.returns-else-is_dead-2-clause-goes
returns-else-is_dead-2-clause-goes g c = λ precheck.
    yield_then g.V.Store c.args.core.now.regions.items c.args.core.now.system.state c.ask.new.system.state c.args.core.now.vault c.args.client.now c.args.transaction c.args.call c.requires.next c.get.result.now (c.get.ensures ∙ (c.in_ok-plan.ensures ∙ (c.new-fresh.ensures ∙ ap (λ n. new_plan n c.args.transaction.txn c.args.call) c.geometry.ensures))) c.in-Ok.answer c.in-Ok.ensures.answer (ap (λ (m : Served). m.state) c.in-Ok.ensures.ok) c.in-Ok.ensures.asked (ran_there c.args.core.now.system.state c.ask.result c.in-Ok.answer c.in-Ok.is c.ask.ensures.refused) c.in-Busy.holder c.in-Busy.is (sym c.is_dead-in-Busy.ensures ∙ c.if-is_dead-2.false) precheck (is_ok c.give_way.result) c.give_way.new.client c.give_way.new.core.regions.items c.give_way.new.core.system.state c.give_way.new.core.vault (c.give_way.ensures.goes precheck)

pub returns-in_err-plan-clause-goes : goal.returns-in_err-plan-clause-goes
returns-in_err-plan-clause-goes g c = λ precheck.
    unasked_nowhere g.V.Store precheck c.args.core.now.regions.items c.args.core.now.system.state c.args.core.now.vault c.args.client.now c.args.client.now c.args.transaction c.args.call c.requires.next c.args.core.now.system.state _ refl (err_false c.from_residual.result c.from_residual.ensures.0) refl

pub returns-in_err-why_of-in-Err-clause-goes : goal.returns-in_err-why_of-in-Err-clause-goes
returns-in_err-why_of-in-Err-clause-goes g c = λ precheck.
    unasked_nowhere g.V.Store precheck c.args.core.now.regions.items c.args.core.now.system.state c.args.core.now.vault c.args.client.now c.args.client.now c.args.transaction c.args.call c.requires.next c.ask.new.system.state _ (ap (λ (m : Served). m.state) c.in-Err.ensures.err) (err_false c.from_residual-in_err-why_of-in-Err.result c.from_residual-in_err-why_of-in-Err.ensures.0) refl

pub returns-in_err-refuse_call-in-Err-clause-goes : goal.returns-in_err-refuse_call-in-Err-clause-goes
returns-in_err-refuse_call-in-Err-clause-goes g c = λ precheck.
    let stop = stop_why c.args.core.now.system.state.stop c.in-Err.error c.in_ok-why_of-in-Err.field-0 (asked_says c.args.core.now.system.state c.ask.result c.in-Err.error c.in-Err.is c.ask.ensures.refused c.ask.ensures.memory) c.in_ok-why_of-in-Err.ensures.given in
    unasked_silently g.V.Store precheck c.args.core.now.regions.items c.args.core.now.system.state c.args.core.now.vault c.args.client.now c.refuse_call.new.self c.args.transaction c.args.call c.requires.next c.ask.new.system.state _ stop.0 (ap (λ (m : Served). m.state) c.in-Err.ensures.err) (err_false c.from_residual-in_err-refuse_call-in-Err.result c.from_residual-in_err-refuse_call-in-Err.ensures.0) stop.2 c.in_err-refuse_call-in-Err.ensures.err.transcript

pub returns-in_ok-refuse_call-in-Err-clause-goes : goal.returns-in_ok-refuse_call-in-Err-clause-goes
returns-in_ok-refuse_call-in-Err-clause-goes g c = λ precheck.
    let stop = stop_why c.args.core.now.system.state.stop c.in-Err.error c.in_ok-why_of-in-Err.field-0 (asked_says c.args.core.now.system.state c.ask.result c.in-Err.error c.in-Err.is c.ask.ensures.refused c.ask.ensures.memory) c.in_ok-why_of-in-Err.ensures.given in
    unasked_goes g.V.Store precheck c.args.core.now.regions.items c.args.core.now.system.state c.args.core.now.vault c.args.client.now c.refuse_call.new.self c.args.transaction c.args.call c.requires.next c.ask.new.system.state stop.0 (ap (λ (m : Served). m.state) c.in-Err.ensures.err) stop.2 (subst (λ (o : Why). RefusesCall c.args.client.now c.args.transaction o c.refuse_call.new.self) stop.1 c.in_ok-refuse_call-in-Err.ensures.ok)

pub returns-in-Granted-clause-places : goal.returns-in-Granted-clause-places
returns-in-Granted-clause-places g c = places_still g.V.Store.told (Within c.args.transaction) _ c.args.core.now.regions.items c.args.core.now.regions.items c.args.core.now.vault c.args.core.now.vault refl refl tt

pub returns-else-is_dead-clause-places : goal.returns-else-is_dead-clause-places
returns-else-is_dead-clause-places g c = places_still g.V.Store.told (Within c.args.transaction) _ c.args.core.now.regions.items c.args.core.now.regions.items c.args.core.now.vault c.args.core.now.vault refl refl tt

pub returns-in_err-plan-clause-places : goal.returns-in_err-plan-clause-places
returns-in_err-plan-clause-places g c = places_still g.V.Store.told (Within c.args.transaction) c.args.client.now.state c.args.core.now.regions.items c.args.core.now.regions.items c.args.core.now.vault c.args.core.now.vault refl refl (at_state g.V.Store.told _ _ c.args.client.now.state Outside c.args.core.now.vault c.requires.stands tt)

pub returns-in_err-why_of-in-Err-clause-places : goal.returns-in_err-why_of-in-Err-clause-places
returns-in_err-why_of-in-Err-clause-places g c = places_still g.V.Store.told (Within c.args.transaction) c.args.client.now.state c.args.core.now.regions.items c.args.core.now.regions.items c.args.core.now.vault c.args.core.now.vault refl refl (at_state g.V.Store.told _ _ c.args.client.now.state Outside c.args.core.now.vault c.requires.stands tt)

pub returns-in_err-refuse_call-in-Err-clause-places : goal.returns-in_err-refuse_call-in-Err-clause-places
returns-in_err-refuse_call-in-Err-clause-places g c = places_still g.V.Store.told (Within c.args.transaction) c.refuse_call.new.self.state c.args.core.now.regions.items c.args.core.now.regions.items c.args.core.now.vault c.args.core.now.vault refl refl (at_state g.V.Store.told _ _ c.refuse_call.new.self.state (Within c.args.transaction) c.args.core.now.vault c.in_err-refuse_call-in-Err.ensures.err.stands tt)

pub returns-in_ok-refuse_call-in-Err-clause-places : goal.returns-in_ok-refuse_call-in-Err-clause-places
returns-in_ok-refuse_call-in-Err-clause-places g c = places_still g.V.Store.told (Within c.args.transaction) c.refuse_call.new.self.state c.args.core.now.regions.items c.args.core.now.regions.items c.args.core.now.vault c.args.core.now.vault refl refl (at_state g.V.Store.told _ _ c.refuse_call.new.self.state (Within c.args.transaction) c.args.core.now.vault (call_refused c.args.client.now c.args.transaction _ c.refuse_call.new.self (ap is_some c.requires.next) c.in_ok-refuse_call-in-Err.ensures.ok) tt)

-- ---- a stop is told at once
pub returns-in-Granted-clause-refuses : goal.returns-in-Granted-clause-refuses
returns-in-Granted-clause-refuses g c = λ cause up. never_up c.args.core.now.system.state.stop cause (ran_there c.args.core.now.system.state c.ask.result c.in-Ok.answer c.in-Ok.is c.ask.ensures.refused) up

pub returns-then-is_dead-clause-refuses : goal.returns-then-is_dead-clause-refuses
returns-then-is_dead-clause-refuses g c = λ cause up. never_up c.args.core.now.system.state.stop cause (ran_there c.args.core.now.system.state c.ask.result c.in-Ok.answer c.in-Ok.is c.ask.ensures.refused) up

pub returns-else-is_dead-clause-refuses : goal.returns-else-is_dead-clause-refuses
returns-else-is_dead-clause-refuses g c = λ cause up. never_up c.args.core.now.system.state.stop cause (ran_there c.args.core.now.system.state c.ask.result c.in-Ok.answer c.in-Ok.is c.ask.ensures.refused) up

pub returns-then-is_dead-2-clause-refuses : goal.returns-then-is_dead-2-clause-refuses
returns-then-is_dead-2-clause-refuses g c = λ cause up. never_up c.args.core.now.system.state.stop cause (ran_there c.args.core.now.system.state c.ask.result c.in-Ok.answer c.in-Ok.is c.ask.ensures.refused) up

pub returns-else-is_dead-2-clause-refuses : goal.returns-else-is_dead-2-clause-refuses
returns-else-is_dead-2-clause-refuses g c = λ cause up. never_up c.args.core.now.system.state.stop cause (ran_there c.args.core.now.system.state c.ask.result c.in-Ok.answer c.in-Ok.is c.ask.ensures.refused) up

pub returns-in_err-plan-clause-refuses : goal.returns-in_err-plan-clause-refuses
returns-in_err-plan-clause-refuses g c = λ cause up. on_no_ok _ c.from_residual.result c.from_residual.ensures.0

pub returns-in_err-why_of-in-Err-clause-refuses : goal.returns-in_err-why_of-in-Err-clause-refuses
returns-in_err-why_of-in-Err-clause-refuses g c = λ cause up. on_no_ok _ c.from_residual-in_err-why_of-in-Err.result c.from_residual-in_err-why_of-in-Err.ensures.0

pub returns-in_err-refuse_call-in-Err-clause-refuses : goal.returns-in_err-refuse_call-in-Err-clause-refuses
returns-in_err-refuse_call-in-Err-clause-refuses g c = λ cause up. on_no_ok _ c.from_residual-in_err-refuse_call-in-Err.result c.from_residual-in_err-refuse_call-in-Err.ensures.0

pub returns-in_ok-refuse_call-in-Err-clause-refuses : goal.returns-in_ok-refuse_call-in-Err-clause-refuses
returns-in_ok-refuse_call-in-Err-clause-refuses g c =
    let stop = stop_why c.args.core.now.system.state.stop c.in-Err.error c.in_ok-why_of-in-Err.field-0 (asked_says c.args.core.now.system.state c.ask.result c.in-Err.error c.in-Err.is c.ask.ensures.refused c.ask.ensures.memory) c.in_ok-why_of-in-Err.ensures.given in
    stop_told c.args.core.now.system.state (Within c.args.transaction) (IsCall c.args.call) c.args.client.now c.refuse_call.new.self stop.0 c.in_ok-why_of-in-Err.field-0 stop.2 stop.1 (c.in_ok-refuse_call-in-Err.ensures.ok (IsCall c.args.call) c.requires.next)
