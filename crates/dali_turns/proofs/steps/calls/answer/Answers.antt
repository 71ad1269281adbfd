use Rattle.std.proofs.Common.{◌≡◌, ℕ, Bool, true, List, Option, ap, refl, subst, ◌∙◌, Some, sym}
use Rattle.dali_calls.specs.Plans.{Planned, is_answered}
use Rattle.dali_system.specs.Served.{Served}
use Rattle.dali_region.specs.State.{RegionState}
use Rattle.dali_store.specs.Store.{Files as Disk}
use Rattle.dali_runs.specs.State.{SystemState}
use Rattle.dali_core.specs.Vault.Vaulted.{Vaulted}
use Rattle.dali_calls.specs.Single.Refusals.{IsUnanswered, IsRefusedIn}
use Rattle.dali_calls.specs.declared.single.error.StepError.TheVariants.{System as BySystem}
use Rattle.dali_turns.specs.declared.client.Client.{Client}
use Rattle.dali_turns.specs.declared.client.Transaction.{Transaction}
use Rattle.dali_turns.specs.Goes.{StepGoes}
use Rattle.dali_turns.specs.declared.client.State.TheVariants.{Within, Calling}
use Rattle.dali_turns.specs.Clients.{next_of}
use Rattle.dali_turns.proofs.Commands.{err_false}
use Rattle.dali_turns.proofs.CallSteps.{answered_goes, answered_silently, unanswered_goes, command_of_call, before_answer}
use Rattle.dali_turns.proofs.Placed.{places_still, at_state, refused_reaches}
use Rattle.dali_record.specs.declared.records.Record.TheVariants.{Done}
use Rattle.dali_store.specs.declared.store.Store.{Ghosts}
use Rattle.dali_runs.specs.Keeps.{HasRoom}
use Rattle.dali_system.specs.declared.want.Want.{Want}
use Rattle.dali_calls.specs.Steps.{answer_of}
use Rattle.dali_turns.specs.Calls.{IsRefusedBy}
use Rattle.dali_turns.proofs.Meeting.{answer_met, met_by, refused_met, on_no_ok}
use Rattle.dali_turns.proofs.steps.calls.answer.Goals as goal

-- of the plan that the box lent
by_plan : {V : Type 0} (means : Ghosts V) (precheck : Bool) (x : Transaction) (k j : Client) (gs : List RegionState) (y z : SystemState) (v : Vaulted V) (ok : Bool) (p q : Planned) → p ≡ q
    → StepGoes means precheck (Calling x p) k gs y v ok j gs z v → StepGoes means precheck (Calling x q) k gs y v ok j gs z v
by_plan means precheck x k j gs y z v ok p q e goes = subst (λ (m : Planned). StepGoes means precheck (Calling x m) k gs y v ok j gs z v) e goes

pub refused-requires-clause-next : goal.refused-requires-clause-next
refused-requires-clause-next g c = command_of_call (next_of c.args.client.now) c.args.call c.requires.called

pub refused-requires-clause-closed : goal.refused-requires-clause-closed
refused-requires-clause-closed g c =
    let held : c.deref_mut.result.now ≡ c.args.plan = c.deref_mut.ensures.value ∙ c.plan.view_is in
    ap (λ (p : Planned). p.operation) (c.in-Err.ensures.err.0 ∙ held) ∙ c.requires.rest.closed

pub refused-requires-clause-before : goal.refused-requires-clause-before
refused-requires-clause-before g c =
    let held : c.deref_mut.result.now ≡ c.args.plan = c.deref_mut.ensures.value ∙ c.plan.view_is in
    ap (λ (p : Planned). is_answered p.phase) (c.in-Err.ensures.err.0 ∙ held) ∙ before_answer c.args.plan c.requires.wants

pub returns-in_err-finish-in-Ok-clause-goes : goal.returns-in_err-finish-in-Ok-clause-goes
returns-in_err-finish-in-Ok-clause-goes g c = λ precheck.
    let held : c.deref_mut.result.now ≡ c.args.plan = c.deref_mut.ensures.value ∙ c.plan.view_is in
    by_plan g.V.Store precheck c.args.transaction c.args.client.now c.finish.new.self c.args.core.now.regions.items c.args.core.now.system.state c.answer.new.system.state c.args.core.now.vault _ c.deref_mut.result.now c.args.plan held
    (answered_silently g.V.Store precheck c.args.core.now.regions.items c.args.core.now.system.state c.args.core.now.vault c.args.client.now c.finish.new.self c.args.transaction c.deref_mut.result.now
    c.in-Ok.answer c.answer.new.system.state _ (err_false c.from_residual.result c.from_residual.ensures.0) (ap (λ (z : Served). z.state) c.in-Ok.ensures.ok) c.in-Ok.ensures.answers c.in_err-finish-in-Ok.ensures.err)

pub returns-in_ok-finish-in-Ok-clause-goes : goal.returns-in_ok-finish-in-Ok-clause-goes
returns-in_ok-finish-in-Ok-clause-goes g c = λ precheck.
    let held : c.deref_mut.result.now ≡ c.args.plan = c.deref_mut.ensures.value ∙ c.plan.view_is in
    by_plan g.V.Store precheck c.args.transaction c.args.client.now c.finish.new.self c.args.core.now.regions.items c.args.core.now.system.state c.answer.new.system.state c.args.core.now.vault true c.deref_mut.result.now c.args.plan held
    (answered_goes g.V.Store precheck c.args.core.now.regions.items c.args.core.now.system.state c.args.core.now.vault c.args.client.now c.finish.new.self c.args.transaction c.deref_mut.result.now
    c.args.call c.in-Ok.answer c.answer.new.system.state c.requires.called (ap (λ (z : Served). z.state) c.in-Ok.ensures.ok) c.in-Ok.ensures.answers c.in_ok-finish-in-Ok.ensures.ok)

pub returns-in-Err-clause-goes : goal.returns-in-Err-clause-goes
returns-in-Err-clause-goes g c = λ precheck.
    let held : c.deref_mut.result.now ≡ c.args.plan = c.deref_mut.ensures.value ∙ c.plan.view_is in
    unanswered_goes g.V.Store precheck c.args.core.now.regions.items c.args.core.now.system.state c.args.core.now.vault c.args.client.now c.refused.new.client c.args.transaction c.args.plan
    c.answer.new.plan c.answer.new.system.state c.in-Err.error c.refused.result (c.in-Err.ensures.err.0 ∙ held) (ap (λ (z : Served). z.state) c.in-Err.ensures.err.1) c.requires.whole c.requires.wants (subst (λ (p : Planned). IsUnanswered p c.args.core.now.system.state (BySystem c.in-Err.error)) held c.in-Err.ensures.cause) c.refused.ensures

pub returns-in_err-finish-in-Ok-clause-places : goal.returns-in_err-finish-in-Ok-clause-places
returns-in_err-finish-in-Ok-clause-places g c = places_still g.V.Store.told (Calling c.args.transaction c.args.plan) c.finish.new.self.state c.args.core.now.regions.items c.args.core.now.regions.items c.args.core.now.vault c.args.core.now.vault refl refl (at_state g.V.Store.told _ _ c.finish.new.self.state (Within c.args.transaction) c.args.core.now.vault c.in_err-finish-in-Ok.ensures.err.stands tt)

pub returns-in_ok-finish-in-Ok-clause-places : goal.returns-in_ok-finish-in-Ok-clause-places
returns-in_ok-finish-in-Ok-clause-places g c = places_still g.V.Store.told (Calling c.args.transaction c.args.plan) c.finish.new.self.state c.args.core.now.regions.items c.args.core.now.regions.items c.args.core.now.vault c.args.core.now.vault refl refl (at_state g.V.Store.told _ _ c.finish.new.self.state (Within c.args.transaction) c.args.core.now.vault c.in_ok-finish-in-Ok.ensures.ok.stands tt)

pub returns-in-Err-clause-places : goal.returns-in-Err-clause-places
returns-in-Err-clause-places g c = places_still g.V.Store.told (Calling c.args.transaction c.args.plan) c.refused.new.client.state c.args.core.now.regions.items c.args.core.now.regions.items c.args.core.now.vault c.args.core.now.vault refl refl
    (refused_reaches g.V.Store.told _ _ c.in-Err.error c.args.client.now c.args.transaction c.answer.new.plan c.refused.result c.refused.new.client c.args.core.now.vault c.requires.stands (command_of_call (next_of c.args.client.now) c.args.call c.requires.called) c.refused.ensures)

pub returns-in_err-finish-in-Ok-clause-met : goal.returns-in_err-finish-in-Ok-clause-met
returns-in_err-finish-in-Ok-clause-met g c = λ precheck e why. on_no_ok _ c.from_residual.result c.from_residual.ensures.0

pub returns-in_ok-finish-in-Ok-clause-met : goal.returns-in_ok-finish-in-Ok-clause-met
returns-in_ok-finish-in-Ok-clause-met g c = λ precheck e why.
    let held : c.deref_mut.result.now ≡ c.args.plan = c.deref_mut.ensures.value ∙ c.plan.view_is in
    answer_met precheck c.args.plan c.args.core.now.system.state c.args.client.now _ c.args.transaction c.args.core.now.regions.items e why c.in-Ok.answer (subst (λ (p : Planned). answer_of p.geometry p.call p.stage ≡ Some c.in-Ok.answer) held c.in-Ok.ensures.given)
    (subst (λ (p : Planned). HasRoom c.args.core.now.system.state (Done p.txn p.call c.in-Ok.answer)) held c.in-Ok.ensures.room) c.requires.wants

pub returns-in-Err-clause-met : goal.returns-in-Err-clause-met
returns-in-Err-clause-met g c = λ precheck e why.
    let held : c.deref_mut.result.now ≡ c.args.plan = c.deref_mut.ensures.value ∙ c.plan.view_is in
    met_by precheck c.args.plan c.args.core.now.system.state c.args.client.now c.refused.new.client c.args.transaction c.args.core.now.regions.items e why (BySystem c.in-Err.error) c.refused.result
    (subst (λ (w : Want). IsRefusedIn w precheck c.args.plan c.args.core.now.regions.items c.args.core.now.system.state (BySystem c.in-Err.error)) (sym c.requires.wants) (subst (λ (p : Planned). IsUnanswered p c.args.core.now.system.state (BySystem c.in-Err.error)) held c.in-Err.ensures.cause))
    (refused_met c.args.core.now.system.state.stop c.args.client.now c.refused.new.client c.args.transaction c.args.plan (BySystem c.in-Err.error) c.in-Err.error c.refused.result refl (subst (λ (p : Planned). IsRefusedBy c.in-Err.error c.args.client.now c.args.transaction p c.refused.result c.refused.new.client) (c.in-Err.ensures.err.0 ∙ held) c.refused.ensures))
