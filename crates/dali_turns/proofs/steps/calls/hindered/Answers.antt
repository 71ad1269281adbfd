use Rattle.std.proofs.Common.{ap, refl, subst, ◌∙◌}
use Rattle.std.proofs.lemmas.Result.{on_ok_weaker}
use Rattle.dali_calls.specs.declared.single.error.StepError.TheVariants.{Latch}
use Rattle.dali_calls.specs.Single.Refusals.{IsLatched, IsRefusal}
use Rattle.dali_turns.specs.Clients.{next_of}
use Rattle.dali_turns.specs.declared.client.State.TheVariants.{Outside, Calling}
use Rattle.dali_turns.proofs.Here.{in_no_run}
use Rattle.dali_turns.proofs.CallSteps.{some_command, points_there, before_operation, not_held, damage_refuses, system_refuses, by_lines}
use Rattle.dali_turns.proofs.CleanSteps.{holder_is_dead, operate_clears}
use Rattle.dali_turns.proofs.Placed.{places_beside, places_still, at_state, refused_reaches, cleared_reaches}
use Rattle.dali_turns.proofs.Meeting.{holder_met, held_cleared, damaged_met, refused_met}
use Rattle.dali_turns.proofs.AtOnce.{met}
use Rattle.dali_turns.proofs.steps.calls.hindered.Goals as goal

pub clear_way-requires : goal.clear_way-requires
clear_way-requires g c = some_command (next_of c.args.client.now) c.requires.makes.called

pub refused-requires-clause-next : goal.refused-requires-clause-next
refused-requires-clause-next g c = some_command (next_of c.args.client.now) c.requires.makes.called

pub refused-requires-clause-before : goal.refused-requires-clause-before
refused-requires-clause-before g c = before_operation c.args.plan c.args.region c.requires.makes.wants

pub turn_back-requires-clause-before : goal.turn_back-requires-clause-before
turn_back-requires-clause-before g c = before_operation c.args.plan c.args.region c.requires.makes.wants

pub returns-in-Latched-clause-goes : goal.returns-in-Latched-clause-goes
returns-in-Latched-clause-goes g c = λ precheck why.
    in_no_run g.V.Store precheck c.args.client.now c.args.core.now.regions.items c.args.core.now.system.state c.args.core.now.vault _ c.args.client.now c.args.core.now.regions.items c.args.core.now.system.state c.args.core.now.vault (Calling c.args.transaction c.args.plan)
    (λ may. not_held g.V.Store c.args.core.now.regions.items c.args.core.now.system.state c.args.core.now.vault c.args.client.now c.args.transaction c.args.plan may c.requires.cause.0 c.args.region _ c.requires.makes.wants
    (subst (λ e. IsRefusal c.requires.cause.0 c.args.plan c.args.core.now.regions.items c.args.core.now.system.state e) (c.in-Latch.is ∙ ap Latch c.in-Latched.is) c.requires.cause.1))

pub returns-in-Damaged-clause-goes : goal.returns-in-Damaged-clause-goes
returns-in-Damaged-clause-goes g c = λ precheck why.
    damage_refuses g.V.Store precheck c.args.core.now.regions.items c.args.core.now.system.state c.args.core.now.vault c.args.client.now c.turn_back.new.client c.args.transaction c.args.plan c.args.region _ _ c.requires.makes.whole c.requires.makes.wants
    (subst (λ e. IsRefusal precheck c.args.plan c.args.core.now.regions.items c.args.core.now.system.state e) (c.in-Latch.is ∙ ap Latch c.in-Damaged.is) why) c.turn_back.ensures

pub returns-in-System-clause-goes : goal.returns-in-System-clause-goes
returns-in-System-clause-goes g c = λ precheck why.
    by_lines g.V.Store precheck (Calling c.args.transaction c.args.plan) c.args.client.now _ c.refused.new.client c.args.core.now.regions.items c.args.core.now.regions.items c.args.core.now.system.state c.args.core.now.system.state c.args.core.now.vault c.args.core.now.vault _ refl refl
    (system_refuses g.V.Store precheck c.args.core.now.regions.items c.args.core.now.system.state c.args.core.now.vault _ c.refused.new.client c.args.transaction c.args.plan c.args.region c.in-System.cause c.refused.result c.requires.makes.whole c.requires.makes.wants
    (subst (λ e. IsRefusal precheck c.args.plan c.args.core.now.regions.items c.args.core.now.system.state e) c.in-System.is why)
    (λ way deadly. subst IsLatched c.in-System.is (c.requires.lives way deadly)) c.refused.ensures)

pub returns-in-System-clause-points : goal.returns-in-System-clause-points
returns-in-System-clause-points g c = λ cause is.
    points_there c.in-System.cause _ c.refused.new.client c.args.transaction c.args.plan c.refused.result (some_command (next_of c.args.client.now) c.requires.makes.called) c.refused.ensures ∙ c.point-client.ensures

pub returns-in-DeadHolder-clause-goes : goal.returns-in-DeadHolder-clause-goes
returns-in-DeadHolder-clause-goes g c = λ precheck why.
    operate_clears g.V.Store precheck c.args.client.now c.clear_way.new.client c.args.core.now.regions.items c.clear_way.new.core.regions.items c.args.core.now.system.state c.clear_way.new.core.system.state c.args.core.now.vault c.clear_way.new.core.vault c.args.transaction c.in-DeadHolder.txn c.clear_way.ensures.vault c.args.plan
    (λ may. holder_is_dead g.V.Store (Calling c.args.transaction c.args.plan) c.args.client.now c.args.core.now.regions.items c.args.core.now.system.state c.args.core.now.vault may c.requires.cause.0 c.args.plan c.args.region c.in-DeadHolder.txn c.requires.makes.wants (subst (λ e. IsRefusal c.requires.cause.0 c.args.plan c.args.core.now.regions.items c.args.core.now.system.state e) (c.in-Latch.is ∙ ap Latch c.in-DeadHolder.is) c.requires.cause.1))
    c.clear_way.result c.clear_way.ensures.clears

pub returns-in-DeadHolder-clause-places : goal.returns-in-DeadHolder-clause-places
returns-in-DeadHolder-clause-places g c =
    places_beside g.V.Store.told (Calling c.args.transaction c.args.plan) c.clear_way.new.client.state c.args.core.now.regions.items c.clear_way.new.core.regions.items c.args.core.now.vault c.clear_way.new.core.vault c.clear_way.ensures.flags c.clear_way.ensures.vault
    (cleared_reaches g.V.Store.told c.args.core.now.regions.items c.clear_way.new.core.regions.items c.in-DeadHolder.txn c.args.transaction (Calling c.args.transaction c.args.plan) c.args.client.now c.clear_way.new.client c.args.core.now.system.state c.clear_way.new.core.system.state c.clear_way.new.core.vault c.requires.stands (some_command (next_of c.args.client.now) c.requires.makes.called) tt c.clear_way.result c.clear_way.ensures.clears)

pub returns-in-Latched-clause-places : goal.returns-in-Latched-clause-places
returns-in-Latched-clause-places g c = places_still g.V.Store.told (Calling c.args.transaction c.args.plan) c.args.client.now.state c.args.core.now.regions.items c.args.core.now.regions.items c.args.core.now.vault c.args.core.now.vault refl refl (at_state g.V.Store.told _ _ c.args.client.now.state Outside c.args.core.now.vault c.requires.stands tt)

pub returns-in-Damaged-clause-places : goal.returns-in-Damaged-clause-places
returns-in-Damaged-clause-places g c = places_still g.V.Store.told (Calling c.args.transaction c.args.plan) c.turn_back.new.client.state c.args.core.now.regions.items c.args.core.now.regions.items c.args.core.now.vault c.args.core.now.vault refl refl (at_state g.V.Store.told _ _ c.turn_back.new.client.state _ c.args.core.now.vault c.turn_back.ensures.stands tt)

pub returns-in-System-clause-places : goal.returns-in-System-clause-places
returns-in-System-clause-places g c =
    places_still g.V.Store.told (Calling c.args.transaction c.args.plan) c.refused.new.client.state c.args.core.now.regions.items c.args.core.now.regions.items c.args.core.now.vault c.args.core.now.vault refl refl (refused_reaches g.V.Store.told _ _ c.in-System.cause _ c.args.transaction c.args.plan c.refused.result c.refused.new.client c.args.core.now.vault c.requires.stands (some_command (next_of c.args.client.now) c.requires.makes.called) c.refused.ensures)

pub returns-in-DeadHolder-clause-met : goal.returns-in-DeadHolder-clause-met
returns-in-DeadHolder-clause-met g c =
    on_ok_weaker c.clear_way.result (holder_met c.args.core.now.system.state.stop c.args.client.now c.clear_way.new.client c.args.transaction c.args.plan c.args.error c.in-DeadHolder.txn (c.in-Latch.is ∙ ap Latch c.in-DeadHolder.is))
    (held_cleared c.args.core.now.system.state.stop c.args.client.now c.clear_way.new.client c.args.transaction c.args.plan c.in-DeadHolder.txn (Calling c.args.transaction c.args.plan) c.args.core.now.regions.items c.clear_way.new.core.regions.items c.args.core.now.system.state c.clear_way.new.core.system.state refl c.clear_way.result c.clear_way.ensures.clears)

pub returns-in-Damaged-clause-met : goal.returns-in-Damaged-clause-met
returns-in-Damaged-clause-met g c = damaged_met c.args.core.now.system.state.stop c.args.client.now c.turn_back.new.client c.args.transaction c.args.plan c.args.error c.args.region _ _ (c.in-Latch.is ∙ ap Latch c.in-Damaged.is) c.requires.makes.wants c.turn_back.ensures

pub returns-in-System-clause-met : goal.returns-in-System-clause-met
returns-in-System-clause-met g c =
    on_ok_weaker c.refused.result (met c.args.client.now _ c.refused.new.client c.refused.new.client refl refl refl refl refl c.args.error c.args.core.now.system.state.stop c.args.transaction c.args.plan)
    (refused_met c.args.core.now.system.state.stop _ c.refused.new.client c.args.transaction c.args.plan c.args.error c.in-System.cause c.refused.result c.in-System.is c.refused.ensures)
