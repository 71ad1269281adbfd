use Rattle.std.proofs.Common.{◌+◌, ◌<◌, [], ◌∷◌, refl, subst, arith}
use Rattle.dali_transcripts.specs.declared.clients.line.Line.{Line}
use Rattle.dali_transcripts.specs.declared.clients.line.Line.TheVariants.{Busy}
use Rattle.dali_turns.specs.declared.client.State.TheVariants.{Outside, Within, Waiting}
use Rattle.dali_turns.specs.Ends.{SaysAlso}
use Rattle.dali_turns.proofs.Commands.{err_false}
use Rattle.dali_turns.proofs.CloseSteps.{unsaid_yield, way_goes, way_silent_goes, up_goes, up_silent_goes, yield_half_goes}
use Rattle.dali_turns.proofs.Here.{yields_in_no_run}
use Rattle.dali_turns.proofs.Placed.{places_beside, places_still, at_state}
use Rattle.dali_turns.proofs.steps.transactions.give_way.Goals as goal

pub returns-in_err-take_back-clause-goes : goal.returns-in_err-take_back-clause-goes
returns-in_err-take_back-clause-goes g c precheck =
    unsaid_yield g.V.Store precheck c.args.transaction c.args.holder c.args.client.now c.args.client.now c.args.core.now.regions.items c.take_back.new.core.regions.items c.args.core.now.system.state c.take_back.new.core.system.state c.args.core.now.vault c.take_back.new.core.vault _ (err_false c.from_residual.result c.from_residual.ensures.0)
    (yield_half_goes g.V.Store precheck c.args.transaction c.args.client.now c.args.client.now c.args.core.now.regions.items c.args.core.now.system.state c.args.core.now.vault c.take_back.new.core.regions.items c.take_back.new.core.system.state c.take_back.new.core.vault c.take_back.ensures.vault c.args.holder c.in_err-take_back.ensures.half.1 refl)

pub returns-in_err-wait_for-clause-goes : goal.returns-in_err-wait_for-clause-goes
returns-in_err-wait_for-clause-goes g c precheck =
    let few : c.args.transaction.tries + 1 < 1000 = grind (arith, c.if-tries-lt-MAX_TRIES.true) in
    unsaid_yield g.V.Store precheck c.args.transaction c.args.holder c.args.client.now c.wait_for.new.client c.args.core.now.regions.items c.take_back.new.core.regions.items c.args.core.now.system.state c.take_back.new.core.system.state c.args.core.now.vault c.take_back.new.core.vault _ (err_false c.from_residual-in_err-wait_for.result c.from_residual-in_err-wait_for.ensures.0)
    (way_silent_goes g.V.Store precheck c.args.transaction c.args.client.now c.wait_for.new.client c.args.core.now.regions.items c.args.core.now.system.state c.args.core.now.vault c.take_back.new.core.regions.items c.take_back.new.core.system.state c.take_back.new.core.vault c.take_back.ensures.vault c.args.holder c.in_ok-take_back.ensures.away c.in_ok-take_back.field-0 c.in_ok-take_back.ensures.known few c.in_err-wait_for.ensures.err)

pub returns-then-tries-lt-MAX_TRIES-clause-goes : goal.returns-then-tries-lt-MAX_TRIES-clause-goes
returns-then-tries-lt-MAX_TRIES-clause-goes g c precheck =
    let few : c.args.transaction.tries + 1 < 1000 = grind (arith, c.if-tries-lt-MAX_TRIES.true) in
    way_goes g.V.Store precheck c.args.transaction c.args.client.now c.wait_for.new.client c.args.core.now.regions.items c.args.core.now.system.state c.args.core.now.vault c.take_back.new.core.regions.items c.take_back.new.core.system.state c.take_back.new.core.vault c.take_back.ensures.vault c.args.holder c.in_ok-take_back.ensures.away c.in_ok-take_back.field-0 c.in_ok-take_back.ensures.known few
    (subst (λ (l : Line). SaysAlso c.args.client.now c.args.transaction.commands.now (Waiting (c.args.transaction.tries + 1) c.args.holder) (l ∷ []) c.wait_for.new.client) c.end_line-line.ensures c.in_ok-wait_for.ensures.ok)

pub returns-in_err-leave-clause-goes : goal.returns-in_err-leave-clause-goes
returns-in_err-leave-clause-goes g c precheck =
    let many : c.args.transaction.tries + 1 < 1000 → ⊥ = grind (arith, c.if-tries-lt-MAX_TRIES.false) in
    unsaid_yield g.V.Store precheck c.args.transaction c.args.holder c.args.client.now c.leave.new.client c.args.core.now.regions.items c.take_back.new.core.regions.items c.args.core.now.system.state c.take_back.new.core.system.state c.args.core.now.vault c.take_back.new.core.vault _ (err_false c.from_residual-in_err-leave.result c.from_residual-in_err-leave.ensures.0)
    (up_silent_goes g.V.Store precheck c.args.transaction c.args.client.now c.leave.new.client c.args.core.now.regions.items c.args.core.now.system.state c.args.core.now.vault c.take_back.new.core.regions.items c.take_back.new.core.system.state c.take_back.new.core.vault c.take_back.ensures.vault c.args.holder c.in_ok-take_back.ensures.away c.in_ok-take_back.field-0 c.in_ok-take_back.ensures.known many c.in_err-leave.ensures.err)

pub returns-clause-goes : goal.returns-clause-goes
returns-clause-goes g c precheck =
    let many : c.args.transaction.tries + 1 < 1000 → ⊥ = grind (arith, c.if-tries-lt-MAX_TRIES.false) in
    up_goes g.V.Store precheck c.args.transaction c.args.client.now c.leave.new.client c.args.core.now.regions.items c.args.core.now.system.state c.args.core.now.vault c.take_back.new.core.regions.items c.take_back.new.core.system.state c.take_back.new.core.vault c.take_back.ensures.vault c.args.holder c.in_ok-take_back.ensures.away c.in_ok-take_back.field-0 c.in_ok-take_back.ensures.known many c.in_ok-leave.ensures.rest
    (subst (λ (l : Line). SaysAlso c.args.client.now c.leave.new.client.rest.now Outside (Busy c.args.holder ∷ l ∷ []) c.leave.new.client) c.end_line-line.ensures c.in_ok-leave.ensures.ok)

pub returns-then-transaction-ge-MAX_TRIES-clause-goes : goal.returns-then-transaction-ge-MAX_TRIES-clause-goes
returns-then-transaction-ge-MAX_TRIES-clause-goes g c precheck =
    yields_in_no_run g.V.Store precheck c.args.client.now c.args.core.now.regions.items c.args.core.now.system.state c.args.core.now.vault _ c.args.client.now c.args.core.now.regions.items c.args.core.now.system.state c.args.core.now.vault c.args.transaction c.args.holder
    (λ may. let few : c.args.transaction.tries < 1000 = may.fits.again.few in let many : c.args.transaction.tries < 1000 → ⊥ = grind (arith, c.if-transaction-ge-MAX_TRIES.true) in many few)

pub returns-then-transaction-ge-MAX_TRIES-clause-places : goal.returns-then-transaction-ge-MAX_TRIES-clause-places
returns-then-transaction-ge-MAX_TRIES-clause-places g c = places_still g.V.Store.told (Within c.args.transaction) c.args.client.now.state c.args.core.now.regions.items c.args.core.now.regions.items c.args.core.now.vault c.args.core.now.vault refl refl (at_state g.V.Store.told _ _ c.args.client.now.state Outside c.args.core.now.vault c.requires.stands tt)

pub returns-in_err-take_back-clause-places : goal.returns-in_err-take_back-clause-places
returns-in_err-take_back-clause-places g c = places_beside g.V.Store.told (Within c.args.transaction) c.args.client.now.state c.args.core.now.regions.items c.take_back.new.core.regions.items c.args.core.now.vault c.take_back.new.core.vault c.take_back.ensures.flags c.take_back.ensures.vault (at_state g.V.Store.told _ _ c.args.client.now.state Outside c.take_back.new.core.vault c.requires.stands tt)

pub returns-in_err-wait_for-clause-places : goal.returns-in_err-wait_for-clause-places
returns-in_err-wait_for-clause-places g c = places_beside g.V.Store.told (Within c.args.transaction) c.wait_for.new.client.state c.args.core.now.regions.items c.take_back.new.core.regions.items c.args.core.now.vault c.take_back.new.core.vault c.take_back.ensures.flags c.take_back.ensures.vault (at_state g.V.Store.told _ _ c.wait_for.new.client.state (Waiting (c.args.transaction.tries + 1) c.args.holder) c.take_back.new.core.vault c.wait_for.ensures.stands tt)

pub returns-then-tries-lt-MAX_TRIES-clause-places : goal.returns-then-tries-lt-MAX_TRIES-clause-places
returns-then-tries-lt-MAX_TRIES-clause-places g c = places_beside g.V.Store.told (Within c.args.transaction) c.wait_for.new.client.state c.args.core.now.regions.items c.take_back.new.core.regions.items c.args.core.now.vault c.take_back.new.core.vault c.take_back.ensures.flags c.take_back.ensures.vault (at_state g.V.Store.told _ _ c.wait_for.new.client.state (Waiting (c.args.transaction.tries + 1) c.args.holder) c.take_back.new.core.vault c.wait_for.ensures.stands tt)

pub returns-in_err-leave-clause-places : goal.returns-in_err-leave-clause-places
returns-in_err-leave-clause-places g c = places_beside g.V.Store.told (Within c.args.transaction) c.leave.new.client.state c.args.core.now.regions.items c.take_back.new.core.regions.items c.args.core.now.vault c.take_back.new.core.vault c.take_back.ensures.flags c.take_back.ensures.vault (at_state g.V.Store.told _ _ c.leave.new.client.state Outside c.take_back.new.core.vault c.leave.ensures.stands tt)

pub returns-clause-places : goal.returns-clause-places
returns-clause-places g c = places_beside g.V.Store.told (Within c.args.transaction) c.leave.new.client.state c.args.core.now.regions.items c.take_back.new.core.regions.items c.args.core.now.vault c.take_back.new.core.vault c.take_back.ensures.flags c.take_back.ensures.vault (at_state g.V.Store.told _ _ c.leave.new.client.state Outside c.take_back.new.core.vault c.leave.ensures.stands tt)
