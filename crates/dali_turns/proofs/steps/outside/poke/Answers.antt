use Rattle.std.proofs.Common.{◌≡◌, true, false, refl, sym, ◌∙◌}
use Rattle.std.proofs.lemmas.Option.{slice_get_past}
use Rattle.dali_turns.proofs.Commands.{lent_there, lent_same, err_false}
use Rattle.dali_turns.proofs.Poking.{pokes_may, silent_goes, pokes_region, pokes_none_goes}
use Rattle.dali_turns.specs.declared.client.State.TheVariants.{Outside}
use Rattle.dali_turns.proofs.Here.{in_no_run}
use Rattle.dali_turns.proofs.Flags.{poked_flags}
use Rattle.dali_turns.proofs.Placed.{places_beside, places_still, at_state}
use Rattle.dali_turns.proofs.steps.outside.poke.Goals as goal

pub returns-in_err-finish-in-Some-clause-goes : goal.returns-in_err-finish-in-Some-clause-goes
returns-in_err-finish-in-Some-clause-goes g c = λ precheck.
    silent_goes g.V.Store precheck c.args.core.now.regions.items _ c.args.core.now.system.state c.args.core.now.vault c.args.client.now c.finish.new.self _
    (err_false c.from_residual.result c.from_residual.ensures.0) (lent_same c.args.core.now.regions.items c.args.region c.in-Some.region.now c.in-Some.ensures.value) c.in_err-finish-in-Some.ensures.err

pub returns-in_err-finish-in-None-clause-goes : goal.returns-in_err-finish-in-None-clause-goes
returns-in_err-finish-in-None-clause-goes g c = λ precheck.
    silent_goes g.V.Store precheck c.args.core.now.regions.items c.args.core.now.regions.items c.args.core.now.system.state c.args.core.now.vault c.args.client.now c.finish-in-None.new.self _
    (err_false c.from_residual-in_err-finish-in-None.result c.from_residual-in_err-finish-in-None.ensures.0) refl c.in_err-finish-in-None.ensures.err

pub returns-in_ok-finish-in-Some-clause-goes : goal.returns-in_ok-finish-in-Some-clause-goes
returns-in_ok-finish-in-Some-clause-goes g c = λ precheck.
    pokes_region g.V.Store precheck c.args.core.now.regions.items c.args.core.now.system.state c.args.core.now.vault c.args.client.now c.finish.new.self c.args.region c.args.word c.args.mask
    c.in-Some.region.now c.poke.new.self c.requires.next (lent_there c.args.core.now.regions.items c.args.region c.in-Some.region.now c.in-Some.ensures.item.3.0 c.in-Some.ensures.value) c.poke.ensures.after c.in_ok-finish-in-Some.ensures.ok

pub returns-in_ok-finish-in-None-clause-goes : goal.returns-in_ok-finish-in-None-clause-goes
returns-in_ok-finish-in-None-clause-goes g c = λ precheck.
    pokes_none_goes g.V.Store precheck c.args.core.now.regions.items c.args.core.now.system.state c.args.core.now.vault c.args.client.now c.finish-in-None.new.self c.args.region c.args.word c.args.mask
    c.requires.next (slice_get_past c.args.core.now.regions.items c.args.region c.in-None.ensures.item.3) c.in_ok-finish-in-None.ensures.ok

pub returns-then-not-is_stray-clause-goes : goal.returns-then-not-is_stray-clause-goes
returns-then-not-is_stray-clause-goes g c = λ precheck.
    in_no_run g.V.Store precheck c.args.client.now c.args.core.now.regions.items c.args.core.now.system.state c.args.core.now.vault _ c.args.client.now c.args.core.now.regions.items c.args.core.now.system.state c.args.core.now.vault Outside
    (λ may. let stray : true ≡ false = sym (c.is_stray.ensures.told (pokes_may g.V.Store c.args.core.now.regions.items c.args.core.now.system.state c.args.core.now.vault c.args.client.now c.args.region c.args.word c.args.mask may c.requires.next)) ∙ c.if-not-is_stray.true in absurd (cc))

pub returns-then-not-is_stray-clause-places : goal.returns-then-not-is_stray-clause-places
returns-then-not-is_stray-clause-places g c = places_still g.V.Store.told Outside c.args.client.now.state c.args.core.now.regions.items c.args.core.now.regions.items c.args.core.now.vault c.args.core.now.vault refl refl (at_state g.V.Store.told _ _ c.args.client.now.state Outside c.args.core.now.vault c.requires.stands tt)

pub returns-in_err-finish-in-Some-clause-places : goal.returns-in_err-finish-in-Some-clause-places
returns-in_err-finish-in-Some-clause-places g c = places_still g.V.Store.told Outside c.finish.new.self.state c.args.core.now.regions.items _ c.args.core.now.vault c.args.core.now.vault (lent_same c.args.core.now.regions.items c.args.region c.in-Some.region.now c.in-Some.ensures.value) refl (at_state g.V.Store.told _ _ c.finish.new.self.state Outside c.args.core.now.vault c.in_err-finish-in-Some.ensures.err.stands tt)

pub returns-in_err-finish-in-None-clause-places : goal.returns-in_err-finish-in-None-clause-places
returns-in_err-finish-in-None-clause-places g c = places_still g.V.Store.told Outside c.finish-in-None.new.self.state c.args.core.now.regions.items c.args.core.now.regions.items c.args.core.now.vault c.args.core.now.vault refl refl (at_state g.V.Store.told _ _ c.finish-in-None.new.self.state Outside c.args.core.now.vault c.in_err-finish-in-None.ensures.err.stands tt)

pub returns-in_ok-finish-in-Some-clause-places : goal.returns-in_ok-finish-in-Some-clause-places
returns-in_ok-finish-in-Some-clause-places g c = places_beside g.V.Store.told Outside c.finish.new.self.state c.args.core.now.regions.items _ c.args.core.now.vault c.args.core.now.vault (poked_flags c.args.core.now.regions.items c.args.region c.args.word c.args.mask c.in-Some.region.now c.poke.new.self (lent_there c.args.core.now.regions.items c.args.region c.in-Some.region.now c.in-Some.ensures.item.3.0 c.in-Some.ensures.value) c.poke.ensures.after) refl (at_state g.V.Store.told _ _ c.finish.new.self.state Outside c.args.core.now.vault c.in_ok-finish-in-Some.ensures.ok.stands tt)

pub returns-in_ok-finish-in-None-clause-places : goal.returns-in_ok-finish-in-None-clause-places
returns-in_ok-finish-in-None-clause-places g c = places_still g.V.Store.told Outside c.finish-in-None.new.self.state c.args.core.now.regions.items c.args.core.now.regions.items c.args.core.now.vault c.args.core.now.vault refl refl (at_state g.V.Store.told _ _ c.finish-in-None.new.self.state Outside c.args.core.now.vault c.in_ok-finish-in-None.ensures.ok.stands tt)
