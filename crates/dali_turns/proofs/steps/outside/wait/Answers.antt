use Rattle.std.proofs.Common.{◌≡◌, true, false, is_some, rules, refl, sym, inl, inr, ◌∙◌}
use Rattle.std.specs.Prelude.{IsSome}
use Rattle.dali_turns.specs.declared.client.State.TheVariants.{Outside, Waiting}
use Rattle.dali_turns.proofs.Here.{in_no_run}
use Rattle.dali_turns.proofs.Leaving.{waits_goes}
use Rattle.dali_turns.proofs.Stepping.{waits_begin}
use Rattle.dali_turns.proofs.Placed.{places_still, at_state}
use Rattle.dali_turns.proofs.Meeting.{on_no_ok}
use Rattle.dali_turns.proofs.AtOnce.{not_yet}
use Rattle.dali_turns.proofs.steps.outside.wait.Goals as goal

pub begin-requires-clause-next : goal.begin-requires-clause-next
begin-requires-clause-next g c = c.begins_next.ensures.begins c.if-not-begins_next.false

pub begin-requires-then-is_some-clause-next : goal.begin-requires-then-is_some-clause-next
begin-requires-then-is_some-clause-next g c = c.begins_next.ensures.begins c.if-not-begins_next.false

pub returns-then-not-begins_next-clause-goes : goal.returns-then-not-begins_next-clause-goes
returns-then-not-begins_next-clause-goes g c = λ precheck.
    in_no_run g.V.Store precheck c.args.client.now c.args.core.now.regions.items c.args.core.now.system.state c.args.core.now.vault _ c.args.client.now c.args.core.now.regions.items c.args.core.now.system.state c.args.core.now.vault (Waiting c.args.tries c.args.holder)
    (λ may. let there : true ≡ false = sym (c.begins_next.ensures.told (waits_begin g.V.Store c.args.core.now.regions.items c.args.core.now.system.state c.args.core.now.vault c.args.client.now c.args.tries c.args.holder may)) ∙ c.if-not-begins_next.true in absurd (cc))

pub returns-then-has_gone-clause-goes : goal.returns-then-has_gone-clause-goes
returns-then-has_gone-clause-goes g c = λ precheck. c.begin.ensures.goes precheck (Waiting c.args.tries c.args.holder) (refl, inl (c.has_gone.ensures.is c.if-has_gone.true))

pub returns-then-is_some-clause-goes : goal.returns-then-is_some-clause-goes
returns-then-is_some-clause-goes g c =
    let stopped : IsSome c.args.core.now.system.state.stop = search rules in
    λ precheck. c.begin-then-is_some.ensures.goes precheck (Waiting c.args.tries c.args.holder) (refl, inr stopped)

pub returns-clause-goes : goal.returns-clause-goes
returns-clause-goes g c = λ precheck.
    waits_goes g.V.Store precheck c.args.core.now.regions.items c.args.core.now.system.state c.args.core.now.vault c.args.client.now _ c.args.tries c.args.holder
    (record { rest = refl; stands = refl; points = refl; transcript = refl })

pub returns-then-has_gone-clause-places : goal.returns-then-has_gone-clause-places
returns-then-has_gone-clause-places g c = c.begin.ensures.places (Waiting c.args.tries c.args.holder)

pub returns-then-is_some-clause-places : goal.returns-then-is_some-clause-places
returns-then-is_some-clause-places g c = c.begin-then-is_some.ensures.places (Waiting c.args.tries c.args.holder)

pub returns-then-not-begins_next-clause-places : goal.returns-then-not-begins_next-clause-places
returns-then-not-begins_next-clause-places g c = places_still g.V.Store.told (Waiting c.args.tries c.args.holder) c.args.client.now.state c.args.core.now.regions.items c.args.core.now.regions.items c.args.core.now.vault c.args.core.now.vault refl refl (at_state g.V.Store.told _ _ c.args.client.now.state Outside c.args.core.now.vault c.requires.stands tt)

pub returns-clause-places : goal.returns-clause-places
returns-clause-places g c = places_still g.V.Store.told (Waiting c.args.tries c.args.holder) _ c.args.core.now.regions.items c.args.core.now.regions.items c.args.core.now.vault c.args.core.now.vault refl refl tt

pub returns-then-not-begins_next-clause-refuses : goal.returns-then-not-begins_next-clause-refuses
returns-then-not-begins_next-clause-refuses g c = λ precheck may next why is. on_no_ok _ _ c.no_run.ensures

pub returns-then-has_gone-clause-refuses : goal.returns-then-has_gone-clause-refuses
returns-then-has_gone-clause-refuses g c = λ precheck may next. c.begin.ensures.refuses

pub returns-then-is_some-clause-refuses : goal.returns-then-is_some-clause-refuses
returns-then-is_some-clause-refuses g c = λ precheck may next. c.begin-then-is_some.ensures.refuses

pub returns-clause-refuses : goal.returns-clause-refuses
returns-clause-refuses g c = λ precheck may next.
    let runs : is_some c.args.core.now.system.state.stop ≡ false = search rules in
    absurd (not_yet c.args.core.now.system.state c.args.holder (c.has_gone.ensures.never c.if-has_gone.false) runs may)
