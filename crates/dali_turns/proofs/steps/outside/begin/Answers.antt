use Rattle.std.proofs.Common.{refl, ap}
use Rattle.dali_system.specs.Served.{Served}
use Rattle.dali_system.specs.Refused.{refusal}
use Rattle.dali_turns.proofs.Commands.{err_false}
use Rattle.dali_turns.proofs.Beginning.{begun_goes, begun_silently, unsaid_goes, refused_here, refused_is}
use Rattle.dali_turns.specs.declared.client.State.TheVariants.{Outside, LeftOut, Within}
use Rattle.dali_turns.proofs.Placed.{places_still, at_state}
use Rattle.dali_transcripts.specs.declared.clients.command.Command.TheVariants.{Begin as IsBegin}
use Rattle.dali_turns.proofs.Meeting.{on_no_ok}
use Rattle.dali_turns.proofs.AtOnce.{never_refused, says_why}
use Rattle.dali_turns.proofs.steps.outside.begin.Goals as goal

pub returns-in_ok-finish-in-Ok-clause-goes : goal.returns-in_ok-finish-in-Ok-clause-goes
returns-in_ok-finish-in-Ok-clause-goes g c = λ precheck state from_here.
    begun_goes g.V.Store precheck c.args.core.now.regions.items c.args.core.now.system.state c.args.core.now.vault c.args.client.now c.finish.new.self c.requires.next c.args.tries _ c.in-Ok.ensures.room c.in-Ok.ensures.number.0 refl refl refl
    c.begin.new.self.state (ap (λ (z : Served). z.state) c.in-Ok.ensures.ok) state from_here c.in_ok-finish-in-Ok.ensures.ok

pub returns-in_err-finish-in-Ok-clause-goes : goal.returns-in_err-finish-in-Ok-clause-goes
returns-in_err-finish-in-Ok-clause-goes g c = λ precheck state from_here.
    begun_silently g.V.Store precheck c.args.core.now.regions.items c.args.core.now.system.state c.args.core.now.vault c.args.client.now c.finish.new.self c.requires.next c.args.tries _ c.in-Ok.ensures.room c.in-Ok.ensures.number.0 refl refl refl
    c.begin.new.self.state _ (ap (λ (z : Served). z.state) c.in-Ok.ensures.ok) (err_false c.from_residual.result c.from_residual.ensures.0) state from_here c.in_err-finish-in-Ok.ensures.err

pub returns-in_err-why-in-Err-clause-goes : goal.returns-in_err-why-in-Err-clause-goes
returns-in_err-why-in-Err-clause-goes g c = λ precheck state from_here.
    unsaid_goes g.V.Store precheck c.args.core.now.regions.items c.args.core.now.system.state c.args.core.now.vault c.args.client.now c.args.client.now c.requires.next c.args.tries
    c.begin.new.self.state _ (ap (λ (z : Served). z.state) c.in-Err.ensures.err) (err_false c.from_residual-in_err-why-in-Err.result c.from_residual-in_err-why-in-Err.ensures.0) state from_here refl

pub returns-in_err-finish-in-Err-clause-goes : goal.returns-in_err-finish-in-Err-clause-goes
returns-in_err-finish-in-Err-clause-goes g c = λ precheck state from_here.
    unsaid_goes g.V.Store precheck c.args.core.now.regions.items c.args.core.now.system.state c.args.core.now.vault c.args.client.now c.finish-in-Err.new.self c.requires.next c.args.tries
    c.begin.new.self.state _ (ap (λ (z : Served). z.state) c.in-Err.ensures.err) (err_false c.from_residual-in_err-finish-in-Err.result c.from_residual-in_err-finish-in-Err.ensures.0) state from_here c.in_err-finish-in-Err.ensures.err.transcript

pub returns-in_ok-finish-in-Err-clause-goes : goal.returns-in_ok-finish-in-Err-clause-goes
returns-in_ok-finish-in-Err-clause-goes g c = λ precheck state from_here.
    refused_here g.V.Store precheck c.args.core.now.regions.items c.args.core.now.system.state c.args.core.now.vault c.args.client.now c.finish-in-Err.new.self c.requires.next c.args.tries
    c.begin.new.self.state (ap (λ (z : Served). z.state) c.in-Err.ensures.err) state c.in-Err.error c.in_ok-why-in-Err.why from_here
    (refused_is (refusal c.args.core.now.system.state 9) c.begin.result c.in-Err.error c.in_ok-why-in-Err.why c.in-Err.is c.begin.ensures.refused c.begin.ensures.memory c.in_ok-why-in-Err.ensures.given) c.in_ok-why-in-Err.ensures.given c.in_ok-finish-in-Err.ensures.ok

pub returns-in_ok-finish-in-Ok-clause-places : goal.returns-in_ok-finish-in-Ok-clause-places
returns-in_ok-finish-in-Ok-clause-places g c state = places_still g.V.Store.told state c.finish.new.self.state c.args.core.now.regions.items c.args.core.now.regions.items c.args.core.now.vault c.args.core.now.vault refl refl (at_state g.V.Store.told _ _ c.finish.new.self.state (Within _) c.args.core.now.vault c.in_ok-finish-in-Ok.ensures.ok.stands tt)

pub returns-in_err-finish-in-Ok-clause-places : goal.returns-in_err-finish-in-Ok-clause-places
returns-in_err-finish-in-Ok-clause-places g c state = places_still g.V.Store.told state c.finish.new.self.state c.args.core.now.regions.items c.args.core.now.regions.items c.args.core.now.vault c.args.core.now.vault refl refl (at_state g.V.Store.told _ _ c.finish.new.self.state (Within _) c.args.core.now.vault c.in_err-finish-in-Ok.ensures.err.stands tt)

pub returns-in_err-why-in-Err-clause-places : goal.returns-in_err-why-in-Err-clause-places
returns-in_err-why-in-Err-clause-places g c state = places_still g.V.Store.told state c.args.client.now.state c.args.core.now.regions.items c.args.core.now.regions.items c.args.core.now.vault c.args.core.now.vault refl refl (at_state g.V.Store.told _ _ c.args.client.now.state Outside c.args.core.now.vault c.requires.stands tt)

pub returns-in_err-finish-in-Err-clause-places : goal.returns-in_err-finish-in-Err-clause-places
returns-in_err-finish-in-Err-clause-places g c state = places_still g.V.Store.told state c.finish-in-Err.new.self.state c.args.core.now.regions.items c.args.core.now.regions.items c.args.core.now.vault c.args.core.now.vault refl refl (at_state g.V.Store.told _ _ c.finish-in-Err.new.self.state LeftOut c.args.core.now.vault c.in_err-finish-in-Err.ensures.err.stands tt)

pub returns-in_ok-finish-in-Err-clause-places : goal.returns-in_ok-finish-in-Err-clause-places
returns-in_ok-finish-in-Err-clause-places g c state = places_still g.V.Store.told state c.finish-in-Err.new.self.state c.args.core.now.regions.items c.args.core.now.regions.items c.args.core.now.vault c.args.core.now.vault refl refl (at_state g.V.Store.told _ _ c.finish-in-Err.new.self.state LeftOut c.args.core.now.vault c.in_ok-finish-in-Err.ensures.ok.stands tt)

pub returns-in_ok-finish-in-Ok-clause-refuses : goal.returns-in_ok-finish-in-Ok-clause-refuses
returns-in_ok-finish-in-Ok-clause-refuses g c = λ why is. never_refused (refusal c.args.core.now.system.state 9) c.begin.result _ why c.in-Ok.is c.begin.ensures.refused is

pub returns-in_err-finish-in-Ok-clause-refuses : goal.returns-in_err-finish-in-Ok-clause-refuses
returns-in_err-finish-in-Ok-clause-refuses g c = λ why is. on_no_ok _ c.from_residual.result c.from_residual.ensures.0

pub returns-in_err-why-in-Err-clause-refuses : goal.returns-in_err-why-in-Err-clause-refuses
returns-in_err-why-in-Err-clause-refuses g c = λ why is. on_no_ok _ c.from_residual-in_err-why-in-Err.result c.from_residual-in_err-why-in-Err.ensures.0

pub returns-in_err-finish-in-Err-clause-refuses : goal.returns-in_err-finish-in-Err-clause-refuses
returns-in_err-finish-in-Err-clause-refuses g c = λ why is. on_no_ok _ c.from_residual-in_err-finish-in-Err.result c.from_residual-in_err-finish-in-Err.ensures.0

pub returns-in_ok-finish-in-Err-clause-refuses : goal.returns-in_ok-finish-in-Err-clause-refuses
returns-in_ok-finish-in-Err-clause-refuses g c = λ why is.
    says_why c.args.client.now c.finish-in-Err.new.self LeftOut IsBegin (refusal c.args.core.now.system.state 9) c.begin.result c.in-Err.error c.in_ok-why-in-Err.why why c.in-Err.is c.begin.ensures.refused c.in_ok-why-in-Err.ensures.given c.in_ok-finish-in-Err.ensures.ok is
