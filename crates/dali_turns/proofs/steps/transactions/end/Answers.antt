use Rattle.std.proofs.Common.{OnOk, refl, subst}
use Rattle.std.proofs.lemmas.Result.{on_ok_weaker}
use Rattle.dali_transcripts.specs.declared.clients.line.Line.{Line}
use Rattle.dali_turns.specs.declared.client.State.TheVariants.{Outside, Within}
use Rattle.dali_turns.specs.Clients.{Finishes}
use Rattle.dali_turns.proofs.Commands.{err_false, unsaid_goes}
use Rattle.dali_turns.proofs.CloseSteps.{stays_by, end_closes, end_half_goes}
use Rattle.dali_turns.proofs.Placed.{places_beside, at_state}
use Rattle.dali_turns.proofs.Meeting.{on_no_ok}
use Rattle.dali_turns.proofs.AtOnce.{open_told}
use Rattle.dali_turns.proofs.steps.transactions.end.Goals as goal

pub returns-in_err-left-clause-goes : goal.returns-in_err-left-clause-goes
returns-in_err-left-clause-goes g c = λ precheck.
    unsaid_goes g.V.Store precheck (Within c.args.transaction) c.args.client.now c.args.client.now c.args.core.now.regions.items c.take_back.new.core.regions.items c.args.core.now.system.state c.take_back.new.core.system.state c.args.core.now.vault c.take_back.new.core.vault _ (err_false c.from_residual.result c.from_residual.ensures.0)
    (end_half_goes g.V.Store precheck c.args.transaction c.args.client.now c.args.client.now c.args.core.now.regions.items c.args.core.now.system.state c.args.core.now.vault c.take_back.new.core.regions.items c.take_back.new.core.system.state c.take_back.new.core.vault c.take_back.ensures.vault c.requires.next c.in_err-left.ensures.half.1 refl)

pub returns-clause-goes : goal.returns-clause-goes
returns-clause-goes g c = λ precheck.
    end_closes g.V.Store precheck c.args.transaction c.args.client.now c.close.new.client c.args.core.now.regions.items c.args.core.now.system.state c.args.core.now.vault c.take_back.new.core.regions.items c.take_back.new.core.system.state c.take_back.new.core.vault c.take_back.ensures.vault c.requires.next c.in_ok-left.ensures.away
    (stays_by c.take_back.new.core c.args.core.now (λ k. k.regions.items) (λ k. k.system.state) c.args.core.now.system.state.stop c.take_back.ensures.stopped) c.in_ok-left.left c.in_ok-left.ensures.known c.close.result
    (subst (λ (l : Line). OnOk c.close.result (Finishes c.args.client.now Outside l c.close.new.client)) c.end_line.ensures c.close.ensures.ok) c.close.ensures.err

pub returns-in_err-left-clause-places : goal.returns-in_err-left-clause-places
returns-in_err-left-clause-places g c = places_beside g.V.Store.told (Within c.args.transaction) c.args.client.now.state c.args.core.now.regions.items c.take_back.new.core.regions.items c.args.core.now.vault c.take_back.new.core.vault c.take_back.ensures.flags c.take_back.ensures.vault (at_state g.V.Store.told _ _ c.args.client.now.state Outside c.take_back.new.core.vault c.requires.stands tt)

pub returns-clause-places : goal.returns-clause-places
returns-clause-places g c = places_beside g.V.Store.told (Within c.args.transaction) c.close.new.client.state c.args.core.now.regions.items c.take_back.new.core.regions.items c.args.core.now.vault c.take_back.new.core.vault c.take_back.ensures.flags c.take_back.ensures.vault (at_state g.V.Store.told _ _ c.close.new.client.state Outside c.take_back.new.core.vault c.close.ensures.stands tt)

pub returns-in_err-left-clause-refuses : goal.returns-in_err-left-clause-refuses
returns-in_err-left-clause-refuses g c = λ up. on_no_ok _ c.from_residual.result c.from_residual.ensures.0

pub returns-clause-refuses : goal.returns-clause-refuses
returns-clause-refuses g c = λ up.
    on_ok_weaker c.close.result (λ said. open_told c.args.core.now.system.state c.args.client.now c.close.new.client c.in_ok-left.left c.in_ok-left.ensures.known said up) (subst (λ (l : Line). OnOk c.close.result (Finishes c.args.client.now Outside l c.close.new.client)) c.end_line.ensures c.close.ensures.ok)
