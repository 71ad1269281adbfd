use Rattle.std.proofs.Common.{take, subst, sym, ◌+◌}
use Rattle.dali_turns.proofs.Commands.{lent_there}
use Rattle.dali_round.specs.Played.{AreNew}
use Rattle.dali_round.proofs.Made.{one_made, all_made}
use Rattle.dali_round.proofs.rounds.clients_of.Goals as goal

pub loop-block-preserved : goal.loop-block-preserved
loop-block-preserved c =
    let b = c.block-item.result in
    subst (AreNew (take (c.loop-block.block-index + 1) c.args.blocks.now)) (sym c.in_ok-push.ensures.items)
    (one_made c.args.blocks.now c.loop-block.clients.items c.loop-block.block-index b c.new.result c.loop-block.invariant (lent_there c.args.blocks.now c.loop-block.block-index b c.loop-block-test.true c.block-item.is)
    (record { rest = c.new.ensures.rest; state = c.new.ensures.state; transcript = c.new.ensures.transcript }))

pub returns-clause-clients : goal.returns-clause-clients
returns-clause-clients c = all_made c.args.blocks.now c.loop-block.clients.items c.loop-block.block-index c.loop-block.invariant c.loop-block-test.false
