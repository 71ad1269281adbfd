use Rattle.std.proofs.Common.{◌+◌, ap, subst, sym, arith}
use Rattle.dali_transcripts.specs.declared.clients.command.Block.{Block}
use Rattle.dali_turns.proofs.Commands.{lent_there}
use Rattle.dali_round.proofs.Orders.{AreListed, none_listed, one_listed, other_listed, number_listed, all_listed}
use Rattle.dali_round.proofs.rounds.order_of.Goals as goal
use Rattle.dali_round.proofs.rounds.order_of.Goals.{then-blocks-place+in_ok-push, else-blocks-place}

pub loop-number-init : goal.loop-number-init
loop-number-init c = subst (AreListed 1 0 c.args.blocks.now) (sym c.in_ok-order.ensures.items) (none_listed c.args.blocks.now c.requires)

pub loop-place-preserved : goal.loop-place-preserved
loop-place-preserved c =
    let number = c.loop-number.number in
    let place = c.loop-place.place in
    elim c.if-blocks-place.branch [
      | then-blocks-place+in_ok-push w ↦ rw w.order-is (subst (AreListed number (place + 1) c.args.blocks.now) (sym w.in_ok-push.ensures.items) (one_listed c.args.blocks.now c.loop-place.order.items number place (omega (arith, c.loop-place-test.true)) c.loop-place.invariant))
      | else-blocks-place w ↦
          rw w.order-is
          (other_listed c.args.blocks.now c.loop-place.order.items number place c.index-blocks-place.result (lent_there c.args.blocks.now place c.index-blocks-place.result (omega (arith, c.loop-place-test.true)) c.index-blocks-place.is)
          (λ e. absurd (omega (arith, e, ap (λ (x : Block). x.client) c.index-blocks-place.is, w.if-blocks-place.false))) c.loop-place.invariant)
    ]

pub loop-number-preserved : goal.loop-number-preserved
loop-number-preserved c = number_listed c.args.blocks.now c.loop-place.order.items c.loop-number.number c.loop-place.place (omega (arith, c.loop-place-test.false)) c.loop-place.invariant

pub returns : goal.returns
returns c = all_listed c.args.blocks.now c.loop-number.order.items c.loop-number.number (omega (arith, c.loop-number-test.false)) c.requires c.loop-number.invariant
