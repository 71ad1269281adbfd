use Rattle.dali_round.proofs.Orders.{AreListed}
use Rattle.dali_round.proofs.rounds.order_of.Given as goal

abbrev pub invariant-loop-number : goal.invariant-loop-number
invariant-loop-number l = AreListed l.number 0 l.blocks l.order.items

abbrev pub invariant-loop-place : goal.invariant-loop-place
invariant-loop-place l = AreListed l.number l.place l.blocks l.order.items
