use Rattle.std.proofs.Common.{◌≡◌, drop}
use Rattle.dali_schedule.specs.Seats
use Rattle.dali_schedule.proofs.order.ranked.Given as goal

abbrev pub invariant-loop-number : goal.invariant-loop-number
invariant-loop-number l = Seats.ranked l.fn.expected l.fn.rank ≡ Seats.ranked_from l.number (drop l.number l.fn.expected) l.left
