use Rattle.std.proofs.Common.{◌≡◌}
use Rattle.dali_schedule.specs.Seats
use Rattle.dali_schedule.proofs.order.lowest.Given as goal

abbrev pub invariant-loop-number : goal.invariant-loop-number
invariant-loop-number l = Seats.lowest l.fn.expected l.fn.from ≡ Seats.lowest l.fn.expected l.number
