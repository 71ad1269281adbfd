use Rattle.std.proofs.Common.{◌≡◌, ◌≤◌, ◌+◌, drop}
use Rattle.dali_schedule.specs.Seats
use Rattle.dali_schedule.proofs.order.count.Given as goal

abbrev pub invariant-loop-number : goal.invariant-loop-number
invariant-loop-number l = (Seats.count l.fn.expected ≡ l.count + Seats.count (drop l.number l.fn.expected)) × (l.count ≤ l.number)
