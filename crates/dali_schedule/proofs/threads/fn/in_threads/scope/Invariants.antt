use Rattle.std.proofs.Common.{◌≤◌}
use Rattle.dali_schedule.proofs.threads.fn.in_threads.scope.Given as goal

abbrev pub invariant-loop-place : goal.invariant-loop-place
invariant-loop-place g l = l.run_here ≤ l.place
