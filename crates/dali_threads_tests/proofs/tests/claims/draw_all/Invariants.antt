use Rattle.std.proofs.Common.{◌≡◌}
use Rattle.dali_threads_tests.proofs.tests.claims.draw_all.Given as goal

abbrev pub invariant-loop : goal.invariant-loop
invariant-loop g l = l.seat.table ≡ l.claims.table
