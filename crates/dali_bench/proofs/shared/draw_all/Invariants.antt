use Rattle.std.proofs.Common.{◌≡◌}
use Rattle.dali_bench.proofs.shared.draw_all.Given as goal

abbrev pub invariant-loop : goal.invariant-loop
invariant-loop l = l.seat.table ≡ l.claims.table
