use Rattle.std.proofs.Common.{refl, arith}
use Rattle.dali_claims.proofs.claim.Claims.next.Goals as goal

pub draw_one-number-requires-clause-board : goal.draw_one-number-requires-clause-board
draw_one-number-requires-clause-board c = let i = c.self.invariant in (i.0, refl, omega (arith, i.1, i.3), i.2)
