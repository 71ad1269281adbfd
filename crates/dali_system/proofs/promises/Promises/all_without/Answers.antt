use Rattle.std.proofs.Common.{arith, ap}
use Rattle.dali_system.specs.Promised.{total}
use Rattle.dali_system.proofs.Totals.{part, total_remove}
use Rattle.dali_system.proofs.promises.Promises.all_without.Goals as goal

pub overflow_sub-result : goal.overflow_sub-result
overflow_sub-result c = omega (arith, c.to-to.ensures, c.self.invariant, ap total c.self.view_is, part c.args.self.now c.args.txn)

pub returns : goal.returns
returns c = omega (arith, c.to-to.ensures, c.self.invariant, ap total c.self.view_is, part c.args.self.now c.args.txn, total_remove c.args.self.now c.args.txn)
