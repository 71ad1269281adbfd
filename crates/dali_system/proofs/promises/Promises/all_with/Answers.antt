use Rattle.std.proofs.Common.{arith, rules, ap, ◌≡◌, ◌+◌, ◌-◌}
use Rattle.dali_system.specs.Promised.{total}
use Rattle.dali_system.proofs.Totals.{part, total_insert}
use Rattle.dali_system.proofs.promises.Promises.all_with.Goals as goal

pub overflow_sub-self-inside : goal.overflow_sub-self-inside
overflow_sub-self-inside c = omega (arith, c.to-to.ensures, c.self.invariant, ap total c.self.view_is, part c.args.self.now c.args.txn)

pub returns-in-Some : goal.returns-in-Some
returns-in-Some c =
    let sum : c.in-Some.all ≡ c.self.inside.all - c.to-to.result + c.args.bytes = search rules in
    omega (arith, sum, c.to-to.ensures, c.self.invariant, ap total c.self.view_is, part c.args.self.now c.args.txn, total_insert c.args.self.now c.args.txn c.args.bytes)
