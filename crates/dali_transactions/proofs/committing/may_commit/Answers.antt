use Rattle.std.proofs.Common.{List, sym, subst, arith}
use Rattle.dali_region.specs.State.{RegionState}
use Rattle.dali_transactions.specs.Guards.{MayEnd}
use Rattle.dali_transactions.proofs.committing.may_commit.Goals as goal

pub returns-clause-is : goal.returns-clause-is
returns-clause-is g c = λ yes. (subst (λ (rs : List RegionState). MayEnd rs c.args.core.now.system.state c.args.txn) c.deref.ensures.value (c.may_end.ensures.is yes), grind (arith, c.end.ensures))

pub returns-clause-always : goal.returns-clause-always
returns-clause-always g c = λ may small. c.may_end.ensures.always (subst (λ (rs : List RegionState). MayEnd rs c.args.core.now.system.state c.args.txn) (sym c.deref.ensures.value) may)
