use Rattle.std.proofs.Common.{◌≡◌, None, rules, subst}
use Rattle.std.specs.FinMap.{get}
use Rattle.dali_redo.specs.Tables.{IsCopied}
use Rattle.dali_redo.proofs.Copies.{held_new}
use Rattle.dali_redo.proofs.tables.hold_of.Goals as goal

pub returns-clause-ok : goal.returns-clause-ok
returns-clause-ok c =
    let none : get c.args.left.now c.args.txn ≡ None = search rules in
    held_new c.args.left.now c.args.table.now c.keep.new.table c.args.txn none (subst (λ us. IsCopied c.args.left.now c.keep.new.table c.args.txn us) c.undos_at_work.ensures c.in_ok-keep.ensures.ok)
