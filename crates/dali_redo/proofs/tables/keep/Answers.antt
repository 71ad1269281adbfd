use Rattle.std.proofs.Common.{sym, subst, ap, ◌∙◌, IsSome}
use Rattle.std.specs.FinMap.{get}
use Rattle.dali_redo.proofs.TaintLemmas.Lists.{present}
use Rattle.dali_redo.specs.Tables.{AddsAll}
use Rattle.dali_redo.proofs.Copies.{copied, removed_fresh}
use Rattle.dali_redo.proofs.tables.keep.Goals as goal

pub add_all-requires : goal.add_all-requires
add_all-requires c = subst (λ n. IsSome (get n c.args.txn)) (sym c.in_ok-begin.ensures.ok) (present c.args.table.now c.args.txn)

pub returns-in-Ok-clause-ok : goal.returns-in-Ok-clause-ok
returns-in-Ok-clause-ok c = copied c.args.table.now c.add_all.new.table c.args.txn c.args.undos.now (subst (λ m. AddsAll m c.add_all.new.table c.args.txn c.args.undos.now) c.in_ok-begin.ensures.ok c.in-Ok.ensures.ok)

pub returns-in-Err-clause-err : goal.returns-in-Err-clause-err
returns-in-Err-clause-err c = c.end.ensures ∙ removed_fresh c.args.table.now c.add_all.new.table c.args.txn c.requires (λ u h. c.in-Err.ensures.err u h ∙ ap (λ m. get m u) c.in_ok-begin.ensures.ok)
