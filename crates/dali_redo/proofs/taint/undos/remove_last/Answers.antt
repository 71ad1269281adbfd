use Rattle.dali_redo.proofs.taint.undos.remove_last.Goals as goal
use Rattle.dali_redo.proofs.TaintLemmas.Lists.{shortened}

pub returns : goal.returns
returns c = λ u. rw (c.pop.ensures.rest) (shortened c.args.table.now c.args.txn u)
