use Rattle.dali_redo.proofs.taint.undos.forget.Goals as goal
use Rattle.dali_redo.proofs.TaintLemmas.Lists.{forgotten}

pub returns : goal.returns
returns c = λ u. rw (c.end.ensures) (forgotten c.args.table.now c.args.txn u)
