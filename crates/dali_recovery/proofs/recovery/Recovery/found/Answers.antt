use Rattle.dali_recovery.proofs.Epochs.{finds_both}
use Rattle.dali_recovery.proofs.Ordered.{at_work_ascend}
use Rattle.dali_recovery.proofs.recovery.Recovery.found.Goals as goal

pub returns-clause-ok : goal.returns-clause-ok
returns-clause-ok c = finds_both c.args.self.now c.in_ok-at_work.at_work.items c.in_ok-gone.gone.items c.in_ok-at_work.ensures c.in_ok-gone.ensures.ok

pub returns-clause-ordered : goal.returns-clause-ordered
returns-clause-ordered c = (at_work_ascend c.args.self.now.redo.table c.in_ok-at_work.at_work.items c.in_ok-at_work.ensures, c.in_ok-gone.ensures.ordered)
