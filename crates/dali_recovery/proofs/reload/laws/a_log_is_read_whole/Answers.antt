use Rattle.dali_recovery.proofs.ReloadLemmas.Whole.{reads_history, reads_legal}
use Rattle.dali_recovery.proofs.reload.laws.a_log_is_read_whole.Goals as goal

pub returns-clause-legal : goal.returns-clause-legal
returns-clause-legal c = reads_legal

pub returns-clause-histories : goal.returns-clause-histories
returns-clause-histories c = reads_history
