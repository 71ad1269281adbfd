use Rattle.dali_restart.proofs.BadOnce.{bad_once}
use Rattle.dali_restart.proofs.Once.{reads_once}
use Rattle.dali_restart.proofs.laws.a_restart_has_one_answer.Goals as goal

pub returns-clause-reads : goal.returns-clause-reads
returns-clause-reads c = reads_once

pub returns-clause-bad : goal.returns-clause-bad
returns-clause-bad c = bad_once
