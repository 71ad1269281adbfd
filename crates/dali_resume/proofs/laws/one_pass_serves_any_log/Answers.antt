use Rattle.dali_resume.proofs.Served.{serves_any_log, one_pass_onward}
use Rattle.dali_resume.proofs.laws.one_pass_serves_any_log.Goals as goal

pub returns-clause-serves : goal.returns-clause-serves
returns-clause-serves c = serves_any_log

pub returns-clause-once : goal.returns-clause-once
returns-clause-once c = one_pass_onward
