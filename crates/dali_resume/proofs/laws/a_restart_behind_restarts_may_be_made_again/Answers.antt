use Rattle.dali_resume.proofs.Stopped.{restarts_onward}
use Rattle.dali_resume.proofs.laws.a_restart_behind_restarts_may_be_made_again.Goals as goal

pub returns : goal.returns
returns c = restarts_onward
