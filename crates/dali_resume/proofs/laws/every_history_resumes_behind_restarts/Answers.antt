use Rattle.dali_resume.proofs.Stopped.{resumes_histories}
use Rattle.dali_resume.proofs.laws.every_history_resumes_behind_restarts.Goals as goal

pub returns : goal.returns
returns c = resumes_histories
