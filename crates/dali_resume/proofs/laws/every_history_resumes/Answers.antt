use Rattle.dali_resume.proofs.Crashes.{every_history_resumes}
use Rattle.dali_resume.proofs.laws.every_history_resumes.Goals as goal

pub returns : goal.returns
returns c = every_history_resumes
