use Rattle.dali_resume.proofs.Ends.{ends_epochs}
use Rattle.dali_resume.proofs.laws.a_worked_log_ends_its_epochs.Goals as goal

pub returns : goal.returns
returns c = ends_epochs
