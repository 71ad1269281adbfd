use Rattle.dali_resume.proofs.BehindTheEnd.{nobody_behind_the_end}
use Rattle.dali_resume.proofs.laws.a_restart_names_nobody_behind_the_end.Goals as goal

pub returns : goal.returns
returns c = nobody_behind_the_end
