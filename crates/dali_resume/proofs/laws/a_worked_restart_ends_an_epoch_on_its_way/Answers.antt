use Rattle.dali_resume.proofs.Worked.{middle_restarts, misfits_in_the_middle}
use Rattle.dali_resume.proofs.laws.a_worked_restart_ends_an_epoch_on_its_way.Goals as goal

pub returns-clause-restarts : goal.returns-clause-restarts
returns-clause-restarts c = middle_restarts

pub returns-clause-misfits : goal.returns-clause-misfits
returns-clause-misfits c = misfits_in_the_middle
