use Rattle.dali_resume.proofs.Reached.{knows_alike}
use Rattle.dali_resume.proofs.Through.{resumes_through, lists_are_tested}
use Rattle.dali_resume.proofs.laws.a_restart_goes_on_behind_restarts.Goals as goal

pub returns-clause-knows : goal.returns-clause-knows
returns-clause-knows c = knows_alike

pub returns-clause-resumes : goal.returns-clause-resumes
returns-clause-resumes c = resumes_through

pub returns-clause-lists : goal.returns-clause-lists
returns-clause-lists c = lists_are_tested
