use Rattle.dali_resume.proofs.InterruptedLemmas.Stages.{every_stage_answers, starts_behind, found_logged}
use Rattle.dali_resume.proofs.interrupted.each_stage_of_a_restart_answers_alike.Goals as goal

pub returns-clause-answers : goal.returns-clause-answers
returns-clause-answers c = every_stage_answers

pub returns-clause-starts : goal.returns-clause-starts
returns-clause-starts c = starts_behind

pub returns-clause-logged : goal.returns-clause-logged
returns-clause-logged c = found_logged
