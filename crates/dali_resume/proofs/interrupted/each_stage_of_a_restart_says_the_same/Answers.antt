use Rattle.dali_resume.proofs.InterruptedLemmas.Saying.{stages_say}
use Rattle.dali_resume.proofs.interrupted.each_stage_of_a_restart_says_the_same.Goals as goal

pub returns : goal.returns
returns c = stages_say
