use Rattle.dali_resume.proofs.InterruptedLemmas.Stages.{written}
use Rattle.dali_resume.proofs.interrupted.a_write_in_a_restart_leaves_its_stage.Goals as goal

pub returns : goal.returns
returns g c = λ v w. written (g.V.Store.may_leave v) (g.V.Store.may_leave w)
