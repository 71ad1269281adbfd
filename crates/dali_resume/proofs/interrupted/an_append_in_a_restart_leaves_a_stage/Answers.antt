use Rattle.dali_resume.proofs.InterruptedLemmas.Stages.{append_stages, appended, log_settles}
use Rattle.dali_resume.proofs.interrupted.an_append_in_a_restart_leaves_a_stage.Goals as goal

pub returns : goal.returns
returns g c = record { meanwhile = λ v. append_stages (g.V.Store.may_leave v); behind = λ v. appended (g.V.Store.may_leave v); settles = λ v w. log_settles (g.V.Store.may_leave v) (g.V.Store.may_leave w) }
