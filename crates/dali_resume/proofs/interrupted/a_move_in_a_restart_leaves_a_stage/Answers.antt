use Rattle.dali_resume.proofs.InterruptedLemmas.Stages.{anchor_settles, move_stages, moved}
use Rattle.dali_resume.proofs.interrupted.a_move_in_a_restart_leaves_a_stage.Goals as goal

pub returns : goal.returns
returns g c = record { meanwhile = λ v. move_stages (g.V.Store.may_leave v); behind = λ v. moved (g.V.Store.may_leave v); settles = λ v w. anchor_settles (g.V.Store.may_leave v) (g.V.Store.may_leave w) }
