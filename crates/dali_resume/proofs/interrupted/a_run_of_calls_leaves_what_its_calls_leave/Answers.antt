use Rattle.dali_resume.proofs.InterruptedLemmas.Runs.{run_leaves}
use Rattle.dali_resume.proofs.interrupted.a_run_of_calls_leaves_what_its_calls_leave.Goals as goal

pub returns : goal.returns
returns g c = run_leaves g.V.Store.moment g.V.Store.left_since g.V.Store.may_leave
