use Rattle.dali_runs.proofs.Courses.{load_runs_at, bare_load_runs}
use Rattle.dali_runs.proofs.laws.a_load_is_a_run_with_its_store.Goals as goal

pub returns : goal.returns
returns c = record { each = load_runs_at; bare = bare_load_runs }
