use Rattle.dali_crash.proofs.Traces.{start_runs, bare_start_runs}
use Rattle.dali_crash.proofs.laws.a_store_at_rest_is_a_run.Goals as goal

pub returns : goal.returns
returns c = record { each = start_runs; bare = bare_start_runs }
