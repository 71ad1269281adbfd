use Rattle.dali_runs.proofs.Flushes.{flush_keeps}
use Rattle.dali_runs.proofs.laws.flush_keeps_a_run.Goals as goal

pub returns : goal.returns
returns c = flush_keeps
