use Rattle.dali_runs.proofs.Flushes.{end_is_small}
use Rattle.dali_runs.proofs.laws.a_log_ends_below_its_limit.Goals as goal

pub returns : goal.returns
returns c = end_is_small
