use Rattle.dali_runs.proofs.Flushes.{take_keeps}
use Rattle.dali_runs.proofs.laws.take_keeps_a_run.Goals as goal

pub returns : goal.returns
returns c = take_keeps
