use Rattle.dali_runs.proofs.Flushes.{fault_keeps}
use Rattle.dali_runs.proofs.laws.fault_keeps_a_run.Goals as goal

pub returns : goal.returns
returns c = fault_keeps
