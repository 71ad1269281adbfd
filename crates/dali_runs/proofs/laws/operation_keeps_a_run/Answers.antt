use Rattle.dali_runs.proofs.RecordSteps.{op_keeps}
use Rattle.dali_runs.proofs.laws.operation_keeps_a_run.Goals as goal

pub returns : goal.returns
returns c = op_keeps
