use Rattle.dali_runs.proofs.RecordSteps.{back_keeps}
use Rattle.dali_runs.proofs.laws.back_keeps_a_run.Goals as goal

pub returns : goal.returns
returns c = back_keeps
