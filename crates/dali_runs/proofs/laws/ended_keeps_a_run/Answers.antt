use Rattle.dali_runs.proofs.RecordSteps.{ended_keeps}
use Rattle.dali_runs.proofs.laws.ended_keeps_a_run.Goals as goal

pub returns : goal.returns
returns c = ended_keeps
