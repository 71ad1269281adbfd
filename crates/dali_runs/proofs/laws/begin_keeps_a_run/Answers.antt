use Rattle.dali_runs.proofs.RecordSteps.{begin_keeps}
use Rattle.dali_runs.proofs.laws.begin_keeps_a_run.Goals as goal

pub returns : goal.returns
returns c = begin_keeps
