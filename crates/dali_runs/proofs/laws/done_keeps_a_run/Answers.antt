use Rattle.dali_runs.proofs.RecordSteps.{done_keeps}
use Rattle.dali_runs.proofs.laws.done_keeps_a_run.Goals as goal

pub returns : goal.returns
returns c = done_keeps
