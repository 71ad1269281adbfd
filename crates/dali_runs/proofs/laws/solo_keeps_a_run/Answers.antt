use Rattle.dali_runs.proofs.RecordSteps.{solo_keeps}
use Rattle.dali_runs.proofs.laws.solo_keeps_a_run.Goals as goal

pub returns : goal.returns
returns c = solo_keeps
