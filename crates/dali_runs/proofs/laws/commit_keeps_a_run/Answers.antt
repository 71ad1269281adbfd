use Rattle.dali_runs.proofs.RecordSteps.{commit_keeps}
use Rattle.dali_runs.proofs.laws.commit_keeps_a_run.Goals as goal

pub returns : goal.returns
returns c = commit_keeps
