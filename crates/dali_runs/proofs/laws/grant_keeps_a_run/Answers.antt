use Rattle.dali_runs.proofs.QuietSteps.{grant_keeps}
use Rattle.dali_runs.proofs.laws.grant_keeps_a_run.Goals as goal

pub returns : goal.returns
returns c = grant_keeps
