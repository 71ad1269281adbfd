use Rattle.dali_runs.proofs.QuietSteps.{refuse_keeps}
use Rattle.dali_runs.proofs.laws.refusal_keeps_a_run.Goals as goal

pub returns : goal.returns
returns c = refuse_keeps
