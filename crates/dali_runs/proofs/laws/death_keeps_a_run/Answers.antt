use Rattle.dali_runs.proofs.Deaths.{death_keeps}
use Rattle.dali_runs.proofs.laws.death_keeps_a_run.Goals as goal

pub returns : goal.returns
returns c = death_keeps
