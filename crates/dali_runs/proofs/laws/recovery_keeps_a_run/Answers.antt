use Rattle.dali_runs.proofs.Deaths.{recover_keeps}
use Rattle.dali_runs.proofs.laws.recovery_keeps_a_run.Goals as goal

pub returns : goal.returns
returns c = recover_keeps
