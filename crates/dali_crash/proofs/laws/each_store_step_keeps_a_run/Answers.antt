use Rattle.dali_crash.proofs.StoreRuns.{store_step_keeps}
use Rattle.dali_crash.proofs.laws.each_store_step_keeps_a_run.Goals as goal

pub returns : goal.returns
returns c = store_step_keeps
