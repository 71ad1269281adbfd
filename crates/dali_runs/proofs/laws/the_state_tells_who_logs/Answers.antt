use Rattle.dali_runs.proofs.WhoLogs.{who_logs}
use Rattle.dali_runs.proofs.laws.the_state_tells_who_logs.Goals as goal

pub returns : goal.returns
returns c = who_logs
