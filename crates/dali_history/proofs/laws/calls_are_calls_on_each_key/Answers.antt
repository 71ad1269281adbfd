use Rattle.dali_history.proofs.ByKey.{serial-calls, calls_after-each, calls_after-allowed}
use Rattle.dali_history.proofs.laws.calls_are_calls_on_each_key.Goals as goal

pub returns : goal.returns
returns c = record { each = calls_after-each; allowed = calls_after-allowed; one_list = serial-calls }
