use Rattle.dali_crash.proofs.Traces.{acknowledged_traces}
use Rattle.dali_crash.proofs.laws.what_was_acknowledged_is_in_each_trace.Goals as goal

pub returns : goal.returns
returns c = acknowledged_traces
