use Rattle.dali_crash.proofs.Traces.{flushed_traces}
use Rattle.dali_crash.proofs.laws.what_was_flushed_stands_in_each_trace.Goals as goal

pub returns : goal.returns
returns c = flushed_traces
