use Rattle.dali_crash.proofs.Traces.{unpoked_trace_is_right}
use Rattle.dali_crash.proofs.laws.every_trace_without_stray_writes_is_right.Goals as goal

pub returns : goal.returns
returns c = unpoked_trace_is_right
