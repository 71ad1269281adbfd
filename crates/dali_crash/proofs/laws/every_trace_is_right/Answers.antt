use Rattle.dali_crash.proofs.Traces.{every_trace_is_right}
use Rattle.dali_crash.proofs.laws.every_trace_is_right.Goals as goal

pub returns : goal.returns
returns c = every_trace_is_right
