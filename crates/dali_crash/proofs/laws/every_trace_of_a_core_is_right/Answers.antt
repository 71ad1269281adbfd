use Rattle.dali_crash.proofs.Traces.{every_core_trace_is_right}
use Rattle.dali_crash.proofs.laws.every_trace_of_a_core_is_right.Goals as goal

pub returns : goal.returns
returns c = every_core_trace_is_right
