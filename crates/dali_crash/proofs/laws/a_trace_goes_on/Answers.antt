use Rattle.dali_crash.proofs.Traces.{trace_goes_on}
use Rattle.dali_crash.proofs.laws.a_trace_goes_on.Goals as goal

pub returns : goal.returns
returns c = trace_goes_on
