use Rattle.dali_crash.proofs.Traces.{few_gates}
use Rattle.dali_crash.proofs.laws.a_trace_has_few_gates.Goals as goal

pub returns : goal.returns
returns c = few_gates
