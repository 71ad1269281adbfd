use Rattle.std.proofs.Common.{ap}
use Rattle.dali_runs.specs.State.{CoreState}
use Rattle.dali_runs.proofs.laws.a_checkpoint_turns_the_flag.Goals as goal

pub returns : goal.returns
returns c = λ L M k d b s. (s.0, ap (λ (z : CoreState). z.system.checking) s.1.1)
