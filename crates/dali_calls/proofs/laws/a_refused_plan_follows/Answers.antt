use Rattle.dali_calls.proofs.Following.{refused_rests}
use Rattle.dali_calls.proofs.laws.a_refused_plan_follows.Goals as goal

pub returns-clause-rests : goal.returns-clause-rests
returns-clause-rests c = refused_rests
