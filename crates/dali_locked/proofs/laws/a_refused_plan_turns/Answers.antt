use Rattle.dali_locked.proofs.Refusing.{plan_turns, plan_rests}
use Rattle.dali_locked.proofs.laws.a_refused_plan_turns.Goals as goal

pub returns-clause-turns : goal.returns-clause-turns
returns-clause-turns g c = plan_turns g.B.Beginning.begun

pub returns-clause-rests : goal.returns-clause-rests
returns-clause-rests g c = plan_rests g.B.Beginning.begun
