use Rattle.dali_system.proofs.Totals.{own_changes, others_stay}
use Rattle.dali_system.proofs.laws.promises_stand_apart.Goals as goal

pub returns-clause-own : goal.returns-clause-own
returns-clause-own c = own_changes

pub returns-clause-others : goal.returns-clause-others
returns-clause-others c = others_stay
