use Rattle.dali_recovery.proofs.Whole.{names_misfit}
use Rattle.dali_recovery.proofs.laws.a_recovery_names_the_first_misfit.Goals as goal

pub returns : goal.returns
returns c = names_misfit
