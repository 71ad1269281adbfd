use Rattle.dali_resume.proofs.Misfits.{finds_misfit, legal_stands}
use Rattle.dali_resume.proofs.laws.the_first_misfit_is_named.Goals as goal

pub returns-clause-finds : goal.returns-clause-finds
returns-clause-finds c = finds_misfit

pub returns-clause-legal : goal.returns-clause-legal
returns-clause-legal c = legal_stands
