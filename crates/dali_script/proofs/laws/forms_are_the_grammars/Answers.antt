use Rattle.dali_script.proofs.FormsOfNames.{same_fault}
use Rattle.dali_script.proofs.laws.forms_are_the_grammars.Goals as goal

pub returns : goal.returns
returns c = same_fault
