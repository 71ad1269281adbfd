use Rattle.dali_load.proofs.Loadable.{right_script}
use Rattle.dali_load.proofs.laws.scripts_are_right.Goals as goal

pub returns : goal.returns
returns c = right_script
