use Rattle.dali_script.proofs.RightScripts.{right_script}
use Rattle.dali_script.proofs.laws.spelled_scripts_are_right.Goals as goal

pub returns : goal.returns
returns c = right_script
