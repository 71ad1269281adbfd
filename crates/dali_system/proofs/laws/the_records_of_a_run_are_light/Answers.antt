use Rattle.dali_system.proofs.Lights.{records_are_light}
use Rattle.dali_system.proofs.laws.the_records_of_a_run_are_light.Goals as goal

pub returns : goal.returns
returns c = records_are_light
