use Rattle.dali_load.proofs.Judged.{well}
use Rattle.dali_load.proofs.laws.all_well_is_told.Goals as goal

pub returns : goal.returns
returns c = well
