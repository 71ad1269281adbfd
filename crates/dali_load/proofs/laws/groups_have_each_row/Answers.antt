use Rattle.dali_load.proofs.Together.{together}
use Rattle.dali_load.proofs.laws.groups_have_each_row.Goals as goal

pub returns : goal.returns
returns c = together
