use Rattle.dali_during.proofs.Life.{worked_life}
use Rattle.dali_during.proofs.laws.a_worked_life.Goals as goal

pub returns : goal.returns
returns c = worked_life
