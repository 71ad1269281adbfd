use Rattle.dali_load.proofs.Spelling.{one_reading}
use Rattle.dali_load.proofs.laws.one_reading.Goals as goal

pub returns : goal.returns
returns c = one_reading
