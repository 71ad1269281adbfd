use Rattle.dali_log.proofs.Walks.{readings}
use Rattle.dali_log.proofs.laws.bytes_have_one_reading.Goals as goal

pub returns : goal.returns
returns c = readings
