use Rattle.dali_system.proofs.UnderWays.{written_is_open}
use Rattle.dali_system.proofs.laws.a_written_operation_is_open.Goals as goal

pub returns : goal.returns
returns c = written_is_open
