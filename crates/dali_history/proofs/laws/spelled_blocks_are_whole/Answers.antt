use Rattle.dali_history.proofs.Spelled.{spelled_values, spelled_whole}
use Rattle.dali_history.proofs.laws.spelled_blocks_are_whole.Goals as goal

pub returns : goal.returns
returns c = record { values = spelled_values; whole = spelled_whole }
