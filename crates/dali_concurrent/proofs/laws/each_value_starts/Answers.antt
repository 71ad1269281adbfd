use Rattle.dali_concurrent.proofs.Starts.{round_starts}
use Rattle.dali_concurrent.proofs.laws.each_value_starts.Goals as goal

pub returns : goal.returns
returns c = round_starts
