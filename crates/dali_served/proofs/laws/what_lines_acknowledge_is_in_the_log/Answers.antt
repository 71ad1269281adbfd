use Rattle.dali_served.proofs.Oks.{oks_stand}
use Rattle.dali_served.proofs.laws.what_lines_acknowledge_is_in_the_log.Goals as goal

pub returns : goal.returns
returns c = oks_stand
