use Rattle.dali_crash.proofs.Flags.{flag_stays}
use Rattle.dali_crash.proofs.laws.each_step_keeps_what_the_flag_tells.Goals as goal

pub returns : goal.returns
returns c = flag_stays
