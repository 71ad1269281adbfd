use Rattle.dali_crash.proofs.Flags.{kept_stays}
use Rattle.dali_crash.proofs.laws.what_a_checkpoint_kept_stays.Goals as goal

pub returns : goal.returns
returns c = kept_stays
