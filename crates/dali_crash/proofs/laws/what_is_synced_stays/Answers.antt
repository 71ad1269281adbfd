use Rattle.dali_crash.proofs.Flags.{synced_stays}
use Rattle.dali_crash.proofs.laws.what_is_synced_stays.Goals as goal

pub returns : goal.returns
returns c = synced_stays
