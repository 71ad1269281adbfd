use Rattle.dali_crash.proofs.Honest.{unpoked_honest}
use Rattle.dali_crash.proofs.laws.without_stray_writes_all_is_sound.Goals as goal

pub returns : goal.returns
returns c = unpoked_honest
