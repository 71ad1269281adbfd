use Rattle.dali_crash.proofs.Honest.{unpoked_escapes_none}
use Rattle.dali_crash.proofs.laws.without_stray_writes_none_escapes.Goals as goal

pub returns : goal.returns
returns c = unpoked_escapes_none
