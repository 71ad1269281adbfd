use Rattle.dali_restart.proofs.Finding.{what_opens}
use Rattle.dali_restart.proofs.laws.what_opens_is_spelled.Goals as goal

pub returns : goal.returns
returns c = what_opens
