use Rattle.dali_locked.proofs.Beginnings.{round_ends_so}
use Rattle.dali_locked.proofs.laws.a_round_ends.Goals as goal

pub returns : goal.returns
returns g c = round_ends_so g.V.Store g.B.Beginning.begun
