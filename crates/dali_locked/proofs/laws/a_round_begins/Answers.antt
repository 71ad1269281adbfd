use Rattle.dali_locked.proofs.Beginnings.{values_begin}
use Rattle.dali_locked.proofs.laws.a_round_begins.Goals as goal

pub returns : goal.returns
returns g c = values_begin g.V.Store g.B.Beginning.begun
