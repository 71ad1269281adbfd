use Rattle.dali_locked.proofs.RoundLeft.{round_is_to_end}
use Rattle.dali_locked.specs.Begun.{homed}
use Rattle.dali_locked.proofs.laws.a_round_is_to_end.Goals as goal

pub returns : goal.returns
returns g c = round_is_to_end g.V.Store g.B.VaultBeginning.began (homed g.H.Home.table g.B.Beginning.begun)
