use Rattle.dali_locked.proofs.VaultBeginnings.{vault_begins}
use Rattle.dali_locked.proofs.laws.a_vault_begins.Goals as goal

pub returns : goal.returns
returns g c = vault_begins g.V.Store g.B.VaultBeginning.began g.B.Beginning.begun g.met.V.Store.only_now
