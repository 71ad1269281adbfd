use Rattle.dali_core.proofs.VaultLemmas.Stepped.{begins_right}
use Rattle.dali_core.proofs.vault.laws.a_new_vault_may_run.Goals as goal

pub returns : goal.returns
returns g c = begins_right g.V.Store.faults
