use Rattle.dali_core.proofs.VaultLemmas.Stepped.{flush_is_step}
use Rattle.dali_core.proofs.vault.laws.a_flush_is_a_step.Goals as goal

pub returns : goal.returns
returns g c = flush_is_step g.V.Store.faults
