use Rattle.dali_core.proofs.VaultLemmas.Stepped.{fault_is_step, read_fail_is_step}
use Rattle.dali_core.proofs.vault.laws.a_fault_is_a_step.Goals as goal

pub returns : goal.returns
returns g c = record { flush = fault_is_step g.V.Store.faults; read = read_fail_is_step g.V.Store.faults }
