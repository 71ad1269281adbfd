use Rattle.dali_runs.proofs.PartsLemmas.Vaults.{vault_faults, bare_vault_faults}
use Rattle.dali_runs.proofs.parts.a_vault_that_fails_keeps_its_part.Goals as goal

pub returns : goal.returns
returns c = record { each = vault_faults; bare = bare_vault_faults }
