use Rattle.dali_runs.proofs.PartsLemmas.Vaults.{vault_flushes, bare_vault_flushes}
use Rattle.dali_runs.proofs.parts.a_vault_that_flushes_keeps_its_part.Goals as goal

pub returns : goal.returns
returns c = record { each = vault_flushes; bare = bare_vault_flushes }
