use Rattle.dali_runs.proofs.PartsLemmas.Vaults.{vault_misses, bare_vault_misses}
use Rattle.dali_runs.proofs.parts.a_vault_that_is_left_keeps_its_part.Goals as goal

pub returns : goal.returns
returns c = record { each = vault_misses; bare = bare_vault_misses }
