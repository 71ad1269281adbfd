use Rattle.dali_runs.proofs.PartsLemmas.Vaults.{vault_is_short, bare_vault_is_short}
use Rattle.dali_runs.proofs.parts.a_vault_ends_below_its_limit.Goals as goal

pub returns : goal.returns
returns c = record { each = vault_is_short; bare = bare_vault_is_short }
