use Rattle.dali_runs.proofs.PartsLemmas.Vaults.{vault_reads, bare_vault_reads}
use Rattle.dali_runs.proofs.parts.a_vault_whose_read_fails_keeps_its_part.Goals as goal

pub returns : goal.returns
returns c = record { each = vault_reads; bare = bare_vault_reads }
