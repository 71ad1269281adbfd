use Rattle.dali_runs.proofs.PartsLemmas.Vaults.{step_has_vault}
use Rattle.dali_runs.proofs.parts.a_step_has_its_vault.Goals as goal

pub returns : goal.returns
returns c = step_has_vault
