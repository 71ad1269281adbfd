use Rattle.dali_runs.proofs.PartsLemmas.Tables.{table_logs}
use Rattle.dali_runs.proofs.parts.a_table_that_logs_keeps_its_part.Goals as goal

pub returns : goal.returns
returns c = table_logs
