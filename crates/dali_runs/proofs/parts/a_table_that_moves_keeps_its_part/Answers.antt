use Rattle.dali_runs.proofs.PartsLemmas.Tables.{table_moves}
use Rattle.dali_runs.proofs.parts.a_table_that_moves_keeps_its_part.Goals as goal

pub returns : goal.returns
returns c = table_moves
