use Rattle.dali_runs.proofs.PartsLemmas.Tables.{table_leaves}
use Rattle.dali_runs.proofs.parts.a_record_leaves_other_rows.Goals as goal

pub returns : goal.returns
returns c = table_leaves
