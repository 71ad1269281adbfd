use Rattle.dali_runs.proofs.FactsLemmas.OlderRows.{rows_are_older}
use Rattle.dali_runs.proofs.facts.a_run_has_older_rows.Goals as goal

pub returns : goal.returns
returns c = rows_are_older
