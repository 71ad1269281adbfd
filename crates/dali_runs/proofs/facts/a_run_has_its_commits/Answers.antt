use Rattle.dali_runs.proofs.FactsLemmas.Commits.{committed_is_logged}
use Rattle.dali_runs.proofs.facts.a_run_has_its_commits.Goals as goal

pub returns : goal.returns
returns c = committed_is_logged
