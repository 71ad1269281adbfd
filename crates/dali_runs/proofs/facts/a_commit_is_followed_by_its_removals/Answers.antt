use Rattle.dali_runs.proofs.FactsLemmas.Ends.{commit_follows, solo_follows, end_follows, only_these}
use Rattle.dali_runs.proofs.facts.a_commit_is_followed_by_its_removals.Goals as goal

pub returns-clause-commit : goal.returns-clause-commit
returns-clause-commit c = commit_follows

pub returns-clause-solo : goal.returns-clause-solo
returns-clause-solo c = solo_follows

pub returns-clause-end : goal.returns-clause-end
returns-clause-end c = end_follows

pub returns-clause-only : goal.returns-clause-only
returns-clause-only c = only_these
