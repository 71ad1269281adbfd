use Rattle.dali_runs.proofs.FactsLemmas.Ends.{commit_is_step, solo_is_step, end_is_step, empty_end_is_step}
use Rattle.dali_runs.proofs.facts.the_ends_of_a_transaction_are_steps.Goals as goal

pub returns-clause-commit : goal.returns-clause-commit
returns-clause-commit c = commit_is_step

pub returns-clause-solo : goal.returns-clause-solo
returns-clause-solo c = solo_is_step

pub returns-clause-end : goal.returns-clause-end
returns-clause-end c = end_is_step

pub returns-clause-abort : goal.returns-clause-abort
returns-clause-abort c = empty_end_is_step
