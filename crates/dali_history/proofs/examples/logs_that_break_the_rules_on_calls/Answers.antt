use Rattle.dali_history.proofs.ExamplesLemmas.Rows.{wrong_answer-refused, no_look-refused, change_stands-refused}
use Rattle.dali_history.proofs.examples.logs_that_break_the_rules_on_calls.Goals as goal

pub returns : goal.returns
returns c = record { wrong_answer = wrong_answer-refused; no_look = no_look-refused; change_stands = change_stands-refused }
