use Rattle.dali_history.proofs.ExamplesLemmas.Rows.{taken_back_whole-refused, taken_back_whole-front, taken_back_half-refused, taken_back_half-front, answered_after-refused, answered_after-front, added_after-refused, added_after-front}
use Rattle.dali_history.proofs.examples.logs_that_break_the_rules_on_taking_back.Goals as goal

pub returns : goal.returns
returns c = record { whole = taken_back_whole-refused; whole_front = taken_back_whole-front; half = taken_back_half-refused; half_front = taken_back_half-front; answered = answered_after-refused; answered_front = answered_after-front; added = added_after-refused; added_front = added_after-front }
