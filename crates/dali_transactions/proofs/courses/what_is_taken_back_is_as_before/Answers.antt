use Rattle.dali_transactions.proofs.CoursesLemmas.Back.{abort_gives_back, clean_up_gives_back}
use Rattle.dali_transactions.proofs.courses.what_is_taken_back_is_as_before.Goals as goal

pub returns-clause-abort : goal.returns-clause-abort
returns-clause-abort c = abort_gives_back

pub returns-clause-clean_up : goal.returns-clause-clean_up
returns-clause-clean_up c = clean_up_gives_back
