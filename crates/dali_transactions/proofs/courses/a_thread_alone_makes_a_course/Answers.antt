use Rattle.dali_transactions.proofs.CoursesLemmas.Making.{own_steps_make, answer_makes, abort_makes, settling_makes}
use Rattle.dali_transactions.proofs.courses.a_thread_alone_makes_a_course.Goals as goal

pub returns : goal.returns
returns c = record { steps = own_steps_make; answer = answer_makes; abort = abort_makes; settling = settling_makes }
