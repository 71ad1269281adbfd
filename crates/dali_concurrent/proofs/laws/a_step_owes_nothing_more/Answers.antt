use Rattle.dali_concurrent.proofs.Landing.{history_lands, stop_stands, told_is_whole, course_lands, step_lands, meets_lands, tie_lands}
use Rattle.dali_concurrent.proofs.laws.a_step_owes_nothing_more.Goals as goal

pub returns : goal.returns
returns c = record {
  history = history_lands;
  stop = stop_stands;
  whole = told_is_whole;
  course = course_lands;
  step = step_lands;
  meets = meets_lands;
  ties = tie_lands;
}
