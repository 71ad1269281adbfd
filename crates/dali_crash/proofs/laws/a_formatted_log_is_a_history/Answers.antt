use Rattle.dali_crash.proofs.Courses.{format_is_history}
use Rattle.dali_crash.proofs.laws.a_formatted_log_is_a_history.Goals as goal

pub returns : goal.returns
returns c = format_is_history
