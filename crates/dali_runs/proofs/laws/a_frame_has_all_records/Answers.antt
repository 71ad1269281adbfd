use Rattle.dali_runs.proofs.Courses.{taken_all_is_flushed}
use Rattle.dali_runs.proofs.laws.a_frame_has_all_records.Goals as goal

pub returns : goal.returns
returns c = taken_all_is_flushed
