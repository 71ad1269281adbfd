use Rattle.dali_crash.proofs.Traces.{crash_rests}
use Rattle.dali_crash.proofs.laws.a_crash_image_may_be_at_rest.Goals as goal

pub returns : goal.returns
returns c = crash_rests
