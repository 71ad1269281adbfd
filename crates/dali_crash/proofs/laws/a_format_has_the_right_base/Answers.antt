use Rattle.dali_crash.proofs.Restarts.{format_has_right_base}
use Rattle.dali_crash.proofs.laws.a_format_has_the_right_base.Goals as goal

pub returns : goal.returns
returns c = format_has_right_base
