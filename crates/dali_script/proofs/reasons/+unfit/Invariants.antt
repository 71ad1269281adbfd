use Rattle.std.proofs.Common.{length}
use Rattle.dali_script.proofs.reasons.+unfit.Given as goal

abbrev pub decreases-unfit : goal.decreases-unfit
decreases-unfit l = length l.forms.now
