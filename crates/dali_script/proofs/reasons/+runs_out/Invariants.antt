use Rattle.std.proofs.Common.{length}
use Rattle.dali_script.proofs.reasons.+runs_out.Given as goal

abbrev pub decreases-runs_out : goal.decreases-runs_out
decreases-runs_out l = length l.forms.now
