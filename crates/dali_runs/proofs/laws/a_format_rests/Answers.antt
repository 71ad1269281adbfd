use Rattle.dali_runs.proofs.Loads.{format_rests}
use Rattle.dali_runs.proofs.laws.a_format_rests.Goals as goal

pub returns : goal.returns
returns c = format_rests
