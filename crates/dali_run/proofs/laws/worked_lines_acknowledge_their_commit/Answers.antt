use Rattle.dali_run.proofs.Keeping.{worked_lines}
use Rattle.dali_run.proofs.laws.worked_lines_acknowledge_their_commit.Goals as goal

pub returns : goal.returns
returns c = worked_lines
