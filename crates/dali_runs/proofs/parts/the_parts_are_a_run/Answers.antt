use Rattle.dali_runs.proofs.PartsLemmas.Joined.{parts_are_a_run}
use Rattle.dali_runs.proofs.parts.the_parts_are_a_run.Goals as goal

pub returns : goal.returns
returns c = parts_are_a_run
