use Rattle.dali_runs.proofs.CountsLemmas.Fronts.{prefix_legal}
use Rattle.dali_runs.proofs.counts.a_beginning_is_legal.Goals as goal

pub returns : goal.returns
returns c = prefix_legal
