use Rattle.dali_access.proofs.IndexLemmas.Steps.{gaps_are_none}
use Rattle.dali_access.proofs.index.laws.no_gap_is_the_invariant.Goals as goal

pub returns : goal.returns
returns c = gaps_are_none
