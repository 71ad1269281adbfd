use Rattle.dali_access.proofs.IndexLemmas.Steps.{free_cell_keeps}
use Rattle.dali_access.proofs.index.laws.a_freed_cell_keeps_the_index.Goals as goal

pub returns : goal.returns
returns c = free_cell_keeps
