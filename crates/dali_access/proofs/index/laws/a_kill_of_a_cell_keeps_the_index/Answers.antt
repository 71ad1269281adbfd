use Rattle.dali_access.proofs.IndexLemmas.Steps.{kill_cell_keeps}
use Rattle.dali_access.proofs.index.laws.a_kill_of_a_cell_keeps_the_index.Goals as goal

pub returns : goal.returns
returns c = kill_cell_keeps
