use Rattle.dali_during.proofs.OpenGaps.{cut_in_delete}
use Rattle.dali_during.proofs.laws.a_run_cut_in_a_delete.Goals as goal

pub returns : goal.returns
returns c = cut_in_delete
