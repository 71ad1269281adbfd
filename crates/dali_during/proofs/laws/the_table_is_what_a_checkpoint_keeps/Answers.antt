use Rattle.dali_during.proofs.Reported.{table_is_kept}
use Rattle.dali_during.proofs.laws.the_table_is_what_a_checkpoint_keeps.Goals as goal

pub returns : goal.returns
returns c = table_is_kept
