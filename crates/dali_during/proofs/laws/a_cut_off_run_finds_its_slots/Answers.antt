use Rattle.dali_during.proofs.CutsFind.{finds_in_insert, finds_in_delete, finds_below}
use Rattle.dali_during.proofs.laws.a_cut_off_run_finds_its_slots.Goals as goal

pub returns : goal.returns
returns c = record { insert = finds_in_insert; delete = finds_in_delete; below = finds_below }
