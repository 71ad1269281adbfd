use Rattle.dali_history.proofs.UndoneLemmas.Found.{kept_undos_find, own_undos_find}
use Rattle.dali_history.proofs.UndoneLemmas.Listed.{one_block_leaves}
use Rattle.dali_history.proofs.undone.an_undo_finds_its_slot_as_it_was_left.Goals as goal

pub returns : goal.returns
returns c = record { any_order = kept_undos_find; by_itself = own_undos_find; one_block = one_block_leaves }
