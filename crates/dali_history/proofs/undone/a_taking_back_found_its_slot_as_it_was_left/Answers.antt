use Rattle.dali_history.proofs.UndoneLemmas.Found.{backs_find}
use Rattle.dali_history.proofs.undone.a_taking_back_found_its_slot_as_it_was_left.Goals as goal

pub returns : goal.returns
returns c = backs_find
