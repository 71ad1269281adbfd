use Rattle.dali_history.proofs.SlotsLemmas.SoundBlocks.{sound_rewritten}
use Rattle.dali_history.proofs.slots.a_sound_block_writes_what_its_operation_does.Goals as goal

pub returns : goal.returns
returns c = sound_rewritten
