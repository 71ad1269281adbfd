use Rattle.dali_history.proofs.SlotsLemmas.SoundBlocks.{image_redo_all}
use Rattle.dali_history.proofs.slots.blocks_keep_an_image.Goals as goal

pub returns : goal.returns
returns c = image_redo_all
