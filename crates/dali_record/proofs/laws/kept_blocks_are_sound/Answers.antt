use Rattle.dali_record.proofs.Recovery.{kept_sound}
use Rattle.dali_record.proofs.laws.kept_blocks_are_sound.Goals as goal

pub returns : goal.returns
returns c = kept_sound
