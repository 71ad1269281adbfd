use Rattle.dali_record.proofs.Dependence.{sound_same}
use Rattle.dali_record.proofs.laws.sound_by_the_words_read.Goals as goal

pub returns : goal.returns
returns c = λ b ws us a sound. sound_same b ws us a.count (λ i h. a.same i h) sound
