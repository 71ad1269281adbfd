use Rattle.std.proofs.Common.{◌-◌, refl}
use Rattle.dali_words.proofs.Rows.{row_mask_more}
use Rattle.dali_words.proofs.bits.Goals as goal

pub loop-word-preserved : goal.loop-word-preserved
loop-word-preserved c = row_mask_more c.args.first (c.loop-word.word - c.args.first) c.loop-word.word c.loop-word.set c.bit-set.result refl c.loop-word.auto.word c.loop-word.invariant c.bit-set.ensures
