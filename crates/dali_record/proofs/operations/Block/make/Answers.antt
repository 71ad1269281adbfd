use Rattle.std.proofs.Common.{arith}
use Rattle.dali_words.proofs.Widths.{are_words}
use Rattle.dali_record.proofs.Made.{made_is_block}
use Rattle.dali_record.proofs.operations.Block.make.Goals as goal

pub returns-clause-spelled : goal.returns-clause-spelled
returns-clause-spelled c =
    rw (c.fill_under.ensures, c.xor_under-self.ensures, c.effect-found.ensures.row)
    (made_is_block c.args.op c.args.key c.args.region c.args.words.now c.requires (omega (arith, c.ranges.key.fits)) (omega (arith, c.ranges.region.fits)) (are_words c.args.words.now c.told-words c.fits-words))
