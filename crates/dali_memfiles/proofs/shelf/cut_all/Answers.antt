use Rattle.std.proofs.Common.{length, ◌∙◌, ap, arith}
use Rattle.dali_memfiles.specs.Shelf.{reads}
use Rattle.dali_memfiles.proofs.Shelves.{cut_done, length-cut, reads_cut}
use Rattle.dali_memfiles.proofs.shelf.cut_all.Goals as goal

pub returns-clause-size : goal.returns-clause-size
returns-clause-size c =
    ap length (cut_done c.args.choice c.loop-number.number c.loop-number.files c.args.files.now (omega (arith, c.loop-number-test.false)) c.loop-number.invariant)
    ∙ length-cut c.args.choice 0 c.args.files.now

pub returns-clause-reads : goal.returns-clause-reads
returns-clause-reads c =
    ap reads (cut_done c.args.choice c.loop-number.number c.loop-number.files c.args.files.now (omega (arith, c.loop-number-test.false)) c.loop-number.invariant)
    ∙ reads_cut c.args.choice c.args.files.now
