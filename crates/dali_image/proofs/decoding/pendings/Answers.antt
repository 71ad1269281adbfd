use Rattle.std.proofs.lemmas.Result.{err_from_is_err_and}
use Rattle.dali_image.proofs.Loops.{goes_on, ends, is_done}
use Rattle.dali_image.proofs.decoding.pendings.Goals as goal

pub returns-in_err-undo : goal.returns-in_err-undo
returns-in_err-undo c =
    let p = err_from_is_err_and c.from_residual.result c.from_residual.ensures.1 in
    rw (p.1, p.2) (ends c.args.geometry.now c.loop.undos.items c.args.count c.loop.counter c.loop.reader _ _ c.loop-test.true c.in_err-undo.ensures c.loop.invariant)

pub loop-preserved : goal.loop-preserved
loop-preserved c = rw c.in_ok-push.ensures.items (goes_on c.args.geometry.now c.loop.undos.items c.args.count c.loop.counter c.loop.reader c.in_ok-undo.undo c.pending.new.reader _ c.loop-test.true c.in_ok-undo.ensures c.loop.invariant)

pub returns : goal.returns
returns c = is_done c.args.geometry.now c.loop.undos.items c.args.count c.loop.counter c.loop.reader _ c.loop-test.false c.loop.invariant
