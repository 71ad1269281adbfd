use Rattle.std.proofs.lemmas.Result.{err_from_is_err_and}
use Rattle.dali_image.specs.Fields.{row_of}
use Rattle.dali_image.proofs.Loops.{rows_begin, rows_go_on, rows_end, rows_done}
use Rattle.dali_image.proofs.Tables.{none_above, above_next}
use Rattle.dali_image.proofs.decoding.rows.Goals as goal

pub loop-init : goal.loop-init
loop-init c = record { so_far = rows_begin c.args.geometry.now c.args.next c.new-att.result c.args.count c.args.reader.now c.new-att.ensures; above = rw c.new-att.ensures none_above }

pub returns-in_err-row : goal.returns-in_err-row
returns-in_err-row c =
    let p = err_from_is_err_and c.from_residual.result c.from_residual.ensures.1 in
    rw (p.1, p.2) (rows_end c.args.geometry.now c.args.next c.loop.last c.loop.att c.args.count c.loop.counter c.loop.reader _ _ c.loop-test.true c.in_err-row.ensures.read c.loop.invariant.so_far)

pub loop-preserved : goal.loop-preserved
loop-preserved c = record {
  so_far = rw c.in_ok-keep.ensures (rows_go_on c.args.geometry.now c.args.next c.loop.last c.loop.att c.args.count c.loop.counter c.loop.reader (row_of c.in_ok-row.row) c.next_row.new.reader _ c.loop-test.true c.in_ok-row.ensures.read c.loop.invariant.so_far);
  above = rw c.in_ok-keep.ensures (above_next c.loop.att c.loop.last (row_of c.in_ok-row.row) c.loop.invariant.above c.in_ok-row.ensures.above);
}

pub returns : goal.returns
returns c = rows_done c.args.geometry.now c.args.next c.loop.last c.loop.att c.args.count c.loop.counter c.loop.reader _ c.loop-test.false c.loop.invariant.so_far
