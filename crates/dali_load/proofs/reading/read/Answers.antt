use Rattle.std.proofs.Common.{arith}
use Rattle.dali_script.proofs.LinesLeft.{next_line_is_counted}
use Rattle.dali_load.proofs.reading.read.Goals as goal

pub overflow_add-line : goal.overflow_add-line
overflow_add-line c = omega (arith, next_line_is_counted c.loop-rest.line c.loop-rest.rest c.in-Some.text c.args.bytes.now c.in-Some.is c.loop-rest.invariant.count)
