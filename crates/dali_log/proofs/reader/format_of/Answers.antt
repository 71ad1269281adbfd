use Rattle.std.proofs.Common.{◌∙◌, ap, arith, length}
use Rattle.dali_bytes.specs.Cursor.{left}
use Rattle.dali_log.proofs.Bodies.{refused, one_format}
use Rattle.dali_log.proofs.reader.format_of.Goals as goal

pub returns-in-Err-clause-none : goal.returns-in-Err-clause-none
returns-in-Err-clause-none c = λ none index heap can same.
    refused (left c.new-reader.result) c.new-reader.result.at c.in-Err.field-0 c.in-Err.ensures.bad c.in-Err.ensures.memory c.in-Err.ensures.errors index heap can (ap left c.new-reader.ensures ∙ same)

pub returns-then-left-gt0-clause-none : goal.returns-then-left-gt0-clause-none
returns-then-left-gt0-clause-none c = λ none index heap can same.
    let one = one_format (left c.new-reader.result) (left c.decode.new.reader) c.in-Ok.entry c.in-Ok.ensures.record.0 c.in-Ok.ensures.record.1 index heap can (ap left c.new-reader.ensures ∙ same) in
    omega (arith, c.if-left-gt0.true, c.left.ensures, ap length one.1)
