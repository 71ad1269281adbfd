use Rattle.std.proofs.Common.{arith}
use Rattle.dali_log.proofs.Bodies.{bad_at}
use Rattle.dali_verify.proofs.Logs.{bad_here}
use Rattle.dali_verify.proofs.reading.add_records.Goals as goal

pub returns-in-Err-BadRecord-clause-bad : goal.returns-in-Err-BadRecord-clause-bad
returns-in-Err-BadRecord-clause-bad c = λ bad e.
    let r = c.records.reader in
    let none = c.decode.ensures.bad.0 (bad_at c.decode.result c.in-Err-BadRecord.field-0 r.at c.in-Err-BadRecord.field-0-0 c.in-Err-BadRecord.is c.in-Err-BadRecord.field-0-is c.decode.ensures.errors) in
    bad_here c.args.bytes.now r.all r.at c.at-start.result c.args.place bad c.args.records.now.items c.records.records.items c.records.invariant.all c.records.invariant.read c.at-start.ensures.at c.at-start.ensures.inside
    (omega (arith, c.records-test.true, c.left.ensures)) none e
