use Rattle.std.proofs.Common.{[], ◌∷◌, arith, rules, length-append}
use Rattle.dali_bytes.specs.Cursor.{left}
use Rattle.dali_bytes.specs.Reading.{number64_at}
use Rattle.dali_record.specs.Reading.{many}
use Rattle.dali_record.proofs.Loops.{goes_on}
use Rattle.dali_record.proofs.codec.reading.words.Goals as goal

pub loop-preserved : goal.loop-preserved
loop-preserved c = record {
  same = search rules;
  later = rw c.in_ok-number64.ensures.moved (omega arith);
  filled = rw c.push.ensures (omega (arith, length-append c.loop.into (c.in_ok-number64.field-0 ∷ [])));
  so_far = rw c.push.ensures (goes_on number64_at c.loop.into c.args.count c.loop.counter (left c.loop.reader) c.in_ok-number64.field-0 (left c.number64.new.self) (many c.args.count number64_at (left c.args.reader.now)) c.loop-test.true c.in_ok-number64.ensures.exact c.loop.invariant.so_far);
}
