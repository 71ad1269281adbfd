use Rattle.std.proofs.Common.{◌≡◌, ◌≤◌, ◌-◌, length}
use Rattle.dali_bytes.specs.Cursor.{left}
use Rattle.dali_bytes.specs.Reading.{number64_at}
use Rattle.dali_record.specs.Reading.{many}
use Rattle.dali_record.proofs.Loops.{with_front}
use Rattle.dali_record.proofs.codec.reading.words.Given as goal

abbrev pub invariant-loop : goal.invariant-loop
invariant-loop l = record {
  same : l.reader.all ≡ l.fn.reader.all;
  later : l.fn.reader.at ≤ l.reader.at;
  filled : length l.into ≡ l.counter;
  so_far : with_front l.into (many (l.count - l.counter) number64_at (left l.reader)) ≡ many l.count number64_at (left l.fn.reader);
}
