use Rattle.std.proofs.Common.{◌≡◌, ◌≤◌, ◌-◌}
use Rattle.dali_bytes.specs.Cursor.{left}
use Rattle.dali_bytes.specs.Reading.{number32_at}
use Rattle.dali_record.specs.Reading.{many}
use Rattle.dali_record.proofs.Loops.{with_front}
use Rattle.dali_record.proofs.codec.reading.regions.Given as goal

abbrev pub invariant-loop : goal.invariant-loop
invariant-loop l = record {
  same : l.reader.all ≡ l.initial.reader.all;
  later : l.initial.reader.at ≤ l.reader.at;
  so_far : with_front l.regions.items (many (l.count - l.counter) number32_at (left l.reader)) ≡ many l.count number32_at (left l.initial.reader);
}
