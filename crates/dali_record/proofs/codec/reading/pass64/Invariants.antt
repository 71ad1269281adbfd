use Rattle.std.proofs.Common.{◌≡◌, ◌≤◌, ◌-◌, None}
use Rattle.dali_bytes.specs.Cursor.{left}
use Rattle.dali_bytes.specs.Reading.{number64_at}
use Rattle.dali_record.proofs.Loops.{passed}
use Rattle.dali_record.proofs.codec.reading.pass64.Given as goal

abbrev pub invariant-loop : goal.invariant-loop
invariant-loop l = record {
  same : l.reader.all ≡ l.initial.reader.all;
  later : l.initial.reader.at ≤ l.reader.at;
  so_far : passed number64_at l.last (l.count - l.counter) (left l.reader) ≡ passed number64_at None l.count (left l.initial.reader);
}
