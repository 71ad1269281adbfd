use Rattle.std.proofs.Common.{◌≡◌, length}
use Rattle.dali_bytes.specs.Cursor.{left}
use Rattle.dali_log.proofs.Bodies.{ReadTo}
use Rattle.dali_verify.proofs.reading.add_records.Given as goal

abbrev pub invariant-records : goal.invariant-records
invariant-records l = record {
  all : l.reader.all ≡ l.bytes;
  read : ReadTo l.bytes (left l.reader) l.initial.records.items l.records.items;
}

abbrev pub decreases-records : goal.decreases-records
decreases-records l = length (left l.reader)
