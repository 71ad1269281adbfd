-- What a reader of the log holds.
--     reading_of r      what contracts see of it
--     IsInOrder r       what is true of every reader
use Rattle.dali_log.specs.declared.reader.LogReader.TheInside.{Inside}
use Rattle.dali_log.specs.Stream.{Reading, IsWhole}

abbrev pub reading_of : Inside → Reading
reading_of r = record { bytes = r.bytes.items; from = r.from; length = r.length; body = r.body; at = r.at; end = r.end }

abbrev pub IsInOrder : Inside → Type 0
IsInOrder r = IsWhole (reading_of r)
