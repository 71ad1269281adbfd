-- What is written behind the records of a batch.
--     record_of e              the record
use Rattle.dali_record.specs.declared.records.Record.{Record}
use Rattle.dali_record.specs.declared.records.Record.TheVariants.{Forward, Back as BackRecord, Solo as SoloRecord}
use Rattle.dali_log.specs.declared.entry.Entry.{Entry}
use Rattle.dali_log.specs.declared.entry.Entry.TheVariants.{Whole, Op, Back, Solo}

abbrev pub record_of : Entry → Record
record_of (Whole r) = r.now
record_of (Op t b) = Forward t b.now
record_of (Back t b) = BackRecord t b.now
record_of (Solo t p b) = SoloRecord t p b.now
