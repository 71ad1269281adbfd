-- A row of a table as it was read, without where it lies in memory.
use Rattle.dali_record.specs.Files.{Row}
use Rattle.dali_image.specs.declared.decoding.Row.{Row as RowRead}

abbrev pub row_of : RowRead → Row
row_of r = record { txn = r.txn; is_committed = r.is_committed; undos = r.undos.items }
