-- A table whose transactions are all at most the last one that was read.
use Rattle.std.specs.Prelude.{◌≡◌, ℕ, true, Option, None}
use Rattle.std.specs.FinMap.{get}
use Rattle.dali_att.specs.Table.{Table}
use Rattle.dali_record.specs.declared.operations.Pending.{Pending}
use Rattle.dali_record.specs.Reading.{is_above}

abbrev pub IsAbove : Table Pending → Option ℕ → Type 0
IsAbove m last = (t : ℕ) → is_above last t ≡ true → get m t ≡ None
