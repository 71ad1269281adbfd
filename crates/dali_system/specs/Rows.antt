-- The rows of the system's table.
--     IsRow next t row         the transaction t began, and what takes it back can be made operations
--     AreRows next table       the same of each row
use Rattle.std.specs.Prelude.{◌≡◌, ℕ, ◌<◌, Some}
use Rattle.std.specs.List.{AllByRecursion}
use Rattle.std.specs.FinMap.{get}
use Rattle.dali_record.specs.declared.operations.Pending.{Pending}
use Rattle.dali_record.specs.Spelling.{IsUndo}
use Rattle.dali_att.specs.Table.{Table, Row}

pub record IsRow (next t : ℕ) (row : Row Pending) : Type 0 where
  pub begun : t < next
  pub undoes : AllByRecursion (λ (u : Pending). IsUndo u.undo) row.undos

abbrev pub AreRows : ℕ → Table Pending → Type 0
AreRows next table = (t : ℕ) (row : Row Pending) → get table t ≡ Some row → IsRow next t row
