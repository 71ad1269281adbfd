-- The table of active transactions, as rows of an image.
--     rows_of m                its rows, ascending by transaction; a live, a dead and a cleaned one are all written as active
--     kept row                 a row as it is read: live, or committed
--     AreUndos us              the undos have a spelling
use Rattle.std.specs.Prelude.{ℕ, Bool, true, false, List, Option, Some, None, map}
use Rattle.std.specs.List.{AllByRecursion}
use Rattle.std.specs.FinMap.{keys}
use Rattle.dali_att.specs.declared.state.State.{State}
use Rattle.dali_att.specs.declared.state.State.TheVariants.{Live, Dead, Cleaning, Committed}
use Rattle.dali_att.specs.Table.{Row as Entry, Table, state_at, undos_at}
use Rattle.dali_record.specs.declared.operations.Pending.{Pending}
use Rattle.dali_record.specs.Spelling.{IsUndo}
use Rattle.dali_record.specs.Files.{Row}

abbrev pub is_committed : Option State → Bool
is_committed None = false
is_committed (Some Live) = false
is_committed (Some (Dead r)) = false
is_committed (Some (Cleaning r)) = false
is_committed (Some Committed) = true

abbrev pub row_at : Table Pending → ℕ → Row
row_at m t = record { txn = t; is_committed = is_committed (state_at m t); undos = undos_at m t }

abbrev pub rows_of : Table Pending → List Row
rows_of m = map (row_at m) (keys m)

abbrev pub state_read : Bool → State
state_read false = Live
state_read true = Committed

abbrev pub kept : Row → Entry Pending
kept row = record { state = state_read row.is_committed; undos = row.undos }

abbrev pub AreUndos : List Pending → Type 0
AreUndos us = AllByRecursion (λ u. IsUndo u.undo) us
