-- The table's part of a run by itself.
--     IsAllowed s L x          the rules allow the record to each transaction that it concerns
--     table_after x T          the table behind the record x
--     TableLogs                a record that is allowed keeps the table's part
--     TableMoves               so does a death, a claim, and a claim that is given back
--     TableLeaves              a record leaves the rows of those that it doesn't concern
use Rattle.std.specs.Prelude.{◌≡◌, ℕ, true, false, List, [], ◌∷◌, ◌++◌, Some}
use Rattle.std.specs.FinMap as map
use Rattle.dali_geometry.specs.Sizes.{Sizes}
use Rattle.dali_record.specs.declared.operations.Pending.{Pending}
use Rattle.dali_record.specs.declared.records.Record.{Record}
use Rattle.dali_record.specs.declared.records.Record.TheVariants.{Begin, Forward, Commit, Ended, Back}
use Rattle.dali_record.specs.Epochs.{separates}
use Rattle.dali_record.specs.Legal.{concerns}
use Rattle.dali_att.specs.declared.state.State.{State}
use Rattle.dali_att.specs.Table.{Table, fresh_row, with_row, with_state, without_last}
use Rattle.dali_runs.specs.State.{state_in}
use Rattle.dali_runs.specs.Run.{TableRun}
use Rattle.dali_runs.specs.Steps.{undo_kept, committed_row}
use Rattle.dali_runs.specs.Keeps.{IsNext, moves_to}

abbrev pub IsAllowed : Sizes → List Record → Record → Type 0
IsAllowed s L x = (u : ℕ) → concerns u x ≡ true → IsNext s L u x

abbrev pub table_after : Record → Table Pending → Table Pending
table_after (Begin t) T = map.insert T t fresh_row
table_after (Forward t b) T = undo_kept T t b b.undo
table_after (Back t b) T = with_row T t without_last
table_after (Commit t) T = with_row T t committed_row
table_after (Ended t) T = map.remove T t
table_after x T = T

abbrev pub TableLogs : Type 0
TableLogs =
    (s : Sizes) (L : List Record) (x : Record) (T : Table Pending) → TableRun s L T
    → separates x ≡ false → IsAllowed s L x
    → TableRun s (L ++ x ∷ []) (table_after x T)

abbrev pub TableMoves : Type 0
TableMoves =
    (s : Sizes) (L : List Record) (T : Table Pending) (t : ℕ) (old new : State) → TableRun s L T
    → state_in (map.get T t) ≡ Some old → moves_to old new ≡ true
    → TableRun s L (with_row T t (with_state new))

abbrev pub TableLeaves : Type 0
TableLeaves = (x : Record) (T : Table Pending) (u : ℕ) → concerns u x ≡ false → map.get (table_after x T) u ≡ map.get T u
