-- Within a run without stray writes each undo finds its slot as its transaction left it.
--     UndosFindInRuns          at each moment, in whatever order the transactions without a Commit are taken back
--     RowUndosFind             the undos of a row of the table by themselves
--     LastUndoFinds            the last one of a row as the words stand now, with the updates of open operations taken back
--     BacksFindInRuns          so it was where a block took an undo back
--     CutFinds steps n p slot  behind these steps, from a format on, p is the undo number n of transaction 1, and finds this slot once those above it are taken back
--     FindsInInsert, FindsInDelete, FindsBelow      so it is inside an insert, inside a delete, and of the cell that the delete killed, once it is live again
use Rattle.std.specs.Prelude.{◌≡◌, ℕ, ◌+◌, false, List, [], ◌∷◌, Some, take, length, slice_get, IsPermutation}
use Rattle.dali_geometry.specs.Places.{formatted_image}
use Rattle.dali_record.specs.declared.operations.Block.{Block}
use Rattle.dali_record.specs.declared.operations.Pending.{Pending}
use Rattle.dali_record.specs.declared.operations.Undo.TheVariants.{FreeCell, ReviveCell}
use Rattle.dali_record.specs.declared.records.Record.{Record}
use Rattle.dali_record.specs.declared.records.Record.TheVariants.{Back}
use Rattle.dali_record.specs.Log.{undos_of}
use Rattle.dali_record.specs.Epochs.{last_epoch}
use Rattle.dali_history.specs.Kept.Kept.{uncommitted}
use Rattle.dali_history.specs.Undone.AsLeft.{slot_at, moment, IsAsLeft, FindAsLeft, IsTakenBack}
use Rattle.dali_runs.specs.State.{TxnRow, CoreState, row_of}
use Rattle.dali_runs.specs.Run.{Bases, base_at, RunsOn, is_committed}
use Rattle.dali_runs.specs.Courses.{Step, Moment, IsCourse}
use Rattle.dali_runs.specs.Worked.{small, start}
use Rattle.dali_crash.specs.CrashLogs.{IsUnpoked}
use Rattle.dali_during.specs.During.{IsRightBase, image_of}
use Rattle.dali_during.specs.Gaps.{put_so_far, killed_so_far}

abbrev pub UndosFindInRuns : Type 0
UndosFindInRuns =
    (bases : Bases) (L : List Record) (c : CoreState) → RunsOn bases L c → IsUnpoked c → IsRightBase c.system.sizes (base_at bases L)
    → (order : List ℕ) → IsPermutation order (uncommitted (last_epoch L).records) → FindAsLeft (base_at bases L) (last_epoch L).records (image_of c) order

abbrev pub RowUndosFind : Type 0
RowUndosFind =
    (bases : Bases) (L : List Record) (c : CoreState) → RunsOn bases L c → IsUnpoked c → IsRightBase c.system.sizes (base_at bases L)
    → (t : ℕ) (row : TxnRow) → row_of c.system t ≡ Some row → is_committed row.state ≡ false
    → (undos_of t (last_epoch L).records ≡ row.undos) × FindAsLeft (base_at bases L) (last_epoch L).records (image_of c) (t ∷ [])

abbrev pub LastUndoFinds : Type 0
LastUndoFinds =
    (bases : Bases) (L : List Record) (c : CoreState) → RunsOn bases L c → IsUnpoked c → IsRightBase c.system.sizes (base_at bases L)
    → (t n : ℕ) (row : TxnRow) (p : Pending) → row_of c.system t ≡ Some row → is_committed row.state ≡ false → length row.undos ≡ n + 1 → slice_get row.undos n ≡ Some p
    → IsAsLeft (base_at bases L) (last_epoch L).records t n p (image_of c)

abbrev pub BacksFindInRuns : Type 0
BacksFindInRuns =
    (bases : Bases) (L : List Record) (c : CoreState) → RunsOn bases L c → IsUnpoked c → IsRightBase c.system.sizes (base_at bases L)
    → (i t : ℕ) (b : Block) → slice_get (last_epoch L).records i ≡ Some (Back t b) → IsTakenBack (base_at bases L) (take i (last_epoch L).records) t b

-- ---- worked
pub record CutFinds (steps : List Step) (n : ℕ) (p : Pending) (slot : List ℕ) : Type 0 where
  pub finish : Moment
  pub course : IsCourse (start (formatted_image small)) steps finish
  pub undo : slice_get (undos_of 1 (last_epoch finish.log).records) n ≡ Some p
  pub found : IsAsLeft (formatted_image small) (last_epoch finish.log).records 1 n p (moment (image_of finish.core) (last_epoch finish.log).records [] 1 n)
  pub slot_is : slot_at (moment (image_of finish.core) (last_epoch finish.log).records [] 1 n) p ≡ slot

-- the cell was put with a value of one byte
abbrev pub FindsInInsert : Type 0
FindsInInsert = CutFinds put_so_far 0 (record { key = 5; region = 1; undo = FreeCell 1 }) (1 ∷ 5 ∷ 1 ∷ 0 ∷ 0 ∷ 0 ∷ 0 ∷ 0 ∷ [])

abbrev pub FindsInDelete : Type 0
FindsInDelete = CutFinds killed_so_far 2 (record { key = 5; region = 1; undo = ReviveCell 1 }) (2 ∷ 5 ∷ 1 ∷ 0 ∷ 0 ∷ 0 ∷ 0 ∷ 0 ∷ [])

abbrev pub FindsBelow : Type 0
FindsBelow = CutFinds killed_so_far 0 (record { key = 5; region = 1; undo = FreeCell 1 }) (1 ∷ 5 ∷ 1 ∷ 0 ∷ 0 ∷ 0 ∷ 0 ∷ 0 ∷ [])
