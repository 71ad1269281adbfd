-- The operations of a call, one after another.
--     progress_of call stage   how far the log says that the call has come
--     next_op s t call stage   the next operation and its region;  answer_of s call stage     or else the answer
--     region_in next           the region of an operation with its region
--     IsAt s call stage        what is true of the stage of a call
--     IsNextBlock s t call stage b     b is the block of the next operation on the words of its region
use Rattle.std.specs.Prelude.{◌≡◌, ℕ, ◌≤◌, ◌<◌, ⊤, Bool, true, false, List, [], Option, Some, None, if◌then◌else◌}
use Rattle.dali_geometry.specs.Sizes.{Sizes}
use Rattle.dali_geometry.specs.Places.{home, heap_start, is_place, region_at, cell_at, regions}
use Rattle.dali_record.specs.declared.operations.Op.{Op}
use Rattle.dali_record.specs.declared.operations.Op.TheVariants.{Look, Add, KillEntry, Put, Read, Change, KillCell}
use Rattle.dali_record.specs.declared.operations.Outcome.{Outcome}
use Rattle.dali_record.specs.declared.operations.Outcome.TheVariants.{Added, Killed, Put as PutIn, Changed}
use Rattle.dali_record.specs.declared.operations.Block.{Block}
use Rattle.dali_record.specs.declared.records.Call.{Call}
use Rattle.dali_record.specs.declared.records.Call.TheVariants.{Insert, Update, Delete, Get}
use Rattle.dali_record.specs.declared.records.Answer.{Answer}
use Rattle.dali_record.specs.declared.records.Answer.TheVariants.{Exists, Missing, Odd}
use Rattle.dali_record.specs.Spelling.{Is64, IsEntry, IsBlock, is_answer_of, IsAnswer, is_read_outcome, is_change_outcome, is_kill_cell_outcome}
use Rattle.dali_record.specs.Blocks.{made}
use Rattle.dali_record.specs.Calls.{Progress, Fresh as FreshCall, Walking as WalkingCall, Nowhere as NowhereCall, Somewhere as SomewhereCall, Storing as StoringCall, Adding as AddingCall, Removing as RemovingCall, Finished as FinishedCall, after_read, after_change, after_kill_cell}
use Rattle.dali_calls.specs.declared.stage.Stage.{Stage}
use Rattle.dali_calls.specs.declared.stage.Stage.TheVariants.{Fresh, Walking, Nowhere, Somewhere, Storing, Adding, Removing, Finished}

abbrev pub call_key : Call → ℕ
call_key (Insert key v) = key
call_key (Update key v) = key
call_key (Delete key) = key
call_key (Get key) = key

-- the value of an insert
abbrev pub call_value : Call → List ℕ
call_value (Insert key v) = v
call_value (Update key v) = v
call_value _ = []

abbrev pub progress_of : Call → Stage → Progress
progress_of call Fresh = FreshCall
progress_of call (Walking region looked) = WalkingCall (call_key call) region looked
progress_of call Nowhere = NowhereCall (call_key call)
progress_of call (Somewhere region entry place) = SomewhereCall (call_key call) region entry place
progress_of call (Storing region tried) = StoringCall (call_key call) (call_value call) region tried
progress_of call (Adding place region tried) = AddingCall (call_key call) (call_value call) place region tried
progress_of call (Removing region entry place) = RemovingCall (call_key call) region entry place
progress_of call (Finished answer) = FinishedCall call answer

-- ---- the next operation
abbrev pub put_of : Call → ℕ → Option (ℕ × Op)
put_of (Insert key v) region = Some (region, Put v)
put_of _ region = None

-- what a call does in the cell that its entry names
abbrev pub in_cell : Call → ℕ → ℕ → Option (ℕ × Op)
in_cell (Insert key v) region cell = None
in_cell (Update key v) region cell = Some (region, Change cell v)
in_cell (Delete key) region cell = Some (region, KillCell cell)
in_cell (Get key) region cell = Some (region, Read cell)

abbrev pub cell_op : Sizes → Call → ℕ → Option (ℕ × Op)
cell_op s call place = if is_place s place then in_cell call (region_at place) (cell_at place) else None

abbrev pub next_op : Sizes → ℕ → Call → Stage → Option (ℕ × Op)
next_op s t call Fresh = Some (home s (call_key call), Look)
next_op s t call (Walking region looked) = Some (region, Look)
next_op s t call Nowhere = put_of call (heap_start s t)
next_op s t call (Somewhere region entry place) = cell_op s call place
next_op s t call (Storing region tried) = put_of call region
next_op s t call (Adding place region tried) = Some (region, Add place)
next_op s t call (Removing region entry place) = Some (region, KillEntry entry)
next_op s t call (Finished answer) = None

abbrev pub region_in : Option (ℕ × Op) → Option ℕ
region_in None = None
region_in (Some next) = Some next.0

abbrev pub is_cell_outcome : Call → Outcome → Bool
is_cell_outcome (Insert key v) o = false
is_cell_outcome (Update key v) o = is_change_outcome o
is_cell_outcome (Delete key) o = is_kill_cell_outcome o
is_cell_outcome (Get key) o = is_read_outcome o

-- how far the call has come behind it
abbrev pub after_cell : Call → ℕ → ℕ → ℕ → Outcome → Option Progress
after_cell (Insert key v) region entry place o = None
after_cell (Update key v) region entry place o = after_change key place v o
after_cell (Delete key) region entry place o = after_kill_cell key region entry place o
after_cell (Get key) region entry place o = after_read key place o

-- ---- the answer
abbrev pub nowhere_of : Call → Option Answer
nowhere_of (Insert key v) = None
nowhere_of _ = Some Missing

abbrev pub somewhere_of : Sizes → Call → ℕ → Option Answer
somewhere_of s (Insert key v) place = Some Exists
somewhere_of s _ place = if is_place s place then None else Some (Odd place)

abbrev pub answer_of : Sizes → Call → Stage → Option Answer
answer_of s call Nowhere = nowhere_of call
answer_of s call (Somewhere region entry place) = somewhere_of s call place
answer_of s call (Finished answer) = Some answer
answer_of s call _ = None

-- ---- what is true of a stage: its regions are there, and of a kind
abbrev pub is_insert : Call → Bool
is_insert (Insert key v) = true
is_insert _ = false

abbrev pub is_delete : Call → Bool
is_delete (Delete key) = true
is_delete _ = false

abbrev pub is_get : Call → Bool
is_get (Get key) = true
is_get _ = false

abbrev pub IsAt : Sizes → Call → Stage → Type 0
IsAt s call Fresh = ⊤
IsAt s call (Walking region looked) = (region < s.index) × (looked < s.index)
IsAt s call Nowhere = ⊤
IsAt s call (Somewhere region entry place) = (region < s.index) × IsEntry entry × Is64 place
IsAt s call (Storing region tried) = (s.index ≤ region) × (region < regions s) × (tried < s.heap) × (is_insert call ≡ true)
IsAt s call (Adding place region tried) = Is64 place × (region < s.index) × (tried < s.index) × (is_insert call ≡ true)
IsAt s call (Removing region entry place) = (region < s.index) × IsEntry entry × (is_delete call ≡ true)
IsAt s call (Finished answer) = IsAnswer answer × (is_answer_of call answer ≡ true)

-- no block yet
abbrev pub is_fresh : Stage → Bool
is_fresh Fresh = true
is_fresh _ = false

-- how many operations of a call may have changed something when it has come so far, and whether one did with this outcome
abbrev pub most : Stage → ℕ
most (Adding place region tried) = 1
most (Removing region entry place) = 1
most (Finished answer) = 2
most _ = 0

abbrev pub adds : Outcome → ℕ
adds (Added entry) = 1
adds Killed = 1
adds (PutIn cell) = 1
adds Changed = 1
adds _ = 0

-- b is the block of this operation, if there is one, on this key and on some words
pub record IsBlockOf (next : Option (ℕ × Op)) (key : ℕ) (b : Block) : Type 0 where
  pub op : next ≡ Some (b.region, b.op)
  pub words : List ℕ
  pub made_on : b ≡ made words key b.region b.op
  pub spelled : IsBlock b

abbrev pub IsNextBlock : Sizes → ℕ → Call → Stage → Block → Type 0
IsNextBlock s t call stage b = IsBlockOf (next_op s t call stage) (call_key call) b
