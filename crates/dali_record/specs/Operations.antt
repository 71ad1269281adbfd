-- What each operation does to the 64 words of a region, what it finds there, and what takes it back.
--     effect op key ws       on any words
--     EffectByReads op key ws      what it does depends on the words that it reads
--     undo_op u              the operation that performs an undo
--     changes o              whether a block with this outcome changes its item
use Rattle.std.specs.Prelude.{◌≡◌, ℕ, Bool, true, false, List, Option, Some, None}
use Rattle.dali_words.specs.Words.{AgreeUnder}
use Rattle.dali_words.specs.Effects.{carried}
use Rattle.dali_words.specs.declared.Effect.{Effect}
use Rattle.dali_words.specs.declared.KillOutcome.{KillOutcome}
use Rattle.dali_words.specs.declared.KillOutcome.TheVariants.{NotLive as KillNotLive, OtherKey as KillOtherKey, OddLength as KillOddLength, Killed as KillKilled}
use Rattle.dali_access.specs.declared.heap.PutOutcome.{PutOutcome}
use Rattle.dali_access.specs.declared.heap.PutOutcome.TheVariants.{Put as PutDone, NoCell as PutNoCell}
use Rattle.dali_access.specs.declared.heap.ReadOutcome.{ReadOutcome}
use Rattle.dali_access.specs.declared.heap.ReadOutcome.TheVariants.{NotLive as ReadNotLive, OtherKey as ReadOtherKey, OddLength as ReadOddLength, Value as ReadValue}
use Rattle.dali_access.specs.declared.heap.ChangeOutcome.{ChangeOutcome}
use Rattle.dali_access.specs.declared.heap.ChangeOutcome.TheVariants.{NotLive as ChangeNotLive, OtherKey as ChangeOtherKey, OddLength as ChangeOddLength, Changed as ChangeDone}
use Rattle.dali_access.specs.Heap.Cells.{length_of, value_of}
use Rattle.dali_access.specs.Heap.Rows as heap
use Rattle.dali_access.specs.declared.index.LookOutcome.{LookOutcome}
use Rattle.dali_access.specs.declared.index.LookOutcome.TheVariants.{Found as LookFound, Absent as LookAbsent}
use Rattle.dali_access.specs.declared.index.AddOutcome.{AddOutcome}
use Rattle.dali_access.specs.declared.index.AddOutcome.TheVariants.{Added as AddDone, NoEntry as AddNoEntry}
use Rattle.dali_access.specs.Index.Rows as index
use Rattle.dali_record.specs.declared.operations.Op.{Op}
use Rattle.dali_record.specs.declared.operations.Op.TheVariants.{Look, Add, KillEntry, Put, Read, Change, KillCell, FreeCell, ReviveCell, Restore, FreeEntry, ReviveEntry}
use Rattle.dali_record.specs.declared.operations.Outcome.{Outcome}
use Rattle.dali_record.specs.declared.operations.Outcome.TheVariants.{Found, Absent, Added, NoEntry, Killed, Put as PutIn, NoCell, Value, Changed, NotLive, OtherKey, OddLength, Undone}
use Rattle.dali_record.specs.declared.operations.Undo.{Undo}
use Rattle.dali_record.specs.declared.operations.Undo.TheVariants.{FreeCell as UndoFreeCell, ReviveCell as UndoReviveCell, Restore as UndoRestore, FreeEntry as UndoFreeEntry, ReviveEntry as UndoReviveEntry}

abbrev pub looked : LookOutcome → Outcome
looked (LookFound entry place) = Found entry place
looked (LookAbsent overflow) = Absent overflow

abbrev pub added : AddOutcome → Outcome
added (AddDone entry) = Added entry
added AddNoEntry = NoEntry

abbrev pub undo_of_add : AddOutcome → Option Undo
undo_of_add (AddDone entry) = Some (UndoFreeEntry entry)
undo_of_add AddNoEntry = None

abbrev pub killed : KillOutcome → Outcome
killed (KillNotLive state) = NotLive state
killed (KillOtherKey key) = OtherKey key
killed (KillOddLength n) = OddLength n
killed KillKilled = Killed

-- u takes the removal back
abbrev pub undo_of_kill : Undo → KillOutcome → Option Undo
undo_of_kill u (KillNotLive state) = None
undo_of_kill u (KillOtherKey key) = None
undo_of_kill u (KillOddLength n) = None
undo_of_kill u KillKilled = Some u

abbrev pub stored : PutOutcome → Outcome
stored (PutDone cell) = PutIn cell
stored PutNoCell = NoCell

abbrev pub undo_of_put : PutOutcome → Option Undo
undo_of_put (PutDone cell) = Some (UndoFreeCell cell)
undo_of_put PutNoCell = None

abbrev pub read : ReadOutcome → Outcome
read (ReadNotLive state) = NotLive state
read (ReadOtherKey key) = OtherKey key
read (ReadOddLength n) = OddLength n
read (ReadValue v) = Value v

abbrev pub changed : ChangeOutcome → Outcome
changed (ChangeNotLive state) = NotLive state
changed (ChangeOtherKey key) = OtherKey key
changed (ChangeOddLength n) = OddLength n
changed ChangeDone = Changed

-- the length and the words that stood in the cell before the change
abbrev pub undo_of_change : List ℕ → ℕ → ChangeOutcome → Option Undo
undo_of_change ws c (ChangeNotLive state) = None
undo_of_change ws c (ChangeOtherKey key) = None
undo_of_change ws c (ChangeOddLength n) = None
undo_of_change ws c ChangeDone = Some (UndoRestore c (length_of ws c) (value_of ws c))

abbrev pub effect : Op → ℕ → List ℕ → Effect × Outcome × Option Undo
effect Look key ws = let r = index.look ws key in (r.0, looked r.1, None)
effect (Add place) key ws = let r = index.add ws key place in (r.0, added r.1, undo_of_add r.1)
effect (KillEntry e) key ws = let r = index.kill ws e key in (r.0, killed r.1, undo_of_kill (UndoReviveEntry e) r.1)
effect (Put v) key ws = let r = heap.put ws key v in (r.0, stored r.1, undo_of_put r.1)
effect (Read c) key ws = let r = heap.read ws c key in (r.0, read r.1, None)
effect (Change c v) key ws = let r = heap.change ws c key v in (r.0, changed r.1, undo_of_change ws c r.1)
effect (KillCell c) key ws = let r = heap.kill ws c key in (r.0, killed r.1, undo_of_kill (UndoReviveCell c) r.1)
effect (FreeCell c) key ws = (heap.free ws c, Undone, None)
effect (ReviveCell c) key ws = (heap.revive ws c, Undone, None)
effect (Restore c n vs) key ws = (heap.restore ws c n vs, Undone, None)
effect (FreeEntry e) key ws = (index.free ws e, Undone, None)
effect (ReviveEntry e) key ws = (index.revive ws e, Undone, None)

-- on all words that agree with ws where the operation reads, it does and finds the same as on ws
abbrev pub EffectByReads : Op → ℕ → List ℕ → Type 0
EffectByReads op key ws = (us : List ℕ) → AgreeUnder (effect op key ws).0.read ws us → effect op key us ≡ (carried (effect op key ws).0 us, (effect op key ws).1, (effect op key ws).2)

abbrev pub undo_op : Undo → Op
undo_op (UndoFreeCell c) = FreeCell c
undo_op (UndoReviveCell c) = ReviveCell c
undo_op (UndoRestore c n vs) = Restore c n vs
undo_op (UndoFreeEntry e) = FreeEntry e
undo_op (UndoReviveEntry e) = ReviveEntry e

abbrev pub changes : Outcome → Bool
changes (Added e) = true
changes Killed = true
changes (PutIn c) = true
changes Changed = true
changes Undone = true
changes _ = false
