-- Records as bytes: a number in one byte, and the fields in the order of the types. All numbers are big-endian.
--     spelling r             the bytes of a record
--     CanBeSpelled r         a record has a spelling: its numbers, cells, entries and values are in range, its block's outcome and undo belong to its operation, its answer to its call, and its lists ascend
--     Begins bytes r         the bytes begin with the spelling of a record
--     record_length r        how many bytes spell a record
use Rattle.std.specs.Prelude.{◌≡◌, ℕ, ◌+◌, ◌*◌, ◌<◌, ◌^◌, ⊤, Bool, true, false, ◌&&◌, List, [], ◌∷◌, ◌++◌, Option, Some, None, length, flat_map, is_none, not, nat_lt, nat_le, ◌==◌, bit_and, count_ones}
use Rattle.std.specs.List.{AllByRecursion}
use Rattle.dali_words.specs.Values.{IsValue}
use Rattle.dali_bytes.specs.Fields.{number32, number64}
use Rattle.dali_record.specs.declared.operations.Op.{Op}
use Rattle.dali_record.specs.declared.operations.Op.TheVariants.{Look, Add, KillEntry, Put, Read, Change, KillCell, FreeCell, ReviveCell, Restore, FreeEntry, ReviveEntry}
use Rattle.dali_record.specs.declared.operations.Outcome.{Outcome}
use Rattle.dali_record.specs.declared.operations.Outcome.TheVariants.{Found, Absent, Added, NoEntry, Killed, Put as PutIn, NoCell, Value, Changed, NotLive, OtherKey, OddLength, Undone}
use Rattle.dali_record.specs.declared.operations.Undo.{Undo}
use Rattle.dali_record.specs.declared.operations.Undo.TheVariants.{FreeCell as UndoFreeCell, ReviveCell as UndoReviveCell, Restore as UndoRestore, FreeEntry as UndoFreeEntry, ReviveEntry as UndoReviveEntry}
use Rattle.dali_record.specs.declared.operations.Block.{Block}
use Rattle.dali_record.specs.declared.records.Call.{Call}
use Rattle.dali_record.specs.declared.records.Call.TheVariants.{Insert, Update, Delete, Get}
use Rattle.dali_record.specs.declared.records.Answer.{Answer}
use Rattle.dali_record.specs.declared.records.Answer.TheVariants.{Ok as AnswerOk, Exists, Missing, Got, FullHeap, FullIndex, Odd}
use Rattle.dali_record.specs.declared.records.Record.{Record}
use Rattle.dali_record.specs.declared.records.Record.TheVariants.{Format, Begin, Forward, Done, Commit, Ended, Solo, AuditBegin, AuditClean, AuditFail, Restarted, Back}

-- ---- fields
abbrev pub byte : ℕ → List ℕ
byte n = n ∷ []

-- the fields, one after another
abbrev pub fields : List (List ℕ) → List ℕ
fields [] = []
fields (f ∷ []) = f
fields (f ∷ g ∷ gs) = f ++ fields (g ∷ gs)

abbrev pub value_bytes : List ℕ → List ℕ
value_bytes v = length v ∷ v

abbrev pub flag_bytes : Bool → List ℕ
flag_bytes false = byte 0
flag_bytes true = byte 1

abbrev pub words_bytes : List ℕ → List ℕ
words_bytes ns = flat_map number64 ns

abbrev pub counted32 : List ℕ → List ℕ
counted32 ns = fields (number32 (length ns) ∷ flat_map number32 ns ∷ [])

abbrev pub counted64 : List ℕ → List ℕ
counted64 ns = fields (number32 (length ns) ∷ words_bytes ns ∷ [])

-- ---- blocks
abbrev pub op_bytes : Op → List ℕ
op_bytes Look = byte 1
op_bytes (Add place) = fields (byte 2 ∷ number64 place ∷ [])
op_bytes (KillEntry entry) = fields (byte 3 ∷ byte entry ∷ [])
op_bytes (Put v) = fields (byte 4 ∷ value_bytes v ∷ [])
op_bytes (Read cell) = fields (byte 5 ∷ byte cell ∷ [])
op_bytes (Change cell v) = fields (byte 6 ∷ byte cell ∷ value_bytes v ∷ [])
op_bytes (KillCell cell) = fields (byte 7 ∷ byte cell ∷ [])
op_bytes (FreeCell cell) = fields (byte 8 ∷ byte cell ∷ [])
op_bytes (ReviveCell cell) = fields (byte 9 ∷ byte cell ∷ [])
op_bytes (Restore cell n words) = fields (byte 10 ∷ byte cell ∷ number64 n ∷ words_bytes words ∷ [])
op_bytes (FreeEntry entry) = fields (byte 11 ∷ byte entry ∷ [])
op_bytes (ReviveEntry entry) = fields (byte 12 ∷ byte entry ∷ [])

abbrev pub outcome_bytes : Outcome → List ℕ
outcome_bytes (Found entry place) = fields (byte 1 ∷ byte entry ∷ number64 place ∷ [])
outcome_bytes (Absent overflow) = fields (byte 2 ∷ flag_bytes overflow ∷ [])
outcome_bytes (Added entry) = fields (byte 3 ∷ byte entry ∷ [])
outcome_bytes NoEntry = byte 4
outcome_bytes Killed = byte 5
outcome_bytes (PutIn cell) = fields (byte 6 ∷ byte cell ∷ [])
outcome_bytes NoCell = byte 7
outcome_bytes (Value v) = fields (byte 8 ∷ value_bytes v ∷ [])
outcome_bytes Changed = byte 9
outcome_bytes (NotLive state) = fields (byte 10 ∷ number64 state ∷ [])
outcome_bytes (OtherKey key) = fields (byte 11 ∷ number64 key ∷ [])
outcome_bytes (OddLength n) = fields (byte 12 ∷ number64 n ∷ [])
outcome_bytes Undone = byte 13

abbrev pub undo_bytes : Option Undo → List ℕ
undo_bytes None = byte 0
undo_bytes (Some (UndoFreeCell cell)) = fields (byte 1 ∷ byte cell ∷ [])
undo_bytes (Some (UndoReviveCell cell)) = fields (byte 2 ∷ byte cell ∷ [])
undo_bytes (Some (UndoRestore cell n words)) = fields (byte 3 ∷ byte cell ∷ number64 n ∷ words_bytes words ∷ [])
undo_bytes (Some (UndoFreeEntry entry)) = fields (byte 4 ∷ byte entry ∷ [])
undo_bytes (Some (UndoReviveEntry entry)) = fields (byte 5 ∷ byte entry ∷ [])

abbrev pub block_bytes : Block → List ℕ
block_bytes b = fields (number64 b.key ∷ number32 b.region ∷ op_bytes b.op ∷ number64 b.read ∷ number64 b.xor ∷ number64 b.write ∷ words_bytes b.after ∷ outcome_bytes b.outcome ∷ undo_bytes b.undo ∷ [])

-- ---- calls
abbrev pub call_bytes : Call → List ℕ
call_bytes (Insert key v) = fields (byte 1 ∷ number64 key ∷ value_bytes v ∷ [])
call_bytes (Update key v) = fields (byte 2 ∷ number64 key ∷ value_bytes v ∷ [])
call_bytes (Delete key) = fields (byte 3 ∷ number64 key ∷ [])
call_bytes (Get key) = fields (byte 4 ∷ number64 key ∷ [])

abbrev pub answer_bytes : Answer → List ℕ
answer_bytes AnswerOk = byte 1
answer_bytes Exists = byte 2
answer_bytes Missing = byte 3
answer_bytes (Got v) = fields (byte 4 ∷ value_bytes v ∷ [])
answer_bytes FullHeap = byte 5
answer_bytes FullIndex = byte 6
answer_bytes (Odd place) = fields (byte 7 ∷ number64 place ∷ [])

-- ---- records; the format has version 1
abbrev pub spelling : Record → List ℕ
spelling (Format index heap) = fields (byte 1 ∷ byte 1 ∷ number32 index ∷ number32 heap ∷ [])
spelling (Begin txn) = fields (byte 2 ∷ number64 txn ∷ [])
spelling (Forward txn b) = fields (byte 3 ∷ number64 txn ∷ block_bytes b ∷ [])
spelling (Done txn c a) = fields (byte 4 ∷ number64 txn ∷ call_bytes c ∷ answer_bytes a ∷ [])
spelling (Commit txn) = fields (byte 5 ∷ number64 txn ∷ [])
spelling (Ended txn) = fields (byte 6 ∷ number64 txn ∷ [])
spelling (Solo txn parent b) = fields (byte 7 ∷ number64 txn ∷ number64 parent ∷ block_bytes b ∷ [])
spelling AuditBegin = byte 8
spelling (AuditClean begin) = fields (byte 9 ∷ number64 begin ∷ [])
spelling (AuditFail begin regions) = fields (byte 10 ∷ number64 begin ∷ counted32 regions ∷ [])
spelling (Restarted rolled_back deleted) = fields (byte 11 ∷ counted64 rolled_back ∷ counted64 deleted ∷ [])
spelling (Back txn b) = fields (byte 12 ∷ number64 txn ∷ block_bytes b ∷ [])

-- ---- what has a spelling
abbrev pub Is32 : ℕ → Type 0
Is32 n = n < 2 ^ 32

abbrev pub Is64 : ℕ → Type 0
Is64 n = n < 2 ^ 64

abbrev pub is_cell : ℕ → Bool
is_cell cell = nat_le 1 cell && nat_le cell 7

abbrev pub is_entry : ℕ → Bool
is_entry entry = nat_le entry 20

abbrev pub IsCell : ℕ → Type 0
IsCell cell = is_cell cell ≡ true

abbrev pub IsEntry : ℕ → Type 0
IsEntry entry = is_entry entry ≡ true

-- the five words of a cell's value
abbrev pub AreFive : List ℕ → Type 0
AreFive words = (length words ≡ 5) × AllByRecursion Is64 words

abbrev pub IsOperation : Op → Type 0
IsOperation Look = ⊤
IsOperation (Add place) = Is64 place
IsOperation (KillEntry entry) = IsEntry entry
IsOperation (Put v) = IsValue v
IsOperation (Read cell) = IsCell cell
IsOperation (Change cell v) = IsCell cell × IsValue v
IsOperation (KillCell cell) = IsCell cell
IsOperation (FreeCell cell) = IsCell cell
IsOperation (ReviveCell cell) = IsCell cell
IsOperation (Restore cell n words) = IsCell cell × Is64 n × AreFive words
IsOperation (FreeEntry entry) = IsEntry entry
IsOperation (ReviveEntry entry) = IsEntry entry

abbrev pub IsOutcome : Outcome → Type 0
IsOutcome (Found entry place) = IsEntry entry × Is64 place
IsOutcome (Absent overflow) = ⊤
IsOutcome (Added entry) = IsEntry entry
IsOutcome NoEntry = ⊤
IsOutcome Killed = ⊤
IsOutcome (PutIn cell) = IsCell cell
IsOutcome NoCell = ⊤
IsOutcome (Value v) = IsValue v
IsOutcome Changed = ⊤
IsOutcome (NotLive state) = Is64 state
IsOutcome (OtherKey key) = Is64 key
IsOutcome (OddLength n) = Is64 n
IsOutcome Undone = ⊤

abbrev pub IsUndo : Undo → Type 0
IsUndo (UndoFreeCell cell) = IsCell cell
IsUndo (UndoReviveCell cell) = IsCell cell
IsUndo (UndoRestore cell n words) = IsCell cell × Is64 n × AreFive words
IsUndo (UndoFreeEntry entry) = IsEntry entry
IsUndo (UndoReviveEntry entry) = IsEntry entry

abbrev pub MayBeUndo : Option Undo → Type 0
MayBeUndo None = ⊤
MayBeUndo (Some u) = IsUndo u

-- the outcomes of each operation
abbrev pub is_look_outcome : Outcome → Bool
is_look_outcome (Found entry place) = true
is_look_outcome (Absent overflow) = true
is_look_outcome _ = false

abbrev pub is_add_outcome : Outcome → Bool
is_add_outcome (Added entry) = true
is_add_outcome NoEntry = true
is_add_outcome _ = false

abbrev pub is_kill_entry_outcome : Outcome → Bool
is_kill_entry_outcome (NotLive state) = true
is_kill_entry_outcome (OtherKey key) = true
is_kill_entry_outcome Killed = true
is_kill_entry_outcome _ = false

abbrev pub is_put_outcome : Outcome → Bool
is_put_outcome (PutIn cell) = true
is_put_outcome NoCell = true
is_put_outcome _ = false

abbrev pub is_read_outcome : Outcome → Bool
is_read_outcome (NotLive state) = true
is_read_outcome (OtherKey key) = true
is_read_outcome (OddLength n) = true
is_read_outcome (Value v) = true
is_read_outcome _ = false

abbrev pub is_change_outcome : Outcome → Bool
is_change_outcome (NotLive state) = true
is_change_outcome (OtherKey key) = true
is_change_outcome (OddLength n) = true
is_change_outcome Changed = true
is_change_outcome _ = false

abbrev pub is_kill_cell_outcome : Outcome → Bool
is_kill_cell_outcome (NotLive state) = true
is_kill_cell_outcome (OtherKey key) = true
is_kill_cell_outcome (OddLength n) = true
is_kill_cell_outcome Killed = true
is_kill_cell_outcome _ = false

abbrev pub is_undone : Outcome → Bool
is_undone Undone = true
is_undone _ = false

abbrev pub is_outcome_of : Op → Outcome → Bool
is_outcome_of Look o = is_look_outcome o
is_outcome_of (Add place) o = is_add_outcome o
is_outcome_of (KillEntry entry) o = is_kill_entry_outcome o
is_outcome_of (Put v) o = is_put_outcome o
is_outcome_of (Read cell) o = is_read_outcome o
is_outcome_of (Change cell v) o = is_change_outcome o
is_outcome_of (KillCell cell) o = is_kill_cell_outcome o
is_outcome_of (FreeCell cell) o = is_undone o
is_outcome_of (ReviveCell cell) o = is_undone o
is_outcome_of (Restore cell n words) o = is_undone o
is_outcome_of (FreeEntry entry) o = is_undone o
is_outcome_of (ReviveEntry entry) o = is_undone o

-- the undo that each operation gives with its outcome: that of a change has a length and words of its own
abbrev pub frees_cell : ℕ → Option Undo → Bool
frees_cell cell (Some (UndoFreeCell c)) = c == cell
frees_cell cell _ = false

abbrev pub revives_cell : ℕ → Option Undo → Bool
revives_cell cell (Some (UndoReviveCell c)) = c == cell
revives_cell cell _ = false

abbrev pub restores : ℕ → Option Undo → Bool
restores cell (Some (UndoRestore c n words)) = c == cell
restores cell _ = false

abbrev pub frees_entry : ℕ → Option Undo → Bool
frees_entry entry (Some (UndoFreeEntry e)) = e == entry
frees_entry entry _ = false

abbrev pub revives_entry : ℕ → Option Undo → Bool
revives_entry entry (Some (UndoReviveEntry e)) = e == entry
revives_entry entry _ = false

abbrev pub undoes_add : Outcome → Option Undo → Bool
undoes_add (Added entry) u = frees_entry entry u
undoes_add _ u = is_none u

abbrev pub undoes_kill_entry : ℕ → Outcome → Option Undo → Bool
undoes_kill_entry entry Killed u = revives_entry entry u
undoes_kill_entry entry _ u = is_none u

abbrev pub undoes_put : Outcome → Option Undo → Bool
undoes_put (PutIn cell) u = frees_cell cell u
undoes_put _ u = is_none u

abbrev pub undoes_change : ℕ → Outcome → Option Undo → Bool
undoes_change cell Changed u = restores cell u
undoes_change cell _ u = is_none u

abbrev pub undoes_kill_cell : ℕ → Outcome → Option Undo → Bool
undoes_kill_cell cell Killed u = revives_cell cell u
undoes_kill_cell cell _ u = is_none u

abbrev pub undoes : Op → Outcome → Option Undo → Bool
undoes Look o u = is_none u
undoes (Add place) o u = undoes_add o u
undoes (KillEntry entry) o u = undoes_kill_entry entry o u
undoes (Put v) o u = undoes_put o u
undoes (Read cell) o u = is_none u
undoes (Change cell v) o u = undoes_change cell o u
undoes (KillCell cell) o u = undoes_kill_cell cell o u
undoes (FreeCell cell) o u = is_none u
undoes (ReviveCell cell) o u = is_none u
undoes (Restore cell n words) o u = is_none u
undoes (FreeEntry entry) o u = is_none u
undoes (ReviveEntry entry) o u = is_none u

-- whether the set `write` lies within the set `read`
abbrev pub is_within : ℕ → ℕ → Bool
is_within write read = bit_and write read == write

abbrev pub fits : Block → Bool
fits b = is_within b.write b.read && is_outcome_of b.op b.outcome && undoes b.op b.outcome b.undo

pub record IsBlock (b : Block) : Type 0 where
  pub key : Is64 b.key
  pub region : Is32 b.region
  pub op : IsOperation b.op
  pub read : Is64 b.read
  pub xor : Is64 b.xor
  pub write : Is64 b.write
  -- one new word for each member of the write mask
  pub count : length b.after ≡ count_ones b.write
  pub after : AllByRecursion Is64 b.after
  pub outcome : IsOutcome b.outcome
  pub undo : MayBeUndo b.undo
  pub fit : fits b ≡ true

-- the operations of calls, those that take back, and those that free what a removal left
abbrev pub is_forward : Op → Bool
is_forward (FreeCell cell) = false
is_forward (ReviveCell cell) = false
is_forward (Restore cell n words) = false
is_forward (FreeEntry entry) = false
is_forward (ReviveEntry entry) = false
is_forward _ = true

abbrev pub is_back : Op → Bool
is_back op = not (is_forward op)

abbrev pub is_solo : Op → Bool
is_solo (FreeCell cell) = true
is_solo (FreeEntry entry) = true
is_solo _ = false

abbrev pub IsCall : Call → Type 0
IsCall (Insert key v) = Is64 key × IsValue v
IsCall (Update key v) = Is64 key × IsValue v
IsCall (Delete key) = Is64 key
IsCall (Get key) = Is64 key

abbrev pub IsAnswer : Answer → Type 0
IsAnswer AnswerOk = ⊤
IsAnswer Exists = ⊤
IsAnswer Missing = ⊤
IsAnswer (Got v) = IsValue v
IsAnswer FullHeap = ⊤
IsAnswer FullIndex = ⊤
IsAnswer (Odd place) = Is64 place

-- the answers of each call
abbrev pub is_insert_answer : Answer → Bool
is_insert_answer AnswerOk = true
is_insert_answer Exists = true
is_insert_answer FullHeap = true
is_insert_answer FullIndex = true
is_insert_answer _ = false

abbrev pub is_change_answer : Answer → Bool
is_change_answer AnswerOk = true
is_change_answer Missing = true
is_change_answer (Odd place) = true
is_change_answer _ = false

abbrev pub is_get_answer : Answer → Bool
is_get_answer (Got v) = true
is_get_answer Missing = true
is_get_answer (Odd place) = true
is_get_answer _ = false

abbrev pub is_answer_of : Call → Answer → Bool
is_answer_of (Insert key v) a = is_insert_answer a
is_answer_of (Update key v) a = is_change_answer a
is_answer_of (Delete key) a = is_change_answer a
is_answer_of (Get key) a = is_get_answer a

-- strictly, each below the next
abbrev pub ascends : List ℕ → Bool
ascends [] = true
ascends (n ∷ []) = true
ascends (n ∷ m ∷ ms) = nat_lt n m && ascends (m ∷ ms)

abbrev pub is_size_of_index : ℕ → Bool
is_size_of_index index = nat_le 1 index && nat_le index 32768

abbrev pub is_size_of_heap : ℕ → Bool
is_size_of_heap heap = nat_le 1 heap && nat_le heap 65536

abbrev pub AreRegions : List ℕ → Type 0
AreRegions ns = Is32 (length ns) × AllByRecursion Is32 ns × (ascends ns ≡ true)

abbrev pub AreNumbers : List ℕ → Type 0
AreNumbers ns = Is32 (length ns) × AllByRecursion Is64 ns × (ascends ns ≡ true)

abbrev pub CanBeSpelled : Record → Type 0
CanBeSpelled (Format index heap) = (is_size_of_index index ≡ true) × (is_size_of_heap heap ≡ true)
CanBeSpelled (Begin txn) = Is64 txn
CanBeSpelled (Forward txn b) = Is64 txn × IsBlock b × (is_forward b.op ≡ true)
CanBeSpelled (Done txn c a) = Is64 txn × IsCall c × IsAnswer a × (is_answer_of c a ≡ true)
CanBeSpelled (Commit txn) = Is64 txn
CanBeSpelled (Ended txn) = Is64 txn
CanBeSpelled (Solo txn parent b) = Is64 txn × Is64 parent × IsBlock b × (is_solo b.op ≡ true)
CanBeSpelled AuditBegin = ⊤
CanBeSpelled (AuditClean begin) = Is64 begin
CanBeSpelled (AuditFail begin regions) = Is64 begin × AreRegions regions × (0 < length regions)
CanBeSpelled (Restarted rolled_back deleted) = AreNumbers rolled_back × AreNumbers deleted
CanBeSpelled (Back txn b) = Is64 txn × IsBlock b × (is_back b.op ≡ true)

-- the spelling of the record stands at the front
abbrev pub Begins : List ℕ → Record → Type 0
Begins bytes r = CanBeSpelled r × (rest : List ℕ) × (bytes ≡ spelling r ++ rest)

-- whether a record holds a list
abbrev pub has_list : Record → Bool
has_list (AuditFail begin regions) = true
has_list (Restarted rolled_back deleted) = true
has_list _ = false

-- ---- lengths
abbrev pub op_length : Op → ℕ
op_length Look = 1
op_length (Add p) = 9
op_length (Put v) = 2 + length v
op_length (Change c v) = 3 + length v
op_length (Restore c n vs) = 50
op_length _ = 2

abbrev pub outcome_length : Outcome → ℕ
outcome_length (Found e p) = 10
outcome_length (Absent o) = 2
outcome_length (Added e) = 2
outcome_length (PutIn c) = 2
outcome_length (Value v) = 2 + length v
outcome_length (NotLive n) = 9
outcome_length (OtherKey n) = 9
outcome_length (OddLength n) = 9
outcome_length _ = 1

abbrev pub undo_length : Option Undo → ℕ
undo_length None = 1
undo_length (Some (UndoRestore c n vs)) = 50
undo_length (Some _) = 2

abbrev pub block_length : Block → ℕ
block_length b = 12 + op_length b.op + 24 + 8 * length b.after + outcome_length b.outcome + undo_length b.undo

abbrev pub call_length : Call → ℕ
call_length (Insert k v) = 10 + length v
call_length (Update k v) = 10 + length v
call_length (Delete k) = 9
call_length (Get k) = 9

abbrev pub answer_length : Answer → ℕ
answer_length (Got v) = 2 + length v
answer_length (Odd p) = 9
answer_length _ = 1

abbrev pub record_length : Record → ℕ
record_length (Format i h) = 10
record_length (Begin t) = 9
record_length (Forward t b) = 9 + block_length b
record_length (Done t c a) = 9 + call_length c + answer_length a
record_length (Commit t) = 9
record_length (Ended t) = 9
record_length (Solo t p b) = 17 + block_length b
record_length AuditBegin = 1
record_length (AuditClean b) = 9
record_length (AuditFail b rs) = 13 + 4 * length rs
record_length (Restarted rs ds) = 9 + 8 * length rs + 8 * length ds
record_length (Back t b) = 9 + block_length b
