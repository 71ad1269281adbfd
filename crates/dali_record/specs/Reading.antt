-- Reading records from the left, a field at a time: what was read with the bytes after it, or None where nothing that can be spelled begins.
--     one f at, two f g .., chosen rows n bytes      ways to put readers together
--     record_at bytes                                the record that begins there
--     Gives result rest read                         what reading a record answered, unless memory was refused
--     Puts result x rest read                        the same of reading into a place, which has x then
--     Fills result x rest read                       the same where no memory is taken
--     Passes result rest read                        what passing over a list answered: how many numbers it has
use Rattle.std.specs.Prelude.{◌≡◌, ℕ, ⊤, Bool, true, false, List, [], ◌∷◌, Option, Some, None, Result, Ok, Err, IsSome, zero, suc, length, nat_lt, ◌==◌, if◌then◌else◌, count_ones}
use Rattle.dali_words.specs.Values.{value_of}
use Rattle.dali_bytes.specs.Reading.{byte_at, number32_at, number64_at, bytes_at}
use Rattle.dali_record.specs.declared.operations.Op.{Op}
use Rattle.dali_record.specs.declared.operations.Op.TheVariants.{Look, Add, KillEntry, Put, Read, Change, KillCell, FreeCell, ReviveCell, Restore, FreeEntry, ReviveEntry}
use Rattle.dali_record.specs.declared.operations.Outcome.{Outcome}
use Rattle.dali_record.specs.declared.operations.Outcome.TheVariants.{Found, Absent, Added, NoEntry, Killed, Put as PutIn, NoCell, Value, Changed, NotLive, OtherKey, OddLength, Undone}
use Rattle.dali_record.specs.declared.operations.Undo.{Undo}
use Rattle.dali_record.specs.declared.operations.Undo.TheVariants.{FreeCell as UndoFreeCell, ReviveCell as UndoReviveCell, Restore as UndoRestore, FreeEntry as UndoFreeEntry, ReviveEntry as UndoReviveEntry}
use Rattle.dali_record.specs.declared.operations.Block.{Block}
use Rattle.dali_record.specs.declared.records.Call.{Call}
use Rattle.dali_record.specs.declared.records.Call.TheVariants.{Insert, Update, Delete, Get}
use Rattle.dali_record.specs.declared.records.Answer.{Answer}
use Rattle.dali_record.specs.declared.records.Answer.TheVariants.{Ok as AnswerOk, Exists, Missing, Got, FullHeap, FullIndex, Odd}
use Rattle.dali_record.specs.declared.records.Record.{Record}
use Rattle.dali_record.specs.declared.records.Record.TheVariants.{Format, Begin, Forward, Done, Commit, Ended, Solo, AuditBegin, AuditClean, AuditFail, Restarted, Back}
use Rattle.dali_record.specs.declared.codec.failure.Failure.{Failure}
use Rattle.dali_record.specs.declared.codec.failure.Failure.TheVariants.{NoSpelling, OutOfMemory}
use Rattle.dali_record.specs.Spelling.{is_cell, is_entry, is_forward, is_back, is_solo, is_answer_of, is_size_of_index, is_size_of_heap, fits, ascends, has_list}

-- a reader of X
abbrev pub At : Type 0 → Type 0
At X = List ℕ → Option (X × List ℕ)

infixl 10 ◌>>=◌
abbrev pub ◌>>=◌ : {A B : Type 0} → Option A → (A → Option B) → Option B
(Some x) >>= f = f x
None >>= f = None

abbrev pub only : {A : Type 0} → Bool → A → Option A
only true x = Some x
only false x = None

-- nothing is read
abbrev pub nothing : {Y : Type 0} → Y → At Y
nothing y bytes = Some (y, bytes)

abbrev pub one : {X Y : Type 0} → (X → Y) → At X → At Y
one f x_at bytes = x_at bytes >>= λ x. Some (f x.0, x.1)

abbrev pub two : {X Z Y : Type 0} → (X → Z → Y) → At X → At Z → At Y
two f x_at z_at bytes = x_at bytes >>= λ x. z_at x.1 >>= λ z. Some (f x.0 z.0, z.1)

abbrev pub three : {X Z W Y : Type 0} → (X → Z → W → Y) → At X → At Z → At W → At Y
three f x_at z_at w_at bytes = x_at bytes >>= λ x. z_at x.1 >>= λ z. w_at z.1 >>= λ w. Some (f x.0 z.0 w.0, w.1)

-- what was read is kept where it passes the test
abbrev pub tested : {X : Type 0} → (X → Bool) → At X → At X
tested test x_at bytes = x_at bytes >>= λ x. only (test x.0) x

-- the row of this number
abbrev pub chosen : {Y : Type 0} → List (ℕ × At Y) → ℕ → At Y
chosen [] n bytes = None
chosen (row ∷ rows) n bytes = let later = chosen rows n bytes in if n == row.0 then row.1 bytes else later

-- a number in one byte, and what its row reads
abbrev pub numbered : {Y : Type 0} → List (ℕ × At Y) → At Y
numbered rows bytes = byte_at bytes >>= λ n. chosen rows n.0 n.1

-- ---- fields
unfoldable pub cell_at : At ℕ
cell_at bytes = tested is_cell byte_at bytes

unfoldable pub entry_at : At ℕ
entry_at bytes = tested is_entry byte_at bytes

abbrev pub as_flag : ℕ → Option Bool
as_flag n = if n == 0 then Some false else (if n == 1 then Some true else None)

unfoldable pub flag_at : At Bool
flag_at bytes = byte_at bytes >>= λ n. as_flag n.0 >>= λ b. Some (b, n.1)

unfoldable pub value_at : At (List ℕ)
value_at bytes = byte_at bytes >>= λ n. bytes_at n.0 n.1 >>= λ bs. value_of bs.0 >>= λ v. Some (v, bs.1)

-- so many numbers
abbrev pub many : ℕ → At ℕ → At (List ℕ)
many zero n_at bytes = Some ([], bytes)
many (suc k) n_at bytes = n_at bytes >>= λ n. many k n_at n.1 >>= λ ns. Some (n.0 ∷ ns.0, ns.1)

unfoldable pub numbers_at : ℕ → At (List ℕ)
numbers_at k bytes = many k number64_at bytes

unfoldable pub regions_at : ℕ → At (List ℕ)
regions_at k bytes = many k number32_at bytes

unfoldable pub counted32_at : At (List ℕ)
counted32_at bytes = number32_at bytes >>= λ n. tested ascends (regions_at n.0) n.1

unfoldable pub counted64_at : At (List ℕ)
counted64_at bytes = number32_at bytes >>= λ n. tested ascends (numbers_at n.0) n.1

-- ---- blocks
abbrev pub op_rows : List (ℕ × At Op)
op_rows =
    (1, nothing Look)
    ∷ (2, one Add number64_at)
    ∷ (3, one KillEntry entry_at)
    ∷ (4, one Put value_at)
    ∷ (5, one Read cell_at)
    ∷ (6, two Change cell_at value_at)
    ∷ (7, one KillCell cell_at)
    ∷ (8, one FreeCell cell_at)
    ∷ (9, one ReviveCell cell_at)
    ∷ (10, three Restore cell_at number64_at (numbers_at 5))
    ∷ (11, one FreeEntry entry_at)
    ∷ (12, one ReviveEntry entry_at)
    ∷ []

unfoldable pub op_at : At Op
op_at bytes = numbered op_rows bytes

abbrev pub outcome_rows : List (ℕ × At Outcome)
outcome_rows =
    (1, two Found entry_at number64_at)
    ∷ (2, one Absent flag_at)
    ∷ (3, one Added entry_at)
    ∷ (4, nothing NoEntry)
    ∷ (5, nothing Killed)
    ∷ (6, one PutIn cell_at)
    ∷ (7, nothing NoCell)
    ∷ (8, one Value value_at)
    ∷ (9, nothing Changed)
    ∷ (10, one NotLive number64_at)
    ∷ (11, one OtherKey number64_at)
    ∷ (12, one OddLength number64_at)
    ∷ (13, nothing Undone)
    ∷ []

unfoldable pub outcome_at : At Outcome
outcome_at bytes = numbered outcome_rows bytes

abbrev pub undo_rows : List (ℕ × At (Option Undo))
undo_rows =
    (0, nothing None)
    ∷ (1, one (λ c. Some (UndoFreeCell c)) cell_at)
    ∷ (2, one (λ c. Some (UndoReviveCell c)) cell_at)
    ∷ (3, three (λ c n ws. Some (UndoRestore c n ws)) cell_at number64_at (numbers_at 5))
    ∷ (4, one (λ e. Some (UndoFreeEntry e)) entry_at)
    ∷ (5, one (λ e. Some (UndoReviveEntry e)) entry_at)
    ∷ []

unfoldable pub undo_at : At (Option Undo)
undo_at bytes = numbered undo_rows bytes

-- three readers, one after another
abbrev pub triple : {X Z W : Type 0} → At X → At Z → At W → At (X × Z × W)
triple x_at z_at w_at bytes = three (λ x z w. (x, z, w)) x_at z_at w_at bytes

-- key, region and operation; the masks and the exclusive-or; new words, outcome and undo
abbrev pub asked_at : At (ℕ × ℕ × Op)
asked_at bytes = triple number64_at number32_at op_at bytes

abbrev pub masks_at : At (ℕ × ℕ × ℕ)
masks_at bytes = triple number64_at number64_at number64_at bytes

abbrev pub given_at : ℕ → At (List ℕ × Outcome × Option Undo)
given_at write bytes = triple (numbers_at (count_ones write)) outcome_at undo_at bytes

abbrev pub block_from : ℕ × ℕ × Op → ℕ × ℕ × ℕ → List ℕ × Outcome × Option Undo → Block
block_from asked masks given = record {
  key = asked.0;
  region = asked.1;
  op = asked.2;
  read = masks.0;
  xor = masks.1;
  write = masks.2;
  after = given.0;
  outcome = given.1;
  undo = given.2;
}

unfoldable pub block_at : At Block
block_at bytes =
    asked_at bytes >>= λ asked.
    masks_at asked.1 >>= λ masks.
    given_at masks.0.2 masks.1 >>= λ given.
    only (fits (block_from asked.0 masks.0 given.0)) (block_from asked.0 masks.0 given.0, given.1)

-- a block of an operation that passes the test
unfoldable pub block_of_at : (Op → Bool) → At Block
block_of_at test bytes = tested (λ b. test b.op) block_at bytes

-- ---- calls
abbrev pub call_rows : List (ℕ × At Call)
call_rows =
    (1, two Insert number64_at value_at)
    ∷ (2, two Update number64_at value_at)
    ∷ (3, one Delete number64_at)
    ∷ (4, one Get number64_at)
    ∷ []

unfoldable pub call_at : At Call
call_at bytes = numbered call_rows bytes

abbrev pub answer_rows : List (ℕ × At Answer)
answer_rows =
    (1, nothing AnswerOk)
    ∷ (2, nothing Exists)
    ∷ (3, nothing Missing)
    ∷ (4, one Got value_at)
    ∷ (5, nothing FullHeap)
    ∷ (6, nothing FullIndex)
    ∷ (7, one Odd number64_at)
    ∷ []

unfoldable pub answer_at : At Answer
answer_at bytes = numbered answer_rows bytes

unfoldable pub done_at : At Record
done_at bytes = one (λ d. Done d.0 d.1 d.2) (tested (λ d. is_answer_of d.1 d.2) (triple number64_at call_at answer_at)) bytes

-- ---- records
-- the one version
unfoldable pub version_at : At ⊤
version_at bytes = byte_at bytes >>= λ n. only (n.0 == 1) (tt, n.1)

unfoldable pub format_at : At Record
format_at bytes = three (λ v index heap. Format index heap) version_at (tested is_size_of_index number32_at) (tested is_size_of_heap number32_at) bytes

unfoldable pub audit_fail_at : At Record
audit_fail_at bytes = two AuditFail number64_at (tested (λ rs. nat_lt 0 (length rs)) counted32_at) bytes

unfoldable pub restarted_at : At Record
restarted_at bytes = two Restarted counted64_at counted64_at bytes

abbrev pub record_rows : List (ℕ × At Record)
record_rows =
    (1, format_at)
    ∷ (2, one Begin number64_at)
    ∷ (3, two Forward number64_at (block_of_at is_forward))
    ∷ (4, done_at)
    ∷ (5, one Commit number64_at)
    ∷ (6, one Ended number64_at)
    ∷ (7, three Solo number64_at number64_at (block_of_at is_solo))
    ∷ (8, nothing AuditBegin)
    ∷ (9, one AuditClean number64_at)
    ∷ (10, audit_fail_at)
    ∷ (11, restarted_at)
    ∷ (12, two Back number64_at (block_of_at is_back))
    ∷ []

unfoldable pub record_at : At Record
record_at bytes = numbered record_rows bytes

-- what reading a record answered, unless memory was refused
abbrev pub Gives : {X : Type 0} → Result X Failure → List ℕ → Option (X × List ℕ) → Type 0
Gives (Ok x) rest read = read ≡ Some (x, rest)
Gives (Err NoSpelling) rest read = read ≡ None
Gives (Err OutOfMemory) rest read = IsSome read

-- the same of reading into a place, which has x then
abbrev pub Puts : {U X : Type 0} → Result U Failure → X → List ℕ → Option (X × List ℕ) → Type 0
Puts (Ok done) x rest read = read ≡ Some (x, rest)
Puts (Err NoSpelling) x rest read = read ≡ None
Puts (Err OutOfMemory) x rest read = IsSome read

-- the same where no memory is taken
abbrev pub Fills : {U X E : Type 0} → Result U E → X → List ℕ → Option (X × List ℕ) → Type 0
Fills (Ok done) x rest read = read ≡ Some (x, rest)
Fills (Err e) x rest read = read ≡ None

-- whether n may follow the last number of an ascending list, if there is one
abbrev pub is_above : Option ℕ → ℕ → Bool
is_above None n = true
is_above (Some last) n = nat_lt last n

-- what passing over a list answered: how many numbers it has
abbrev pub Passes : {E : Type 0} → Result ℕ E → List ℕ → Option (List ℕ × List ℕ) → Type 0
Passes (Ok n) rest read = (ns : List ℕ) × (read ≡ Some (ns, rest)) × (length ns ≡ n)
Passes (Err e) rest read = read ≡ None

-- the record that was read holds a list
abbrev pub HasList : Option (Record × List ℕ) → Type 0
HasList None = ⊤
HasList (Some x) = has_list x.0 ≡ true
