-- Reading the bytes of a table from the left, field by field: what a field holds and the place behind it, or the first bad place.
--     At X                     a reader of X
--     pending_from s           an undo with its key and region
--     row_from s next last     a row: its number above the last one and below the next
--     rows_from s next last m k     so many rows, into the table m
--     table_in s next bytes    all of a table
--     Gives result new read    what a function answered, and where its reader stands then, is what reading gives
use Rattle.std.specs.Prelude.{◌≡◌, ℕ, zero, suc, Bool, true, false, ◌&&◌, ◌||◌, ◌==◌, not, ⊤, List, [], ◌∷◌, length, Option, Some, None, Result, Ok, Err, if◌then◌else◌, nat_lt, nat_le}
use Rattle.std.specs.FinMap as map
use Rattle.dali_geometry.specs.Sizes.{Sizes}
use Rattle.dali_geometry.specs.Places.{regions, is_index, is_heap}
use Rattle.dali_bytes.specs.Cursor.{Cursor, left, moved}
use Rattle.dali_bytes.specs.Reading.{byte_at, number32_at, number64_at}
use Rattle.dali_att.specs.Table.{Table}
use Rattle.dali_record.specs.declared.operations.Undo.{Undo}
use Rattle.dali_record.specs.declared.operations.Undo.TheVariants.{FreeCell, ReviveCell, Restore, FreeEntry, ReviveEntry}
use Rattle.dali_record.specs.declared.operations.Pending.{Pending}
use Rattle.dali_record.specs.Spelling.{is_cell, is_entry}
use Rattle.dali_record.specs.Reading.{is_above}
use Rattle.dali_record.specs.Files.{Row}
use Rattle.dali_image.specs.declared.error.BadAt.{BadAt}
use Rattle.dali_image.specs.declared.error.TableError.{TableError}
use Rattle.dali_image.specs.declared.error.TableError.TheVariants.{Bad, OutOfMemory}
use Rattle.dali_image.specs.Rows.{kept}

abbrev pub At : Type 0 → Type 0
At X = Cursor → Result (X × Cursor) ℕ

infixl 10 ◌>>=◌
abbrev pub ◌>>=◌ : {A B : Type 0} → Result A ℕ → (A → Result B ℕ) → Result B ℕ
(Ok x) >>= f = f x
(Err at) >>= f = Err at

-- a field of a fixed size
abbrev pub or_bad : {X : Type 0} → ℕ → Cursor → Option (X × List ℕ) → Result (X × Cursor) ℕ
or_bad at behind None = Err at
or_bad at behind (Some x) = Ok (x.0, behind)

-- x where the test holds, else a bad place
abbrev pub good : {X : Type 0} → Bool → ℕ → X → Result X ℕ
good true at x = Ok x
good false at x = Err at

unfoldable pub byte_from : At ℕ
byte_from c = or_bad c.at (moved 1 c) (byte_at (left c))

unfoldable pub number32_from : At ℕ
number32_from c = or_bad c.at (moved 4 c) (number32_at (left c))

unfoldable pub number64_from : At ℕ
number64_from c = or_bad c.at (moved 8 c) (number64_at (left c))

unfoldable pub cell_from : At ℕ
cell_from c = byte_from c >>= λ n. good (is_cell n.0) c.at n

unfoldable pub entry_from : At ℕ
entry_from c = byte_from c >>= λ n. good (is_entry n.0) c.at n

abbrev pub as_flag : ℕ → ℕ × Cursor → Result (Bool × Cursor) ℕ
as_flag at n = if n.0 == 0 then Ok (false, n.1) else (if n.0 == 1 then Ok (true, n.1) else Err at)

unfoldable pub flag_from : At Bool
flag_from c = byte_from c >>= λ n. as_flag c.at n

-- five numbers
unfoldable pub five_from : At (List ℕ)
five_from c =
    number64_from c >>= λ a. number64_from a.1 >>= λ b. number64_from b.1 >>= λ d. number64_from d.1 >>= λ e. number64_from e.1 >>= λ f.
    Ok (a.0 ∷ b.0 ∷ d.0 ∷ e.0 ∷ f.0 ∷ [], f.1)

unfoldable pub restore_from : At Undo
restore_from c = cell_from c >>= λ cell. number64_from cell.1 >>= λ n. five_from n.1 >>= λ ws. Ok (Restore cell.0 n.0 ws.0, ws.1)

abbrev pub with_number : (ℕ → Undo) → At ℕ → At Undo
with_number f n_at c = n_at c >>= λ n. Ok (f n.0, n.1)

-- what stands behind an undo's kind, which is 1 to 5
unfoldable pub undo_from : ℕ → At Undo
undo_from kind c =
    if kind == 1 then with_number FreeCell cell_from c
    else (if kind == 2 then with_number ReviveCell cell_from c
    else (if kind == 3 then restore_from c
    else (if kind == 4 then with_number FreeEntry entry_from c
    else with_number ReviveEntry entry_from c)))

unfoldable pub kind_from : At ℕ
kind_from c = byte_from c >>= λ k. good (nat_le 1 k.0 && nat_le k.0 5) c.at k

-- the kind of region that an undo of this kind is on
abbrev pub is_on : Sizes → ℕ → ℕ → Bool
is_on s kind r = if nat_le kind 3 then is_heap s r else is_index s r

-- a region in range; which kind it has to be is known only behind it
unfoldable pub region_from : Sizes → At ℕ
region_from s c = number32_from c >>= λ r. good (nat_lt r.0 (regions s)) c.at r

unfoldable pub pending_from : Sizes → At Pending
pending_from s c =
    number64_from c >>= λ key. region_from s key.1 >>= λ r. kind_from r.1 >>= λ k. good (is_on s k.0 r.0) key.1.at k >>= λ _. undo_from k.0 k.1 >>= λ u.
    Ok (record { key = key.0; region = r.0; undo = u.0 }, u.1)

unfoldable pub pendings_from : Sizes → ℕ → At (List Pending)
pendings_from s zero c = Ok ([], c)
pendings_from s (suc k) c = pending_from s c >>= λ u. pendings_from s k u.1 >>= λ us. Ok (u.0 ∷ us.0, us.1)

unfoldable pub txn_from : ℕ → Option ℕ → At ℕ
txn_from next last c = number64_from c >>= λ t. good (is_above last t.0 && nat_lt t.0 next) c.at t

-- how many undos; a committed transaction has none
unfoldable pub count_from : Bool → At ℕ
count_from is_committed c = number32_from c >>= λ n. good (not is_committed || (n.0 == 0)) c.at n

unfoldable pub row_from : Sizes → ℕ → Option ℕ → At Row
row_from s next last c =
    txn_from next last c >>= λ t. flag_from t.1 >>= λ f. count_from f.0 f.1 >>= λ n. pendings_from s n.0 n.1 >>= λ us.
    Ok (record { txn = t.0; is_committed = f.0; undos = us.0 }, us.1)

abbrev pub with_row : Table Pending → Row → Table Pending
with_row m row = map.insert m row.txn (kept row)

unfoldable pub rows_from : Sizes → ℕ → Option ℕ → Table Pending → ℕ → At (Table Pending)
rows_from s next last m zero c = Ok (m, c)
rows_from s next last m (suc k) c = row_from s next last c >>= λ row. rows_from s next (Some row.0.txn) (with_row m row.0) k row.1

abbrev pub start : List ℕ → Cursor
start bytes = record { all = bytes; at = 0 }

-- all of the bytes
unfoldable pub table_in : Sizes → ℕ → List ℕ → Result (Table Pending) ℕ
table_in s next bytes =
    number32_from (start bytes) >>= λ n. rows_from s next None map.empty n.0 n.1 >>= λ m. good (nat_le (length bytes) m.1.at) m.1.at m.0

-- ---- what functions answer
abbrev pub Gives : {X : Type 0} → Result X BadAt → Cursor → Result (X × Cursor) ℕ → Type 0
Gives (Ok x) new read = read ≡ Ok (x, new)
Gives (Err e) new read = read ≡ Err e.at

abbrev pub Fails : {Y : Type 0} → TableError → Result Y ℕ → Type 0
Fails (Bad at) read = read ≡ Err at
Fails OutOfMemory read = ⊤

-- the same, seen by view, unless memory was refused
abbrev pub GivesBy : {X Y : Type 0} → (X → Y) → Result X TableError → Cursor → Result (Y × Cursor) ℕ → Type 0
GivesBy view (Ok x) new read = read ≡ Ok (view x, new)
GivesBy view (Err e) new read = Fails e read

abbrev pub Answers : {X Y : Type 0} → (X → Y) → Result X TableError → Result Y ℕ → Type 0
Answers view (Ok x) read = read ≡ Ok (view x)
Answers view (Err e) read = Fails e read
