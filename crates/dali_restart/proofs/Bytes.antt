-- Rows that a table can have are spelled in bytes.
use Rattle.std.proofs.Common.{ℕ, zero, suc, ◌<◌, ◌≤◌, Bool, true, false, List, [], ◌∷◌, ◌++◌, length, Some, arith}
use Rattle.std.specs.Prelude.{nat_le, flat_map}
use Rattle.std.specs.List.{AllByRecursion}
use Rattle.std.specs.Int.{byte_at}
use Rattle.std.proofs.lemmas.Bool.{leb-true}
use Rattle.dali_lists.proofs.Tests.{right_true}
use Rattle.dali_geometry.specs.Sizes.{Sizes}
use Rattle.dali_bytes.specs.Cursor.{IsBytes}
use Rattle.dali_bytes.specs.Fields.{number32, number64}
use Rattle.dali_record.specs.declared.operations.Undo.{Undo}
use Rattle.dali_record.specs.declared.operations.Undo.TheVariants.{FreeCell, ReviveCell, Restore, FreeEntry, ReviveEntry}
use Rattle.dali_record.specs.declared.operations.Pending.{Pending}
use Rattle.dali_record.specs.Spelling.{flag_bytes, words_bytes, undo_bytes, IsCell, IsEntry, IsUndo}
use Rattle.dali_record.specs.Files.{Row}
use Rattle.dali_crash.specs.Disks.Disks.{pending_bytes, row_bytes, table_bytes, IsPendingIn, IsRowIn}

abbrev AreBytes : List ℕ → Type 0
AreBytes bs = AllByRecursion (λ b. b < 256) bs

as_bytes : (bs : List ℕ) → AreBytes bs → IsBytes bs
as_bytes [] all i = omega arith
as_bytes (b ∷ bs) all zero = all.0
as_bytes (b ∷ bs) all (suc i) = as_bytes bs all.1 i

joined : (a b : List ℕ) → AreBytes a → AreBytes b → AreBytes (a ++ b)
joined [] b p q = q
joined (x ∷ a) b p q = (p.0, joined a b p.1 q)

-- ---- fields
low : (k n : ℕ) → byte_at k n < 256
low zero n = omega arith
low (suc k) n = omega arith

in_32 : (n : ℕ) → AreBytes (number32 n)
unfolding number32
in_32 n = (low 3 n, (low 2 n, (low 1 n, (low 0 n, tt))))

in_64 : (n : ℕ) → AreBytes (number64 n)
unfolding number64
in_64 n = (low 7 n, (low 6 n, (low 5 n, (low 4 n, (low 3 n, (low 2 n, (low 1 n, (low 0 n, tt))))))))

in_words : (ws : List ℕ) → AreBytes (words_bytes ws)
in_words [] = tt
in_words (w ∷ ws) = joined (number64 w) (words_bytes ws) (in_64 w) (in_words ws)

in_flag : (b : Bool) → AreBytes (flag_bytes b)
in_flag false = (omega arith, tt)
in_flag true = (omega arith, tt)

in_cell : (c : ℕ) → IsCell c → c < 256
in_cell c is = let few : c ≤ 7 = leb-true c 7 (right_true (nat_le 1 c) (nat_le c 7) is) in omega (arith, few)

in_entry : (e : ℕ) → IsEntry e → e < 256
in_entry e is = let few : e ≤ 20 = leb-true e 20 is in omega (arith, few)

-- ---- rows
in_undo : (u : Undo) → IsUndo u → AreBytes (undo_bytes (Some u))
in_undo (FreeCell c) is = (omega arith, (in_cell c is, tt))
in_undo (ReviveCell c) is = (omega arith, (in_cell c is, tt))
in_undo (Restore c n ws) is = (omega arith, (in_cell c is.0, joined (number64 n) (words_bytes ws) (in_64 n) (in_words ws)))
in_undo (FreeEntry e) is = (omega arith, (in_entry e is, tt))
in_undo (ReviveEntry e) is = (omega arith, (in_entry e is, tt))

in_pending : (s : Sizes) (u : Pending) → IsPendingIn s u → AreBytes (pending_bytes u)
in_pending s u is =
    joined (number64 u.key) (number32 u.region ++ undo_bytes (Some u.undo)) (in_64 u.key)
    (joined (number32 u.region) (undo_bytes (Some u.undo)) (in_32 u.region) (in_undo u.undo is.undo))

in_pendings : (s : Sizes) (us : List Pending) → AllByRecursion (IsPendingIn s) us → AreBytes (flat_map pending_bytes us)
in_pendings s [] all = tt
in_pendings s (u ∷ us) all = joined (pending_bytes u) (flat_map pending_bytes us) (in_pending s u all.0) (in_pendings s us all.1)

in_row : (s : Sizes) (next : ℕ) (row : Row) → IsRowIn s next row → AreBytes (row_bytes row)
in_row s next row is =
    let undos = flat_map pending_bytes row.undos in
    let count = number32 (length row.undos) in
    joined (number64 row.txn) (flag_bytes row.is_committed ++ (count ++ undos)) (in_64 row.txn)
    (joined (flag_bytes row.is_committed) (count ++ undos) (in_flag row.is_committed)
    (joined count undos (in_32 (length row.undos)) (in_pendings s row.undos is.undos)))

in_rows : (s : Sizes) (next : ℕ) (rows : List Row) → AllByRecursion (IsRowIn s next) rows → AreBytes (flat_map row_bytes rows)
in_rows s next [] all = tt
in_rows s next (row ∷ rows) all = joined (row_bytes row) (flat_map row_bytes rows) (in_row s next row all.0) (in_rows s next rows all.1)

pub table_is_bytes : (s : Sizes) (next : ℕ) (rows : List Row) → AllByRecursion (IsRowIn s next) rows → IsBytes (table_bytes rows)
table_is_bytes s next rows all =
    as_bytes (table_bytes rows) (joined (number32 (length rows)) (flat_map row_bytes rows) (in_32 (length rows)) (in_rows s next rows all))
