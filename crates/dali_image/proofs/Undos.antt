-- What is read as a table has undos with a spelling.
use Rattle.std.proofs.Common.{◌≡◌, ℕ, ◌+◌, ◌≤◌, Bool, true, false, cond, List, [], ◌∷◌, Option, Some, length, take, drop, ap, sym, subst, ◌∙◌}
use Rattle.std.specs.Prelude.{◌==◌, Ok}
use Rattle.std.specs.List.{AllByRecursion}
use Rattle.std.specs.Option.{option_map_or}
use Rattle.std.specs.Ordering.{nat_cmp}
use Rattle.std.specs.FinMap.{empty, get, get-empty}
use Rattle.dali_bytes.specs.Cursor.{IsBytes}
use Rattle.dali_geometry.specs.Sizes.{Sizes}
use Rattle.dali_att.specs.Table.{Row as Entry, Table, undos_at}
use Rattle.dali_att.proofs.Changes.{get-added}
use Rattle.dali_record.specs.declared.operations.Pending.{Pending}
use Rattle.dali_record.specs.Files.{Row}
use Rattle.dali_crash.specs.Disks.Disks.{IsPendingIn, IsRowIn}
use Rattle.dali_image.specs.Rows.{kept, AreUndos}
use Rattle.dali_image.specs.Decoding.{with_row, table_in}
use Rattle.dali_image.specs.Reading.{table_place, table_part, ReadsTable}
use Rattle.dali_image.specs.Laws.{with_rows}
use Rattle.dali_image.specs.declared.header.Header.{Header}
use Rattle.dali_image.proofs.Taken.{tables_are_spelled}

of_pendings : (s : Sizes) (us : List Pending) → AllByRecursion (IsPendingIn s) us → AreUndos us
of_pendings s [] all = tt
of_pendings s (u ∷ us) all = (all.0.undo, of_pendings s us all.1)

abbrev undos_of : Option (Entry Pending) → List Pending
undos_of o = option_map_or (λ row. row.undos) o []

by_test : (row : Row) (o : Option (Entry Pending)) (b : Bool) → AreUndos row.undos → AreUndos (undos_of o) → AreUndos (undos_of (cond b (Some (kept row)) o))
by_test row o true new old = new
by_test row o false new old = old

one_row : (s : Sizes) (next : ℕ) (m : Table Pending) (row : Row) → ((t : ℕ) → AreUndos (undos_at m t)) → IsRowIn s next row → (t : ℕ) → AreUndos (undos_at (with_row m row) t)
one_row s next m row has is t = subst (λ o. AreUndos (undos_of o)) (sym (get-added m row.txn (kept row) t)) (by_test row (get m t) (row.txn == t) (of_pendings s row.undos is.undos) (has t))

all_rows : (s : Sizes) (next : ℕ) (m : Table Pending) (rows : List Row) → ((t : ℕ) → AreUndos (undos_at m t)) → AllByRecursion (IsRowIn s next) rows → (t : ℕ) → AreUndos (undos_at (with_rows m rows) t)
all_rows s next m [] has all = has
all_rows s next m (row ∷ rows) has all = all_rows s next (with_row m row) rows (one_row s next m row has all.0) all.1

pub are_undos : (s : Sizes) (next : ℕ) (bytes : List ℕ) (m : Table Pending) → IsBytes bytes → table_in s next bytes ≡ Ok m → (t : ℕ) → AreUndos (undos_at m t)
are_undos s next bytes m fits e t =
    let is = tables_are_spelled s next bytes m fits e in
    subst (λ k. AreUndos (undos_at k t)) (sym is.table_is) (all_rows s next empty is.list (λ u. subst (λ o. AreUndos (undos_of o)) (sym (get-empty nat_cmp u)) tt) is.fits.fit t)

-- the table's bytes were read
pub table_read :
    (file : List ℕ) (h : Header) (m : Table Pending) (bytes : List ℕ) (place : ℕ) → place ≡ table_place h → place + h.table ≤ length file → bytes ≡ take h.table (drop place file)
    → IsBytes bytes → table_in h.geometry h.next bytes ≡ Ok m → ReadsTable file h m
table_read file h m bytes place at inside read fits e =
    let same : bytes ≡ table_part file h = read ∙ ap (λ n. take h.table (drop n file)) at in
    record { inside = subst (λ n. n + h.table ≤ length file) at inside; bytes = subst IsBytes same fits; spells = subst (λ b. table_in h.geometry h.next b ≡ Ok m) same e }
