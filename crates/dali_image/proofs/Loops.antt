-- Reading undos and rows one after the other, as loops do.
use Rattle.std.proofs.Common.{◌≡◌, ℕ, suc, ◌+◌, ◌-◌, ◌<◌, ◌≤◌, List, [], ◌∷◌, ◌++◌, Option, Some, None, Result, Ok, Err, refl, ap, sym, ◌∙◌, append_assoc, arith}
use Rattle.std.proofs.lemmas.List.{append-nil}
use Rattle.std.specs.FinMap.{empty}
use Rattle.dali_geometry.specs.Sizes.{Sizes}
use Rattle.dali_bytes.specs.Cursor.{Cursor}
use Rattle.dali_att.specs.Table.{Table}
use Rattle.dali_record.specs.declared.operations.Pending.{Pending}
use Rattle.dali_record.specs.Files.{Row}
use Rattle.dali_image.specs.declared.error.TableError.{TableError}
use Rattle.dali_image.specs.declared.error.TableError.TheVariants.{Bad, OutOfMemory}
use Rattle.dali_image.specs.Decoding.{◌>>=◌, Fails, pending_from, pendings_from, row_from, rows_from, with_row}

-- what was read before, and what is still read
abbrev pub with_front : List Pending → Result (List Pending × Cursor) ℕ → Result (List Pending × Cursor) ℕ
with_front front read = read >>= λ x. Ok (front ++ x.0, x.1)

regroup : (front : List Pending) (u : Pending) (read : Result (List Pending × Cursor) ℕ) → with_front front (read >>= λ x. Ok (u ∷ x.0, x.1)) ≡ with_front (front ++ u ∷ []) read
regroup front u (Ok x) = ap (λ (us : List Pending). Ok (us, x.1)) (sym (append_assoc front (u ∷ []) x.0))
regroup front u (Err at) = refl

pub goes_on : (s : Sizes) (front : List Pending) (count i : ℕ) (c : Cursor) (u : Pending) (after : Cursor) (total : Result (List Pending × Cursor) ℕ) → i < count → pending_from s c ≡ Ok (u, after)
    → with_front front (pendings_from s (count - i) c) ≡ total → with_front (front ++ u ∷ []) (pendings_from s (count - (i + 1)) after) ≡ total
unfolding pendings_from
goes_on s front count i c u after total lt h so_far =
    let k : count - i ≡ suc (count - (i + 1)) = omega arith in
    let one : with_front front (pendings_from s (count - i) c) ≡ with_front (front ++ u ∷ []) (pendings_from s (count - (i + 1)) after) = rw (k, h) (regroup front u (pendings_from s (count - (i + 1)) after)) in
    sym one ∙ so_far

pub ends : (s : Sizes) (front : List Pending) (count i : ℕ) (c : Cursor) (at : ℕ) (total : Result (List Pending × Cursor) ℕ) → i < count → pending_from s c ≡ Err at
    → with_front front (pendings_from s (count - i) c) ≡ total → total ≡ Err at
unfolding pendings_from
ends s front count i c at total lt h so_far =
    let k : count - i ≡ suc (count - (i + 1)) = omega arith in
    let one : with_front front (pendings_from s (count - i) c) ≡ Err at = rw (k, h) refl in
    sym so_far ∙ one

pub is_done : (s : Sizes) (front : List Pending) (count i : ℕ) (c : Cursor) (total : Result (List Pending × Cursor) ℕ) → count ≤ i → with_front front (pendings_from s (count - i) c) ≡ total → total ≡ Ok (front, c)
unfolding pendings_from
is_done s front count i c total le so_far =
    let k : count - i ≡ 0 = omega arith in
    let one : with_front front (pendings_from s (count - i) c) ≡ Ok (front, c) = rw k (ap (λ (us : List Pending). Ok (us, c)) (append-nil front)) in
    sym so_far ∙ one

pub rows_go_on : (s : Sizes) (next : ℕ) (last : Option ℕ) (m : Table Pending) (count i : ℕ) (c : Cursor) (row : Row) (after : Cursor) (total : Result (Table Pending × Cursor) ℕ) → i < count → row_from s next last c ≡ Ok (row, after)
    → rows_from s next last m (count - i) c ≡ total → rows_from s next (Some row.txn) (with_row m row) (count - (i + 1)) after ≡ total
unfolding rows_from
rows_go_on s next last m count i c row after total lt h so_far =
    let k : count - i ≡ suc (count - (i + 1)) = omega arith in
    let one : rows_from s next last m (count - i) c ≡ rows_from s next (Some row.txn) (with_row m row) (count - (i + 1)) after = rw (k, h) refl in
    sym one ∙ so_far

pub rows_end : (s : Sizes) (next : ℕ) (last : Option ℕ) (m : Table Pending) (count i : ℕ) (c : Cursor) (e : TableError) (total : Result (Table Pending × Cursor) ℕ) → i < count → Fails e (row_from s next last c)
    → rows_from s next last m (count - i) c ≡ total → Fails e total
unfolding rows_from
rows_end s next last m count i c OutOfMemory total lt h so_far = tt
rows_end s next last m count i c (Bad at) total lt h so_far =
    let k : count - i ≡ suc (count - (i + 1)) = omega arith in
    let one : rows_from s next last m (count - i) c ≡ Err at = rw (k, h) refl in
    sym so_far ∙ one

pub rows_done : (s : Sizes) (next : ℕ) (last : Option ℕ) (m : Table Pending) (count i : ℕ) (c : Cursor) (total : Result (Table Pending × Cursor) ℕ) → count ≤ i → rows_from s next last m (count - i) c ≡ total → total ≡ Ok (m, c)
unfolding rows_from
rows_done s next last m count i c total le so_far =
    let k : count - i ≡ 0 = omega arith in
    let one : rows_from s next last m (count - i) c ≡ Ok (m, c) = rw k refl in
    sym so_far ∙ one

pub rows_begin : (s : Sizes) (next : ℕ) (m : Table Pending) (count : ℕ) (c : Cursor) → m ≡ empty → rows_from s next None m (count - 0) c ≡ rows_from s next None empty count c
rows_begin s next m count c is =
    let k : count - 0 ≡ count = omega arith in
    rw (k, is) refl
