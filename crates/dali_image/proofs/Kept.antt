-- A table has just the rows that were put into it.
use Rattle.std.proofs.Common.{◌≡◌, ℕ, ◌<◌, ◌≤◌, Bool, true, false, cond, List, [], ◌∷◌, ◌++◌, Option, Some, None, refl, ap, sym, subst, ◌∙◌, arith, append_assoc}
use Rattle.std.specs.Prelude.{◌==◌, map}
use Rattle.std.specs.List.{AllByRecursion}
use Rattle.std.specs.Option.{option_map, option_map_or}
use Rattle.std.specs.Ordering.{nat_cmp}
use Rattle.std.specs.declared.cmp.Ordering.{Ordering}
use Rattle.std.specs.declared.cmp.Ordering.TheVariants.{Less, Equal, Greater}
use Rattle.std.specs.Cmp.{nat_cmp_total, ranked, unsigned_tied}
use Rattle.std.specs.FinMap.{entries, empty, find, put, get, get-entries, entries-insert, len-entries, len-empty}
use Rattle.std.proofs.lemmas.Bool.{ltb-true}
use Rattle.std.proofs.lemmas.Bool.Decides.{nat_tests}
use Rattle.std.proofs.lemmas.List.{append-nil, nil_from_length}
use Rattle.dali_att.specs.Table.{Row as Entry, Table}
use Rattle.dali_record.specs.declared.operations.Pending.{Pending}
use Rattle.dali_record.specs.Reading.{is_above}
use Rattle.dali_record.specs.Files.{Row}
use Rattle.dali_image.specs.Rows.{is_committed, row_at, state_read, kept}
use Rattle.dali_image.specs.Decoding.{with_row}
use Rattle.dali_image.specs.Laws.{with_rows, table_of, RowsAreKept}
use Rattle.dali_image.proofs.Taken.{Rises}
use Rattle.dali_image.proofs.Again.{rise_of}

abbrev entry : Row → ℕ × Entry Pending
entry row = (row.txn, kept row)

greater : (t p : ℕ) → p < t → nat_cmp t p ≡ Greater
greater t p lt = by_case (nat_cmp t p) refl
  where
    by_case : (r : Ordering) → r ≡ nat_cmp t p → nat_cmp t p ≡ Greater
    by_case Less e = let less : t < p = ranked t p Less e in absurd (omega (arith, less, lt))
    by_case Equal e = let same : t ≡ p = ranked t p Equal e in absurd (omega (arith, same, lt))
    by_case Greater e = sym e

abbrev AreBelow : ℕ → List (ℕ × Entry Pending) → Type 0
AreBelow t es = AllByRecursion (λ (p : ℕ × Entry Pending). p.0 < t) es

put_last : (t : ℕ) (e : Entry Pending) (es : List (ℕ × Entry Pending)) → AreBelow t es → put nat_cmp t e es ≡ es ++ (t, e) ∷ []
put_last t e [] below = refl
put_last t e (p ∷ es) below = rw (greater t p.0 below.0) (ap (λ l. p ∷ l) (put_last t e es below.1))

abbrev UpTo : Option ℕ → List (ℕ × Entry Pending) → Type 0
UpTo None es = es ≡ []
UpTo (Some l) es = AllByRecursion (λ (p : ℕ × Entry Pending). p.0 ≤ l) es

below_last : (l t : ℕ) → l < t → (es : List (ℕ × Entry Pending)) → UpTo (Some l) es → AreBelow t es
below_last l t lt [] up = tt
below_last l t lt (p ∷ es) up = (omega (arith, lt, up.0), below_last l t lt es up.1)

below_of : (last : Option ℕ) (t : ℕ) (es : List (ℕ × Entry Pending)) → UpTo last es → is_above last t ≡ true → AreBelow t es
below_of None t es up a = subst (AreBelow t) (sym up) tt
below_of (Some l) t es up a = below_last l t (ltb-true l t a) es up

up_next : (t : ℕ) (e : Entry Pending) (es : List (ℕ × Entry Pending)) → AreBelow t es → UpTo (Some t) (es ++ (t, e) ∷ [])
up_next t e [] below = (omega arith, tt)
up_next t e (p ∷ es) below = (omega (arith, below.0), up_next t e es below.1)

entries_then : (last : Option ℕ) (m : Table Pending) (rows : List Row) → UpTo last (entries m) → Rises last rows → entries (with_rows m rows) ≡ entries m ++ map entry rows
entries_then last m [] up rise = sym (append-nil (entries m))
entries_then last m (row ∷ rows) up rise =
    let below = below_of last row.txn (entries m) up rise.0 in
    let step : entries (with_row m row) ≡ entries m ++ entry row ∷ [] = entries-insert nat_cmp_total m row.txn (kept row) ∙ put_last row.txn (kept row) (entries m) below in
    entries_then (Some row.txn) (with_row m row) rows (subst (UpTo (Some row.txn)) (sym step) (up_next row.txn (kept row) (entries m) below)) rise.1
    ∙ (ap (λ l. l ++ map entry rows) step ∙ append_assoc (entries m) (entry row ∷ []) (map entry rows))

none_yet : entries (empty {X = Entry Pending} {R = nat_cmp}) ≡ []
none_yet = nil_from_length _ (sym (len-entries _) ∙ len-empty nat_cmp (Entry Pending))

entries_are : (rows : List Row) → Rises None rows → entries (table_of rows) ≡ map entry rows
entries_are rows rise = entries_then None empty rows none_yet rise ∙ ap (λ l. l ++ map entry rows) none_yet

-- ---- each is found
abbrev IsFound : List (ℕ × Entry Pending) → Row → Type 0
IsFound es row = find nat_cmp row.txn es ≡ Some (kept row)

found_first : (row : Row) (es : List (ℕ × Entry Pending)) → IsFound (entry row ∷ es) row
found_first row es =
    let same : (row.txn == row.txn) ≡ true = grind (arith, nat_tests) in
    ap (λ b. cond b (Some (kept row)) (find nat_cmp row.txn es)) (unsigned_tied row.txn row.txn ∙ same)

found_later : (first row : Row) (es : List (ℕ × Entry Pending)) → first.txn < row.txn → IsFound es row → IsFound (entry first ∷ es) row
found_later first row es lt h =
    let apart : (row.txn == first.txn) ≡ false = grind (arith, nat_tests, lt) in
    ap (λ b. cond b (Some (kept first)) (find nat_cmp row.txn es)) (unsigned_tied row.txn first.txn ∙ apart) ∙ h

all_later : (first : Row) (last : ℕ) (rows : List Row) (es : List (ℕ × Entry Pending)) → first.txn ≤ last → Rises (Some last) rows → AllByRecursion (IsFound es) rows → AllByRecursion (IsFound (entry first ∷ es)) rows
all_later first last [] es le rise h = tt
all_later first last (row ∷ rows) es le rise h =
    let more : last < row.txn = ltb-true last row.txn rise.0 in
    (found_later first row es (omega (arith, le, more)) h.0, all_later first row.txn rows es (omega (arith, le, more)) rise.1 h.1)

all_found : (last : Option ℕ) (rows : List Row) → Rises last rows → AllByRecursion (IsFound (map entry rows)) rows
all_found last [] rise = tt
all_found last (row ∷ rows) rise = (found_first row (map entry rows), all_later row row.txn rows (map entry rows) (omega arith) rise.1 (all_found (Some row.txn) rows rise.1))

-- ---- and read again
committed_again : (b : Bool) → is_committed (Some (state_read b)) ≡ b
committed_again false = refl
committed_again true = refl

row_again : (m : Table Pending) (row : Row) → get m row.txn ≡ Some (kept row) → row_at m row.txn ≡ row
row_again m row there =
    ap (λ (o : Option (Entry Pending)). let made : Row = record { txn = row.txn; is_committed = is_committed (option_map (λ r. r.state) o); undos = option_map_or (λ r. r.undos) o [] } in made) there
    ∙ ap (λ b. let made : Row = record { txn = row.txn; is_committed = b; undos = row.undos } in made) (committed_again row.is_committed)

rows_again : (m : Table Pending) (rows : List Row) → AllByRecursion (λ row. get m row.txn ≡ Some (kept row)) rows → map (row_at m) (map (λ (e : ℕ × Entry Pending). e.0) (map entry rows)) ≡ rows
rows_again m [] h = refl
rows_again m (row ∷ rows) h = ap (λ r. r ∷ map (row_at m) (map (λ (e : ℕ × Entry Pending). e.0) (map entry rows))) (row_again m row h.0) ∙ ap (λ l. row ∷ l) (rows_again m rows h.1)

got : (m : Table Pending) (es : List (ℕ × Entry Pending)) (rows : List Row) → entries m ≡ es → AllByRecursion (IsFound es) rows → AllByRecursion (λ row. get m row.txn ≡ Some (kept row)) rows
got m es [] e h = tt
got m es (row ∷ rows) e h = (get-entries m row.txn ∙ ap (find nat_cmp row.txn) e ∙ h.0, got m es rows e h.1)

pub rows_are_kept : RowsAreKept
rows_are_kept rows ascends =
    let rise = rise_of rows ascends in
    let same = entries_are rows rise in
    ap (λ (es : List (ℕ × Entry Pending)). map (row_at (table_of rows)) (map (λ (e : ℕ × Entry Pending). e.0) es)) same
    ∙ rows_again (table_of rows) rows (got (table_of rows) (map entry rows) rows same (all_found None rows rise))
