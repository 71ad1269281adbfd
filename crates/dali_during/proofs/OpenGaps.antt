-- The gaps of the worked runs that are cut off.
use Rattle.std.proofs.Common.{◌≡◌, ℕ, zero, suc, ◌/◌, ◌<◌, Bool, true, false, List, refl, ap, sym, subst, ◌∙◌, ⊎_elim, arith}
use Rattle.std.specs.Prelude.{◌==◌, ◌&&◌, ◌||◌, not, nat_lt, nat_le}
use Rattle.std.proofs.lemmas.Bool.{and_parts, eq-eqb, eqb-true, ltb-true}
use Rattle.dali_geometry.specs.Sizes.{Sizes}
use Rattle.dali_geometry.specs.Places.{is_place, is_heap, region_at, cell_at}
use Rattle.dali_access.specs.Heap.Cells as cell
use Rattle.dali_access.specs.Heap.Cells.{cells}
use Rattle.dali_access.specs.Index.Entries as entry
use Rattle.dali_access.specs.Index.Entries.{entries}
use Rattle.dali_access.specs.Index.Records.{words_of}
use Rattle.dali_access.specs.Index.Invariant.{Gap, Matched, CellAlone, EntryAlone, Fits, IsCellAlone, IsEntryAlone, HasCell, HasEntry}
use Rattle.dali_record.specs.Legal.{passes, rules_start}
use Rattle.dali_record.specs.declared.records.Record.TheVariants.{Format}
use Rattle.dali_runs.specs.Courses.{Step, Moment, IsCourse}
use Rattle.dali_runs.specs.Worked.{small, first_log, first_vault, look as found, kill_cell}
use Rattle.dali_crash.specs.Worked.{look}
use Rattle.dali_crash.specs.Restarted.{put, add}
use Rattle.dali_crash.proofs.Courses.{format_is_history}
use Rattle.dali_crash.specs.Unpoked.{pokes}
use Rattle.std.specs.List.{list_any}
use Rattle.dali_lists.proofs.Tests.{not_itself}
use Rattle.dali_during.specs.During.{image_of, HasGap, IsIndexedNow}
use Rattle.dali_during.specs.Gaps.{put_so_far, killed_so_far, CutInInsert, CutInDelete}
use Rattle.dali_during.proofs.UnpokedCourses.{unpoked_courses}
use Rattle.dali_during.proofs.Gaps.{first, cell_put, cell_killed, put_so_far_course, killed_so_far_course}
use Rattle.dali_runs.proofs.Worked.{bare_store}

-- ---- a gap that is open is the only one
only_cell : (s : Sizes) (image : List (List ℕ)) (k p : ℕ) (g : Gap) → IsCellAlone s image k p → Fits s image k g → g ≡ CellAlone p
only_cell s image k p Matched a f = let n = f.is_named p a.cell in absurd (a.no_entry n.0 n.1 n.2)
only_cell s image k p (CellAlone q) a f = ap CellAlone (a.one_cell q f.cell)
only_cell s image k p (EntryAlone r e) a f = absurd (a.no_entry r e f.entry)

only_entry : (s : Sizes) (image : List (List ℕ)) (k r e : ℕ) (g : Gap) → IsEntryAlone s image k r e → Fits s image k g → g ≡ EntryAlone r e
only_entry s image k r e Matched a f = absurd (a.no_cell _ (f.names_cell r e a.entry))
only_entry s image k r e (CellAlone q) a f = absurd (a.no_cell q f.cell)
only_entry s image k r e (EntryAlone q d) a f = let o = a.one_entry q d f.entry in rw (o.0, o.1) refl

has_gap : (m : Moment) (gap : Gap) → IsIndexedNow m.log m.core → ((now : IsIndexedNow m.log m.core) → now.gaps 5 ≡ gap) → (gap ≡ Matched → ⊥) → HasGap m.log m.core 5
has_gap m gap now only is_open = ⊎_elim (λ e. absurd (is_open (sym (only now) ∙ e))) (λ h. h) (now.whose 5)

now_at : (xs : List Step) (n : Moment) → list_any pokes xs ≡ false → IsCourse first xs n → IsIndexedNow n.log n.core
now_at xs n quiet course = (unpoked_courses first_log (passes rules_start (Format 1 1)) 1000000 first_vault (format_is_history small (refl, refl)) refl refl (omega arith) bare_store refl xs n quiet course).indexed

-- ---- all numbers below one
abbrev all_below : ℕ → (ℕ → Bool) → Bool
all_below zero p = true
all_below (suc n) p = p n && all_below n p

below : (n : ℕ) (p : ℕ → Bool) → all_below n p ≡ true → (i : ℕ) → i < n → p i ≡ true
below zero p h i l = absurd (omega (arith, l))
below (suc n) p h i l = let parts = and_parts (p n) (all_below n p) h in last_or n p i parts.0 (λ k. below n p parts.1 i k) l (i == n) refl
  where
    last_or : (m : ℕ) (q : ℕ → Bool) (j : ℕ) → q m ≡ true → (j < m → q j ≡ true) → j < suc m → (b : Bool) → (j == m) ≡ b → q j ≡ true
    last_or m q j here earlier k true e = subst (λ z. q z ≡ true) (sym (eqb-true j m e)) here
    last_or m q j here earlier k false e = earlier (let ne : j ≡ m → ⊥ = λ g. let t : (j == m) ≡ true = eq-eqb j m g in absurd (cc) in omega (arith, k, ne))

-- a place is below 16 here
place_below : (q : ℕ) → is_place small q ≡ true → q < 16
place_below q h =
    let heap : is_heap small (region_at q) ≡ true = (and_parts (is_heap small (region_at q)) (nat_le 1 (cell_at q)) h).0 in
    let under : q / 8 < 2 = ltb-true (q / 8) 2 (and_parts (nat_le 1 (q / 8)) (nat_lt (q / 8) 2) heap).1 in
    omega (arith, under)

-- a test of what a slot is, that only one slot passes
abbrev is_cell : List (List ℕ) → ℕ → Bool
is_cell image q = is_place small q && (cell.state_of (words_of image (region_at q)) (cell_at q) == 1)

abbrev is_entry : List (List ℕ) → ℕ → Bool
is_entry image e = entry.state_of (words_of image 0) e == 1

none_but : (a : Bool) (q p : ℕ) → (not a || (q == p)) ≡ true → a ≡ true → q ≡ p
none_but true q p h e = eqb-true q p h
none_but false q p h e = absurd (cc (e))

cell_passes : (image : List (List ℕ)) (q : ℕ) → HasCell small image 5 q → is_cell image q ≡ true
cell_passes image q h = rw (h.0, h.1) refl

-- ---- inside the insert
insert_fits : IsCellAlone small (image_of cell_put.core) 5 9
unfolding look put entries cells
insert_fits = record {
  cell = (refl, refl, refl);
  one_cell = λ q h. none_but (is_cell (image_of cell_put.core) q) q 9 (below 16 (λ i. not (is_cell (image_of cell_put.core) i) || (i == 9)) refl q (place_below q h.0)) (cell_passes (image_of cell_put.core) q h);
  no_entry = λ r e h. nothing r e h;
}
  where
    nothing : (r e : ℕ) → HasEntry small (image_of cell_put.core) 5 r e → ⊥
    nothing zero e h = not_itself (is_entry (image_of cell_put.core) e) (below 21 (λ i. not (is_entry (image_of cell_put.core) i)) refl e h.1) (eq-eqb _ 1 h.2)
    nothing (suc r) e h = absurd (omega (arith, h.0))

pub cut_in_insert : CutInInsert
unfolding look put entries cells
cut_in_insert = record {
  finish = cell_put;
  course = put_so_far_course;
  unpoked = refl;
  open_gap = record { fits = insert_fits; only = only; whose = has_gap cell_put (CellAlone 9) (now_at put_so_far cell_put refl put_so_far_course) only (λ e. absurd (cc (e))) };
}
  where
    only : (now : IsIndexedNow cell_put.log cell_put.core) → now.gaps 5 ≡ CellAlone 9
    only now = only_cell small (image_of cell_put.core) 5 9 (now.gaps 5) insert_fits (now.indexed.keys 5)

-- ---- inside the delete
delete_fits : IsEntryAlone small (image_of cell_killed.core) 5 0 0
unfolding look put add found kill_cell entries cells
delete_fits = record {
  entry = (omega arith, omega arith, refl, refl);
  one_entry = λ q e h. one q e h;
  dead = (refl, refl, refl);
  no_cell = λ p h. not_itself (is_cell (image_of cell_killed.core) p) (below 16 (λ i. not (is_cell (image_of cell_killed.core) i)) refl p (place_below p h.0)) (cell_passes (image_of cell_killed.core) p h);
}
  where
    one : (q e : ℕ) → HasEntry small (image_of cell_killed.core) 5 q e → (q ≡ 0) × (e ≡ 0)
    one zero e h = (refl, none_but (is_entry (image_of cell_killed.core) e) e 0 (below 21 (λ i. not (is_entry (image_of cell_killed.core) i) || (i == 0)) refl e h.1) (eq-eqb _ 1 h.2))
    one (suc q) e h = absurd (omega (arith, h.0))

pub cut_in_delete : CutInDelete
unfolding look put add found kill_cell entries cells
cut_in_delete = record {
  finish = cell_killed;
  course = killed_so_far_course;
  unpoked = refl;
  open_gap = record { fits = delete_fits; only = only; whose = has_gap cell_killed (EntryAlone 0 0) (now_at killed_so_far cell_killed refl killed_so_far_course) only (λ e. absurd (cc (e))) };
}
  where
    only : (now : IsIndexedNow cell_killed.log cell_killed.core) → now.gaps 5 ≡ EntryAlone 0 0
    only now = only_entry small (image_of cell_killed.core) 5 0 0 (now.gaps 5) delete_fits (now.indexed.keys 5)
