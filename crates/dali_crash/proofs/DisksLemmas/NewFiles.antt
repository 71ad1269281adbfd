-- Image files over the steps of checkpoints.
use Rattle.std.proofs.Common.{◌≡◌, ℕ, ◌+◌, ◌≤◌, ◌<◌, Bool, true, false, cond, List, ◌++◌, length, take, drop, Option, Some, None, is_some, refl, ap, sym, subst, ◌∙◌, inl, inr, ⊎_elim, ◌⊎◌, arith, take-append-drop, length-append, length-take, length-drop}
use Rattle.std.specs.Prelude.{◌==◌, ◌&&◌, slice_get}
use Rattle.std.proofs.lemmas.Bool.{cases_lt, eqb-true, eq-eqb}
use Rattle.std.proofs.lemmas.Option.{slice_get_within}
use Rattle.dali_lists.proofs.Options.{some_of_test}
use Rattle.dali_lists.proofs.Tests.{left_true, right_true}
use Rattle.dali_geometry.specs.Sizes.{Sizes}
use Rattle.dali_geometry.specs.Places.{regions}
use Rattle.dali_record.specs.declared.records.Record.{Record}
use Rattle.dali_record.specs.Spelling.{words_bytes}
use Rattle.dali_record.proofs.Lengths.{words_are_8}
use Rattle.dali_region.specs.declared.Side.{Side}
use Rattle.dali_region.specs.declared.Side.TheVariants.{A, B}
use Rattle.dali_region.specs.State.{RegionState}
use Rattle.dali_region.specs.Answers.{is_dirty}
use Rattle.dali_store.specs.declared.store.FileName.TheVariants.{ImageA, ImageB}
use Rattle.dali_store.specs.Store.{Files as Disk, SameBut, Holds}
use Rattle.dali_runs.specs.Run.{Bases, RunsOn, no_image}
use Rattle.dali_runs.specs.Images.{Told}
use Rattle.dali_runs.specs.ImageSteps.{same_side, told_with}
use Rattle.dali_runs.proofs.ImageSteps.{side_self}
use Rattle.dali_crash.specs.Checkpoints.{Head, Copy, Point, StoreStep, Does, Starts, Keeps, Copies, Skips, WritesHead, Syncs, Turns, CopyFails, HeadFails, SyncFails, TurnFails, Finishes, IsPointStep, side_of, target, pass_copy, passes_region, copies_with, copy_at, head_with}
use Rattle.dali_crash.specs.StoreRuns.{StoreRun}
use Rattle.dali_crash.proofs.StoreRuns.{side_is, still_copied}
use Rattle.dali_crash.proofs.StoreStarts.{store_goes}
use Rattle.dali_crash.specs.Disks.Disks.{header_bytes, table_bytes, image_file, image_name}
use Rattle.dali_crash.specs.Disks.Places.{place_of, SamePlace, ReadsHead, IsWrittenAt}
use Rattle.dali_crash.specs.Disks.Bridges.{is_image_write}
use Rattle.dali_crash.specs.Disks.Images.{next_file, HeadStands}
use Rattle.dali_crash.specs.Disks.NewFiles.{HasCopy, ReadsCopied, ReadsCopies, IsUnderWay, StartReads, QuietReads, HeaderReads, CopyReads, TableReads, HasPlaces, HeaderBegins, CopyContinues, SkipContinues, QuietContinues, TableEnds}
use Rattle.dali_crash.proofs.DisksLemmas.Places.{before_it, there, behind_it, write_is_read}
use Rattle.dali_crash.proofs.DisksLemmas.Images.{header_is_64, head_is_read, words_at, head_at}

-- ---- one file of two
-- what is so of the file that was written and of each that wasn't
at_side :
    (side t : Side) (old new : Disk) (Q : Side → List ℕ → List ℕ → Type 0) → SameBut (image_name t) old new → Q t (image_file t old) (image_file t new)
    → ((a : Side) → same_side a t ≡ false → image_file a new ≡ image_file a old → Q a (image_file a old) (image_file a new))
    → Q side (image_file side old) (image_file side new)
at_side A A old new Q same here else = here
at_side B B old new Q same here else = here
at_side A B old new Q same here else = else A refl (same ImageA (λ e. absurd (cc)))
at_side B A old new Q same here else = else B refl (same ImageB (λ e. absurd (cc)))

-- sizes and side are as before
behind : (p q : Point) → q.core.system.sizes ≡ p.core.system.sizes → q.core.vault.current ≡ p.core.vault.current → (P : Sizes → Side → Type 0) → P p.core.system.sizes (target p) → P q.core.system.sizes (target q)
behind p q sizes current P x = subst (λ z. P z (target q)) (sym sizes) (subst (λ (n : ℕ). P p.core.system.sizes (side_of (n + 1))) (sym current) x)

-- a write makes no file shorter, and reaches its own end
longer : (old new bs : List ℕ) (at : ℕ) → at ≤ length old → Holds old at bs new → (length old ≤ length new) × (at + length bs ≤ length new)
longer old new bs at within holds =
    let whole : length new ≡ (length (take at old) + length bs) + length (drop (at + length bs) old) = ap length holds ∙ (length-append (take at old ++ bs) (drop (at + length bs) old) ∙ ap (λ m. m + length (drop (at + length bs) old)) (length-append (take at old) bs)) in
    (omega (arith, whole, length-take at old, length-drop (at + length bs) old, within), omega (arith, whole, length-take at old, within))

-- ---- which places were written
some_back : (b : Bool) (o : Option Copy) → is_some (pass_copy b o) ≡ true → is_some o ≡ true
some_back b None e = absurd (cc)
some_back b (Some k) e = refl

some_with : (b : Bool) (n : ℕ) (o : Option Copy) → is_some o ≡ true → is_some (cond b (Some (copy_at n)) o) ≡ true
some_with true n o e = refl
some_with false n o e = e

-- a step that writes no image
record LeavesCopies (p q : Point) : Type 0 where
  told : q.told ≡ p.told
  fewer : (side : Side) (r : ℕ) → HasCopy q side r → HasCopy p side r

-- where each flag that is clear tells of a place that was written
abbrev ClearTells : Point → Type 0
ClearTells p = (side : Side) (r : ℕ) (g : RegionState) → slice_get p.core.regions r ≡ Some g → is_dirty g side ≡ false → HasCopy p side r

copies_stay : (p q : Point) → q.told ≡ p.told → q.copies ≡ p.copies → LeavesCopies p q
copies_stay p q told copies = record {
  told = told;
  fewer = λ side r e. subst (λ (c : Side → ℕ → Option Copy). is_some (c side r) ≡ true) copies e;
}

quiet_copies : (p q : Point) (x : StoreStep) → ClearTells p → IsPointStep p x q → is_image_write x ≡ false → LeavesCopies p q
quiet_copies p q (Does y) tells s quiet = record {
  told = ap (λ (z : Point). z.told) s.2;
  fewer = λ side r e. some_back (passes_region p.core y r) (p.copies side r) (subst (λ (c : Side → ℕ → Option Copy). is_some (c side r) ≡ true) (ap (λ (z : Point). z.copies) s.2) e);
}
quiet_copies p q Starts tells s quiet = copies_stay p q (ap (λ (z : Point). z.told) s.1) (ap (λ (z : Point). z.copies) s.1)
quiet_copies p q Keeps tells s quiet = copies_stay p q (ap (λ (z : Point). z.told) s.4) (ap (λ (z : Point). z.copies) s.4)
quiet_copies p q (Copies r n) tells s quiet = absurd (cc)
quiet_copies p q (Skips r n) tells s quiet = record {
  told = ap (λ (z : Point). z.told) s.5;
  fewer = λ side j e. by_test side j (same_side side (target p) && (j == r)) refl (subst (λ (c : Side → ℕ → Option Copy). is_some (c side j) ≡ true) copies e);
}
  where
    copies : q.copies ≡ copies_with p.copies (target p) r (Some (copy_at n))
    copies = ap (λ (z : Point). z.copies) s.5

    by_test : (side : Side) (j : ℕ) (b : Bool) → (same_side side (target p) && (j == r)) ≡ b → is_some (cond b (Some (copy_at n)) (p.copies side j)) ≡ true → HasCopy p side j
    by_test side j true f e =
        let side_same : side ≡ target p = side_is side (target p) (left_true (same_side side (target p)) (j == r) f) in
        let region_same : j ≡ r = eqb-true j r (right_true (same_side side (target p)) (j == r) f) in
        subst (λ a. is_some (p.copies a j) ≡ true) (sym side_same) (subst (λ i. is_some (p.copies (target p) i) ≡ true) (sym region_same) (tells (target p) r s.0 s.1 s.3))
    by_test side j false f e = e
quiet_copies p q (WritesHead h) tells s quiet = absurd (cc)
quiet_copies p q Syncs tells s quiet = copies_stay p q (ap (λ (z : Point). z.told) s.1) (ap (λ (z : Point). z.copies) s.1)
quiet_copies p q Turns tells s quiet = copies_stay p q (ap (λ (z : Point). z.told) s.5) (ap (λ (z : Point). z.copies) s.5)
quiet_copies p q (CopyFails r ws n) tells s quiet = absurd (cc)
quiet_copies p q (HeadFails h n) tells s quiet = absurd (cc)
quiet_copies p q (SyncFails n) tells s quiet = copies_stay p q (ap (λ (z : Point). z.told) s.1) (ap (λ (z : Point). z.copies) s.1)
quiet_copies p q (TurnFails n) tells s quiet = copies_stay p q (ap (λ (z : Point). z.told) s.5) (ap (λ (z : Point). z.copies) s.5)
quiet_copies p q Finishes tells s quiet = copies_stay p q (ap (λ (z : Point). z.told) s.1) (ap (λ (z : Point). z.copies) s.1)

-- without a run, places that were written stay so
quiet_more : (p q : Point) (x : StoreStep) → IsPointStep p x q → is_image_write x ≡ false → (side : Side) (r : ℕ) → HasCopy p side r → HasCopy q side r
quiet_more p q (Does y) s quiet side r e = subst (λ (c : Side → ℕ → Option Copy). is_some (c side r) ≡ true) (sym (ap (λ (z : Point). z.copies) s.2)) (still_copied (passes_region p.core y r) (p.copies side r) e)
quiet_more p q Starts s quiet side r e = subst (λ (z : Point). is_some (z.copies side r) ≡ true) (sym s.1) e
quiet_more p q Keeps s quiet side r e = subst (λ (z : Point). is_some (z.copies side r) ≡ true) (sym s.4) e
quiet_more p q (Copies k n) s quiet side r e = absurd (cc)
quiet_more p q (Skips k n) s quiet side r e = subst (λ (z : Point). is_some (z.copies side r) ≡ true) (sym s.5) (some_with (same_side side (target p) && (r == k)) n (p.copies side r) e)
quiet_more p q (WritesHead h) s quiet side r e = absurd (cc)
quiet_more p q Syncs s quiet side r e = subst (λ (z : Point). is_some (z.copies side r) ≡ true) (sym s.1) e
quiet_more p q Turns s quiet side r e = subst (λ (z : Point). is_some (z.copies side r) ≡ true) (sym s.5) e
quiet_more p q (CopyFails k ws n) s quiet side r e = absurd (cc)
quiet_more p q (HeadFails h n) s quiet side r e = absurd (cc)
quiet_more p q (SyncFails n) s quiet side r e = subst (λ (z : Point). is_some (z.copies side r) ≡ true) (sym s.1) e
quiet_more p q (TurnFails n) s quiet side r e = subst (λ (z : Point). is_some (z.copies side r) ≡ true) (sym s.5) e
quiet_more p q Finishes s quiet side r e = subst (λ (z : Point). is_some (z.copies side r) ≡ true) (sym s.1) e

-- ---- what is read of both files
pub start_reads : StartReads
start_reads s fs side r lt e = absurd (cc)

-- the same words are told, of no more places, which have the same bytes
reads_on :
    (p q : Point) (side : Side) (old new : List ℕ) → q.core.system.sizes ≡ p.core.system.sizes
    → ((r : ℕ) → HasCopy q side r → HasCopy p side r × (q.told side r ≡ p.told side r))
    → ((r : ℕ) → r < regions p.core.system.sizes → SamePlace r old new)
    → ReadsCopied p side old → ReadsCopied q side new
reads_on p q side old new sizes from same reads r lt e =
    let within : r < regions p.core.system.sizes = subst (λ z. r < regions z) sizes lt in
    same r within ∙ (reads r within (from r e).0 ∙ ap words_bytes (sym (from r e).1))

pub quiet_reads : QuietReads
quiet_reads bases before p q x old new run step quiet files reads side =
    let leaves : LeavesCopies p q = quiet_copies p q x run.written.clean step quiet in
    reads_on p q side (image_file side old) (image_file side new) (store_goes p q x step).sizes (λ r e. (leaves.fewer side r e, ap (λ (t : Told). t side r) leaves.told)) (λ r lt. ap (λ b. take 512 (drop (place_of r) b)) (files side)) (reads side)

-- ---- header and table
-- a write to the file of the next image that leaves its places
head_reads :
    (p q : Point) (h : Head) (old new : Disk) → IsPointStep p (WritesHead h) q → SameBut (image_name (target p)) old new
    → ((r : ℕ) → r < regions p.core.system.sizes → SamePlace r (next_file p old) (next_file p new))
    → ReadsCopies p old → ReadsCopies q new
head_reads p q h old new step same places reads side =
    reads_on p q side (image_file side old) (image_file side new) (store_goes p q (WritesHead h) step).sizes (λ r e. (subst (λ (z : Point). is_some (z.copies side r) ≡ true) step.1 e, ap (λ (z : Point). z.told side r) step.1))
    (at_side side (target p) old new (λ a b c. (r : ℕ) → r < regions p.core.system.sizes → SamePlace r b c) same places (λ a other file r lt. ap (λ b. take 512 (drop (place_of r) b)) file))
    (reads side)

pub header_reads : HeaderReads
header_reads p q h old new step same holds reads =
    head_reads p q h old new step same (λ r lt. ap (take 512) (behind_it (next_file p old) (next_file p new) (header_bytes p.core.system.sizes h) 0 (omega arith) holds (place_of r) (omega (arith, header_is_64 p.core.system.sizes h)))) reads

pub table_reads : TableReads
table_reads p q h old new step same inside holds reads =
    head_reads p q h old new step same (λ r lt. before_it (next_file p old) (next_file p new) (table_bytes h.table) (place_of (regions p.core.system.sizes)) inside holds 512 (place_of r) (omega (arith, lt))) reads

pub header_begins : HeaderBegins
header_begins p q h old new step holds = record {
  copied = λ r lt. absurd (omega (arith, lt));
  header = behind p q sizes current (λ z a. take 64 (image_file a new) ≡ header_bytes z h) first;
  long = behind p q sizes current (λ z a. place_of 0 ≤ length (image_file a new)) (omega (arith, (longer (next_file p old) (next_file p new) header 0 (omega arith) holds).1, header_is_64 p.core.system.sizes h));
}
  where
    header : List ℕ
    header = header_bytes p.core.system.sizes h

    sizes : q.core.system.sizes ≡ p.core.system.sizes
    sizes = (store_goes p q (WritesHead h) step).sizes

    current : q.core.vault.current ≡ p.core.vault.current
    current = ap (λ (z : Point). z.core.vault.current) step.1

    first : take 64 (next_file p new) ≡ header_bytes p.core.system.sizes h
    first = ap (λ (n : ℕ). take n (next_file p new)) (sym (header_is_64 p.core.system.sizes h)) ∙ there (next_file p old) (next_file p new) header 0 (omega arith) holds

from_zero : (n : ℕ) → n ≡ 64 → 64 ≡ 0 + n
from_zero n e = omega (arith, e)

-- a header that stands may be written again
pub table_ends : TableEnds
table_ends p q h old new step reads way table = record {
  words = words_at p q new sizes current p.told told (λ r lt. stands.places r lt ∙ reads (target p) r lt (way.copied r lt));
  head = head_at p q new sizes current (head_with p.heads (target p) h) heads (subst (λ k. ReadsHead p.core.system.sizes k (next_file p new)) (sym here) stands.head);
}
  where
    again : Holds (next_file p old) 0 (header_bytes p.core.system.sizes h) (next_file p old)
    again =
        sym (take-append-drop 64 (next_file p old))
        ∙ (ap (λ l. l ++ drop 64 (next_file p old)) way.header
        ∙ ap (λ (n : ℕ). header_bytes p.core.system.sizes h ++ drop n (next_file p old)) (from_zero (length (header_bytes p.core.system.sizes h)) (header_is_64 p.core.system.sizes h)))

    sizes : q.core.system.sizes ≡ p.core.system.sizes
    sizes = (store_goes p q (WritesHead h) step).sizes

    current : q.core.vault.current ≡ p.core.vault.current
    current = ap (λ (z : Point). z.core.vault.current) step.1

    told : q.told ≡ p.told
    told = ap (λ (z : Point). z.told) step.1

    heads : q.heads ≡ head_with p.heads (target p) h
    heads = ap (λ (z : Point). z.heads) step.1

    here : head_with p.heads (target p) h (target p) ≡ h
    here = ap (λ b. cond b h (p.heads (target p))) (side_self (target p))

    stands : HeadStands p.core.system.sizes h (next_file p old) (next_file p new)
    stands = head_is_read p.core.system.sizes h (next_file p old) (next_file p old) (next_file p new) again way.long table

-- ---- a copy
module _ (bases : Bases) (before : List Record) (p : Point) (run : StoreRun bases before no_image p) where
  runs : RunsOn bases p.log p.core
  runs = subst (λ M. RunsOn bases M p.core) (sym run.run.log) run.run.run.runs

  count : (r : ℕ) (g : RegionState) → slice_get p.core.regions r ≡ Some g → r < regions p.core.system.sizes
  count r g at = omega (arith, slice_get_within p.core.regions r g at, runs.whole)

  module _ (q : Point) (r n : ℕ) (step : IsPointStep p (Copies r n) q) where
    g : RegionState
    g = step.0

    copy_sizes : q.core.system.sizes ≡ p.core.system.sizes
    copy_sizes = (store_goes p q (Copies r n) step).sizes

    copy_current : q.core.vault.current ≡ p.core.vault.current
    copy_current = ap (λ (z : Point). z.core.vault.current) step.5

    told : q.told ≡ told_with p.told (target p) r step.0.back
    told = ap (λ (z : Point). z.told) step.5

    copies : q.copies ≡ copies_with p.copies (target p) r (Some (copy_at n))
    copies = ap (λ (z : Point). z.copies) step.5

    back_is : q.told (target p) r ≡ step.0.back
    back_is = ap (λ (t : Told). t (target p) r) told ∙ (ap (λ b. cond (b && (r == r)) step.0.back (p.told (target p) r)) (side_self (target p)) ∙ ap (λ b. cond b step.0.back (p.told (target p) r)) (eq-eqb r r refl))

    size : length (q.told (target p) r) ≡ 64
    size = ap length back_is ∙ (runs.regions r step.0 step.1).protected.back.0

    copied_on : (side : Side) (j : ℕ) → HasCopy p side j → HasCopy q side j
    copied_on side j e = subst (λ (c : Side → ℕ → Option Copy). is_some (c side j) ≡ true) (sym copies) (some_with (same_side side (target p) && (j == r)) n (p.copies side j) e)

    copied_here : HasCopy q (target p) r
    copied_here = subst (λ (c : Side → ℕ → Option Copy). is_some (c (target p) r) ≡ true) (sym copies)
        (ap (λ b. is_some (cond (b && (r == r)) (Some (copy_at n)) (p.copies (target p) r))) (side_self (target p)) ∙ ap (λ b. is_some (cond b (Some (copy_at n)) (p.copies (target p) r))) (eq-eqb r r refl))

    reads_behind : (old new : Disk) → SameBut (image_name (target p)) old new → place_of r ≤ length (next_file p old) → Holds (next_file p old) (place_of r) (words_bytes (q.told (target p) r)) (next_file p new) → ReadsCopies p old → ReadsCopies q new
    reads_behind old new same inside holds reads side j lt e = by_test (same_side side (target p) && (j == r)) refl
      where
        within : j < regions p.core.system.sizes
        within = subst (λ z. j < regions z) copy_sizes lt

        written : IsWrittenAt p.core.system.sizes r (q.told (target p) r) (next_file p old) (next_file p new)
        written = write_is_read p.core.system.sizes (next_file p old) (next_file p new) r (q.told (target p) r) (count r step.0 step.1) size inside holds

        elsewhere : (same_side side (target p) && (j == r)) ≡ false → SamePlace j (image_file side old) (image_file side new)
        elsewhere = at_side side (target p) old new (λ a b c. (same_side a (target p) && (j == r)) ≡ false → SamePlace j b c) same
            (λ f. written.others j (ap (λ b. b && (j == r)) (sym (side_self (target p))) ∙ f))
            (λ a other file f. ap (λ b. take 512 (drop (place_of j) b)) file)

        by_test : (b : Bool) → (same_side side (target p) && (j == r)) ≡ b → take 512 (drop (place_of j) (image_file side new)) ≡ words_bytes (q.told side j)
        by_test true f =
            let side_same : side ≡ target p = side_is side (target p) (left_true (same_side side (target p)) (j == r) f) in
            let region_same : j ≡ r = eqb-true j r (right_true (same_side side (target p)) (j == r) f) in
            subst (λ a. take 512 (drop (place_of j) (image_file a new)) ≡ words_bytes (q.told a j)) (sym side_same)
            (subst (λ i. take 512 (drop (place_of i) (next_file p new)) ≡ words_bytes (q.told (target p) i)) (sym region_same) written.here)
        by_test false f =
            let was : HasCopy p side j = ap (λ b. is_some (cond b (Some (copy_at n)) (p.copies side j))) (sym f) ∙ subst (λ (c : Side → ℕ → Option Copy). is_some (c side j) ≡ true) copies e in
            let words : q.told side j ≡ p.told side j = ap (λ (t : Told). t side j) told ∙ ap (λ b. cond b step.0.back (p.told side j)) f in
            elsewhere f ∙ (reads side j within was ∙ ap words_bytes (sym words))

    copied_below : (h : Head) (k : ℕ) (old : Disk) → IsUnderWay p h k old → (m : ℕ) → ((j : ℕ) → j < m → (j < k) ⊎ (j ≡ r)) → (j : ℕ) → j < m → HasCopy q (target q) j
    copied_below h k old way m from j lt = behind p q copy_sizes copy_current (λ z a. HasCopy q a j)
        (⊎_elim (λ less. copied_on (target p) j (way.copied j less)) (λ e. subst (λ i. HasCopy q (target p) i) (sym e) copied_here) (from j lt))

pub copy_reads : CopyReads
copy_reads bases before p q r n old new run step same inside holds reads = reads_behind bases before p run q r n step old new same inside holds reads

pub copy_continues : CopyContinues
copy_continues bases before p q h k r n old new run step way le holds = record {
  inside = inside;
  still = record { copied = below k (λ j lt. inl lt); header = header; long = behind p q sizes current (λ z a. place_of k ≤ length (image_file a new)) (omega (arith, way.long, grows.0)) };
  further = record {
    copied = below (r + 1) (λ j lt. ⊎_elim (λ less. inl (omega (arith, less, le))) (λ ge. inr (omega (arith, lt, ge))) (cases_lt j r));
    header = header;
    long = behind p q sizes current (λ z a. place_of (r + 1) ≤ length (image_file a new)) (omega (arith, grows.1, words_are_8 (q.told (target p) r), size bases before p run q r n step));
  };
}
  where
    below : (m : ℕ) → ((j : ℕ) → j < m → (j < k) ⊎ (j ≡ r)) → (j : ℕ) → j < m → HasCopy q (target q) j
    below = copied_below bases before p run q r n step h k old way

    inside : place_of r ≤ length (next_file p old)
    inside = omega (arith, way.long, le)

    sizes : q.core.system.sizes ≡ p.core.system.sizes
    sizes = copy_sizes bases before p run q r n step

    current : q.core.vault.current ≡ p.core.vault.current
    current = copy_current bases before p run q r n step

    grows : (length (next_file p old) ≤ length (next_file p new)) × (place_of r + length (words_bytes (q.told (target p) r)) ≤ length (next_file p new))
    grows = longer (next_file p old) (next_file p new) (words_bytes (q.told (target p) r)) (place_of r) inside holds

    header : take 64 (next_file q new) ≡ header_bytes q.core.system.sizes h
    header = behind p q sizes current (λ z a. take 64 (image_file a new) ≡ header_bytes z h)
        (before_it (next_file p old) (next_file p new) (words_bytes (q.told (target p) r)) (place_of r) inside holds 64 0 (omega arith) ∙ way.header)

-- ---- every other step
pub quiet_continues : QuietContinues
quiet_continues p q x h k old new step quiet current file way = record {
  copied = λ r lt. quiet_more p q x step quiet (target q) r (behind p q sizes current (λ z a. HasCopy p a r) (way.copied r lt));
  header = behind p q sizes current (λ z a. take 64 (image_file a new) ≡ header_bytes z h) (ap (take 64) file ∙ way.header);
  long = behind p q sizes current (λ z a. place_of k ≤ length (image_file a new)) (subst (λ bytes. place_of k ≤ length bytes) (sym file) way.long);
}
  where
    sizes : q.core.system.sizes ≡ p.core.system.sizes
    sizes = (store_goes p q x step).sizes

-- a place that reads 64 words stands in the file
stands : (bytes : List ℕ) (r : ℕ) (ws : List ℕ) → length ws ≡ 64 → take 512 (drop (place_of r) bytes) ≡ words_bytes ws → place_of (r + 1) ≤ length bytes
stands bytes r ws size reads = omega (arith, length-take 512 (drop (place_of r) bytes), length-drop (place_of r) bytes, ap length reads, words_are_8 ws, size)

pub has_places : HasPlaces
has_places bases before p fs run reads side r g at clear =
    let was : HasCopy p side r = run.written.clean side r g at clear in
    let copy : (c : Copy) × (p.copies side r ≡ Some c) = some_of_test (p.copies side r) was in
    stands (image_file side fs) r (p.told side r) (run.written.copied side r copy.0 copy.1).0 (reads side r (count bases before p run r g at) was)

pub skip_continues : SkipContinues
skip_continues bases before p q h k r n fs run step reads way le = record {
  inside = omega (arith, whole);
  still = still;
  further = record {
    copied = λ j lt. ⊎_elim (λ less. still.copied j (omega (arith, less, le))) (λ ge. subst (λ i. HasCopy q (target q) i) (let e : r ≡ j = omega (arith, lt, ge) in e) here) (cases_lt j r);
    header = still.header;
    long = behind p q sizes current (λ z a. place_of (r + 1) ≤ length (image_file a fs)) whole;
  };
}
  where
    sizes : q.core.system.sizes ≡ p.core.system.sizes
    sizes = (store_goes p q (Skips r n) step).sizes

    current : q.core.vault.current ≡ p.core.vault.current
    current = ap (λ (z : Point). z.core.vault.current) step.5

    was : HasCopy p (target p) r
    was = run.written.clean (target p) r step.0 step.1 step.3

    whole : place_of (r + 1) ≤ length (next_file p fs)
    whole = has_places bases before p fs run reads (target p) r step.0 step.1 step.3

    here : HasCopy q (target q) r
    here = quiet_more p q (Skips r n) step refl (target q) r (behind p q sizes current (λ z a. HasCopy p a r) was)

    still : IsUnderWay q h k fs
    still = quiet_continues p q (Skips r n) h k fs fs step refl current refl way
