-- A restart that begins with an image that fits comes to the same as one over the epoch's base.
use Rattle.std.proofs.Common.{◌≡◌, ℕ, zero, suc, ◌+◌, ◌-◌, ◌<◌, ◌≤◌, Bool, true, false, cond, List, [], ◌∷◌, ◌++◌, length, take, drop, map, Option, Some, None, refl, ap, sym, ◌∙◌, append_assoc, arith}
use Rattle.std.specs.Prelude.{◌&&◌, ◌||◌, ◌==◌, not, fold, nat_le}
use Rattle.std.specs.List.{list_any}
use Rattle.std.proofs.lemmas.List.{append-nil, take-append-drop, take-append-le, drop-append-le, ext_get_or, length-map, length_push}
use Rattle.std.proofs.lemmas.List.Sums.{fold-append}
use Rattle.std.proofs.lemmas.List.Folds.{list_any-append}
use Rattle.std.proofs.lemmas.Bool.{leb-true, or_parts}
use Rattle.dali_lists.proofs.Lists.{length_take, length_take_least}
use Rattle.dali_geometry.specs.Sizes.{Sizes}
use Rattle.dali_record.specs.declared.records.Record.{Record}
use Rattle.dali_record.specs.Log.{Touch, touch_of, txn_of}
use Rattle.dali_record.specs.Epochs.{Epoch, clean_place}
use Rattle.dali_record.specs.Files.{Files}
use Rattle.dali_record.specs.Damage.{Damage, damage_of, has, is_first, any_touch, is_linked, mark_of, mark_step, marks, has_corrupt, any_txn, is_dropped, kept_from, kept}
use Rattle.dali_record.specs.Settled.{redo, redo_all}
use Rattle.dali_record.proofs.Ends.{by_push}
use Rattle.dali_record.proofs.Pushes.{marks_push}
use Rattle.dali_record.proofs.Chains.{marks-records}
use Rattle.dali_record.proofs.Batches.{clean_grows}
use Rattle.dali_history.specs.Recovered.{roll_back, freed, losers, undos_left}
use Rattle.dali_runs.proofs.OneMoreTouch.{length-redo_all}
use Rattle.dali_crash.specs.Fitting.{FitsWhole, RecoversFromImage}
use Rattle.dali_crash.proofs.Fitting.{within_epoch}

abbrev Marks : Type 0
Marks = List (Record × Bool)

-- ---- before the clean place nothing is corrupt
abbrev none_marked : Marks → Bool
none_marked ms = list_any (λ m. m.1) ms

pub not_linked : (before : List Record) (ms : Marks) (b : Touch) → none_marked ms ≡ false → is_linked before ms b ≡ false
not_linked before [] b h = refl
not_linked before (m ∷ ms) b h = let parts = or_parts m.1 (none_marked ms) h in rw (parts.0, not_linked (before ++ m.0 ∷ []) ms b parts.1) refl

too_early : (d : Damage) (p : ℕ) (a : Touch) → d.first + p < d.clean → is_first d p a ≡ false
too_early d p a h = by_test (nat_le d.clean (d.first + p)) refl
  where
    by_test : (c : Bool) → nat_le d.clean (d.first + p) ≡ c → (c && has d.failing a.block.region && not (a.block.read == 0)) ≡ false
    by_test true e = absurd (omega (arith, leb-true d.clean (d.first + p) e, h))
    by_test false e = refl

not_marked : (d : Damage) (ms : Marks) (r : Record) → none_marked ms ≡ false → d.first + length ms < d.clean → mark_of d ms r ≡ false
not_marked d ms r none early = by_touch (touch_of r)
  where
    by_touch : (o : Option Touch) → any_touch (λ b. is_first d (length ms) b || is_linked [] ms b) o ≡ false
    by_touch None = refl
    by_touch (Some b) = rw (too_early d (length ms) b early, not_linked [] ms b none) refl

length-marks : (d : Damage) (E : List Record) → length (marks d E) ≡ length E
length-marks d E = sym (length-map (marks d E) (λ m. m.0)) ∙ ap length (marks-records d E)

pub none_early : (d : Damage) (E : List Record) → d.first + length E ≤ d.clean → none_marked (marks d E) ≡ false
none_early d = by_push (λ E. d.first + length E ≤ d.clean → none_marked (marks d E) ≡ false) (λ h. refl) (λ E r here h.
    let old : none_marked (marks d E) ≡ false = here (omega (arith, h, length_push E r)) in
    ap none_marked (marks_push d E r) ∙ (list_any-append (λ m. m.1) (marks d E) _ ∙ rw (old, not_marked d (marks d E) r old (omega (arith, h, length_push E r, length-marks d E))) refl))

-- ---- so all records there are kept
none_corrupt : (ms : Marks) (t : ℕ) → none_marked ms ≡ false → has_corrupt ms t ≡ false
none_corrupt [] t h = refl
none_corrupt (m ∷ ms) t h = let parts = or_parts m.1 (none_marked ms) h in rw (parts.0, none_corrupt ms t parts.1) refl

none_dropped : (ms : Marks) (r : Record) → none_marked ms ≡ false → is_dropped ms r ≡ false
none_dropped ms r h = by_txn (txn_of r)
  where
    by_txn : (o : Option ℕ) → any_txn (has_corrupt ms) o ≡ false
    by_txn None = refl
    by_txn (Some t) = none_corrupt ms t h

pub all_kept : (before ms : Marks) → none_marked before ≡ false → none_marked ms ≡ false → kept_from before ms ≡ map (λ m. m.0) ms
all_kept before [] h g = refl
all_kept before (m ∷ ms) h g =
    let parts = or_parts m.1 (none_marked ms) g in
    let more : none_marked (before ++ m ∷ []) ≡ false = list_any-append (λ n. n.1) before (m ∷ []) ∙ rw (h, parts.0) refl in
    rw (none_dropped (before ++ m ∷ []) m.0 more) (ap (λ l. m.0 ∷ l) (all_kept (before ++ m ∷ []) ms more parts.1))

pub kept_append : (before xs ys : Marks) → kept_from before (xs ++ ys) ≡ kept_from before xs ++ kept_from (before ++ xs) ys
kept_append before [] ys = ap (λ b. kept_from b ys) (sym (append-nil before))
kept_append before (m ∷ xs) ys = by_test (is_dropped (before ++ m ∷ []) m.0) (kept_append (before ++ m ∷ []) xs ys ∙ ap (λ b. kept_from (before ++ m ∷ []) xs ++ kept_from b ys) (append_assoc before (m ∷ []) xs))
  where
    by_test :
        (c : Bool) → kept_from (before ++ m ∷ []) (xs ++ ys) ≡ kept_from (before ++ m ∷ []) xs ++ kept_from (before ++ m ∷ xs) ys
        → cond c (kept_from (before ++ m ∷ []) (xs ++ ys)) (m.0 ∷ kept_from (before ++ m ∷ []) (xs ++ ys)) ≡ cond c (kept_from (before ++ m ∷ []) xs) (m.0 ∷ kept_from (before ++ m ∷ []) xs) ++ kept_from (before ++ m ∷ xs) ys
    by_test true e = e
    by_test false e = ap (λ l. m.0 ∷ l) e

-- ---- the marks of a longer list
pub step_more : (d : Damage) (ms : Marks) (E : List Record) → (Z : Marks) × (fold (mark_step d) ms E ≡ ms ++ Z)
step_more d ms [] = ([], sym (append-nil ms))
step_more d ms (x ∷ E) = let w = step_more d (mark_step d ms x) E in ((x, mark_of d ms x) ∷ w.0, w.1 ∙ append_assoc ms _ w.0)

pub marks_more : (d : Damage) (n : ℕ) (E : List Record) → (Z : Marks) × (marks d E ≡ marks d (take n E) ++ Z)
marks_more d n E = let w = step_more d (marks d (take n E)) (drop n E) in (w.0, ap (marks d) (sym (take-append-drop n E)) ∙ (fold-append (mark_step d) [] (take n E) (drop n E) ∙ w.1))

pub none_of : (n : ℕ) (ms : Marks) → none_marked ms ≡ false → (none_marked (take n ms) ≡ false) × (none_marked (drop n ms) ≡ false)
none_of zero ms h = (refl, h)
none_of (suc n) [] h = (refl, refl)
none_of (suc n) (m ∷ ms) h = let parts = or_parts m.1 (none_marked ms) h in let w = none_of n ms parts.1 in (rw (parts.0, w.0) refl, w.1)

map_drop : (n : ℕ) (ms : Marks) → map (λ m. m.0) (drop n ms) ≡ drop n (map (λ m. m.0) ms)
map_drop zero ms = refl
map_drop (suc n) [] = refl
map_drop (suc n) (m ∷ ms) = map_drop n ms

-- the kept records from the image's number on, written over the image, come to what all of them come to over the base
pub redone_from_image :
    (s : Sizes) (base : List (List ℕ)) (K : List Record) (F : Files) (e : Epoch) → FitsWhole s base K F e
    → redo_all F.image (kept_from (take (F.first - e.first) (marks (damage_of e) e.records)) (drop (F.first - e.first) (marks (damage_of e) e.records))) ≡ redo_all base (kept (marks (damage_of e) e.records))
redone_from_image s base K F e fit = redone
  where
    d : Damage
    d = damage_of e

    E : List Record
    E = e.records

    ms : Marks
    ms = marks d E

    k : ℕ
    k = F.first - e.first

    c : ℕ
    c = clean_place e - e.first

    front : List Record
    front = take c E

    A : Marks
    A = marks d front

    rest : (Z : Marks) × (ms ≡ A ++ Z)
    rest = marks_more d c E

    clean : none_marked A ≡ false
    clean = none_early d front (omega (arith, length_take c E, fit.fits.certified, above))
      where
        above : e.first ≤ clean_place e
        above = clean_grows e.first E

    within : k ≤ length front
    within = length_take_least k c E (omega (arith, fit.fits.certified)) (within_epoch F.first K e fit.fits.count fit.fits.epoch)

    within_marks : k ≤ length A
    within_marks = omega (arith, within, length-marks d front)

    later : List Record
    later = kept_from A rest.0

    -- what is kept of the whole epoch, and from the image's number on
    all : kept ms ≡ front ++ later
    all = ap kept rest.1 ∙ (kept_append [] A rest.0 ∙ ap (λ l. l ++ later) (all_kept [] A refl clean ∙ marks-records d front))

    from : kept_from (take k ms) (drop k ms) ≡ drop k front ++ later
    from =
        ap (λ z. kept_from (take k z) (drop k z)) rest.1
        ∙ (ap (λ z. kept_from z (drop k (A ++ rest.0))) (take-append-le k A rest.0 within_marks)
        ∙ (ap (kept_from (take k A)) (drop-append-le k A rest.0 within_marks)
        ∙ (kept_append (take k A) (drop k A) rest.0
        ∙ (ap (λ z. kept_from (take k A) (drop k A) ++ kept_from z rest.0) (take-append-drop k A)
        ∙ ap (λ l. l ++ later) (all_kept (take k A) (drop k A) (none_of k A clean).0 (none_of k A clean).1 ∙ (map_drop k A ∙ ap (drop k) (marks-records d front)))))))

    sizes : length (redo_all F.image (drop k front)) ≡ length (redo_all base front)
    sizes = length-redo_all F.image (drop k front) ∙ (fit.image_whole ∙ (sym fit.base_whole ∙ sym (length-redo_all base front)))

    same : redo_all F.image (drop k front) ≡ redo_all base front
    same = ext_get_or [] (redo_all F.image (drop k front)) (redo_all base front) sizes (λ r h. fit.fits.words r (omega (arith, h, sizes, length-redo_all base front, fit.base_whole)))

    redone : redo_all F.image (kept_from (take k ms) (drop k ms)) ≡ redo_all base (kept ms)
    redone =
        ap (redo_all F.image) from
        ∙ (fold-append redo F.image (drop k front) later
        ∙ (ap (λ im. redo_all im later) same
        ∙ (sym (fold-append redo base front later) ∙ ap (redo_all base) (sym all))))

pub recovers_from_image : RecoversFromImage
recovers_from_image s base K F e fit = ap (λ image. freed s (fold (λ im t. roll_back im (undos_left (marks (damage_of e) e.records) t)) image (losers e (marks (damage_of e) e.records)))) (redone_from_image s base K F e fit)
