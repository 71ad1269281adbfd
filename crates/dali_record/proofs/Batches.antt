-- What one more batch at the end of a log does to its epochs, and to files that fit it.
use Rattle.std.proofs.Common.{◌≡◌, ◌≢◌, ℕ, zero, suc, ◌+◌, ◌-◌, ◌<◌, ◌≤◌, Bool, true, false, cond, List, [], ◌∷◌, ◌++◌, length, take, drop, Option, Some, None, refl, ap, sym, subst, ◌∙◌, inl, inr, ⊎_elim, append_assoc, arith}
use Rattle.std.specs.Prelude.{not, fold, flat_map, sum_by, map, filter, slice_get, unwrap_or}
use Rattle.std.specs.List.{AllByRecursion, list_any, find}
use Rattle.std.proofs.lemmas.List.{append-nil, length-append, length_push, take_all, take-append-le, drop-append-le}
use Rattle.std.proofs.lemmas.List.Sums.{fold-append}
use Rattle.std.proofs.lemmas.List.Concat.{flat_map-append}
use Rattle.std.proofs.lemmas.Bool.{cases_lt, or_parts, cases_eq}
use Rattle.std.proofs.lemmas.Bool.Decides.{Decides-ltb}
use Rattle.dali_lists.proofs.Members.{all_map, all_push}
use Rattle.dali_lists.proofs.Lists.{take_further, length_take_least}
use Rattle.dali_geometry.specs.Sizes.{Sizes}
use Rattle.dali_record.specs.declared.records.Record.{Record}
use Rattle.dali_record.specs.declared.records.Record.TheVariants.{Format, Begin, Forward, Done, Commit, Ended, Solo, AuditBegin, AuditClean, AuditFail, Restarted, Back}
use Rattle.dali_record.specs.Log.{Touch, touch_of, begun, ended}
use Rattle.dali_record.specs.Epochs.{separates, Epoch, Cut, next_number, cut_step, cut, last_epoch, recovered_or, recovered_epoch, clean_step, clean_place, failing_step, failing}
use Rattle.dali_record.specs.Damage.{has}
use Rattle.dali_record.specs.Settled.{words_in, redo, redo_touch, redo_all}
use Rattle.dali_record.specs.Spelling.{record_length}
use Rattle.dali_record.specs.Files.{Files, batch_length, is_restarted, is_restarted_first, with_batch, row_of, next_after, ends_behind, epoch_from, Fits}
use Rattle.dali_record.specs.Blocks.{rewritten}
use Rattle.dali_record.proofs.Ends.{by_push, get_push_cases, last_of_push}
use Rattle.dali_record.proofs.Pushes.{cut_push}
use Rattle.dali_record.proofs.Recovery.{words_redo-same, words_redo-other}

-- ---- epochs
abbrev longer : Cut → List Record → Cut
longer c B = record { closed = c.closed; now = record { first = c.now.first; records = c.now.records ++ B } }

step_within : (c : Cut) (r : Record) → separates r ≡ false → cut_step c r ≡ longer c (r ∷ [])
step_within c (Format i h) e = absurd (cc)
step_within c (Restarted rs ds) e = absurd (cc)
step_within c _ e = refl

fold_within : (c : Cut) (B : List Record) → list_any separates B ≡ false → fold cut_step c B ≡ longer c B
fold_within c [] h = sym (ap (λ (rs : List Record). record { closed = c.closed; now = record { first = c.now.first; records = rs } }) (append-nil c.now.records))
fold_within c (r ∷ B) h =
    let g = or_parts (separates r) (list_any separates B) h in
    ap (λ d. fold cut_step d B) (step_within c r g.0)
    ∙ fold_within (longer c (r ∷ [])) B g.1
    ∙ ap (λ (rs : List Record). record { closed = c.closed; now = record { first = c.now.first; records = rs } }) (append_assoc c.now.records (r ∷ []) B)

cut_within : (L B : List Record) → list_any separates B ≡ false → cut (L ++ B) ≡ longer (cut L) B
cut_within L B h = fold-append cut_step _ L B ∙ fold_within (cut L) B h

pub last_push : (L : List Record) (r : Record) → separates r ≡ false → last_epoch (L ++ r ∷ []) ≡ record { first = (last_epoch L).first; records = (last_epoch L).records ++ r ∷ [] }
last_push L r h = ap (λ c. c.now) (cut_push L r ∙ step_within (cut L) r h)

pub clean_push : (L : List Record) (r : Record) → separates r ≡ false → clean_place (last_epoch (L ++ r ∷ [])) ≡ clean_step (clean_place (last_epoch L)) r
clean_push L r h = ap clean_place (last_push L r h) ∙ fold-append clean_step (last_epoch L).first (last_epoch L).records (r ∷ [])

pub failing_push : (L : List Record) (r : Record) → separates r ≡ false → failing (last_epoch (L ++ r ∷ [])) ≡ failing_step (failing (last_epoch L)) r
failing_push L r h = ap failing (last_push L r h) ∙ fold-append failing_step [] (last_epoch L).records (r ∷ [])

recovered_or_last : (c : Cut) (rs : List Record) (r : Record) → recovered_or c (rs ++ r ∷ []) ≡ c.now
recovered_or_last c [] r = refl
recovered_or_last c (x ∷ rs) r = refl

pub recovered_push : (L : List Record) (r : Record) → separates r ≡ false → recovered_epoch (L ++ r ∷ []) ≡ last_epoch (L ++ r ∷ [])
recovered_push L r h =
    let e = cut_push L r ∙ step_within (cut L) r h in
    ap (λ (c : Cut). recovered_or c c.now.records) e ∙ recovered_or_last (longer (cut L) (r ∷ [])) (cut L).now.records r ∙ sym (ap (λ c. c.now) e)

pub recovered_restarted : (L : List Record) (rs ds : List ℕ) → recovered_epoch (L ++ Restarted rs ds ∷ []) ≡ last_epoch L
recovered_restarted L rs ds =
    ap (λ (c : Cut). recovered_or c c.now.records) (cut_push L (Restarted rs ds))
    ∙ ap (λ o. unwrap_or o (cut_step (cut L) (Restarted rs ds)).now) (last_of_push (cut L).closed (cut L).now)

-- ---- the numbers of epochs

-- a closed epoch ends before the open one begins
abbrev Before : Cut → Type 0
Before c = AllByRecursion (λ e. next_number e < c.now.first) c.closed

sooner : (c : Cut) → Before c → AllByRecursion (λ e. next_number e < next_number c.now + 1) c.closed
sooner c b = all_map (λ e. next_number e < c.now.first) (λ e. next_number e < next_number c.now + 1) (λ e lt. omega (arith, lt)) c.closed b

before_step : (c : Cut) (r : Record) → Before c → Before (cut_step c r)
before_step c (Format i h) b = sooner c b
before_step c (Restarted rs ds) b = all_push (λ e. next_number e < next_number c.now + 1) c.closed c.now (sooner c b) (omega arith)
before_step c _ b = b

before : (L : List Record) → Before (cut L)
before L = by_push (λ M. Before (cut M)) tt (λ M r b. subst Before (sym (cut_push M r)) (before_step (cut M) r b)) L

number_step : (c : Cut) (r : Record) → next_number (cut_step c r).now ≡ next_number c.now + 1
number_step c (Format i h) = omega arith
number_step c (Begin t) = omega (arith, length_push c.now.records (Begin t))
number_step c (Forward t k) = omega (arith, length_push c.now.records (Forward t k))
number_step c (Done t k a) = omega (arith, length_push c.now.records (Done t k a))
number_step c (Commit t) = omega (arith, length_push c.now.records (Commit t))
number_step c (Ended t) = omega (arith, length_push c.now.records (Ended t))
number_step c (Solo t p k) = omega (arith, length_push c.now.records (Solo t p k))
number_step c AuditBegin = omega (arith, length_push c.now.records AuditBegin)
number_step c (AuditClean k) = omega (arith, length_push c.now.records (AuditClean k))
number_step c (AuditFail k rs) = omega (arith, length_push c.now.records (AuditFail k rs))
number_step c (Restarted rs ds) = omega arith
number_step c (Back t k) = omega (arith, length_push c.now.records (Back t k))

-- the next number of the open epoch is that of the log
pub number_is_length : (L : List Record) → next_number (last_epoch L) ≡ length L
number_is_length L = by_push (λ M. next_number (last_epoch M) ≡ length M) refl step L
  where
    step : (M : List Record) (r : Record) → next_number (last_epoch M) ≡ length M → next_number (last_epoch (M ++ r ∷ [])) ≡ length (M ++ r ∷ [])
    step M r ih = ap (λ (c : Cut). next_number c.now) (cut_push M r) ∙ omega (arith, number_step (cut M) r, ih, length_push M r)

-- ---- the epoch of a number
found_last : {X : Type 0} (p : X → Bool) (xs : List X) (x : X) → find p xs ≡ None → p x ≡ true → find p (xs ++ x ∷ []) ≡ Some x
found_last p [] x none e = rw e refl
found_last p (z ∷ xs) x none e = by_test (p z) (λ later. found_last p xs x later e) none
  where
    by_test : (c : Bool) → (find p xs ≡ None → find p (xs ++ x ∷ []) ≡ Some x) → cond c (Some z) (find p xs) ≡ None → cond c (Some z) (find p (xs ++ x ∷ [])) ≡ Some x
    by_test true later f = absurd (cc)
    by_test false later f = later f

none_found : {X : Type 0} (p : X → Bool) (xs : List X) (x y : X) → AllByRecursion (λ z. z ≡ y → ⊥) xs → unwrap_or (find p xs) x ≡ y → find p xs ≡ None
none_found p [] x y other e = refl
none_found p (z ∷ xs) x y other e = by_test (p z) (none_found p xs x y other.1) e
  where
    by_test : (c : Bool) → (unwrap_or (find p xs) x ≡ y → find p xs ≡ None) → unwrap_or (cond c (Some z) (find p xs)) x ≡ y → cond c (Some z) (find p xs) ≡ None
    by_test true later f = absurd (other.0 f)
    by_test false later f = later f

-- no epoch that is closed ends behind n
none_closed : (n : ℕ) (L : List Record) → epoch_from n L ≡ last_epoch L → find (ends_behind n) (cut L).closed ≡ None
none_closed n L e =
    let others : AllByRecursion (λ z. z ≡ last_epoch L → ⊥) (cut L).closed = all_map (λ z. next_number z < (cut L).now.first) (λ z. z ≡ last_epoch L → ⊥) (λ z lt q. let lt' = subst (λ y. next_number y < (cut L).now.first) q lt in absurd (omega (arith, lt'))) (cut L).closed (before L) in
    none_found (ends_behind n) (cut L).closed (cut L).now (last_epoch L) others e

epoch_still : (n : ℕ) (L B : List Record) → list_any separates B ≡ false → epoch_from n L ≡ last_epoch L → epoch_from n (L ++ B) ≡ (longer (cut L) B).now
epoch_still n L B h e =
    ap (λ (c : Cut). unwrap_or (find (ends_behind n) c.closed) c.now) (cut_within L B h)
    ∙ ap (λ o. unwrap_or o (longer (cut L) B).now) (none_closed n L e)

epoch_ended : (n : ℕ) (L : List Record) (rs ds : List ℕ) → n < length L → epoch_from n L ≡ last_epoch L → epoch_from n (L ++ Restarted rs ds ∷ []) ≡ last_epoch L
epoch_ended n L rs ds lt e =
    let ends : ends_behind n (last_epoch L) ≡ true = (Decides-ltb n (next_number (last_epoch L))).1 (omega (arith, lt, number_is_length L)) in
    ap (λ (c : Cut). unwrap_or (find (ends_behind n) c.closed) c.now) (cut_push L (Restarted rs ds))
    ∙ ap (λ o. unwrap_or o (cut_step (cut L) (Restarted rs ds)).now) (found_last (ends_behind n) (cut L).closed (last_epoch L) (none_closed n L e) ends)

-- ---- the clean place
clean_step_grows : (p : ℕ) (r : Record) → p ≤ clean_step p r
clean_step_grows p (Format i h) = omega arith
clean_step_grows p _ = omega arith

pub clean_grows : (p : ℕ) (B : List Record) → p ≤ fold clean_step p B
clean_grows p [] = omega arith
clean_grows p (r ∷ B) = omega (arith, clean_step_grows p r, clean_grows (clean_step p r) B)

pub clean_longer : (e : Epoch) (B : List Record) → clean_place e ≤ clean_place (record { first = e.first; records = e.records ++ B })
clean_longer e B = subst (λ n. clean_place e ≤ n) (sym (fold-append clean_step e.first e.records B)) (clean_grows (clean_place e) B)

-- ---- words
same_touched : (A D : List (List ℕ)) (o : Option Touch) (r : ℕ) → words_in A r ≡ words_in D r → words_in (redo_touch A o) r ≡ words_in (redo_touch D o) r
same_touched A D None r h = h
same_touched A D (Some a) r h = ⊎_elim here other (cases_eq r a.block.region)
  where
    here : r ≡ a.block.region → words_in (redo_touch A (Some a)) r ≡ words_in (redo_touch D (Some a)) r
    here e =
        let g : words_in A a.block.region ≡ words_in D a.block.region = subst (λ q. words_in A q ≡ words_in D q) e h in
        subst (λ q. words_in (redo_touch A (Some a)) q ≡ words_in (redo_touch D (Some a)) q) (sym e) (words_redo-same A a ∙ ap (rewritten a.block) g ∙ sym (words_redo-same D a))

    other : r ≢ a.block.region → words_in (redo_touch A (Some a)) r ≡ words_in (redo_touch D (Some a)) r
    other ne = words_redo-other A a r ne ∙ h ∙ sym (words_redo-other D a r ne)

-- a region that is the same in two images stays so
same_redone : (A D : List (List ℕ)) (L : List Record) (r : ℕ) → words_in A r ≡ words_in D r → words_in (redo_all A L) r ≡ words_in (redo_all D L) r
same_redone A D [] r h = h
same_redone A D (x ∷ L) r h = same_redone (redo A x) (redo D x) L r (same_touched A D (touch_of x) r h)

words_still :
    (base image : List (List ℕ)) (E B : List Record) (k m n r : ℕ) → k ≤ m → m ≤ n → k ≤ length E
    → words_in (redo_all image (drop k (take m E))) r ≡ words_in (redo_all base (take m E)) r
    → words_in (redo_all image (drop k (take n (E ++ B)))) r ≡ words_in (redo_all base (take n (E ++ B))) r
words_still base image E B k m n r km mn kE same =
    let w = take_further m n E B mn in
    let X = take m E in
    let Z = w.0 in
    let split : drop k (X ++ Z) ≡ drop k X ++ Z = drop-append-le k X Z (length_take_least k m E km kE) in
    let left : words_in (redo_all image (drop k (X ++ Z))) r ≡ words_in (redo_all (redo_all image (drop k X)) Z) r = ap (λ D. words_in (redo_all image D) r) split ∙ ap (λ im. words_in im r) (fold-append redo image (drop k X) Z) in
    let right : words_in (redo_all base (X ++ Z)) r ≡ words_in (redo_all (redo_all base X) Z) r = ap (λ im. words_in im r) (fold-append redo base X Z) in
    let both : words_in (redo_all image (drop k (X ++ Z))) r ≡ words_in (redo_all base (X ++ Z)) r = left ∙ same_redone (redo_all image (drop k X)) (redo_all base X) Z r same ∙ sym right in
    subst (λ T. words_in (redo_all image (drop k T)) r ≡ words_in (redo_all base T) r) (sym w.1) both

-- ---- batches
pub not_restarted : (r : Record) → separates r ≡ false → is_restarted r ≡ false
not_restarted (Format i h) e = absurd (cc)
not_restarted (Restarted rs ds) e = absurd (cc)
not_restarted _ e = refl

none_restarted : (B : List Record) → list_any separates B ≡ false → list_any is_restarted B ≡ false
none_restarted [] h = refl
none_restarted (r ∷ B) h = let g = or_parts (separates r) (list_any separates B) h in rw (not_restarted r g.0) (none_restarted B g.1)

pub first_of_plain : (B : List Record) → list_any separates B ≡ false → is_restarted_first B ≡ true
first_of_plain [] h = refl
first_of_plain (r ∷ B) h = ap not (none_restarted B (or_parts (separates r) (list_any separates B) h).1)

abbrev pub all_of : List (List Record) → List Record
all_of bs = flat_map (λ b. b) bs

all_more : (bs : List (List Record)) (B : List Record) → all_of (bs ++ B ∷ []) ≡ all_of bs ++ B
all_more bs B = flat_map-append (λ b. b) bs (B ∷ []) ∙ ap (λ zs. all_of bs ++ zs) (append-nil B)

-- the image's place is still between two batches
abbrev pub Placed : List (List Record) → ℕ → List Record → Type 0
Placed bs place front =
    (k : ℕ) × (all_of (take k bs) ≡ front) × (place ≡ sum_by batch_length (take k bs))
    × ((j : ℕ) (b : List Record) → k ≤ j → slice_get bs j ≡ Some b → is_restarted_first b ≡ true)

placed_within : (bs : List (List Record)) (B front : List Record) (place k : ℕ) → k ≤ length bs → is_restarted_first B ≡ true → all_of (take k bs) ≡ front → place ≡ sum_by batch_length (take k bs) → ((j : ℕ) (b : List Record) → k ≤ j → slice_get bs j ≡ Some b → is_restarted_first b ≡ true) → Placed (bs ++ B ∷ []) place front
placed_within bs B front place k le first all weight firsts =
    let same : take k (bs ++ B ∷ []) ≡ take k bs = take-append-le k bs (B ∷ []) le in
    (k, ap all_of same ∙ all, weight ∙ ap (λ cs. sum_by batch_length cs) (sym same), λ j b kj at. ⊎_elim (λ old. firsts j b kj old.1) (λ new. subst (λ x. is_restarted_first x ≡ true) new.1 first) (get_push_cases bs B j b at))

pub got_none : (cs : List (List Record)) (j : ℕ) (b : List Record) → length cs ≤ j → slice_get cs j ≡ Some b → ⊥
got_none [] j b le at = cc
got_none (c ∷ cs) zero b le at = omega (arith, le)
got_none (c ∷ cs) (suc j) b le at = got_none cs j b (omega (arith, le)) at

pub placed_still : (bs : List (List Record)) (B front : List Record) (place : ℕ) → is_restarted_first B ≡ true → Placed bs place front → Placed (bs ++ B ∷ []) place front
placed_still bs B front place first p = ⊎_elim past within (cases_lt (length bs) p.0)
  where
    within : p.0 ≤ length bs → Placed (bs ++ B ∷ []) place front
    within le = placed_within bs B front place p.0 le first p.1 p.2 p.3

    past : length bs < p.0 → Placed (bs ++ B ∷ []) place front
    past lt =
        let whole : take p.0 bs ≡ take (length bs) bs = take_all p.0 bs (omega (arith, lt)) ∙ sym (take_all (length bs) bs (omega arith)) in
        placed_within bs B front place (length bs) (omega arith) first (sym (ap all_of whole) ∙ p.1) (p.2 ∙ ap (λ cs. sum_by batch_length cs) whole) (λ j b le at. absurd (got_none bs j b le at))

-- ---- files that fit
fits_longer : (s : Sizes) (base : List (List ℕ)) (L B : List Record) (F : Files) → list_any separates B ≡ false → Fits s base L F (last_epoch L) → Fits s base (L ++ B) (with_batch F B) (longer (cut L) B).now
fits_longer s base L B F h fit =
    let e = last_epoch L in
    let front : take F.first (L ++ B) ≡ take F.first L = take-append-le F.first L B fit.count in
    let held : F.first - e.first ≤ length e.records = omega (arith, fit.count, number_is_length L) in
    record {
      log = all_more F.batches B ∙ ap (λ M. M ++ B) fit.log;
      batch = subst (Placed (F.batches ++ B ∷ []) F.place) (sym front) (placed_still F.batches B (take F.first L) F.place (first_of_plain B h) fit.batch);
      count = omega (arith, fit.count, length-append L B);
      lengths = fit.lengths ∙ ap (λ M. sum_by record_length M) (sym front);
      numbers = fit.numbers ∙ ap next_after (sym front);
      fresh = fit.fresh;
      current = fit.current;
      epoch = epoch_still F.first L B h fit.epoch;
      recent = inr (sym (ap (λ c. c.now) (cut_within L B h)));
      certified = omega (arith, fit.certified, clean_longer e B);
      table_is = fit.table_is ∙ ap (λ P. map (row_of P) (filter (λ t. not (has (ended P) t)) (begun P))) (sym (take-append-le (F.first - e.first) e.records B held));
      words = λ r lt. words_still base F.image e.records B (F.first - e.first) (clean_place e - e.first) (clean_place (longer (cut L) B).now - e.first) r (omega (arith, fit.certified)) (omega (arith, clean_longer e B)) held (fit.words r lt);
    }

pub fits_more : (s : Sizes) (base : List (List ℕ)) (L B : List Record) (F : Files) → list_any separates B ≡ false → Fits s base L F (last_epoch L) → Fits s base (L ++ B) (with_batch F B) (last_epoch (L ++ B))
fits_more s base L B F h fit = subst (Fits s base (L ++ B) (with_batch F B)) (sym (ap (λ c. c.now) (cut_within L B h))) (fits_longer s base L B F h fit)

pub fits_restarted : (s : Sizes) (base : List (List ℕ)) (L : List Record) (rs ds : List ℕ) (F : Files) → F.first < length L → Fits s base L F (last_epoch L) → Fits s base (L ++ Restarted rs ds ∷ []) (with_batch F (Restarted rs ds ∷ [])) (last_epoch L)
fits_restarted s base L rs ds F lt fit =
    let B = Restarted rs ds ∷ [] in
    let front : take F.first (L ++ B) ≡ take F.first L = take-append-le F.first L B fit.count in
    record {
      log = all_more F.batches B ∙ ap (λ M. M ++ B) fit.log;
      batch = subst (Placed (F.batches ++ B ∷ []) F.place) (sym front) (placed_still F.batches B (take F.first L) F.place refl fit.batch);
      count = omega (arith, fit.count, length-append L B);
      lengths = fit.lengths ∙ ap (λ M. sum_by record_length M) (sym front);
      numbers = fit.numbers ∙ ap next_after (sym front);
      fresh = fit.fresh;
      current = fit.current;
      epoch = epoch_ended F.first L rs ds lt fit.epoch;
      recent = inl (sym (recovered_restarted L rs ds));
      certified = fit.certified;
      table_is = fit.table_is;
      words = fit.words;
    }
