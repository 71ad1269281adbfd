-- A region's share of a log says of it what the log says.
use Rattle.std.proofs.Common.{◌≡◌, ℕ, zero, suc, ◌+◌, ◌-◌, ◌<◌, ◌≤◌, Bool, true, false, cond, List, [], ◌∷◌, ◌++◌, length, take, drop, Option, Some, None, refl, ap, sym, subst, ◌∙◌, ◌⊎◌, inl, inr, ⊎_elim, arith}
use Rattle.std.specs.Prelude.{slice_get, ◌==◌, ◌^◌, ◌&&◌, ◌||◌, fold}
use Rattle.std.specs.List.{cons_option}
use Rattle.std.proofs.lemmas.List.{append_assoc, take-append-le, take-append-drop, length-append, length-set, get_or-set_same, get_or-set_other}
use Rattle.std.proofs.lemmas.List.Elements.{filter_map-append}
use Rattle.std.proofs.lemmas.Bool.{cases_lt, eqb-true, eq-eqb}
use Rattle.dali_lists.proofs.Tests.{left_false}
use Rattle.dali_record.specs.declared.records.Record.{Record}
use Rattle.dali_record.specs.declared.records.Record.TheVariants.{AuditClean}
use Rattle.dali_record.specs.Blocks.{rewritten, IsSoundOn}
use Rattle.dali_record.specs.Log.{Touch, touch_of, touch_in, touch_at}
use Rattle.dali_record.specs.Epochs.{clean_place, clean_step}
use Rattle.dali_record.specs.Damage.{any_touch}
use Rattle.dali_record.specs.Settled.{words_in, redo, redo_touch, redo_all, IsSoundAt, IsSoundTouch}
use Rattle.dali_region.specs.declared.Side.TheVariants.{A as SideA, B as SideB}
use Rattle.dali_region.specs.State.{touched, counted}
use Rattle.dali_runs.specs.Run.{on_region, on_step, blocks_on, certified_on, RegionRun}
use Rattle.dali_runs.specs.Regions.{Latch, NoteReads, Update, TakeBack, Poke, Check, Die, Clean}
use Rattle.dali_runs.specs.Parts.Shares.{shared, share, alone, with_records, ShareAppends, ShareAgain, ShareCounts, ShareIsShort, ShareAlone, ShareIsOrdered, RegionParts, RegionJoins, IsCertifiedBy, AuditsCertify, ShareTouches, StepSpares, TouchSpares, CheckIsSound}
use Rattle.dali_runs.proofs.PartsLemmas.Regions.{region_touches}

-- ---- the share as a list
pub share_appends : ShareAppends
share_appends r xs ys = filter_map-append (shared r) xs ys

blocks_from : (r n : ℕ) (E : List Record) → fold (on_step r) n E ≡ n + length (share r E)
blocks_from r n [] = omega arith
blocks_from r n (x ∷ E) = by_test (on_region r x) (blocks_from r (n + 1) E) (blocks_from r n E)
  where
    by_test : (b : Bool) → fold (on_step r) (n + 1) E ≡ (n + 1) + length (share r E) → fold (on_step r) n E ≡ n + length (share r E) → fold (on_step r) (cond b (n + 1) n) E ≡ n + length (cons_option (cond b (Some x) None) (share r E))
    by_test true more same = omega (arith, more)
    by_test false more same = same

pub share_counts : ShareCounts
share_counts r E = omega (arith, blocks_from r 0 E)

pub share_again : ShareAgain
share_again r [] = refl
share_again r (x ∷ E) = by_test (on_region r x) refl (share_again r E)
  where
    by_test : (b : Bool) → on_region r x ≡ b → share r (share r E) ≡ share r E → share r (cons_option (cond b (Some x) None) (share r E)) ≡ cons_option (cond b (Some x) None) (share r E)
    by_test true on later = ap (λ c. cons_option (cond c (Some x) None) (share r (share r E))) on ∙ ap (λ l. x ∷ l) later
    by_test false on later = later

pub share_is_short : ShareIsShort
share_is_short r [] = omega arith
share_is_short r (x ∷ E) = by_test (on_region r x) (share_is_short r E)
  where
    by_test : (b : Bool) → length (share r E) ≤ length E → length (cons_option (cond b (Some x) None) (share r E)) ≤ length (x ∷ E)
    by_test true h = omega (arith, h)
    by_test false h = omega (arith, h)

pub share_alone : ShareAlone
share_alone r [] on = refl
share_alone r (x ∷ xs) on = ap (λ b. cons_option (cond b (Some x) None) (share r xs)) (on zero x refl) ∙ ap (λ l. x ∷ l) (share_alone r xs (λ i y e. on (suc i) y e))

share_take : (r k : ℕ) (E : List Record) → length (share r (take k E)) ≤ length (share r E)
share_take r k E = omega (arith, ap length (ap (share r) (sym (take-append-drop k E)) ∙ share_appends r (take k E) (drop k E)), length-append (share r (take k E)) (share r (drop k E)))

-- the blocks of the share are those of the log
same_count : (r : ℕ) (E : List Record) → blocks_on r (share r E) ≡ blocks_on r E
same_count r E = share_counts r (share r E) ∙ (ap length (share_again r E) ∙ sym (share_counts r E))

-- no block ends an audit
clean_touch : (r p : ℕ) (x : Record) → on_region r x ≡ true → clean_step p x ≡ p
clean_touch r p (AuditClean b) e = absurd (cc)
clean_touch r p _ e = refl

clean_share : (r p : ℕ) (E : List Record) → fold clean_step p (share r E) ≡ p
clean_share r p [] = refl
clean_share r p (x ∷ E) = by_test (on_region r x) refl (clean_share r p E)
  where
    by_test : (b : Bool) → on_region r x ≡ b → fold clean_step p (share r E) ≡ p → fold clean_step p (cons_option (cond b (Some x) None) (share r E)) ≡ p
    by_test true on later = ap (λ q. fold clean_step q (share r E)) (clean_touch r p x on) ∙ later
    by_test false on later = later

none_certified : (r : ℕ) (E : List Record) → certified_on r (alone (share r E)) ≡ 0
none_certified r E = ap (λ p. blocks_on r (take (p - 0) (share r E))) (clean_share r 0 E) ∙ none (share r E)
  where
    none : (xs : List Record) → blocks_on r (take 0 xs) ≡ 0
    none [] = refl
    none (x ∷ xs) = refl

pub share_is_ordered : ShareIsOrdered
share_is_ordered r E = (let none : clean_place (alone (share r E)) ≡ 0 = clean_share r 0 E in omega (arith, none), none_certified r E)

-- ---- words
same_length : (image : List (List ℕ)) (o : Option Touch) → length (redo_touch image o) ≡ length image
same_length image None = refl
same_length image (Some a) = length-set image a.block.region _

elsewhere : (image : List (List ℕ)) (r : ℕ) (o : Option Touch) → any_touch (λ a. a.block.region == r) o ≡ false → words_in (redo_touch image o) r ≡ words_in image r
elsewhere image r None e = refl
elsewhere image r (Some a) e = get_or-set_other image a.block.region r _ [] (λ same. let f : (a.block.region == r) ≡ true = eq-eqb a.block.region r (sym same) in absurd (cc))

here : (image : List (List ℕ)) (r : ℕ) (a : Touch) → a.block.region ≡ r → r < length image → words_in (redo_touch image (Some a)) r ≡ rewritten a.block (words_in image r)
here image r a e h = subst (λ q. q < length image → words_in (redo_touch image (Some a)) q ≡ rewritten a.block (words_in image q)) e (λ k. get_or-set_same image a.block.region (rewritten a.block (words_in image a.block.region)) [] k) h

both : (p q : List (List ℕ)) (r : ℕ) (o : Option Touch) → any_touch (λ a. a.block.region == r) o ≡ true → r < length p → r < length q → words_in p r ≡ words_in q r → words_in (redo_touch p o) r ≡ words_in (redo_touch q o) r
both p q r None e hp hq same = absurd (cc)
both p q r (Some a) e hp hq same = let at : a.block.region ≡ r = eqb-true a.block.region r e in here p r a at hp ∙ (ap (rewritten a.block) same ∙ sym (here q r a at hq))

words_share : (r : ℕ) (p q : List (List ℕ)) (E : List Record) → r < length p → r < length q → words_in p r ≡ words_in q r → words_in (redo_all p (share r E)) r ≡ words_in (redo_all q E) r
words_share r p q [] hp hq e = e
words_share r p q (x ∷ E) hp hq e = by_test (on_region r x) refl
    (λ ip iq f. words_share r (redo p x) (redo q x) E ip iq f)
    (λ iq f. words_share r p (redo q x) E hp iq f)
  where
    more : (image : List (List ℕ)) → r < length image → r < length (redo image x)
    more image h = omega (arith, h, same_length image (touch_of x))

    by_test :
        (b : Bool) → on_region r x ≡ b
        → (r < length (redo p x) → r < length (redo q x) → words_in (redo p x) r ≡ words_in (redo q x) r → words_in (redo_all (redo p x) (share r E)) r ≡ words_in (redo_all (redo q x) E) r)
        → (r < length (redo q x) → words_in p r ≡ words_in (redo q x) r → words_in (redo_all p (share r E)) r ≡ words_in (redo_all (redo q x) E) r)
        → words_in (redo_all p (cons_option (cond b (Some x) None) (share r E))) r ≡ words_in (redo_all (redo q x) E) r
    by_test true on touched other = touched (more p hp) (more q hq) (both p q r (touch_of x) on hp hq e)
    by_test false off touched other = other (more q hq) (e ∙ sym (elsewhere q r (touch_of x) off))

-- ---- places
at_record : (o : Option Record) (a : Touch) → touch_in o ≡ Some a → (x : Record) × (o ≡ Some x) × (touch_of x ≡ Some a)
at_record None a e = absurd (cc)
at_record (Some x) a e = (x, refl, e)

on_its : (x : Record) (a : Touch) (r : ℕ) → touch_of x ≡ Some a → a.block.region ≡ r → on_region r x ≡ true
on_its x a r e on = ap (any_touch (λ b. b.block.region == r)) e ∙ eq-eqb a.block.region r on

-- where a block of the log stands in the share
share_place :
    (r i : ℕ) (E : List Record) (x : Record) → slice_get E i ≡ Some x → on_region r x ≡ true
    → (slice_get (share r E) (length (share r (take i E))) ≡ Some x) × (take (length (share r (take i E))) (share r E) ≡ share r (take i E))
share_place r i [] x e on = absurd (cc)
share_place r zero (z ∷ E) x e on = let same : z ≡ x = cc in let at : on_region r z ≡ true = ap (on_region r) same ∙ on in (ap (λ b. slice_get (cons_option (cond b (Some z) None) (share r E)) 0) at ∙ e, refl)
share_place r (suc i) (z ∷ E) x e on = by_test (on_region r z) (share_place r i E x e on)
  where
    by_test : (b : Bool) → (slice_get (share r E) (length (share r (take i E))) ≡ Some x) × (take (length (share r (take i E))) (share r E) ≡ share r (take i E)) →
        (slice_get (cons_option (cond b (Some z) None) (share r E)) (length (cons_option (cond b (Some z) None) (share r (take i E)))) ≡ Some x)
        × (take (length (cons_option (cond b (Some z) None) (share r (take i E)))) (cons_option (cond b (Some z) None) (share r E)) ≡ cons_option (cond b (Some z) None) (share r (take i E)))
    by_test true w = (w.0, ap (λ l. z ∷ l) w.1)
    by_test false w = w

-- and where one of the share stands in the log
share_from :
    (r i : ℕ) (E : List Record) (x : Record) → slice_get (share r E) i ≡ Some x
    → (j : ℕ) × (slice_get E j ≡ Some x) × (share r (take j E) ≡ take i (share r E))
share_from r i [] x e = absurd (cc)
share_from r i (z ∷ E) x e = by_test (on_region r z) refl i e (λ k f. share_from r k E x f)
  where
    by_test :
        (b : Bool) → on_region r z ≡ b → (k : ℕ) → slice_get (cons_option (cond b (Some z) None) (share r E)) k ≡ Some x
        → ((k : ℕ) → slice_get (share r E) k ≡ Some x → (j : ℕ) × (slice_get E j ≡ Some x) × (share r (take j E) ≡ take k (share r E)))
        → (j : ℕ) × (slice_get (z ∷ E) j ≡ Some x) × (share r (take j (z ∷ E)) ≡ take k (cons_option (cond b (Some z) None) (share r E)))
    by_test true on zero f later = (zero, f, refl)
    by_test true on (suc k) f later = let w = later k f in (suc w.0, w.1, ap (λ b. cons_option (cond b (Some z) None) (share r (take w.0 E))) on ∙ ap (λ l. z ∷ l) w.2)
    by_test false off k f later = let w = later k f in (suc w.0, w.1, ap (λ b. cons_option (cond b (Some z) None) (share r (take w.0 E))) off ∙ w.2)

-- ---- what a run says of the region
pub region_parts : RegionParts
region_parts base e r g inside run = record {
  protected = run.protected;
  reads = run.reads;
  touches = run.touches ∙ sym (same_count r E);
  sound = λ i a at on below. sound i a at on below;
  settled = λ h. run.settled h ∙ sym (words_share r base base E inside inside refl);
  certified = λ h. omega (arith, none_certified r E);
}
  where
    E : List Record
    E = e.records

    sound : (i : ℕ) (a : Touch) → touch_at (share r E) i ≡ Some a → a.block.region ≡ r → blocks_on r (take i (share r E)) < g.sound → IsSoundAt base (share r E) i
    sound i a at on below =
        let w = at_record (slice_get (share r E) i) a at in
        let place = share_from r i E w.0 w.1 in
        let j : ℕ = place.0 in
        let at_j : touch_at E j ≡ Some a = ap touch_in place.1 ∙ w.2 in
        let before : blocks_on r (take i (share r E)) ≡ blocks_on r (take j E) = ap (blocks_on r) (sym place.2) ∙ same_count r (take j E) in
        let there : IsSoundTouch (redo_all base (take j E)) (touch_at E j) = run.sound j a at_j on (omega (arith, before, below)) in
        let there_a : IsSoundOn (words_in (redo_all base (take j E)) a.block.region) a.block = subst (λ o. IsSoundTouch (redo_all base (take j E)) o) at_j there in
        let words : words_in (redo_all base (take j E)) a.block.region ≡ words_in (redo_all base (take i (share r E))) a.block.region =
        subst (λ q. words_in (redo_all base (take j E)) q ≡ words_in (redo_all base (share r (take j E))) q) (sym on) (sym (words_share r base base (take j E) inside inside refl)) ∙ ap (λ l. words_in (redo_all base l) a.block.region) place.2 in
        subst (λ o. IsSoundTouch (redo_all base (take i (share r E))) o) (sym at) (subst (λ ws. IsSoundOn ws a.block) words there_a)

pub region_joins : RegionJoins
region_joins base e r g inside run certified = record {
  protected = run.protected;
  reads = run.reads;
  touches = run.touches ∙ same_count r E;
  sound = λ i a at on below. sound i a at on below;
  settled = λ h. run.settled h ∙ words_share r base base E inside inside refl;
  certified = certified;
}
  where
    E : List Record
    E = e.records

    sound : (i : ℕ) (a : Touch) → touch_at E i ≡ Some a → a.block.region ≡ r → blocks_on r (take i E) < g.sound → IsSoundAt base E i
    sound i a at on below =
        let w = at_record (slice_get E i) a at in
        let x : Record = w.0 in
        let place = share_place r i E x w.1 (on_its x a r w.2 on) in
        let j : ℕ = length (share r (take i E)) in
        let at_j : touch_at (share r E) j ≡ Some a = ap touch_in place.0 ∙ w.2 in
        let before : blocks_on r (take j (share r E)) ≡ blocks_on r (take i E) = ap (blocks_on r) place.1 ∙ same_count r (take i E) in
        let there : IsSoundTouch (redo_all base (take j (share r E))) (touch_at (share r E) j) = run.sound j a at_j on (omega (arith, before, below)) in
        let there_a : IsSoundOn (words_in (redo_all base (take j (share r E))) a.block.region) a.block = subst (λ o. IsSoundTouch (redo_all base (take j (share r E))) o) at_j there in
        let words : words_in (redo_all base (take j (share r E))) a.block.region ≡ words_in (redo_all base (take i E)) a.block.region =
        ap (λ l. words_in (redo_all base l) a.block.region) place.1 ∙ subst (λ q. words_in (redo_all base (share r (take i E))) q ≡ words_in (redo_all base (take i E)) q) (sym on) (words_share r base base (take i E) inside inside refl) in
        subst (λ o. IsSoundTouch (redo_all base (take i E)) o) (sym at) (subst (λ ws. IsSoundOn ws a.block) words there_a)

-- ---- the clean place
clean_cases : (p : ℕ) (x : Record) → (clean_step p x ≡ p) ⊎ ((b : ℕ) × (x ≡ AuditClean b) × (clean_step p x ≡ b))
clean_cases p (AuditClean b) = ⊎_elim (λ h. inr (b, refl, omega (arith, h))) (λ h. inl (omega (arith, h))) (cases_lt p b)
clean_cases p _ = inl refl

clean_from : (p : ℕ) (xs : List Record) → (fold clean_step p xs ≡ p) ⊎ ((i b : ℕ) × (slice_get xs i ≡ Some (AuditClean b)) × (fold clean_step p xs ≡ b))
clean_from p [] = inl refl
clean_from p (x ∷ xs) = ⊎_elim
    (λ same. ⊎_elim (λ e. inl (e ∙ same)) (λ w. inr (suc w.0, w.1, w.2, w.3)) (clean_from (clean_step p x) xs))
    (λ new. ⊎_elim (λ e. inr (zero, new.0, ap Some new.1, e ∙ new.2)) (λ w. inr (suc w.0, w.1, w.2, w.3)) (clean_from (clean_step p x) xs))
    (clean_cases p x)

folds : (p : ℕ) (ys xs : List Record) → fold clean_step p (ys ++ xs) ≡ fold clean_step (fold clean_step p ys) xs
folds p [] xs = refl
folds p (y ∷ ys) xs = folds (clean_step p y) ys xs

pub audits_certify : AuditsCertify
audits_certify r e xs g clean old passed = ⊎_elim
    (λ same. rw (place same, take-append-le (clean_place e - e.first) e.records xs (omega (arith, clean))) old)
    (λ new. subst (λ m. blocks_on r (take (m - e.first) (e.records ++ xs)) ≤ g.sound) (sym (by_fold ∙ new.3)) (at_audit new.1 (passed new.0 new.1 new.2)))
    (clean_from (clean_place e) xs)
  where
    by_fold : clean_place (with_records e xs) ≡ fold clean_step (clean_place e) xs
    by_fold = folds e.first e.records xs

    place : fold clean_step (clean_place e) xs ≡ clean_place e → clean_place (with_records e xs) ≡ clean_place e
    place same = by_fold ∙ same

    at_audit : (b : ℕ) → IsCertifiedBy r e xs g b → blocks_on r (take (b - e.first) (e.records ++ xs)) ≤ g.sound
    at_audit b is =
        let whole : e.records ++ xs ≡ (e.records ++ is.front) ++ is.back = ap (λ l. e.records ++ l) is.parts ∙ sym (append_assoc e.records is.front is.back) in
        let count = length-append e.records is.front in
        let taken : take (b - e.first) (e.records ++ xs) ≡ take (b - e.first) (e.records ++ is.front) = ap (take (b - e.first)) whole ∙ take-append-le (b - e.first) (e.records ++ is.front) is.back (omega (arith, is.begun, count)) in
        let blocks : blocks_on r (take (b - e.first) (e.records ++ xs)) ≡ length (share r (take (b - e.first) (e.records ++ is.front))) = ap (blocks_on r) taken ∙ share_counts r (take (b - e.first) (e.records ++ is.front)) in
        let parts : length (share r (e.records ++ is.front)) ≡ length (share r e.records) + length (share r is.front) = ap length (share_appends r e.records is.front) ∙ length-append (share r e.records) (share r is.front) in
        omega (arith, blocks, parts, is.sound, share_take r (b - e.first) (e.records ++ is.front))

-- ---- steps
pub share_touches : ShareTouches
share_touches base E x a owner g run is is_open few inside =
    subst (λ xs. RegionRun base (alone xs) a.block.region (touched g)) (sym one_more)
    (region_touches base (alone (share a.block.region E)) x a owner g run is is_open (share_is_ordered a.block.region E).0 (omega (arith, few, share_is_short a.block.region E)) inside)
  where
    on : on_region a.block.region x ≡ true
    on = on_its x a a.block.region is refl

    one_more : share a.block.region (E ++ x ∷ []) ≡ share a.block.region E ++ x ∷ []
    one_more = share_appends a.block.region E (x ∷ []) ∙ ap (λ b. share a.block.region E ++ cons_option (cond b (Some x) None) []) on

pub step_spares : StepSpares
step_spares (Latch txn) g = (refl, λ h. h)
step_spares (NoteReads mask) g = (refl, λ h. h)
step_spares (Update word value) g = (refl, λ h. h)
step_spares TakeBack g = (refl, λ h. h)
step_spares (Poke word mask) g = (refl, λ h. h)
step_spares Check g = (refl, λ h. left_false g.missed (g.poked && (g.stray == 0)) h)
step_spares Die g = (refl, λ h. h)
step_spares (Clean SideA) g = (refl, λ h. h)
step_spares (Clean SideB) g = (refl, λ h. h)

sound_grows : (b : Bool) (n : ℕ) → n < 2 ^ 40 → n ≤ cond b n (counted n)
sound_grows true n h = omega arith
sound_grows false n h = omega (arith, h)

pub touch_spares : TouchSpares
touch_spares g small = (sound_grows g.poked g.sound small, refl)

first_false : (p q : Bool) → (p && q) ≡ false → q ≡ true → p ≡ false
first_false true q f e = absurd (cc)
first_false false q f e = refl

right_false : (a b : Bool) → (a || b) ≡ false → b ≡ false
right_false true b e = absurd (cc)
right_false false b e = e

pub check_is_sound : CheckIsSound
check_is_sound base E r g run clean none =
    let unpoked : g.poked ≡ false = first_false g.poked (g.stray == 0) (right_false g.missed (g.poked && (g.stray == 0)) none) clean in
    omega (arith, run.protected.all_sound unpoked, run.touches, same_count r E, share_counts r E)
