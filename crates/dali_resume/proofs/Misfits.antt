-- What is answered tells the first record behind the image that may not stand where it does.
use Rattle.std.specs.List.{list_any}
use Rattle.std.specs.Prelude.{IsNone, IsSome, fold, nat_le, nat_lt, slice_get, ◌&&◌, ◌||◌}
use Rattle.std.proofs.Common.{Bool, List, None, Option, Some, ap, append_assoc, arith, cond, drop, false, inl, inr, length, refl, subst, suc, sym, take, true, zero, ℕ, ◌≡◌, ◌∷◌, ◌++◌, ◌∙◌, ◌≤◌, ◌+◌, ◌-◌, ◌<◌, [], ⊎_elim}
use Rattle.std.proofs.lemmas.Bool.{cases_lt, ltb-false, or_right, eq-eqb}
use Rattle.std.proofs.lemmas.List.{append-nil, length-append, take-append-drop, take-append-le, take_all, drop_all, drop_at, length-take-le}
use Rattle.std.proofs.lemmas.List.Folds.{fold_stays}
use Rattle.std.proofs.lemmas.List.Sums.{fold-append}
use Rattle.std.proofs.lemmas.Option.{slice_get_past}
use Rattle.dali_lists.proofs.Options.{some_of}
use Rattle.dali_geometry.specs.Sizes.{Sizes}
use Rattle.dali_record.specs.Epochs.{Cut, Epoch, last_epoch, next_number, separates}
use Rattle.dali_record.specs.Files.{Files, table_before}
use Rattle.dali_record.specs.Legal.{IsLegalFor, rules_state}
use Rattle.dali_record.specs.Log.{last_of}
use Rattle.dali_record.specs.declared.records.Record.{Record}
use Rattle.dali_record.specs.declared.records.Record.TheVariants.{AuditBegin, AuditClean, AuditFail, Back, Begin, Commit, Done, Ended, Format, Forward, Restarted, Solo}
use Rattle.dali_record.proofs.Batches.{number_is_length}
use Rattle.dali_record.proofs.EpochRules.{format_first}
use Rattle.dali_record.proofs.Loops.{passed}
use Rattle.dali_record.proofs.Pushes.{cut_push}
use Rattle.dali_record.proofs.Scans.{take_get}
use Rattle.dali_record.proofs.Stages.{IsWithin}
use Rattle.dali_history.specs.Recovered.{base_of}
use Rattle.dali_history.proofs.Prefixes.{IsLegalFor-front}
use Rattle.dali_runs.proofs.LastEpochs.{last_epoch-append}
use Rattle.dali_crash.specs.Fitting.{FitsWhole}
use Rattle.dali_crash.proofs.Fitting.{within_epoch}
use Rattle.dali_resume.specs.Again.{Outcome}
use Rattle.dali_resume.specs.Laws.{is_audit_fail}
use Rattle.dali_resume.specs.Onward.{HandedOut, Misfit, goes_through, hands_on, verdict_by, verdict_of}
use Rattle.dali_resume.specs.Rules.{AllMayStand, FindsMisfit, FrontsStand, IsImageBefore, IsImageIn, LegalStands, StandsAt, TestsAreRules, begins_audit, ends_restarted, may_stand, number_next}
use Rattle.dali_resume.specs.Tests.{Known, first_bad, known_at, known_next, may_follow, next_behind, one_later, status_in, test_next, tests}
use Rattle.dali_resume.proofs.Followed.{empty_told, formed_last, number_same, step, told_on}
use Rattle.dali_resume.proofs.Onward.{epoch_restarted, idle_anyway}
use Rattle.dali_resume.proofs.Reading.{IsLed, Placed, get_then, placed}
use Rattle.dali_resume.proofs.Resumes.{table_of}
use Rattle.dali_resume.proofs.Ruled.{Told, rules_are}
use Rattle.dali_resume.proofs.Standing.{IsWithin-parts, IsWithin-tail}
use Rattle.dali_resume.proofs.Through.{resumes_through}
use Rattle.dali_resume.proofs.Walks.{finds_first_bad}

-- ---- lists

take_twice : {X : Type 0} (k : ℕ) (xs : List X) → take k (take k xs) ≡ take k xs
take_twice zero xs = refl
take_twice (suc k) [] = refl
take_twice (suc k) (x ∷ xs) = ap (λ z. x ∷ z) (take_twice k xs)

-- ---- where a restart starts
record Started (s : Sizes) (P Q : List Record) (F : Files) : Type 0 where
  known : Known
  told : Told F.first P known
  tests_are : tests s F.first (known_at F.first F.next F.table) (drop F.first (P ++ Q)) ≡ tests s F.first known Q
  bad_is : (o : Outcome) → verdict_by F.first o (first_bad s F.first (known_at F.first F.next F.table) (drop F.first (P ++ Q))) ≡ verdict_by (length P) o (first_bad s F.first known Q)

started_in : (s : Sizes) (P Q : List Record) (F : Files) → 0 < length P → IsLegalFor s P → IsImageIn P F → Started s P Q F
started_in s P Q F some legal is = record {
  known = known_at F.first F.next F.table;
  told = record {
    some = some;
    past = omega (arith, is.first);
    number = is.first;
    next = is.next ∙ sym (number_same s P legal);
    statuses = λ t. ap (λ rows. status_in rows t) (is.table ∙ ap table_of (take_all (length P - e.first) e.records (omega (arith, size))));
    audits = λ b. audits_at b;
    failed = sym (ap (list_any is_audit_fail) none_left);
    restarted = sym (ap (λ X. ends_restarted (last_of X)) (drop_all F.first P (omega (arith, is.first))));
    first = omega (arith, is.first, size);
    table = is.table ∙ ap (table_before e) (sym is.first);
    seen = sym none_left;
    formed = formed_last s P legal;
  };
  tests_are = ap (tests s F.first (known_at F.first F.next F.table)) read;
  bad_is = λ o. ap (λ X. verdict_by F.first o (first_bad s F.first (known_at F.first F.next F.table) X)) read ∙ ap (λ m. verdict_by m o (first_bad s F.first (known_at F.first F.next F.table) Q)) is.first;
}
  where
    e : Epoch
    e = last_epoch P

    size : (last_epoch P).first + length (last_epoch P).records ≡ length P
    size = number_is_length P

    none_left : drop (F.first - (last_epoch P).first) (last_epoch P).records ≡ []
    none_left = drop_all (F.first - e.first) e.records (omega (arith, size, is.first))

    read : drop F.first (P ++ Q) ≡ Q
    read = drop_at P Q F.first (sym is.first)

    both : (a : Bool) → ((a && false) || false) ≡ false
    both true = refl
    both false = refl

    audits_at : (b : ℕ) → nat_lt b F.first ≡ ((nat_le (last_epoch P).first b && begins_audit (slice_get P b)) || nat_lt b F.first)
    audits_at b = by_test (nat_lt b F.first) refl
      where
        by_test : (z : Bool) → nat_lt b F.first ≡ z → z ≡ ((nat_le (last_epoch P).first b && begins_audit (slice_get P b)) || z)
        by_test true h = sym (or_right (nat_le (last_epoch P).first b && begins_audit (slice_get P b)) true refl)
        by_test false h =
            let ge : F.first ≤ b = ltb-false b F.first h in
            sym (ap (λ o. (nat_le (last_epoch P).first b && begins_audit o) || false) (slice_get_past P b (omega (arith, ge, is.first))) ∙ both (nat_le (last_epoch P).first b))

started_before : (s : Sizes) (P Q : List Record) (F : Files) → IsLegalFor s P → IsImageBefore P F → Started s P Q F
started_before s P Q F legal is = record {
  known = known_next (known_at F.first F.next F.table) (Restarted is.rolled is.deleted);
  told = empty_told F.first P (known_next (known_at F.first F.next F.table) (Restarted is.rolled is.deleted)) (omega (arith, size)) (omega (arith, size, is.first)) (omega (arith, size, is.first))
      (is.next ∙ (sym (number_same s is.front front_legal) ∙ sym (ap number_next is.log ∙ fold-append next_behind 1 is.front (Restarted is.rolled is.deleted ∷ []))))
      (λ t. idle_anyway t (status_in F.table t) is.rolled is.deleted) refl refl
      (sym (ap (λ X. ends_restarted (last_of X)) (ap (drop F.first) is.log ∙ drop_at is.front (Restarted is.rolled is.deleted ∷ []) F.first (sym is.first))))
      (omega (arith, size, is.first)) refl refl
      (ap last_epoch is.log ∙ (epoch_restarted is.front is.rolled is.deleted ∙ ap (λ m. record { first = m; records = [] }) (omega (arith, number_is_length is.front, size))));
  tests_are = ap (tests s F.first (known_at F.first F.next F.table)) read ∙ ap (λ b. fold (test_next s F.first) (cond b (Some (known_next (known_at F.first F.next F.table) (Restarted is.rolled is.deleted))) None) Q) passes;
  bad_is = λ o.
      ap (λ X. verdict_by F.first o (first_bad s F.first (known_at F.first F.next F.table) X)) read
      ∙ (ap (λ b. verdict_by F.first o (cond b (one_later (first_bad s F.first (known_next (known_at F.first F.next F.table) (Restarted is.rolled is.deleted)) Q)) (Some 0))) passes
      ∙ later o (first_bad s F.first (known_next (known_at F.first F.next F.table) (Restarted is.rolled is.deleted)) Q));
}
  where
    front_legal : IsLegalFor s is.front
    front_legal = IsLegalFor-front s is.front (Restarted is.rolled is.deleted ∷ []) (subst (IsLegalFor s) is.log legal)

    size : length P ≡ length is.front + 1
    size = ap length is.log ∙ length-append is.front (Restarted is.rolled is.deleted ∷ [])

    read : drop F.first (P ++ Q) ≡ Restarted is.rolled is.deleted ∷ Q
    read = ap (λ X. drop F.first (X ++ Q)) is.log ∙ (ap (drop F.first) (append_assoc is.front (Restarted is.rolled is.deleted ∷ []) Q) ∙ drop_at is.front (Restarted is.rolled is.deleted ∷ Q) F.first (sym is.first))

    passes : may_follow s F.first (known_at F.first F.next F.table) (Restarted is.rolled is.deleted) ≡ true
    passes = rw (eq-eqb F.first F.first refl) refl

    later : (o : Outcome) (b : Option ℕ) → verdict_by F.first o (one_later b) ≡ verdict_by (length P) o b
    later o None = refl
    later o (Some i) = ap Misfit (omega (arith, size, is.first))

started : (s : Sizes) (P Q : List Record) (F : Files) → 0 < length P → IsLegalFor s P → StandsAt P F → Started s P Q F
started s P Q F some legal at = ⊎_elim (λ is. started_in s P Q F some legal is) (λ is. started_before s P Q F legal is) at

pub tests_are_rules : TestsAreRules
tests_are_rules s P Q F k r some legal at passed =
    let w = started s P Q F some legal at in
    rules_are s F.first (P ++ Q) k (told_on s F.first Q P w.known k w.told (sym w.tests_are ∙ passed)) r

-- ---- records that pass, and records that may stand
pass_stand : (s : Sizes) (n : ℕ) (Q Y : List Record) (g : Known) → Told n Y g → IsSome (tests s n g Q) → AllMayStand s n Y Q
pass_stand s n [] Y g w some = λ i r e. absurd (cc)
pass_stand s n (q ∷ Q) Y g w some = by_test (λ v. pass_stand s n Q (Y ++ q ∷ []) (known_next g q) v) (may_follow s n g q) refl some
  where
    by_test : (Told n (Y ++ q ∷ []) (known_next g q) → IsSome (tests s n (known_next g q) Q) → AllMayStand s n (Y ++ q ∷ []) Q)
        → (b : Bool) → may_follow s n g q ≡ b → IsSome (fold (test_next s n) (cond b (Some (known_next g q)) None) Q) → AllMayStand s n Y (q ∷ Q)
    by_test ih false f h = let z : false ≡ true = rw (fold_stays (test_next s n) None (λ x. refl) Q) at h in absurd (cc)
    by_test ih true f h = at_place
      where
        stands : may_stand s n Y q ≡ true
        stands = sym (rules_are s n Y g w q) ∙ f

        at_place : AllMayStand s n Y (q ∷ Q)
        at_place zero r e = let same : q ≡ r = cc in subst (λ X. may_stand s n X r ≡ true) (sym (append-nil Y)) (subst (λ z. may_stand s n Y z ≡ true) same stands)
        at_place (suc i) r e = subst (λ X. may_stand s n X r ≡ true) (append_assoc Y (q ∷ []) (take i Q)) (ih (step s n Y g w q stands) h i r e)

stand_pass : (s : Sizes) (n : ℕ) (Q Y : List Record) (g : Known) → Told n Y g → AllMayStand s n Y Q → IsSome (tests s n g Q)
stand_pass s n [] Y g w all = refl
stand_pass s n (q ∷ Q) Y g w all = subst (λ b. IsSome (fold (test_next s n) (cond b (Some (known_next g q)) None) Q)) (sym (rules_are s n Y g w q ∙ stands))
    (stand_pass s n Q (Y ++ q ∷ []) (known_next g q) (step s n Y g w q stands) (λ i r e. subst (λ X. may_stand s n X r ≡ true) (sym (append_assoc Y (q ∷ []) (take i Q))) (all (suc i) r e)))
  where
    stands : may_stand s n Y q ≡ true
    stands = subst (λ X. may_stand s n X q ≡ true) (append-nil Y) (all zero q refl)

pub finds_misfit : FindsMisfit
finds_misfit s P Q F some legal at = (handed, hands, misfit)
  where
    w : Started s P Q F
    w = started s P Q F some legal at

    bad : ℕ → Known → List Record → Option ℕ
    bad n g X = first_bad s n g X

    handed : (o : Outcome) → verdict_of s F (P ++ Q) ≡ HandedOut o → AllMayStand s F.first P Q
    handed o e = pass_stand s F.first Q P w.known w.told ((finds_first_bad s F.first w.known Q).0.0 (by_option (first_bad s F.first w.known Q) (sym (w.bad_is (hands_on s (goes_through s F (drop F.first (P ++ Q))))) ∙ e)))
      where
        by_option : (b : Option ℕ) → verdict_by (length P) (hands_on s (goes_through s F (drop F.first (P ++ Q)))) b ≡ HandedOut o → IsNone b
        by_option None h = refl
        by_option (Some i) h = absurd (cc)

    hands : AllMayStand s F.first P Q → verdict_of s F (P ++ Q) ≡ HandedOut (hands_on s (goes_through s F (drop F.first (P ++ Q))))
    hands all = w.bad_is (hands_on s (goes_through s F (drop F.first (P ++ Q)))) ∙ by_option (first_bad s F.first w.known Q) ((finds_first_bad s F.first w.known Q).0.1 (stand_pass s F.first Q P w.known w.told all))
      where
        by_option : (b : Option ℕ) → IsNone b → verdict_by (length P) (hands_on s (goes_through s F (drop F.first (P ++ Q)))) b ≡ HandedOut (hands_on s (goes_through s F (drop F.first (P ++ Q))))
        by_option None h = refl
        by_option (Some i) h = absurd (cc)

    misfit : (m : ℕ) → verdict_of s F (P ++ Q) ≡ Misfit m
        → (i : ℕ) × (r : Record) × (m ≡ length P + i) × (slice_get Q i ≡ Some r) × (may_stand s F.first (P ++ take i Q) r ≡ false) × AllMayStand s F.first P (take i Q)
    misfit m e = by_option (first_bad s F.first w.known Q) refl (sym (w.bad_is (hands_on s (goes_through s F (drop F.first (P ++ Q))))) ∙ e)
      where
        by_option : (b : Option ℕ) → first_bad s F.first w.known Q ≡ b → verdict_by (length P) (hands_on s (goes_through s F (drop F.first (P ++ Q)))) b ≡ Misfit m
            → (i : ℕ) × (r : Record) × (m ≡ length P + i) × (slice_get Q i ≡ Some r) × (may_stand s F.first (P ++ take i Q) r ≡ false) × AllMayStand s F.first P (take i Q)
        by_option None f h = absurd (cc)
        by_option (Some i) f h =
            let v = (finds_first_bad s F.first w.known Q).1 i f in
            let number : m ≡ length P + i = cc in
            let there : Told F.first (P ++ take i Q) v.1 = told_on s F.first (take i Q) P w.known v.1 w.told v.3 in
            (i, v.0, number, v.2, sym (rules_are s F.first (P ++ take i Q) v.1 there v.0) ∙ v.4, pass_stand s F.first (take i Q) P w.known w.told (rw v.3 refl))

-- ---- files that fit a front

led_epoch : (L : List Record) (f : ℕ) → IsLed L f → f ≤ length L → last_epoch (take f L) ≡ record { first = f; records = [] }
led_epoch L zero w h = refl
led_epoch L (suc f) w h = ap last_epoch (take_get L f w.0 w.1) ∙ by_kind w.0 w.2
  where
    size : length (take f L) ≡ f
    size = length-take-le f L (omega (arith, h))

    at : next_number (last_epoch (take f L)) + 1 ≡ suc f
    at = omega (arith, number_is_length (take f L), size)

    by_kind : (r : Record) → separates r ≡ true → last_epoch (take f L ++ r ∷ []) ≡ record { first = suc f; records = [] }
    by_kind (Format i j) e = ap (λ (c : Cut). c.now) (cut_push (take f L) (Format i j)) ∙ ap (λ m. record { first = m; records = [] }) at
    by_kind (Begin t) e = absurd (cc)
    by_kind (Forward t b) e = absurd (cc)
    by_kind (Done t c a) e = absurd (cc)
    by_kind (Commit t) e = absurd (cc)
    by_kind (Ended t) e = absurd (cc)
    by_kind (Solo t p b) e = absurd (cc)
    by_kind AuditBegin e = absurd (cc)
    by_kind (AuditClean b) e = absurd (cc)
    by_kind (AuditFail b rs) e = absurd (cc)
    by_kind (Restarted rs ds) e = ap (λ (c : Cut). c.now) (cut_push (take f L) (Restarted rs ds)) ∙ ap (λ m. record { first = m; records = [] }) at
    by_kind (Back t b) e = absurd (cc)

none_within : (E : List Record) → IsWithin E → list_any separates E ≡ false
none_within [] h = refl
none_within (r ∷ E) h = let w = IsWithin-tail r E h in rw w.0 (none_within E w.1)

module _ (s : Sizes) (K : List Record) (F : Files) (fit : FitsWhole s (base_of s K) K F (last_epoch K)) (some : 0 < F.first) (legal : IsLegalFor s K) where
  abbrev e : Epoch
  e = last_epoch K

  here : Placed K (last_epoch K) × ((last_epoch K).first ≤ F.first + 1)
  here = placed s K (last_epoch K) F.first legal.rules fit.fits.epoch

  stands_in : (last_epoch K).first ≤ F.first → (P Q : List Record) × (P ++ Q ≡ K) × (0 < length P) × StandsAt P F
  stands_in ge = (
    take F.first K,
    drop F.first K,
    take-append-drop F.first K,
    omega (arith, size, some),
    inl (record {
      first = sym size;
      next = fit.fits.numbers;
      table = fit.fits.table_is ∙ sym (ap (λ m. table_before (last_epoch (take F.first K)) m) size ∙ (ap (λ z. table_before z F.first) now ∙ ap table_of (take_twice (F.first - e.first) e.records)));
    }),
  )
    where
      size : length (take F.first K) ≡ F.first
      size = length-take-le F.first K fit.fits.count

      whole : K ≡ take (last_epoch K).first K ++ ((last_epoch K).records ++ here.0.behind)
      whole = sym (take-append-drop e.first K) ∙ ap (λ X. take e.first K ++ X) here.0.there

      inside : F.first - (last_epoch K).first ≤ length (last_epoch K).records
      inside = within_epoch F.first K e fit.fits.count fit.fits.epoch

      front_size : length (take (last_epoch K).first K) ≡ (last_epoch K).first
      front_size = length-take-le e.first K here.0.low

      front : take F.first K ≡ take (last_epoch K).first K ++ take (F.first - (last_epoch K).first) (last_epoch K).records
      front = ap (take F.first) whole ∙ (take_past (take e.first K) (e.records ++ here.0.behind) F.first (omega (arith, front_size, ge)) ∙ ap (λ X. take e.first K ++ X) (ap (λ m. take (F.first - m) (e.records ++ here.0.behind)) front_size ∙ take-append-le (F.first - e.first) e.records here.0.behind inside))
        where
          take_past : (xs ys : List Record) (k : ℕ) → length xs ≤ k → take k (xs ++ ys) ≡ xs ++ take (k - length xs) ys
          take_past [] ys k h = let same : k ≡ k - 0 = omega arith in ap (λ m. take m ys) same
          take_past (x ∷ xs) ys zero h = absurd (omega (arith, h))
          take_past (x ∷ xs) ys (suc k) h =
              let same : k - length xs ≡ suc k - suc (length xs) = omega arith in
              ap (λ z. x ∷ z) (take_past xs ys k (omega (arith, h))) ∙ ap (λ m. x ∷ (xs ++ take m ys)) same

      within : IsWithin (take (F.first - (last_epoch K).first) (last_epoch K).records)
      within = (IsWithin-parts (take (F.first - e.first) e.records) (drop (F.first - e.first) e.records) (subst IsWithin (sym (take-append-drop (F.first - e.first) e.records)) here.0.within)).0

      now : last_epoch (take F.first K) ≡ record { first = (last_epoch K).first; records = take (F.first - (last_epoch K).first) (last_epoch K).records }
      now = ap last_epoch front ∙ (last_epoch-append (take e.first K) (take (F.first - e.first) e.records) (none_within (take (F.first - e.first) e.records) within) ∙ ap (λ (z : Epoch). record { first = z.first; records = z.records ++ take (F.first - e.first) e.records }) (led_epoch K e.first here.0.led here.0.low))

  stands_before : F.first < (last_epoch K).first → (P Q : List Record) × (P ++ Q ≡ K) × (0 < length P) × StandsAt P F
  stands_before lt = by_kind led.0 refl led.2
    where
      none : F.first - (last_epoch K).first ≡ 0
      none = omega (arith, lt)

      at : (last_epoch K).first ≡ suc F.first
      at = omega (arith, lt, here.1)

      led : (r : Record) × (slice_get K F.first ≡ Some r) × (separates r ≡ true)
      led = subst (IsLed K) at here.0.led

      size : length (take F.first K) ≡ F.first
      size = length-take-le F.first K fit.fits.count

      whole : (take F.first K ++ led.0 ∷ []) ++ drop (suc F.first) K ≡ K
      whole = append_assoc (take F.first K) (led.0 ∷ []) (drop (suc F.first) K) ∙ (ap (λ Z. take F.first K ++ Z) (sym (get_then K F.first led.0 led.1)) ∙ take-append-drop F.first K)

      by_kind : (r : Record) → led.0 ≡ r → separates r ≡ true → (P Q : List Record) × (P ++ Q ≡ K) × (0 < length P) × StandsAt P F
      by_kind (Restarted rs ds) is sep = (
        take F.first K ++ Restarted rs ds ∷ [],
        drop (suc F.first) K,
        ap (λ z. (take F.first K ++ z ∷ []) ++ drop (suc F.first) K) (sym is) ∙ whole,
        omega (arith, length-append (take F.first K) (Restarted rs ds ∷ [])),
        inr (record { front = take F.first K; rolled = rs; deleted = ds; log = refl; first = sym size; next = fit.fits.numbers; table = fit.fits.table_is ∙ ap (λ k. table_of (take k e.records)) none }),
      )
      by_kind (Format i j) is sep =
          let log : (take F.first K ++ Format i j ∷ []) ++ drop (suc F.first) K ≡ K = ap (λ z. (take F.first K ++ z ∷ []) ++ drop (suc F.first) K) (sym is) ∙ whole in
          let front : IsLegalFor s (take F.first K ++ Format i j ∷ []) = IsLegalFor-front s (take F.first K ++ Format i j ∷ []) (drop (suc F.first) K) (subst (IsLegalFor s) (sym log) legal) in
          let g = some_of (rules_state s (take F.first K ++ Format i j ∷ [])) front.rules in
          absurd (omega (arith, some, size, ap length (format_first s (take F.first K) i j g.0 g.1)))
      by_kind (Begin t) is sep = absurd (cc)
      by_kind (Forward t b) is sep = absurd (cc)
      by_kind (Done t c a) is sep = absurd (cc)
      by_kind (Commit t) is sep = absurd (cc)
      by_kind (Ended t) is sep = absurd (cc)
      by_kind (Solo t p b) is sep = absurd (cc)
      by_kind AuditBegin is sep = absurd (cc)
      by_kind (AuditClean b) is sep = absurd (cc)
      by_kind (AuditFail b rs) is sep = absurd (cc)
      by_kind (Back t b) is sep = absurd (cc)

pub fronts_stand : FrontsStand
fronts_stand s K F front some legal = (
  w.0,
  w.1,
  w.2,
  w.3,
  ⊎_elim
      (λ is. inl (record { first = is.first; next = is.next; table = is.table }))
      (λ is. inr (record { front = is.front; rolled = is.rolled; deleted = is.deleted; log = is.log; first = is.first; next = is.next; table = is.table }))
      w.4,
)
  where
    G : Files
    G = record F { batches = front.0 }

    w : (P Q : List Record) × (P ++ Q ≡ K) × (0 < length P) × StandsAt P (record F { batches = front.0 })
    w = ⊎_elim (λ lt. stands_before s K G front.1 some legal lt) (λ ge. stands_in s K G front.1 some legal ge) (cases_lt F.first (last_epoch K).first)

pub legal_stands : LegalStands
legal_stands s K Z F some_index some_heap front some legal spelled =
    let w = fronts_stand s K F front some (IsLegalFor-front s K Z legal) in
    let parts : w.0 ++ (w.1 ++ Z) ≡ K ++ Z = sym (append_assoc w.0 w.1 Z) ∙ ap (λ X. X ++ Z) w.2 in
    let through = resumes_through s K Z F some_index some_heap front (omega (arith, w.3, ap length w.2, length-append w.0 w.1)) legal spelled in
    (w.0, w.1 ++ Z, parts, w.4, (finds_misfit s w.0 (w.1 ++ Z) F w.3 (IsLegalFor-front s w.0 (w.1 ++ Z) (subst (IsLegalFor s) (sym parts) legal)) w.4).0 (hands_on s (goes_through s F (drop F.first (K ++ Z)))) (ap (verdict_of s F) parts ∙ through.verdict))
