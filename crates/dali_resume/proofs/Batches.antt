-- Each Restarted is the first record of its batch.
use Rattle.std.proofs.Common.{◌≡◌, ℕ, zero, suc, ◌+◌, ◌≤◌, Bool, true, false, List, [], ◌∷◌, ◌++◌, length, take, drop, Option, Some, None, refl, ap, sym, ◌∙◌, ◌⊎◌, inl, inr, ⊎_elim, cond, arith, take-append-drop, length-append}
use Rattle.std.specs.Prelude.{sum_by, ◌&&◌, ◌||◌, not, slice_get, nat_le}
use Rattle.std.specs.List.{list_all, list_any}
use Rattle.std.proofs.lemmas.Bool.{leb-true, le-leb, cases_lt, not-true}
use Rattle.std.proofs.lemmas.List.Concat.{flat_map-append}
use Rattle.std.proofs.lemmas.List.{drop-append-le, append_cancel_left}
use Rattle.dali_lists.proofs.Options.{some_same}
use Rattle.dali_lists.proofs.Tests.{left_true, right_true}
use Rattle.dali_record.specs.Epochs.{last_epoch}
use Rattle.dali_history.specs.Recovered.{base_of}
use Rattle.dali_record.specs.declared.records.Record.{Record}
use Rattle.dali_record.specs.declared.records.Record.TheVariants.{Restarted}
use Rattle.dali_record.specs.Files.{Files, batch_length, is_restarted, is_restarted_first}
use Rattle.dali_resume.specs.Tests.{one_later, first_bad, known_at}
use Rattle.dali_resume.specs.Onward.{Misfit, goes_through, hands_on, verdict_by}
use Rattle.dali_resume.specs.Batches.{records_of, first_restarted, misplaced_in, further, either_place, misplaced, IsMisplaced, FindsMisplaced, FitsInBatches, earlier, bad_of, AnswersOverBatches, FrontAnswersOverBatches}

-- ---- one batch
pub is_a_restart : (r : Record) → is_restarted r ≡ true → (rs ds : List ℕ) × (r ≡ Restarted rs ds)
is_a_restart (Restarted rs ds) e = (rs, ds, refl)
is_a_restart _ e = absurd (cc)

one_none : (o : Option ℕ) → one_later o ≡ None → o ≡ None
one_none None e = refl
one_none (Some i) e = absurd (cc)

pub one_some : (o : Option ℕ) (i : ℕ) → one_later o ≡ Some i → (j : ℕ) × (o ≡ Some j) × (i ≡ j + 1)
one_some None i e = absurd (cc)
one_some (Some j) i e = (j, refl, sym (some_same e))

none_any : (b : List Record) → first_restarted b ≡ None → list_any is_restarted b ≡ false
none_any [] e = refl
none_any (r ∷ b) e = by_test (is_restarted r) (none_any b) e
  where
    by_test : (c : Bool) → (first_restarted b ≡ None → list_any is_restarted b ≡ false) → cond c (Some 0) (one_later (first_restarted b)) ≡ None → (c || list_any is_restarted b) ≡ false
    by_test true rest f = absurd (cc)
    by_test false rest f = rest (one_none (first_restarted b) f)

any_none : (b : List Record) → list_any is_restarted b ≡ false → first_restarted b ≡ None
any_none [] e = refl
any_none (r ∷ b) e = by_test (is_restarted r) (any_none b) e
  where
    by_test : (c : Bool) → (list_any is_restarted b ≡ false → first_restarted b ≡ None) → (c || list_any is_restarted b) ≡ false → cond c (Some 0) (one_later (first_restarted b)) ≡ None
    by_test true rest f = absurd (cc)
    by_test false rest f = ap one_later (rest f)

abbrev StandsIn : List Record → ℕ → Type 0
StandsIn b j = (others : List Record) × (rs ds : List ℕ) × (rest : List Record) × (b ≡ others ++ Restarted rs ds ∷ rest) × (j ≡ length others) × (list_any is_restarted others ≡ false)

stands_in : (b : List Record) (j : ℕ) → first_restarted b ≡ Some j → StandsIn b j
stands_in [] j e = absurd (cc)
stands_in (r ∷ b) j e = by_test (is_restarted r) refl (stands_in b) e
  where
    here : is_restarted r ≡ true → 0 ≡ j → StandsIn (r ∷ b) j
    here c z = let w = is_a_restart r c in ([], w.0, w.1, b, ap (λ x. x ∷ b) w.2, sym z, refl)

    by_test : (c : Bool) → is_restarted r ≡ c → ((k : ℕ) → first_restarted b ≡ Some k → StandsIn b k) → cond c (Some 0) (one_later (first_restarted b)) ≡ Some j → StandsIn (r ∷ b) j
    by_test true q rest f = here q (some_same f)
    by_test false q rest f =
        let w = one_some (first_restarted b) j f in
        let v = rest w.0 w.1 in
        (r ∷ v.0, v.1, v.2, v.3, ap (λ x. r ∷ x) v.4, omega (arith, w.2, v.5), ap (λ c. c || list_any is_restarted v.0) q ∙ v.6)

batch_good : (b : List Record) → misplaced_in b ≡ None → is_restarted_first b ≡ true
batch_good [] e = refl
batch_good (r ∷ b) e = ap not (none_any b (one_none (first_restarted b) e))

pub good_batch : (b : List Record) → is_restarted_first b ≡ true → misplaced_in b ≡ None
good_batch [] e = refl
good_batch (r ∷ b) e = ap one_later (any_none b (not-true (list_any is_restarted b) e))

-- ---- all of them
further_none : (n : ℕ) (o : Option ℕ) → further n o ≡ None → o ≡ None
further_none n None e = refl
further_none n (Some i) e = absurd (cc)

either_none : (o p : Option ℕ) → either_place o p ≡ None → (o ≡ None) × (p ≡ None)
either_none None p e = (refl, e)
either_none (Some i) p e = absurd (cc)

none_good : (bs : List (List Record)) → misplaced bs ≡ None → list_all is_restarted_first bs ≡ true
none_good [] e = refl
none_good (b ∷ bs) e =
    let w = either_none (misplaced_in b) (further (length b) (misplaced bs)) e in
    ap (λ c. c && list_all is_restarted_first bs) (batch_good b w.0) ∙ none_good bs (further_none (length b) (misplaced bs) w.1)

good_none : (bs : List (List Record)) → list_all is_restarted_first bs ≡ true → misplaced bs ≡ None
good_none [] e = refl
good_none (b ∷ bs) e =
    ap (λ o. either_place o (further (length b) (misplaced bs))) (good_batch b (left_true (is_restarted_first b) _ e))
    ∙ ap (further (length b)) (good_none bs (right_true (is_restarted_first b) _ e))

in_first : (b : List Record) (bs : List (List Record)) (i : ℕ) → misplaced_in b ≡ Some i → IsMisplaced (b ∷ bs) i
in_first [] bs i e = absurd (cc)
in_first (r ∷ b) bs i e =
    let w = one_some (first_restarted b) i e in
    let v = stands_in b w.0 w.1 in record {
      before = [];
      behind = bs;
      first = r;
      others = v.0;
      rolled = v.1;
      deleted = v.2;
      rest = v.3;
      batches = ap (λ x. (r ∷ x) ∷ bs) v.4;
      place = omega (arith, w.2, v.5);
      good = refl;
      none = v.6;
    }

finds : (bs : List (List Record)) (i : ℕ) → misplaced bs ≡ Some i → IsMisplaced bs i
finds [] i e = absurd (cc)
finds (b ∷ bs) i e = by_first (misplaced_in b) refl (finds bs) e
  where
    later : misplaced_in b ≡ None → ((k : ℕ) → misplaced bs ≡ Some k → IsMisplaced bs k) → (o : Option ℕ) → misplaced bs ≡ o → further (length b) o ≡ Some i → IsMisplaced (b ∷ bs) i
    later q ih None f g = absurd (cc)
    later q ih (Some j) f g =
        let w : IsMisplaced bs j = ih j f in
        let at : length b + j ≡ i = some_same g in record {
          before = b ∷ w.before;
          behind = w.behind;
          first = w.first;
          others = w.others;
          rolled = w.rolled;
          deleted = w.deleted;
          rest = w.rest;
          batches = ap (λ x. b ∷ x) w.batches;
          place = omega (arith, at, w.place, length-append b (records_of w.before));
          good = ap (λ c. c && list_all is_restarted_first w.before) (batch_good b q) ∙ w.good;
          none = w.none;
        }

    by_first : (o : Option ℕ) → misplaced_in b ≡ o → ((k : ℕ) → misplaced bs ≡ Some k → IsMisplaced bs k) → either_place o (further (length b) (misplaced bs)) ≡ Some i → IsMisplaced (b ∷ bs) i
    by_first None q ih f = later q ih (misplaced bs) refl f
    by_first (Some j) q ih f = in_first b bs i (q ∙ f)

pub finds_misplaced : FindsMisplaced
finds_misplaced bs = ((none_good bs, good_none bs), finds bs)

-- ---- files that fit
good_behind : (k : ℕ) (bs : List (List Record)) → ((j : ℕ) (b : List Record) → k ≤ j → slice_get bs j ≡ Some b → is_restarted_first b ≡ true) → list_all is_restarted_first (drop k bs) ≡ true
good_behind zero [] each = refl
good_behind zero (b ∷ bs) each = ap (λ c. c && list_all is_restarted_first bs) (each 0 b (omega arith) refl) ∙ good_behind zero bs (λ j c le e. each (suc j) c (omega arith) e)
good_behind (suc k) [] each = refl
good_behind (suc k) (b ∷ bs) each = good_behind k bs (λ j c le e. each (suc j) c (omega (arith, le)) e)

pub both_good : (cs bs : List (List Record)) → list_all is_restarted_first cs ≡ true → list_all is_restarted_first bs ≡ true → list_all is_restarted_first (cs ++ bs) ≡ true
both_good [] bs e f = f
both_good (c ∷ cs) bs e f = ap (λ z. z && list_all is_restarted_first (cs ++ bs)) (left_true (is_restarted_first c) _ e) ∙ both_good cs bs (right_true (is_restarted_first c) _ e) f

pub fits_in_batches : FitsInBatches
fits_in_batches s base L F e more fit good = (
  fit.fits.batch.0,
  fit.fits.batch.2,
  behind,
  good_none (drop fit.fits.batch.0 F.batches ++ more) (both_good (drop fit.fits.batch.0 F.batches) more (good_behind fit.fits.batch.0 F.batches fit.fits.batch.3) good),
)
  where
    k : ℕ
    k = fit.fits.batch.0

    whole : records_of (take fit.fits.batch.0 F.batches) ++ records_of (drop fit.fits.batch.0 F.batches) ≡ L
    whole = sym (flat_map-append (λ b. b) (take k F.batches) (drop k F.batches)) ∙ (ap records_of (take-append-drop k F.batches) ∙ fit.fits.log)

    behind : records_of (drop fit.fits.batch.0 F.batches) ≡ drop F.first L
    behind = append_cancel_left (take F.first L) (records_of (drop k F.batches)) (drop F.first L) (ap (λ z. z ++ records_of (drop k F.batches)) (sym fit.fits.batch.1) ∙ (whole ∙ sym (take-append-drop F.first L)))

-- ---- both kinds of test
earlier_none : (o : Option ℕ) → earlier o None ≡ o
earlier_none None = refl
earlier_none (Some i) = refl

abbrev IsEarlier : Option ℕ → Option ℕ → ℕ → Type 0
IsEarlier o p i = ((o ≡ Some i) ⊎ (p ≡ Some i)) × ((j : ℕ) → (o ≡ Some j) ⊎ (p ≡ Some j) → i ≤ j)

is_earlier : (o p : Option ℕ) (i : ℕ) → earlier o p ≡ Some i → IsEarlier o p i
is_earlier None p i e = (inr e, λ j h. ⊎_elim (λ q. absurd (cc)) (λ q. omega (arith, some_same (sym e ∙ q))) h)
is_earlier (Some a) None i e = (inl e, λ j h. ⊎_elim (λ q. omega (arith, some_same (sym e ∙ q))) (λ q. absurd (cc)) h)
is_earlier (Some a) (Some b) i e = by_test (nat_le a b) refl e
  where
    by_test : (c : Bool) → nat_le a b ≡ c → cond c (Some a) (Some b) ≡ Some i → IsEarlier (Some a) (Some b) i
    by_test true q f = (inl f, λ j h. ⊎_elim (λ g. omega (arith, some_same f, some_same g)) (λ g. omega (arith, some_same f, some_same g, leb-true a b q)) h)
    by_test false q f = (inr f, λ j h. ⊎_elim (λ g. omega (arith, some_same f, some_same g, above q)) (λ g. omega (arith, some_same f, some_same g)) h)
      where
        above : nat_le a b ≡ false → b ≤ a
        above z = ⊎_elim (λ lt. absurd (let t : nat_le a b ≡ true = le-leb a b (omega (arith, lt)) in cc)) (λ ge. ge) (cases_lt a b)

some_earlier : (o p : Option ℕ) (j : ℕ) → (o ≡ Some j) ⊎ (p ≡ Some j) → (i : ℕ) × (earlier o p ≡ Some i)
some_earlier None None j h = absurd (⊎_elim (λ q. cc) (λ q. cc) h)
some_earlier None (Some b) j h = (b, refl)
some_earlier (Some a) None j h = (a, refl)
some_earlier (Some a) (Some b) j h = by_test (nat_le a b)
  where
    by_test : (c : Bool) → (i : ℕ) × (cond c (Some a) (Some b) ≡ Some i)
    by_test true = (a, refl)
    by_test false = (b, refl)

number_of : (n : ℕ) (o : _) (p : Option ℕ) (m : ℕ) → verdict_by n o p ≡ Misfit m → (i : ℕ) × (p ≡ Some i) × (m ≡ n + i)
number_of n o None m e = absurd (cc)
number_of n o (Some i) m e = (i, refl, misfit_same (sym e))
  where
    misfit_same : {a b : ℕ} → Misfit a ≡ Misfit b → a ≡ b
    misfit_same f = cc

pub answers_over_batches : AnswersOverBatches
answers_over_batches s F L bs same = (
  λ none. ap (λ o. verdict_by F.first (hands_on s (goes_through s F (records_of bs))) (earlier (bad_of s F bs) o)) none
      ∙ (ap (verdict_by F.first (hands_on s (goes_through s F (records_of bs)))) (earlier_none (bad_of s F bs))
      ∙ ap (λ Q. verdict_by F.first (hands_on s (goes_through s F Q)) (first_bad s F.first (known_at F.first F.next F.table) Q)) same),
  λ m e.
      let w = number_of F.first (hands_on s (goes_through s F (records_of bs))) (earlier (bad_of s F bs) (misplaced bs)) m e in
      let v = is_earlier (bad_of s F bs) (misplaced bs) w.0 w.1 in
      record { place = w.0; number = w.2; fails = v.0; first = v.1 },
  λ j h.
      let w = some_earlier (bad_of s F bs) (misplaced bs) j h in
      let v = is_earlier (bad_of s F bs) (misplaced bs) w.0 w.1 in
      (F.first + w.0, ap (verdict_by F.first (hands_on s (goes_through s F (records_of bs)))) w.1, omega (arith, v.1 j h)),
)

pub front_answers_over_batches : FrontAnswersOverBatches
front_answers_over_batches s K F more front good = (w.0, w.1, (answers_over_batches s F (K ++ records_of more) (drop w.0 front.0 ++ more) same).0 w.3)
  where
    D : Files
    D = record F { batches = front.0 }

    w : (k : ℕ) × (F.place ≡ sum_by batch_length (take k front.0)) × (records_of (drop k front.0) ≡ drop F.first K) × (misplaced (drop k front.0 ++ more) ≡ None)
    w = fits_in_batches s (base_of s K) K D (last_epoch K) more front.1 good

    same : records_of (drop w.0 front.0 ++ more) ≡ drop F.first (K ++ records_of more)
    same = flat_map-append (λ b. b) (drop w.0 front.0) more ∙ (ap (λ X. X ++ records_of more) w.2 ∙ sym (drop-append-le F.first K (records_of more) front.1.fits.count))
