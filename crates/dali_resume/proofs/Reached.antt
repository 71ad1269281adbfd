-- Where a restart stands at the end of its image's epoch.
use Rattle.dali_history.specs.Marked.{kept_of}
use Rattle.dali_resume.specs.OnTheWay.{rewritten_by}
use Rattle.std.specs.Prelude.{IsSome, fold, max, not, slice_get, ◌&&◌, ◌==◌}
use Rattle.std.proofs.Common.{Bool, List, None, Some, ap, append_assoc, arith, cond, drop, false, length, refl, subst, suc, sym, take, true, zero, ℕ, ◌≡◌, ◌∷◌, ◌++◌, ◌∙◌, ◌≤◌, ◌+◌, ◌-◌, ◌<◌, [], ⊎_elim}
use Rattle.std.proofs.lemmas.Bool.{and_parts, both_ways, cases_lt, eq-eqb, eqb-true}
use Rattle.std.proofs.lemmas.List.{append-nil, length-append, length-drop, take-append-drop, drop_all, nil_from_length}
use Rattle.std.proofs.lemmas.List.Folds.{fold_stays}
use Rattle.dali_lists.proofs.Options.{some_of}
use Rattle.dali_geometry.specs.Sizes.{Sizes}
use Rattle.dali_record.specs.Damage.{deleted_list, rolled_list}
use Rattle.dali_record.specs.Epochs.{Epoch, cut, last_epoch, recovered_epoch, recovered_or, separates}
use Rattle.dali_record.specs.Files.{Files, is_restarted, next_after, table_before}
use Rattle.dali_record.specs.Legal.{IsLegalFor, Rules, has_room, on_kind, passes, rules_state}
use Rattle.dali_record.specs.Settled.{redo_all}
use Rattle.dali_record.specs.declared.records.Record.{Record}
use Rattle.dali_record.specs.declared.records.Record.TheVariants.{AuditBegin, AuditClean, AuditFail, Back, Begin, Commit, Done, Ended, Format, Forward, Restarted, Solo}
use Rattle.dali_record.proofs.Batches.{recovered_restarted, not_restarted, number_is_length}
use Rattle.dali_record.proofs.EpochRules.{format_first, rules_before, kept_if_some, ran}
use Rattle.dali_record.proofs.Stages.{IsWithin}
use Rattle.dali_history.specs.History.{AreSpelled}
use Rattle.dali_history.specs.Recovered.{base_of, recover}
use Rattle.dali_history.proofs.Prefixes.{IsLegalFor-front}
use Rattle.dali_runs.proofs.CountsLemmas.Tallies.{numbers_drawn, tallies}
use Rattle.dali_crash.specs.Fitting.{FitsWhole}
use Rattle.dali_crash.proofs.Fitting.{redoes_the_epoch, within_epoch}
use Rattle.dali_crash.proofs.FromImage.{recovers_from_image, redone_from_image}
use Rattle.dali_resume.specs.Laws.{MayResume}
use Rattle.dali_resume.specs.Onward.{Going, KnowsAlike, closed_image, deleted_behind, goes_through, going_at, going_next, rolled_behind}
use Rattle.dali_resume.specs.Resumed.{damage_from, deleted_by, rolled_by, scan}
use Rattle.dali_resume.specs.Tests.{Known, known_at, known_next, may_follow, next_behind, test_next, tests}
use Rattle.dali_resume.proofs.FromFiles.{may_resume}
use Rattle.dali_resume.proofs.Joined.{recovers_alike, reports_alike, some_left, kept_at}
use Rattle.dali_resume.proofs.Onward.{told_lists}
use Rattle.dali_resume.proofs.Reading.{IsLed, Placed, drop_more, get_then, placed}
use Rattle.dali_resume.proofs.Resumes.{table_of}
use Rattle.dali_resume.proofs.Standing.{IsWithin-parts, IsWithin-tail}
use Rattle.dali_resume.proofs.Again.{drop_none, take_none}
use Rattle.dali_resume.proofs.Passes.{undrawn}

-- ---- what is known on the way
known_through : (s : Sizes) (n : ℕ) (c : Going) (Q : List Record) → (fold (going_next s n) c Q).known ≡ fold known_next c.known Q
known_through s n c [] = refl
known_through s n c (r ∷ Q) = known_through s n (going_next s n c r) Q

pub none_passes : (s : Sizes) (n : ℕ) (Q : List Record) (k : Known) → fold (test_next s n) None Q ≡ Some k → ⊥
none_passes s n Q k e = let z : None ≡ Some k = sym (fold_stays (test_next s n) None (λ r. refl) Q) ∙ e in cc

known_tested : (s : Sizes) (n : ℕ) (Q : List Record) (g k : Known) → tests s n g Q ≡ Some k → fold known_next g Q ≡ k
known_tested s n [] g k e = cc
known_tested s n (r ∷ Q) g k e = by_test (known_tested s n Q (known_next g r) k) (may_follow s n g r) e
  where
    by_test : (tests s n (known_next g r) Q ≡ Some k → fold known_next (known_next g r) Q ≡ k) → (b : Bool) → fold (test_next s n) (cond b (Some (known_next g r)) None) Q ≡ Some k → fold known_next (known_next g r) Q ≡ k
    by_test ih true q = ih q
    by_test ih false q = absurd (none_passes s n Q k q)

pub knows_alike : KnowsAlike
knows_alike s F Q k e = known_through s F.first (going_at F) Q ∙ known_tested s F.first Q (known_at F.first F.next F.table) k e

-- ---- numbers

pub next_step : (s : Sizes) (Y : List Record) (r : Record) (k : Rules) → rules_state s (Y ++ r ∷ []) ≡ Some k → next_behind (next_after Y) r ≡ next_after (Y ++ r ∷ [])
next_step s Y (Format i j) k e = sym (undrawn Y (Format i j) refl)
next_step s Y (Begin t) k e =
    let b = rules_before s Y (Begin t) k e in
    let p = passes b.0 (Begin t) in
    let q : (((t == b.0.next) && has_room b.0 (Begin t)) ≡ true) × (k ≡ record p { next = b.0.next + 1 }) = kept_if_some ((t == b.0.next) && has_room b.0 (Begin t)) (record p { next = b.0.next + 1 }) k (ran s b.0 k (Begin t) refl b.2) in
    let old = tallies s Y b.0 b.1 in
    let new = tallies s (Y ++ Begin t ∷ []) k e in
    omega (arith, eqb-true t b.0.next (and_parts (t == b.0.next) (has_room b.0 (Begin t)) q.0).0, ap (λ (z : Rules). z.next) q.1, old.2, numbers_drawn Y, new.2, numbers_drawn (Y ++ Begin t ∷ []))
next_step s Y (Forward t b) k e = sym (undrawn Y (Forward t b) refl)
next_step s Y (Done t c a) k e = sym (undrawn Y (Done t c a) refl)
next_step s Y (Commit t) k e = sym (undrawn Y (Commit t) refl)
next_step s Y (Ended t) k e = sym (undrawn Y (Ended t) refl)
next_step s Y (Solo t p c) k e =
    let b = rules_before s Y (Solo t p c) k e in
    let q' = passes b.0 (Solo t p c) in
    let q : (((t == b.0.next) && on_kind s c.region c.op) ≡ true) × (k ≡ record q' { next = b.0.next + 1 }) = kept_if_some ((t == b.0.next) && on_kind s c.region c.op) (record q' { next = b.0.next + 1 }) k (ran s b.0 k (Solo t p c) refl b.2) in
    let old = tallies s Y b.0 b.1 in
    let new = tallies s (Y ++ Solo t p c ∷ []) k e in
    omega (arith, eqb-true t b.0.next (and_parts (t == b.0.next) (on_kind s c.region c.op) q.0).0, ap (λ (z : Rules). z.next) q.1, old.2, numbers_drawn Y, new.2, numbers_drawn (Y ++ Solo t p c ∷ []))
next_step s Y AuditBegin k e = sym (undrawn Y AuditBegin refl)
next_step s Y (AuditClean b) k e = sym (undrawn Y (AuditClean b) refl)
next_step s Y (AuditFail b rs) k e = sym (undrawn Y (AuditFail b rs) refl)
next_step s Y (Restarted rs ds) k e = sym (undrawn Y (Restarted rs ds) refl)
next_step s Y (Back t b) k e = sym (undrawn Y (Back t b) refl)

pub next_through : (s : Sizes) (Q Y : List Record) (g : Known) → g.next ≡ next_after Y → IsLegalFor s (Y ++ Q) → (fold known_next g Q).next ≡ next_after (Y ++ Q)
next_through s [] Y g h legal = h ∙ ap next_after (sym (append-nil Y))
next_through s (r ∷ Q) Y g h legal =
    next_through s Q (Y ++ r ∷ []) (known_next g r) (ap (λ m. next_behind m r) h ∙ next_step s Y r k.0 k.1) whole ∙ ap next_after parts
  where
    parts : (Y ++ r ∷ []) ++ Q ≡ Y ++ r ∷ Q
    parts = append_assoc Y (r ∷ []) Q

    whole : IsLegalFor s ((Y ++ r ∷ []) ++ Q)
    whole = subst (IsLegalFor s) (sym parts) legal

    k : (z : Rules) × (rules_state s (Y ++ r ∷ []) ≡ Some z)
    k = some_of (rules_state s (Y ++ r ∷ [])) (IsLegalFor-front s (Y ++ r ∷ []) Q whole).rules

number_through : (Q : List Record) (g : Known) → (fold known_next g Q).number ≡ g.number + length Q
number_through [] g = omega arith
number_through (r ∷ Q) g = omega (arith, number_through Q (known_next g r))

-- ---- records of one epoch
record Within (s : Sizes) (n : ℕ) (c : Going) (R : List Record) (d : Going) : Type 0 where
  first : d.known.first ≡ c.known.first
  table : d.known.table ≡ c.known.table
  seen : d.known.seen ≡ c.known.seen ++ R
  image : d.image ≡ c.image
  rolled : d.rolled ≡ c.rolled
  deleted : d.deleted ≡ c.deleted
  restarted : 0 < length R → d.known.restarted ≡ false

pub lists_stay : (ts us : List ℕ) (r : Record) → separates r ≡ false → (rolled_behind ts r ≡ ts) × (deleted_behind us r ≡ us)
lists_stay ts us (Restarted rs ds) w = absurd (cc)
lists_stay ts us _ w = (refl, refl)

goes_within : (s : Sizes) (n : ℕ) (R : List Record) (c : Going) → IsWithin R → Within s n c R (fold (going_next s n) c R)
goes_within s n [] c h = record { first = refl; table = refl; seen = sym (append-nil c.known.seen); image = refl; rolled = refl; deleted = refl; restarted = λ q. absurd (omega (arith, q)) }
goes_within s n (r ∷ R) c h = then R (goes_within s n R (going_next s n c r) w.1)
  where
    w : (separates r ≡ false) × IsWithin R
    w = IsWithin-tail r R h

    then : (Q : List Record) → Within s n (going_next s n c r) Q (fold (going_next s n) (going_next s n c r) Q) → Within s n c (r ∷ Q) (fold (going_next s n) (going_next s n c r) Q)
    then Q v = record {
      first = v.first ∙ ap (λ b. cond b (c.known.number + 1) c.known.first) w.0;
      table = v.table ∙ ap (λ b. cond b [] c.known.table) w.0;
      seen = v.seen ∙ (ap (λ b. cond b [] (c.known.seen ++ r ∷ []) ++ Q) w.0 ∙ append_assoc c.known.seen (r ∷ []) Q);
      image = v.image ∙ ap (λ b. cond (b && not (c.known.number == n)) (closed_image s c) c.image) (not_restarted r w.0);
      rolled = v.rolled ∙ (lists_stay c.rolled c.deleted r w.0).0;
      deleted = v.deleted ∙ (lists_stay c.rolled c.deleted r w.0).1;
      restarted = λ q. last Q v;
    }
      where
        last : (Q : List Record) → Within s n (going_next s n c r) Q (fold (going_next s n) (going_next s n c r) Q) → (fold (going_next s n) (going_next s n c r) Q).known.restarted ≡ false
        last [] v = not_restarted r w.0
        last (x ∷ X) v = v.restarted (omega arith)

-- ---- the end of the image's epoch
pub record Reached (s : Sizes) (n : ℕ) (K : List Record) (c : Going) : Type 0 where
  pub number : c.known.number ≡ length K
  pub next : c.known.next ≡ next_after K
  pub closes : closed_image s c ≡ recover s (base_of s K) (last_epoch K)
  pub writes : rewritten_by c ≡ redo_all (base_of s K) (kept_of (last_epoch K))
  pub rolled : rolled_by c.known.table c.known.seen ≡ rolled_list (last_epoch K)
  pub deleted : deleted_by c.known.table c.known.seen (scan (damage_from c.known.first c.known.seen) c.known.table c.known.seen) ≡ deleted_list (last_epoch K)
  -- where no record was read
  pub still : n ≡ length K → (c.image ≡ base_of s K) × ((last_epoch K).records ≡ []) × (c.known.table ≡ []) × (c.known.seen ≡ []) × (c.known.restarted ≡ false)
  pub told : c.known.restarted ≡ true → (c.rolled ≡ rolled_list (recovered_epoch K)) × (c.deleted ≡ deleted_list (recovered_epoch K))
  pub untold : c.known.restarted ≡ false → n < length K → recovered_epoch K ≡ last_epoch K

-- what was read of the epoch
record Came (F : Files) (e : Epoch) (c : Going) : Type 0 where
  image : c.image ≡ F.image
  first : c.known.first ≡ max F.first e.first
  table : c.known.table ≡ table_before e F.first
  seen : c.known.seen ≡ drop (F.first - e.first) e.records

module _ (s : Sizes) (K : List Record) (F : Files) (fit : FitsWhole s (base_of s K) K F (last_epoch K)) (legal : IsLegalFor s K) (spelled : AreSpelled K) where
  abbrev e : Epoch
  e = last_epoch K

  abbrev n : ℕ
  n = F.first

  abbrev c : Going
  c = goes_through s F (drop F.first K)

  here : Placed K (last_epoch K) × ((last_epoch K).first ≤ F.first + 1)
  here = placed s K (last_epoch K) F.first legal.rules fit.fits.epoch

  size : e.first + length e.records ≡ length K
  size = number_is_length K

  nothing_behind : here.0.behind ≡ []
  nothing_behind = nil_from_length here.0.behind (omega (arith, size, here.0.low, length-drop e.first K, ap length here.0.there, length-append e.records here.0.behind))

  there : drop (last_epoch K).first K ≡ (last_epoch K).records
  there = here.0.there ∙ (ap (λ X. e.records ++ X) nothing_behind ∙ append-nil e.records)

  inside : F.first - (last_epoch K).first ≤ length (last_epoch K).records
  inside = within_epoch F.first K e fit.fits.count fit.fits.epoch

  may : MayResume s K (last_epoch K) F.first
  may = may_resume s (base_of s K) K F e fit legal spelled

  within : IsWithin (drop (F.first - (last_epoch K).first) (last_epoch K).records)
  within = (IsWithin-parts (take (n - e.first) e.records) (drop (n - e.first) e.records) (subst IsWithin (sym (take-append-drop (n - e.first) e.records)) here.0.within)).1

  by_came : Came F (last_epoch K) (goes_through s F (drop F.first K))
      → ((goes_through s F (drop F.first K)).known.restarted ≡ true → ((goes_through s F (drop F.first K)).rolled ≡ rolled_list (recovered_epoch K)) × ((goes_through s F (drop F.first K)).deleted ≡ deleted_list (recovered_epoch K)))
      → ((goes_through s F (drop F.first K)).known.restarted ≡ false → F.first < length K → recovered_epoch K ≡ last_epoch K)
      → Reached s F.first K (goes_through s F (drop F.first K))
  by_came came told untold = record {
    number = ap (λ (g : Known). g.number) (known_through s n (going_at F) (drop n K)) ∙ (number_through (drop n K) (known_at F.first F.next F.table) ∙ omega (arith, length-drop n K, fit.fits.count));
    next = ap (λ (g : Known). g.next) (known_through s n (going_at F) (drop n K)) ∙ (next_through s (drop n K) (take n K) (known_at F.first F.next F.table) fit.fits.numbers (subst (IsLegalFor s) (sym (take-append-drop n K)) legal) ∙ ap next_after (take-append-drop n K));
    writes = rw (came.image, came.first, came.table, came.seen) (ap (redo_all F.image) (sym (kept_at s K e n may)) ∙ redone_from_image s (base_of s K) K F e fit);
    closes = rw (came.image, came.first, came.table, came.seen) (sym (recovers_alike s K e n may F.image) ∙ recovers_from_image s (base_of s K) K F e fit);
    rolled = rw (came.table, came.seen) (sym (reports_alike s K e n may).0);
    deleted = rw (came.first, came.table, came.seen) (sym (reports_alike s K e n may).1);
    still = λ h.
        let none = empty h in (
          came.image ∙ (ap (redo_all F.image) (sym (drop_none (n - e.first) e.records none)) ∙ (redoes_the_epoch s (base_of s K) K F e fit ∙ ap (redo_all (base_of s K)) none)),
          none,
          came.table ∙ ap table_of (take_none (n - e.first) e.records none),
          came.seen ∙ drop_none (n - e.first) e.records none,
          ap (λ Q. (goes_through s F Q).known.restarted) (drop_all n K (omega (arith, h))),
        );
    told = told;
    untold = untold;
  }
    where
      empty : F.first ≡ length K → (last_epoch K).records ≡ []
      empty h = by_size (length e.records) refl
        where
          by_size : (m : ℕ) → length (last_epoch K).records ≡ m → (last_epoch K).records ≡ []
          by_size zero q = nil_from_length e.records q
          by_size (suc m) q = absurd (omega (arith, some_left s K e n may (omega (arith, q)), length-drop (n - e.first) e.records, size, h))

  full : (r : Record) (E : List Record) → (last_epoch K).records ≡ r ∷ E → recovered_epoch K ≡ last_epoch K
  full r E q = ap (λ Z. recovered_or (cut K) Z) q

  at_or_behind : (last_epoch K).first ≤ F.first → Reached s F.first K (goes_through s F (drop F.first K))
  at_or_behind ge = (by_came came (λ q. absurd (both_ways c.known.restarted not_told q)) untold)
    where
      read : drop F.first K ≡ drop (F.first - (last_epoch K).first) (last_epoch K).records
      read = ap (λ k. drop k K) (omega (arith, ge)) ∙ (sym (drop_more e.first (n - e.first) K) ∙ ap (drop (n - e.first)) there)

      v : Within s F.first (going_at F) (drop (F.first - (last_epoch K).first) (last_epoch K).records) (goes_through s F (drop (F.first - (last_epoch K).first) (last_epoch K).records))
      v = goes_within s n (drop (n - e.first) e.records) (going_at F) within

      came : Came F (last_epoch K) (goes_through s F (drop F.first K))
      came = subst (λ Q. Came F e (goes_through s F Q)) (sym read) (record { image = v.image; first = v.first ∙ omega (arith, ge); table = v.table ∙ fit.fits.table_is; seen = v.seen })

      not_told : (goes_through s F (drop F.first K)).known.restarted ≡ false
      not_told = ap (λ Q. (goes_through s F Q).known.restarted) read ∙ by_rest (drop (n - e.first) e.records) refl
        where
          by_rest : (R : List Record) → drop (F.first - (last_epoch K).first) (last_epoch K).records ≡ R → (goes_through s F (drop (F.first - (last_epoch K).first) (last_epoch K).records)).known.restarted ≡ false
          by_rest [] q = ap (λ Q. (goes_through s F Q).known.restarted) q
          by_rest (r ∷ R) q = v.restarted (omega (arith, ap length q))

      untold : (goes_through s F (drop F.first K)).known.restarted ≡ false → F.first < length K → recovered_epoch K ≡ last_epoch K
      untold q lt = by_records e.records refl
        where
          by_records : (E : List Record) → (last_epoch K).records ≡ E → recovered_epoch K ≡ last_epoch K
          by_records [] none = absurd (omega (arith, size, ap length none, lt, ge))
          by_records (r ∷ E) some = full r E some

  module _ (lt : F.first < (last_epoch K).first) where
    at : (last_epoch K).first ≡ suc F.first
    at = omega (arith, lt, here.1)

    none : F.first - (last_epoch K).first ≡ 0
    none = omega (arith, lt)

    led : (r : Record) × (slice_get K F.first ≡ Some r) × (separates r ≡ true)
    led = subst (IsLed K) at here.0.led

    read : drop F.first K ≡ led.0 ∷ (last_epoch K).records
    read = get_then K n led.0 led.1 ∙ ap (λ Z. led.0 ∷ Z) (ap (λ k. drop k K) (sym at) ∙ there)

    whole : (take F.first K ++ led.0 ∷ []) ++ (last_epoch K).records ≡ K
    whole = append_assoc (take n K) (led.0 ∷ []) e.records ∙ (ap (λ Z. take n K ++ Z) (sym read) ∙ take-append-drop n K)

    abbrev d : Going
    d = going_next s F.first (going_at F) led.0

    v : Within s F.first d (last_epoch K).records (fold (going_next s F.first) d (last_epoch K).records)
    v = goes_within s n e.records d here.0.within

    stays : (r : Record) → (going_next s F.first (going_at F) r).image ≡ F.image
    stays r = rw (eq-eqb n n refl) (by_kind (is_restarted r))
      where
        by_kind : (b : Bool) → cond (b && false) (closed_image s (going_at F)) F.image ≡ F.image
        by_kind true = refl
        by_kind false = refl

    came : Came F (last_epoch K) (goes_through s F (drop F.first K))
    came = subst (λ Q. Came F e (goes_through s F Q)) (sym read) (record {
      image = v.image ∙ stays led.0;
      first = v.first ∙ (ap (λ b. cond b (n + 1) n) led.2 ∙ omega (arith, at));
      table = v.table ∙ (ap (λ b. cond b [] F.table) led.2 ∙ sym (ap (λ k. table_of (take k e.records)) none));
      seen = v.seen ∙ (ap (λ b. cond b [] ([] ++ led.0 ∷ []) ++ e.records) led.2 ∙ sym (ap (λ k. drop k e.records) none));
    })

    by_head : (r : Record) → led.0 ≡ r → separates r ≡ true
        → ((goes_through s F (drop F.first K)).known.restarted ≡ true → ((goes_through s F (drop F.first K)).rolled ≡ rolled_list (recovered_epoch K)) × ((goes_through s F (drop F.first K)).deleted ≡ deleted_list (recovered_epoch K)))
        × ((goes_through s F (drop F.first K)).known.restarted ≡ false → F.first < length K → recovered_epoch K ≡ last_epoch K)
    by_head r is sep = by_records e.records refl
      where
        goes : (E : List Record) → (last_epoch K).records ≡ E → goes_through s F (drop F.first K) ≡ fold (going_next s F.first) (going_next s F.first (going_at F) r) E
        goes E q = ap (goes_through s F) (read ∙ ap (λ X. led.0 ∷ X) q) ∙ ap (λ z. fold (going_next s n) (going_next s n (going_at F) z) E) is

        log_is : (last_epoch K).records ≡ [] → take F.first K ++ r ∷ [] ≡ K
        log_is q = ap (λ z. take n K ++ z ∷ []) (sym is) ∙ (sym (append-nil (take n K ++ led.0 ∷ [])) ∙ (ap (λ X. (take n K ++ led.0 ∷ []) ++ X) (sym q) ∙ whole))

        told_by : (x : Record) → r ≡ x → separates x ≡ true → (last_epoch K).records ≡ [] → is_restarted x ≡ true
            → ((goes_through s F (drop F.first K)).rolled ≡ rolled_list (recovered_epoch K)) × ((goes_through s F (drop F.first K)).deleted ≡ deleted_list (recovered_epoch K))
        told_by (Format i k) a w none q = absurd (cc)
        told_by (Begin t) a w none q = absurd (cc)
        told_by (Forward t b) a w none q = absurd (cc)
        told_by (Done t b z) a w none q = absurd (cc)
        told_by (Commit t) a w none q = absurd (cc)
        told_by (Ended t) a w none q = absurd (cc)
        told_by (Solo t p b) a w none q = absurd (cc)
        told_by AuditBegin a w none q = absurd (cc)
        told_by (AuditClean b) a w none q = absurd (cc)
        told_by (AuditFail b rs) a w none q = absurd (cc)
        told_by (Back t b) a w none q = absurd (cc)
        told_by (Restarted rs ds) a w none q =
            let log : take n K ++ Restarted rs ds ∷ [] ≡ K = ap (λ z. take n K ++ z ∷ []) (sym a) ∙ log_is none in
            let lists = told_lists s (take n K) rs ds (subst (IsLegalFor s) (sym log) legal) in
            let ends : recovered_epoch K ≡ last_epoch (take n K) = ap recovered_epoch (sym log) ∙ recovered_restarted (take n K) rs ds in
            let went : goes_through s F (drop n K) ≡ going_next s n (going_at F) (Restarted rs ds) = goes [] none ∙ ap (going_next s n (going_at F)) a in
            (ap (λ (z : Going). z.rolled) went ∙ (lists.0 ∙ sym (ap rolled_list ends)), ap (λ (z : Going). z.deleted) went ∙ (lists.1 ∙ sym (ap deleted_list ends)))

        untold_by : (x : Record) → r ≡ x → separates x ≡ true → (last_epoch K).records ≡ [] → is_restarted x ≡ false → recovered_epoch K ≡ last_epoch K
        untold_by (Format i k) a w none q =
            let log : take n K ++ Format i k ∷ [] ≡ K = ap (λ z. take n K ++ z ∷ []) (sym a) ∙ log_is none in
            let g = some_of (rules_state s (take n K ++ Format i k ∷ [])) (subst (λ M. IsSome (rules_state s M)) (sym log) legal.rules) in
            let alone : K ≡ Format i k ∷ [] = sym log ∙ ap (λ X. X ++ Format i k ∷ []) (format_first s (take n K) i k g.0 g.1) in
            subst (λ M. recovered_epoch M ≡ last_epoch M) (sym alone) refl
        untold_by (Begin t) a w none q = absurd (cc)
        untold_by (Forward t b) a w none q = absurd (cc)
        untold_by (Done t b z) a w none q = absurd (cc)
        untold_by (Commit t) a w none q = absurd (cc)
        untold_by (Ended t) a w none q = absurd (cc)
        untold_by (Solo t p b) a w none q = absurd (cc)
        untold_by AuditBegin a w none q = absurd (cc)
        untold_by (AuditClean b) a w none q = absurd (cc)
        untold_by (AuditFail b rs) a w none q = absurd (cc)
        untold_by (Back t b) a w none q = absurd (cc)
        untold_by (Restarted rs ds) a w none q = absurd (cc)

        by_records : (E : List Record) → (last_epoch K).records ≡ E
            → ((goes_through s F (drop F.first K)).known.restarted ≡ true → ((goes_through s F (drop F.first K)).rolled ≡ rolled_list (recovered_epoch K)) × ((goes_through s F (drop F.first K)).deleted ≡ deleted_list (recovered_epoch K)))
            × ((goes_through s F (drop F.first K)).known.restarted ≡ false → F.first < length K → recovered_epoch K ≡ last_epoch K)
        by_records [] q =
            let flag : (goes_through s F (drop n K)).known.restarted ≡ is_restarted r = ap (λ (z : Going). z.known.restarted) (goes [] q) in
            ((λ h. told_by r refl sep q (sym flag ∙ h)), (λ h lt'. untold_by r refl sep q (sym flag ∙ h)))
        by_records (x ∷ E) q =
            let flag : (goes_through s F (drop n K)).known.restarted ≡ false = ap (λ Q. (goes_through s F Q).known.restarted) read ∙ v.restarted (omega (arith, ap length q)) in
            ((λ h. absurd (both_ways (goes_through s F (drop n K)).known.restarted flag h)), (λ h lt'. full x E q))

    ahead : Reached s F.first K (goes_through s F (drop F.first K))
    ahead = let w = by_head led.0 refl led.2 in by_came came w.0 w.1

  pub reached : Reached s F.first K (goes_through s F (drop F.first K))
  reached = ⊎_elim (λ lt. ahead lt) (λ ge. at_or_behind ge) (cases_lt F.first (last_epoch K).first)
