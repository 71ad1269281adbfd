-- Whatever stands behind the image in a legal log, a restart comes to what the whole log says.
use Rattle.dali_record.specs.Settled.{redo_all}
use Rattle.std.specs.List.{list_any}
use Rattle.std.specs.Prelude.{IsNone, IsSome, fold, not, sum_by, ◌&&◌, ◌||◌, ◌==◌}
use Rattle.std.proofs.Common.{Bool, List, None, Option, Some, ap, append_assoc, arith, cond, drop, false, length, refl, subst, sym, take, true, ⊎_elim, ℕ, ◌+◌, ◌≡◌, ◌∷◌, ◌++◌, ◌∙◌, ◌<◌, []}
use Rattle.std.proofs.lemmas.Bool.{and_parts, both_ways, cases_lt, false_from_ne_true, eqb-true, or_parts}
use Rattle.std.proofs.lemmas.List.{append-nil, drop-append-le, length-append, take-append-drop, take-append-le}
use Rattle.std.proofs.lemmas.List.Sums.{fold-append, sum_by-append}
use Rattle.dali_lists.proofs.Lists.{drop_front}
use Rattle.dali_lists.proofs.Numbers.{eqb-self}
use Rattle.dali_lists.proofs.Options.{some_of}
use Rattle.dali_geometry.specs.Places.{formatted_image}
use Rattle.dali_geometry.specs.Sizes.{Sizes}
use Rattle.dali_access.proofs.IndexLemmas.Forms.{formatted_is_image, formatted_is_tidy}
use Rattle.dali_record.specs.Damage.{deleted_list, rolled_list}
use Rattle.dali_record.specs.Epochs.{Cut, Epoch, cut, last_epoch, recovered_epoch, separates}
use Rattle.dali_record.specs.Files.{Files, is_restarted, with_batch}
use Rattle.dali_record.specs.Legal.{IsLegalFor, Rules, rules_state}
use Rattle.dali_record.specs.Spelling.{record_length}
use Rattle.dali_record.specs.declared.records.Record.{Record}
use Rattle.dali_record.specs.declared.records.Record.TheVariants.{AuditBegin, AuditClean, AuditFail, Back, Begin, Commit, Done, Ended, Format, Forward, Restarted, Solo}
use Rattle.dali_record.proofs.Batches.{fits_more, fits_restarted, last_push}
use Rattle.dali_record.proofs.EpochRules.{format_first, rules_before}
use Rattle.dali_record.proofs.Pushes.{cut_push}
use Rattle.dali_history.specs.History.{AreSpelled}
use Rattle.dali_history.specs.Recovered.{base_of, recover, recovered_now}
use Rattle.dali_history.proofs.Prefixes.{IsLegalFor-front}
use Rattle.dali_history.proofs.Spelled.{AreSpelled-front}
use Rattle.dali_runs.proofs.CountsLemmas.Tallies.{numbers, numbers_drawn, tallies}
use Rattle.dali_crash.specs.Fitting.{FitsWhole}
use Rattle.dali_history.proofs.HeadlineLemmas.NothingToFree.{recover_nothing}
use Rattle.dali_resume.specs.Again.{Outcome}
use Rattle.dali_resume.specs.Onward.{FitsFront, Going, HandedOut, IsResumed, ListsAreTested, ResumesThrough, closed_image, goes_through, going_at, going_next, hands_on, image_now, verdict_by}
use Rattle.dali_resume.specs.Refused.{follows}
use Rattle.dali_resume.specs.Resumed.{damage_from, deleted_by, rolled_by, scan}
use Rattle.dali_resume.specs.Tests.{Known, allows, first_bad, known_at, known_next, same_numbers, tells_lists, test_next, tests}
use Rattle.dali_resume.proofs.Onward.{Open, Passed, open_deleted, open_recovers, open_rolled, opens, passes_on, plain_closed, restart_rule, open_kept}
use Rattle.dali_resume.proofs.Passes.{passes_tests}
use Rattle.dali_resume.proofs.Reached.{Reached, knows_alike, reached}
use Rattle.dali_resume.proofs.Reading.{IsEnd}
use Rattle.dali_resume.proofs.Walks.{finds_first_bad}

-- ---- the records up to the next one that separates epochs
record Split (Z : List Record) : Type 0 where
  plain : List Record
  rest : List Record
  whole : plain ++ rest ≡ Z
  none : list_any separates plain ≡ false
  end : IsEnd rest

split_at : (Z : List Record) → Split Z
split_at [] = record { plain = []; rest = []; whole = refl; none = refl; end = tt }
split_at (r ∷ Z) = by_test (split_at Z) (separates r) refl
  where
    by_test : Split Z → (b : Bool) → separates r ≡ b → Split (r ∷ Z)
    by_test w true e = record { plain = []; rest = r ∷ Z; whole = refl; none = refl; end = e }
    by_test w false e = record { plain = r ∷ w.plain; rest = w.rest; whole = ap (λ X. r ∷ X) w.whole; none = rw e w.none; end = w.end }

closed_within : (X Y : List Record) → list_any separates Y ≡ false → (cut (X ++ Y)).closed ≡ (cut X).closed
closed_within X [] h = ap (λ M. (cut M).closed) (append-nil X)
closed_within X (r ∷ Y) h =
    ap (λ M. (cut M).closed) (sym (append_assoc X (r ∷ []) Y))
    ∙ (closed_within (X ++ r ∷ []) Y (or_parts (separates r) (list_any separates Y) h).1
    ∙ (ap (λ (c : Cut). c.closed) (cut_push X r) ∙ plain_closed (cut X) r (or_parts (separates r) (list_any separates Y) h).0))

base_within : (s : Sizes) (X Y : List Record) → list_any separates Y ≡ false → base_of s (X ++ Y) ≡ base_of s X
base_within s X Y h = ap (fold (recover s) (formatted_image s)) (closed_within X Y h)

fits_plain : (s : Sizes) (X Y : List Record) (F : Files) → list_any separates Y ≡ false → FitsWhole s (base_of s X) X F (last_epoch X) → FitsWhole s (base_of s (X ++ Y)) (X ++ Y) (with_batch F Y) (last_epoch (X ++ Y))
fits_plain s X Y F h fit = subst (λ base. FitsWhole s base (X ++ Y) (with_batch F Y) (last_epoch (X ++ Y))) (sym (base_within s X Y h)) (record { fits = fits_more s (base_of s X) X Y F h fit.fits; image_whole = fit.image_whole; base_whole = fit.base_whole })

-- ---- the end
image_is : (s : Sizes) (L : List Record) → recover s (base_of s L) (last_epoch L) ≡ image_now s L (last_epoch L).records
image_is s L = by_records (last_epoch L).records refl
  where
    by_records : (E : List Record) → (last_epoch L).records ≡ E → recover s (base_of s L) (last_epoch L) ≡ image_now s L E
    by_records [] q = ap (λ R. recover s (base_of s L) (record { first = (last_epoch L).first; records = R })) q
    by_records (r ∷ E) q = sym (ap (λ Z. recovered_now s (base_of s L) (last_epoch L) Z) q)

passing : (s : Sizes) (n : ℕ) (g : Known) (Q : List Record) → IsSome (tests s n g Q) → (o : Outcome) → verdict_by n o (first_bad s n g Q) ≡ HandedOut o
passing s n g Q some o = by_option (first_bad s n g Q) ((finds_first_bad s n g Q).0.1 some)
  where
    by_option : (b : Option ℕ) → IsNone b → verdict_by n o b ≡ HandedOut o
    by_option None h = refl
    by_option (Some i) h = absurd (cc)

ends_reached : (s : Sizes) (L : List Record) (n : ℕ) (c : Going) → Reached s n L c → IsResumed s L n (hands_on s c)
ends_reached s L n c w = record {
  image = w.closes ∙ image_is s L;
  rolled = λ lt. by_flag c.known.restarted refl lt;
  deleted = λ lt. by_flag_deleted c.known.restarted refl lt;
  unread = λ h. unread (w.still h);
}
  where
    unread : (c.image ≡ base_of s L) × ((last_epoch L).records ≡ []) × (c.known.table ≡ []) × (c.known.seen ≡ []) × (c.known.restarted ≡ false) → ((hands_on s c).rolled ≡ []) × ((hands_on s c).deleted ≡ [])
    unread v = rw (v.4, v.2, v.3) (refl, refl)

    by_flag : (b : Bool) → c.known.restarted ≡ b → n < length L → cond b c.rolled (rolled_by c.known.table c.known.seen) ≡ rolled_list (recovered_epoch L)
    by_flag true q lt = (w.told q).0
    by_flag false q lt = w.rolled ∙ sym (ap rolled_list (w.untold q lt))

    by_flag_deleted : (b : Bool) → c.known.restarted ≡ b → n < length L → cond b c.deleted (deleted_by c.known.table c.known.seen (scan (damage_from c.known.first c.known.seen) c.known.table c.known.seen)) ≡ deleted_list (recovered_epoch L)
    by_flag_deleted true q lt = (w.told q).1
    by_flag_deleted false q lt = w.deleted ∙ sym (ap deleted_list (w.untold q lt))

open_reached : (s : Sizes) (n : ℕ) (L : List Record) (c : Going) → IsLegalFor s L → AreSpelled L → Open s n L c → n < length L → Reached s n L c
open_reached s n L c legal spelled w before = record {
  number = w.related.number ∙ tally.0;
  next = w.related.next ∙ (tally.2 ∙ numbers_drawn L);
  writes = rw (w.table, w.seen, w.first, w.image) (ap (redo_all (base_of s L)) (open_kept s L legal spelled));
  closes = rw (w.table, w.seen, w.first, w.image) (open_recovers s L legal spelled (base_of s L));
  rolled = rw (w.table, w.seen) (open_rolled s L legal spelled);
  deleted = rw (w.table, w.seen, w.first) (open_deleted s L legal spelled);
  still = λ h. absurd (omega (arith, h, before));
  told = λ q. ((w.told q).1, (w.told q).2);
  untold = λ q lt. w.untold q;
}
  where
    tally : (w.rules.count ≡ length L) × (w.rules.weight ≡ sum_by record_length L) × (w.rules.next ≡ numbers L)
    tally = tallies s L w.rules w.rules_are

-- ---- a Restarted right behind an image at the log's end
-- a front with an empty last epoch, behind which a Restarted may stand, is a Format alone
only_format : (s : Sizes) (K : List Record) (rs ds : List ℕ) → IsLegalFor s (K ++ Restarted rs ds ∷ []) → 0 < length K → (last_epoch K).records ≡ [] → (i : ℕ) × (h : ℕ) × (K ≡ Format i h ∷ [])
only_format s K rs ds legal some none = by_last (last_of_log K some)
  where
    last_of_log : (X : List Record) → 0 < length X → (Y : List Record) × (r : Record) × (X ≡ Y ++ r ∷ [])
    last_of_log [] h = absurd (omega (arith, h))
    last_of_log (x ∷ []) h = ([], x, refl)
    last_of_log (x ∷ y ∷ X) h = let w = last_of_log (y ∷ X) (omega arith) in (x ∷ w.0, w.1, ap (λ Z. x ∷ Z) w.2)

    never : (E : List Record) (r : Record) → E ++ r ∷ [] ≡ [] → ⊥
    never [] r q = cc
    never (x ∷ E) r q = cc

    by_last : (Y : List Record) × (r : Record) × (K ≡ Y ++ r ∷ []) → (i : ℕ) × (h : ℕ) × (K ≡ Format i h ∷ [])
    by_last w = by_kind w.1 w.2
      where
        plain : {A : Type 0} (r : Record) → separates r ≡ false → K ≡ w.0 ++ r ∷ [] → A
        plain r sep is = absurd (never (last_epoch w.0).records r (sym (ap (λ (z : Epoch). z.records) (last_push w.0 r sep)) ∙ (ap (λ M. (last_epoch M).records) (sym is) ∙ none)))

        by_kind : (r : Record) → K ≡ w.0 ++ r ∷ [] → (i : ℕ) × (h : ℕ) × (K ≡ Format i h ∷ [])
        by_kind (Format i h) is =
            let front : IsLegalFor s K = IsLegalFor-front s K (Restarted rs ds ∷ []) legal in
            let g = some_of (rules_state s (w.0 ++ Format i h ∷ [])) (subst (λ M. IsSome (rules_state s M)) is front.rules) in
            (i, h, is ∙ ap (λ X. X ++ Format i h ∷ []) (format_first s w.0 i h g.0 g.1))
        by_kind (Begin t) is = plain (Begin t) refl is
        by_kind (Forward t b) is = plain (Forward t b) refl is
        by_kind (Done t c a) is = plain (Done t c a) refl is
        by_kind (Commit t) is = plain (Commit t) refl is
        by_kind (Ended t) is = plain (Ended t) refl is
        by_kind (Solo t p b) is = plain (Solo t p b) refl is
        by_kind AuditBegin is = plain AuditBegin refl is
        by_kind (AuditClean b) is = plain (AuditClean b) refl is
        by_kind (AuditFail b fs) is = plain (AuditFail b fs) refl is
        by_kind (Restarted us vs) is =
            let h = some_of (rules_state s (K ++ Restarted rs ds ∷ [])) legal.rules in
            let b = rules_before s K (Restarted rs ds) h.0 h.1 in
            let a = rules_before s w.0 (Restarted us vs) b.0 (subst (λ M. rules_state s M ≡ Some b.0) is b.1) in
            let twice : b.0.restarted ≡ true = ap (λ (z : Rules). z.restarted) (restart_rule s a.0 b.0 us vs a.2).1 in
            absurd (both_ways b.0.restarted (restart_rule s b.0 h.0 rs ds b.2).0 twice)
        by_kind (Back t b) is = plain (Back t b) refl is

-- ---- all of it
module _ (s : Sizes) (some_index : 0 < s.index) (some_heap : 0 < s.heap) (K : List Record) (F : Files) (fit : FitsWhole s (base_of s K) K F (last_epoch K)) (some : 0 < length K) where
  abbrev n : ℕ
  n = F.first

  abbrev c : Going
  c = goes_through s F (drop F.first K)

  -- nothing stands behind the epoch
  at_end : IsLegalFor s K → AreSpelled K → IsSome (tests s F.first (known_at F.first F.next F.table) (drop F.first K)) × Reached s F.first K (goes_through s F (drop F.first K))
  at_end legal spelled = (passes_tests s (base_of s K) K F (last_epoch K) fit legal spelled, reached s K F fit legal spelled)

  -- a Restarted does, and what follows it
  module _ (rs ds : List ℕ) (Z : List Record) (legal : IsLegalFor s (K ++ Restarted rs ds ∷ Z)) (spelled : AreSpelled (K ++ Restarted rs ds ∷ Z)) where
    abbrev M : List Record
    M = K ++ Restarted rs ds ∷ []

    parts : (K ++ Restarted rs ds ∷ []) ++ Z ≡ K ++ Restarted rs ds ∷ Z
    parts = append_assoc K (Restarted rs ds ∷ []) Z

    legal_next : IsLegalFor s (K ++ Restarted rs ds ∷ [])
    legal_next = IsLegalFor-front s M Z (subst (IsLegalFor s) (sym parts) legal)

    spelled_next : AreSpelled (K ++ Restarted rs ds ∷ [])
    spelled_next = AreSpelled-front M Z (subst AreSpelled (sym parts) spelled)

    legal_here : IsLegalFor s K
    legal_here = IsLegalFor-front s K (Restarted rs ds ∷ Z) legal

    spelled_here : AreSpelled K
    spelled_here = AreSpelled-front K (Restarted rs ds ∷ Z) spelled

    w : Reached s F.first K (goes_through s F (drop F.first K))
    w = reached s K F fit legal_here spelled_here

    fit_next : F.first < length K → FitsWhole s (base_of s K) (K ++ Restarted rs ds ∷ []) (with_batch F (Restarted rs ds ∷ [])) (last_epoch K)
    fit_next lt = record { fits = fits_restarted s (base_of s K) K rs ds F lt fit.fits; image_whole = fit.image_whole; base_whole = fit.base_whole }

    -- its lists aren't tested right at the image's place
    tested : IsSome (tests s F.first (known_at F.first F.next F.table) (drop F.first (K ++ Restarted rs ds ∷ [])))
    tested = ⊎_elim
        (λ lt. passes_tests s (base_of s K) M (with_batch F (Restarted rs ds ∷ [])) (last_epoch K) (fit_next lt) legal_next spelled_next)
        (λ ge. at_once (omega (arith, ge, fit.fits.count)))
        (cases_lt F.first (length K))
      where
        at_once : F.first ≡ length K → IsSome (tests s F.first (known_at F.first F.next F.table) (drop F.first (K ++ Restarted rs ds ∷ [])))
        at_once at =
            let alone : drop F.first (K ++ Restarted rs ds ∷ []) ≡ Restarted rs ds ∷ [] = ap (λ m. drop m (K ++ Restarted rs ds ∷ [])) at ∙ drop_front K (Restarted rs ds ∷ []) in
            rw (alone, eqb-self F.first) refl

    base_format : (i h : ℕ) → K ≡ Format i h ∷ [] → base_of s K ≡ formatted_image s
    base_format i h is = ap (base_of s) is

    as_formatted : (im : List (List ℕ)) → im ≡ formatted_image s → (last_epoch K).records ≡ [] → im ≡ recover s im (last_epoch K)
    as_formatted im is none = subst (λ z. z ≡ recover s z (last_epoch K)) (sym is) (sym (recover_nothing s (formatted_image s) (last_epoch K) (formatted_is_image s some_index some_heap) (formatted_is_tidy s) none))

    image : (going_next s F.first (goes_through s F (drop F.first K)) (Restarted rs ds)).image ≡ recover s (base_of s K) (last_epoch K)
    image = by_place (c.known.number == n) refl
      where
        by_place : (b : Bool) → ((goes_through s F (drop F.first K)).known.number == F.first) ≡ b → cond (not b) (closed_image s (goes_through s F (drop F.first K))) (goes_through s F (drop F.first K)).image ≡ recover s (base_of s K) (last_epoch K)
        by_place false q = w.closes
        by_place true q =
            let at : F.first ≡ length K = omega (arith, eqb-true c.known.number n q, w.number) in
            let still = w.still at in
            let format = only_format s K rs ds legal_next some still.1 in
            still.0 ∙ as_formatted (base_of s K) (base_format format.0 format.1 format.2) still.1

    opened : Open s F.first (K ++ Restarted rs ds ∷ []) (going_next s F.first (goes_through s F (drop F.first K)) (Restarted rs ds))
    opened = opens s n K c rs ds legal_next w.number w.next (omega (arith, fit.fits.count)) image

    p : Passed s F.first (K ++ Restarted rs ds ∷ []) (going_next s F.first (goes_through s F (drop F.first K)) (Restarted rs ds)) Z
    p = passes_on s n Z M (going_next s n c (Restarted rs ds)) opened (subst (IsLegalFor s) (sym parts) legal) (subst AreSpelled (sym parts) spelled)

    read : drop F.first (K ++ Restarted rs ds ∷ []) ≡ drop F.first K ++ Restarted rs ds ∷ []
    read = drop-append-le n K (Restarted rs ds ∷ []) fit.fits.count

    read_all : drop F.first (K ++ Restarted rs ds ∷ Z) ≡ drop F.first K ++ Restarted rs ds ∷ Z
    read_all = drop-append-le n K (Restarted rs ds ∷ Z) fit.fits.count

    went : goes_through s F (drop F.first (K ++ Restarted rs ds ∷ Z)) ≡ fold (going_next s F.first) (going_next s F.first (goes_through s F (drop F.first K)) (Restarted rs ds)) Z
    went = ap (goes_through s F) read_all ∙ fold-append (going_next s n) (going_at F) (drop n K) (Restarted rs ds ∷ Z)

    tested_all : IsSome (tests s F.first (known_at F.first F.next F.table) (drop F.first (K ++ Restarted rs ds ∷ Z)))
    tested_all = by_state (tests s n (known_at F.first F.next F.table) (drop n M)) refl tested
      where
        by_state : (o : Option Known) → tests s F.first (known_at F.first F.next F.table) (drop F.first (K ++ Restarted rs ds ∷ [])) ≡ o → IsSome o → IsSome (tests s F.first (known_at F.first F.next F.table) (drop F.first (K ++ Restarted rs ds ∷ Z)))
        by_state None e h = absurd (cc)
        by_state (Some k) e h =
            let same : (goes_through s F (drop n M)).known ≡ k = knows_alike s F (drop n M) k e in
            let there : goes_through s F (drop n M) ≡ going_next s n c (Restarted rs ds) = ap (goes_through s F) read ∙ fold-append (going_next s n) (going_at F) (drop n K) (Restarted rs ds ∷ []) in
            let known : k ≡ known_next c.known (Restarted rs ds) = sym same ∙ ap (λ (z : Going). z.known) there in
            let all : tests s n (known_at F.first F.next F.table) (drop n (K ++ Restarted rs ds ∷ Z)) ≡ fold (test_next s n) (Some k) Z =
            ap (tests s n (known_at F.first F.next F.table)) (read_all ∙ (sym (append_assoc (drop n K) (Restarted rs ds ∷ []) Z) ∙ ap (λ X. X ++ Z) (sym read)))
            ∙ (fold-append (test_next s n) (Some (known_at F.first F.next F.table)) (drop n M) Z ∙ ap (λ o. fold (test_next s n) o Z) e) in
            subst IsSome (sym (all ∙ ap (λ g. fold (test_next s n) (Some g) Z) known)) p.tested

    behind : IsSome (tests s F.first (known_at F.first F.next F.table) (drop F.first (K ++ Restarted rs ds ∷ Z))) × Reached s F.first (K ++ Restarted rs ds ∷ Z) (goes_through s F (drop F.first (K ++ Restarted rs ds ∷ Z)))
    behind = (
      tested_all,
      subst (Reached s F.first (K ++ Restarted rs ds ∷ Z)) (sym went)
          (open_reached s F.first (K ++ Restarted rs ds ∷ Z) _ legal spelled (subst (λ X. Open s F.first X (fold (going_next s F.first) (going_next s F.first (goes_through s F (drop F.first K)) (Restarted rs ds)) Z)) parts p.ends)
          (omega (arith, fit.fits.count, length-append K (Restarted rs ds ∷ Z)))),
    )

  -- by what stands behind
  pub onward : (Z : List Record) → IsEnd Z → IsLegalFor s (K ++ Z) → AreSpelled (K ++ Z) → IsSome (tests s F.first (known_at F.first F.next F.table) (drop F.first (K ++ Z))) × Reached s F.first (K ++ Z) (goes_through s F (drop F.first (K ++ Z)))
  onward [] end legal spelled =
      let same : K ++ [] ≡ K = append-nil K in
      subst (λ X. IsSome (tests s F.first (known_at F.first F.next F.table) (drop F.first X)) × Reached s F.first X (goes_through s F (drop F.first X))) (sym same) (at_end (subst (IsLegalFor s) same legal) (subst AreSpelled same spelled))
  onward (Format i h ∷ Z) end legal spelled =
      let parts : (K ++ Format i h ∷ []) ++ Z ≡ K ++ Format i h ∷ Z = append_assoc K (Format i h ∷ []) Z in
      let front : IsLegalFor s (K ++ Format i h ∷ []) = IsLegalFor-front s (K ++ Format i h ∷ []) Z (subst (IsLegalFor s) (sym parts) legal) in
      let g = some_of (rules_state s (K ++ Format i h ∷ [])) front.rules in
      absurd (omega (arith, some, ap length (format_first s K i h g.0 g.1)))
  onward (Begin t ∷ Z) end legal spelled = absurd (cc)
  onward (Forward t b ∷ Z) end legal spelled = absurd (cc)
  onward (Done t b a ∷ Z) end legal spelled = absurd (cc)
  onward (Commit t ∷ Z) end legal spelled = absurd (cc)
  onward (Ended t ∷ Z) end legal spelled = absurd (cc)
  onward (Solo t p b ∷ Z) end legal spelled = absurd (cc)
  onward (AuditBegin ∷ Z) end legal spelled = absurd (cc)
  onward (AuditClean b ∷ Z) end legal spelled = absurd (cc)
  onward (AuditFail b fs ∷ Z) end legal spelled = absurd (cc)
  onward (Restarted rs ds ∷ Z) end legal spelled = behind rs ds Z legal spelled
  onward (Back t b ∷ Z) end legal spelled = absurd (cc)

-- the tests pass to the log's end, and where a restart stands then
pub through : (s : Sizes) (K Z : List Record) (F : Files) → 0 < s.index → 0 < s.heap → FitsFront s K F → 0 < length K → IsLegalFor s (K ++ Z) → AreSpelled (K ++ Z)
    → IsSome (tests s F.first (known_at F.first F.next F.table) (drop F.first (K ++ Z))) × Reached s F.first (K ++ Z) (goes_through s F (drop F.first (K ++ Z)))
through s K Z F some_index some_heap fit some legal spelled =
    subst (λ L. IsSome (tests s F.first (known_at F.first F.next F.table) (drop F.first L)) × Reached s F.first L (goes_through s F (drop F.first L))) parts
    (onward s some_index some_heap (K ++ w.plain) (with_batch (record F { batches = fit.0 }) w.plain) (fits_plain s K w.plain (record F { batches = fit.0 }) w.none fit.1) (omega (arith, some, length-append K w.plain)) w.rest w.end
    (subst (IsLegalFor s) (sym parts) legal) (subst AreSpelled (sym parts) spelled))
  where
    w : Split Z
    w = split_at Z

    parts : (K ++ w.plain) ++ w.rest ≡ K ++ Z
    parts = append_assoc K w.plain w.rest ∙ ap (λ X. K ++ X) w.whole

pub resumes_through : ResumesThrough
resumes_through s K Z F some_index some_heap fit some legal spelled =
    let w = through s K Z F some_index some_heap fit some legal spelled in record {
      verdict = passing s F.first (known_at F.first F.next F.table) (drop F.first (K ++ Z)) w.0 (hands_on s (goes_through s F (drop F.first (K ++ Z))));
      resumed = ends_reached s (K ++ Z) F.first (goes_through s F (drop F.first (K ++ Z))) w.1;
      number = w.1.number;
      next = w.1.next;
      weight = omega (arith, fit.1.fits.lengths, front, whole);
    }
  where
    front : sum_by record_length (take F.first (K ++ Z)) ≡ sum_by record_length (take F.first K)
    front = ap (sum_by record_length) (take-append-le F.first K Z fit.1.fits.count)

    whole : sum_by record_length (K ++ Z) ≡ sum_by record_length (take F.first (K ++ Z)) + sum_by record_length (drop F.first (K ++ Z))
    whole = ap (sum_by record_length) (sym (take-append-drop F.first (K ++ Z))) ∙ sum_by-append record_length (take F.first (K ++ Z)) (drop F.first (K ++ Z))

-- ---- the lists of a Restarted that may follow
pub numbers_same : (xs ys : List ℕ) → same_numbers xs ys ≡ true → xs ≡ ys
numbers_same [] [] h = refl
numbers_same [] (y ∷ ys) h = absurd (cc)
numbers_same (x ∷ xs) [] h = absurd (cc)
numbers_same (x ∷ xs) (y ∷ ys) h =
    let w = and_parts (x == y) (same_numbers xs ys) h in
    ap (λ z. z ∷ xs) (eqb-true x y w.0) ∙ ap (λ zs. y ∷ zs) (numbers_same xs ys w.1)

pub lists_are_tested : ListsAreTested
lists_are_tested s K Z F rs ds some_index some_heap fit some legal spelled before follows = (numbers_same rs (rolled_by g.table g.seen) both.0 ∙ w.rolled, numbers_same ds (deleted_by g.table g.seen (scan (damage_from g.first g.seen) g.table g.seen)) both.1 ∙ w.deleted)
  where
    g : Known
    g = (goes_through s F (drop F.first (K ++ Z))).known

    w : Reached s F.first (K ++ Z) (goes_through s F (drop F.first (K ++ Z)))
    w = (through s K Z F some_index some_heap fit some legal spelled).1

    away : ((goes_through s F (drop F.first (K ++ Z))).known.number == F.first) ≡ false
    away = false_from_ne_true ((goes_through s F (drop F.first (K ++ Z))).known.number == F.first) (λ q. omega (arith, eqb-true (goes_through s F (drop F.first (K ++ Z))).known.number F.first q, w.number, before))

    tells : (a : Bool) → (a || tells_lists (goes_through s F (drop F.first (K ++ Z))).known rs ds) ≡ true → a ≡ false → tells_lists (goes_through s F (drop F.first (K ++ Z))).known rs ds ≡ true
    tells true h q = absurd (cc)
    tells false h q = h

    allowed : (not (goes_through s F (drop F.first (K ++ Z))).known.restarted && (((goes_through s F (drop F.first (K ++ Z))).known.number == F.first) || tells_lists (goes_through s F (drop F.first (K ++ Z))).known rs ds)) ≡ true
    allowed = (and_parts (allows s F.first g (Restarted rs ds)) (not g.failed || is_restarted (Restarted rs ds)) follows).0

    both : (same_numbers rs (rolled_by (goes_through s F (drop F.first (K ++ Z))).known.table (goes_through s F (drop F.first (K ++ Z))).known.seen) ≡ true)
        × (same_numbers ds (deleted_by (goes_through s F (drop F.first (K ++ Z))).known.table (goes_through s F (drop F.first (K ++ Z))).known.seen (scan (damage_from (goes_through s F (drop F.first (K ++ Z))).known.first (goes_through s F (drop F.first (K ++ Z))).known.seen) (goes_through s F (drop F.first (K ++ Z))).known.table (goes_through s F (drop F.first (K ++ Z))).known.seen)) ≡ true)
    both = and_parts (same_numbers rs (rolled_by g.table g.seen)) (same_numbers ds (deleted_by g.table g.seen (scan (damage_from g.first g.seen) g.table g.seen)))
        (tells (g.number == F.first) (and_parts (not g.restarted) ((g.number == F.first) || tells_lists g rs ds) allowed).1 away)
