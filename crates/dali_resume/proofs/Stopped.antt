-- From a history a restart hands out what is right however many restarts the log has, from a format on; and it may be stopped and made again.
use Rattle.std.specs.Prelude.{flat_map, not}
use Rattle.std.proofs.Common.{Bool, List, None, Some, ap, append_assoc, arith, cond, drop, false, inl, inr, length, refl, subst, sym, true, ℕ, ◌≡◌, ◌∷◌, ◌++◌, ◌∙◌, ◌⊎◌, ◌≤◌, ◌<◌, []}
use Rattle.std.proofs.lemmas.Bool.{cases_lt, eq-eqb}
use Rattle.std.proofs.lemmas.List.{append-nil, length-append}
use Rattle.std.proofs.lemmas.List.Concat.{flat_map-append}
use Rattle.dali_geometry.specs.Places.{formatted_image}
use Rattle.dali_geometry.specs.Sizes.{Sizes}
use Rattle.dali_access.proofs.IndexLemmas.Forms.{formatted_is_image, formatted_is_tidy}
use Rattle.dali_record.specs.Damage.{deleted_list, rolled_list}
use Rattle.dali_record.specs.Epochs.{cut, last_epoch, recovered_epoch, recovered_or}
use Rattle.dali_record.specs.Legal.{IsLegalFor, sizes_of}
use Rattle.dali_record.specs.declared.records.Record.{Record}
use Rattle.dali_record.specs.declared.records.Record.TheVariants.{Format, Restarted}
use Rattle.dali_record.proofs.Batches.{recovered_restarted}
use Rattle.dali_history.specs.History.{AreSpelled, IsHistory, RestartGives}
use Rattle.dali_history.specs.Recovered.{base_of, freed, recovered, recovered_now}
use Rattle.dali_history.proofs.Prefixes.{sizes_of-front}
use Rattle.dali_history.proofs.Restarts.{IsHistory-restarted, recovered-same, sizes_of-restarted}
use Rattle.dali_history.proofs.Bases.{base_of-restarted}
use Rattle.dali_crash.specs.Fitting.{FitsWhole}
use Rattle.dali_crash.specs.Starts.{IsRestarted}
use Rattle.dali_runs.specs.Images.{FitsBut}
use Rattle.dali_runs.specs.Run.{log_in}
use Rattle.dali_crash.proofs.Fitting.{but_is_whole}
use Rattle.dali_crash.proofs.Starts.{formatted_fits, fresh_fits}
use Rattle.dali_history.proofs.HeadlineLemmas.EpochByEpoch.{recovered_holds}
use Rattle.dali_history.proofs.HeadlineLemmas.Headline.{restart_is_right}
use Rattle.dali_history.proofs.HeadlineLemmas.NothingToFree.{freed_tidy}
use Rattle.dali_resume.specs.Again.{Outcome, closed_log, closing, outcome_is, turned}
use Rattle.dali_resume.specs.Onward.{CrashIsAnswered, FormatFits, FormatHandsOut, Going, HandedOut, IsRightAtEnd, RestartsOnward, ResumesHistories, closed_image, formatted_outcome, goes_through, going_at, going_next, hands_on, history_says, image_now, verdict_by, verdict_of}
use Rattle.dali_resume.specs.Tests.{first_bad, known_at, may_follow}
use Rattle.dali_resume.proofs.Again.{turned_is_fresh}
use Rattle.dali_resume.proofs.Reached.{reached}
use Rattle.dali_resume.proofs.Through.{resumes_through}

abbrev none_at_all : List ℕ
none_at_all = []

same_outcome : (a b : Outcome) → a.image ≡ b.image → a.rolled ≡ b.rolled → a.deleted ≡ b.deleted → a ≡ b
same_outcome a b i r d =
    ap (λ z. record { image = z; rolled = a.rolled; deleted = a.deleted }) i
    ∙ (ap (λ z. record { image = b.image; rolled = z; deleted = a.deleted }) r
    ∙ ap (λ z. record { image = b.image; rolled = b.rolled; deleted = z }) d)

pub resumes_histories : ResumesHistories
resumes_histories K Z F history some front lt = (right, (restart_is_right L history).gives)
  where
    L : List Record
    L = K ++ Z

    sizes : sizes_of (K ++ Z) ≡ sizes_of K
    sizes = sizes_of-front K Z some

    s : Sizes
    s = sizes_of K

    w : IsRightAtEnd (sizes_of K) (K ++ Z) F (goes_through (sizes_of K) F (drop F.first (K ++ Z)))
    w = resumes_through (sizes_of K) K Z F (subst (λ z. 0 < z.index) sizes history.some_index) (subst (λ z. 0 < z.heap) sizes history.some_heap) front some (subst (λ z. IsLegalFor z (K ++ Z)) sizes history.legal) history.spelled

    by_records : (E : List Record) → (last_epoch (K ++ Z)).records ≡ E → image_now (sizes_of K) (K ++ Z) E ≡ recovered (sizes_of (K ++ Z)) (K ++ Z)
    by_records (r ∷ E) q = sym (ap (λ z. recovered z (K ++ Z)) sizes)
    by_records [] q =
        let same : recovered (sizes_of L) L ≡ base_of (sizes_of L) L = ap (λ X. recovered_now (sizes_of L) (base_of (sizes_of L) L) (last_epoch L) X) q in
        let holds = (recovered_holds L history).2 in
        sym (ap (λ z. freed z (base_of z L)) sizes) ∙ (ap (freed (sizes_of L)) (sym same) ∙ freed_tidy (sizes_of L) (recovered (sizes_of L) L) holds.image_is holds.tidy)

    right : verdict_of (sizes_of K) F (K ++ Z) ≡ HandedOut (history_says (K ++ Z))
    right = w.verdict ∙ ap HandedOut (same_outcome (hands_on (sizes_of K) (goes_through (sizes_of K) F (drop F.first (K ++ Z)))) (history_says (K ++ Z)) (w.resumed.image ∙ by_records (last_epoch (K ++ Z)).records refl) (w.resumed.rolled lt) (w.resumed.deleted lt))

-- ---- a format

pub format_fits : FormatFits
format_fits s F some_index some_heap is = (
  F.batches,
  but_is_whole s (λ k. formatted_image s) (λ q. false) (Format s.index s.heap ∷ []) F (last_epoch (Format s.index s.heap ∷ []))
      (formatted_fits s (λ k. formatted_image s) (λ q. false) F is refl (formatted_is_image s some_index some_heap).count) (formatted_is_image s some_index some_heap).count (λ q h. refl),
)

-- ---- a restart that is stopped

pub restarts_onward : RestartsOnward
restarts_onward K Z F r E history some front spell full = record {
  first = subst (λ z. verdict_of z F L ≡ HandedOut (outcome_is L)) (sym sizes) (this.0 ∙ ap HandedOut says);
  logged = subst (λ z. verdict_of z F (closed_log L) ≡ HandedOut (outcome_is L)) (sym sizes) (ap (verdict_of (sizes_of K) F) parts ∙ (next.0 ∙ ap HandedOut (ap history_says (sym parts) ∙ says_closed)));
  turned_fits = turned_fits;
  turned_again = subst (λ z. verdict_of z (turned L F) (closed_log L) ≡ HandedOut (outcome_is L)) same_sizes (ap (verdict_of (sizes_of (closed_log L)) (turned L F)) (sym (append-nil (closed_log L))) ∙ (last.0 ∙ ap HandedOut (ap history_says (append-nil (closed_log L)) ∙ says_closed)));
}
  where
    L : List Record
    L = K ++ Z

    rs : List ℕ
    rs = rolled_list (last_epoch (K ++ Z))

    ds : List ℕ
    ds = deleted_list (last_epoch (K ++ Z))

    sizes : sizes_of (K ++ Z) ≡ sizes_of K
    sizes = sizes_of-front K Z some

    recovered_is : recovered_epoch (K ++ Z) ≡ last_epoch (K ++ Z)
    recovered_is = ap (λ X. recovered_or (cut L) X) full

    says : history_says (K ++ Z) ≡ outcome_is (K ++ Z)
    says = ap (λ e. record { image = recovered (sizes_of L) L; rolled = rolled_list e; deleted = deleted_list e }) recovered_is

    -- some record stands behind the image
    before : F.first < length (K ++ Z)
    before = by_rest Z refl
      where
        by_rest : (X : List Record) → Z ≡ X → F.first < length (K ++ Z)
        by_rest (x ∷ X) q = omega (arith, front.1.fits.count, length-append K Z, ap length q)
        by_rest [] q = by_size (cases_lt F.first (length K))
          where
            same : K ++ Z ≡ K
            same = ap (λ X. K ++ X) q ∙ append-nil K

            by_size : (F.first < length K) ⊎ (length K ≤ F.first) → F.first < length (K ++ Z)
            by_size (inl lt) = omega (arith, lt, ap length same)
            by_size (inr ge) =
                let w = reached (sizes_of K) K (record F { batches = front.0 }) front.1 (subst (IsLegalFor (sizes_of K)) same (subst (λ z. IsLegalFor z (K ++ Z)) sizes history.legal)) (subst AreSpelled same history.spelled) in
                let none = (w.still (omega (arith, ge, front.1.fits.count))).1 in
                absurd (omega (arith, ap length full, ap (λ M. length (last_epoch M).records) same, ap length none))

    this : (verdict_of (sizes_of K) F (K ++ Z) ≡ HandedOut (history_says (K ++ Z))) × RestartGives (K ++ Z) (history_says (K ++ Z)).image (history_says (K ++ Z)).rolled (history_says (K ++ Z)).deleted
    this = resumes_histories K Z F history some front before

    later : IsHistory (closed_log (K ++ Z))
    later = IsHistory-restarted L r E rs ds history full refl refl

    parts : closed_log (K ++ Z) ≡ K ++ (Z ++ closing (K ++ Z) ∷ [])
    parts = append_assoc K Z (closing L ∷ [])

    next : (verdict_of (sizes_of K) F (K ++ (Z ++ closing (K ++ Z) ∷ [])) ≡ HandedOut (history_says (K ++ (Z ++ closing (K ++ Z) ∷ [])))) × RestartGives (K ++ (Z ++ closing (K ++ Z) ∷ [])) (history_says (K ++ (Z ++ closing (K ++ Z) ∷ []))).image (history_says (K ++ (Z ++ closing (K ++ Z) ∷ []))).rolled (history_says (K ++ (Z ++ closing (K ++ Z) ∷ []))).deleted
    next = resumes_histories K (Z ++ closing L ∷ []) F (subst IsHistory parts later) some front (omega (arith, before, sym (ap length parts), length-append L (closing L ∷ [])))

    same_sizes : sizes_of (closed_log (K ++ Z)) ≡ sizes_of (K ++ Z)
    same_sizes = sizes_of-restarted L rs ds

    again : recovered (sizes_of (closed_log (K ++ Z))) (closed_log (K ++ Z)) ≡ recovered (sizes_of (K ++ Z)) (K ++ Z)
    again = ap (λ z. recovered z (closed_log L)) same_sizes ∙ recovered-same (sizes_of L) L r E rs ds full

    says_closed : history_says (closed_log (K ++ Z)) ≡ outcome_is (K ++ Z)
    says_closed = ap (λ i. record { image = i; rolled = rolled_list (recovered_epoch (closed_log L)); deleted = deleted_list (recovered_epoch (closed_log L)) }) again
        ∙ ap (λ e. record { image = recovered (sizes_of L) L; rolled = rolled_list e; deleted = deleted_list e }) (recovered_restarted L rs ds)

    log_is : flat_map (λ b. b) (turned (K ++ Z) F).batches ≡ closed_log (K ++ Z)
    log_is = flat_map-append (λ b. b) F.batches ((closing L ∷ []) ∷ []) ∙ ap (λ X. X ++ closing L ∷ []) spell

    restarted : IsRestarted (closed_log (K ++ Z)) (turned (K ++ Z) F)
    restarted = turned_is_fresh L F r E full spell

    but : FitsBut (sizes_of (closed_log (K ++ Z))) (λ k. recovered (sizes_of (K ++ Z)) (K ++ Z)) (λ q. false) (flat_map (λ b. b) (turned (K ++ Z) F).batches) (turned (K ++ Z) F) (last_epoch (flat_map (λ b. b) (turned (K ++ Z) F).batches))
    but = fresh_fits (λ k. recovered (sizes_of L) L) (closed_log L) (turned L F) (λ q. false) (sym again) (record { log = log_is; kind = inr restarted })

    turned_fits : FitsWhole (sizes_of (K ++ Z)) (recovered (sizes_of (K ++ Z)) (K ++ Z)) (closed_log (K ++ Z)) (turned (K ++ Z) F) (last_epoch (closed_log (K ++ Z)))
    turned_fits =
        subst (λ M. FitsWhole (sizes_of L) (recovered (sizes_of L) L) M (turned L F) (last_epoch M)) log_is
        (but_is_whole (sizes_of L) (λ k. recovered (sizes_of L) L) (λ q. false) (flat_map (λ b. b) (turned L F).batches) (turned L F) (last_epoch (flat_map (λ b. b) (turned L F).batches))
        (subst (λ z. FitsBut z (λ k. recovered (sizes_of L) L) (λ q. false) (flat_map (λ b. b) (turned L F).batches) (turned L F) (last_epoch (flat_map (λ b. b) (turned L F).batches))) same_sizes but)
        (recovered_holds L history).2.image_is.count (λ q h. refl))

    -- the log and the image as they stand then
    base_is : base_of (sizes_of (closed_log (K ++ Z))) (closed_log (K ++ Z)) ≡ recovered (sizes_of (K ++ Z)) (K ++ Z)
    base_is = ap (λ z. base_of z (closed_log L)) same_sizes ∙ (base_of-restarted (sizes_of L) L rs ds ∙ sym (ap (λ X. recovered_now (sizes_of L) (base_of (sizes_of L) L) (last_epoch L) X) full))

    last : (verdict_of (sizes_of (closed_log (K ++ Z))) (turned (K ++ Z) F) (closed_log (K ++ Z) ++ []) ≡ HandedOut (history_says (closed_log (K ++ Z) ++ [])))
        × RestartGives (closed_log (K ++ Z) ++ []) (history_says (closed_log (K ++ Z) ++ [])).image (history_says (closed_log (K ++ Z) ++ [])).rolled (history_says (closed_log (K ++ Z) ++ [])).deleted
    last = resumes_histories (closed_log L) [] (turned L F) (subst IsHistory (sym (append-nil (closed_log L))) later) (omega (arith, length-append L (closing L ∷ []))) ((turned L F).batches, fits)
        (omega (arith, length-append L (closing L ∷ []), ap length (append-nil (closed_log L))))
      where
        fits : FitsWhole (sizes_of (closed_log (K ++ Z))) (base_of (sizes_of (closed_log (K ++ Z))) (closed_log (K ++ Z))) (closed_log (K ++ Z)) (turned (K ++ Z) F) (last_epoch (closed_log (K ++ Z)))
        fits = subst (λ b. FitsWhole (sizes_of (closed_log L)) b (closed_log L) (turned L F) (last_epoch (closed_log L))) (sym base_is)
            (subst (λ z. FitsWhole z (recovered (sizes_of L) L) (closed_log L) (turned L F) (last_epoch (closed_log L))) (sym same_sizes) turned_fits)

-- ---- a format, and a crash
pub format_hands_out : FormatHandsOut
format_hands_out s F some_index some_heap is = (alone, behind)
  where
    tidy : freed s (formatted_image s) ≡ formatted_image s
    tidy = freed_tidy s (formatted_image s) (formatted_is_image s some_index some_heap) (formatted_is_tidy s)

    outcome : (d : Going) → d.image ≡ formatted_image s → d.known.table ≡ [] → d.known.seen ≡ [] → d.rolled ≡ [] → d.deleted ≡ [] → hands_on s d ≡ formatted_outcome s
    outcome d image table seen rolled deleted = same_outcome (hands_on s d) (formatted_outcome s) (rw (table, seen, image) tidy) (rw (table, seen, rolled) (none d.known.restarted)) (rw (table, seen, deleted) (none d.known.restarted))
      where
        none : (b : Bool) → cond b (none_at_all) (none_at_all) ≡ none_at_all
        none true = refl
        none false = refl

    alone : verdict_of s F (Format s.index s.heap ∷ []) ≡ HandedOut (formatted_outcome s)
    alone = ap (λ n. verdict_by F.first (hands_on s (goes_through s F (drop n (Format s.index s.heap ∷ [])))) (first_bad s F.first (known_at F.first F.next F.table) (drop n (Format s.index s.heap ∷ [])))) is.first
        ∙ ap HandedOut (outcome (going_at F) is.image is.table refl refl refl)

    still : (going_next s F.first (going_at F) (Restarted [] [])).image ≡ formatted_image s
    still = ap (λ b. cond (not b) (closed_image s (going_at F)) F.image) (eq-eqb F.first F.first refl) ∙ is.image

    passes : may_follow s F.first (known_at F.first F.next F.table) (Restarted [] []) ≡ true
    passes = rw (eq-eqb F.first F.first refl) refl

    behind : verdict_of s F (Format s.index s.heap ∷ Restarted [] [] ∷ []) ≡ HandedOut (formatted_outcome s)
    behind = ap (λ n. verdict_by F.first (hands_on s (goes_through s F (drop n (Format s.index s.heap ∷ Restarted [] [] ∷ [])))) (first_bad s F.first (known_at F.first F.next F.table) (drop n (Format s.index s.heap ∷ Restarted [] [] ∷ [])))) is.first
        ∙ (ap (λ b. verdict_by F.first (hands_on s (going_next s F.first (going_at F) (Restarted [] []))) (cond b None (Some 0))) passes
        ∙ ap HandedOut (outcome (going_next s F.first (going_at F) (Restarted [] [])) still refl refl refl refl))

pub crash_is_answered : CrashIsAnswered
crash_is_answered before c F right = subst (λ M. IsRightAtEnd (sizes_of L) M F (goes_through (sizes_of L) F (drop F.first M))) (append-nil L)
    (resumes_through (sizes_of L) L [] F history.some_index history.some_heap (F.batches, right.image.fits) (some L history.some_index) (subst (IsLegalFor (sizes_of L)) (sym (append-nil L)) history.legal) (subst AreSpelled (sym (append-nil L)) history.spelled))
  where
    L : List Record
    L = log_in F

    history : IsHistory (log_in F)
    history = right.restarts.history

    some : (X : List Record) → 0 < (sizes_of X).index → 0 < length X
    some [] h = h
    some (x ∷ X) h = omega arith
