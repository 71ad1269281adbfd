-- What is computed from the image and the records behind it is what the whole epoch says.
use Rattle.std.proofs.Common.{◌≡◌, ℕ, suc, ◌+◌, ◌-◌, ◌<◌, ◌≤◌, ◌^◌, true, false, List, [], ◌∷◌, ◌++◌, length, take, drop, Option, Some, None, refl, ap, sym, subst, ◌∙◌, ⊎_elim, append_assoc, arith}
use Rattle.std.specs.Prelude.{◌↔◌, ◌&&◌, ◌||◌, not, max, fold, filter, IsSome, slice_get}
use Rattle.std.proofs.lemmas.List.{append-nil, take-append-drop, length-append, length-drop, length-take-le}
use Rattle.dali_geometry.specs.Sizes.{Sizes}
use Rattle.dali_record.specs.declared.records.Record.{Record}
use Rattle.dali_record.specs.Log.{Touch, touch_of, touch_in, touch_at, begun, committed, ended}
use Rattle.dali_record.specs.Epochs.{Epoch, clean_step, clean_place, failing_step, failing}
use Rattle.dali_record.specs.Damage.{Damage, has, damage_of, marks, mark_of, has_corrupt, is_dropped, IsDropped, kept_from, rolled_list, deleted_list}
use Rattle.dali_record.specs.Legal.{Rules, rules_next}
use Rattle.dali_record.specs.Files.{table_before}
use Rattle.dali_record.specs.Scan.{GivesUndos}
use Rattle.dali_record.proofs.Ends.{by_push}
use Rattle.dali_record.proofs.Pushes.{touch_within}
use Rattle.dali_record.proofs.Scans.{take_get}
use Rattle.dali_record.proofs.Stages.{IsWithin}
use Rattle.dali_record.proofs.Survivors.{StandsIn}
use Rattle.dali_record.proofs.EpochRules.{StandsThrough, stands_in_epochs, AllEpochs-contains, EachTouch}
use Rattle.dali_record.proofs.Recovery.{IsDropped-last, IsDropped-old}
use Rattle.dali_history.specs.Recovered.{losers, undos_left, roll_back, freed}
use Rattle.dali_record.specs.Settled.{redo_all}
use Rattle.dali_history.proofs.Prefixes.{touch_front}
use Rattle.dali_crash.specs.Fitting.{recover_from}
use Rattle.dali_resume.specs.Resumed.{first_from, records_from, is_marked, is_left_out, scan, scan_step, scan_start, losers_by, rolled_by, deleted_by, recovered_by, recover_by}
use Rattle.dali_resume.specs.Laws.{MayResume, damage_behind, scan_to, records_to, scan_all, FindsDamage, JudgesAlike, MarksAlike, DropsAlike, ReportsAlike, UndoesAlike, RecoversAlike}
use Rattle.dali_resume.proofs.Scanned.{Knows, knows_scan, mark_is, left_is, ReadsSmall, Carries, IsDropped-new, IsDropped-kept}
use Rattle.dali_resume.proofs.Standing.{Stood, stood}
use Rattle.dali_resume.proofs.Resumes.{table_of, carries, kept_is, rolled_is, deleted_is, recovers_by, undoes, undoes_none}
use Rattle.dali_resume.proofs.Audits.{Began, Audited, audited, begun_epochs, damage_is, clean_rises}
use Rattle.dali_resume.proofs.Blocks.{IsFine, fine_in_epochs}

length_none : {X : Type 0} (k : ℕ) (xs : List X) → k ≡ 0 → length (take k xs) ≡ 0
length_none k xs e = rw e refl

touch_left : (P R : List Record) (i : ℕ) (a : Touch) → touch_at R i ≡ Some a → touch_at (P ++ R) (length P + i) ≡ Some a
touch_left [] R i a e = let same : 0 + i ≡ i = omega arith in rw same e
touch_left (p ∷ P) R i a e = let same : suc (length P) + i ≡ suc (length P + i) = omega arith in rw same (touch_left P R i a e)

IsDropped-more : (d : Damage) (A B : List Record) (q : ℕ) → IsDropped d A q → IsDropped d (A ++ B) q
IsDropped-more d A B q w = by_push (λ X. IsDropped d (A ++ X) q) (subst (λ E. IsDropped d E q) (sym (append-nil A)) w) (λ X r h. subst (λ E. IsDropped d E q) (append_assoc A X (r ∷ [])) (IsDropped-old d (A ++ X) r q h)) B

IsDropped-less : (d : Damage) (A B : List Record) (q : ℕ) → q < length A → IsDropped d (A ++ B) q → IsDropped d A q
IsDropped-less d A B q lt = by_push (λ X. IsDropped d (A ++ X) q → IsDropped d A q) (λ w. subst (λ E. IsDropped d E q) (append-nil A) w) (λ X r h w. h (IsDropped-kept d (A ++ X) r q (omega (arith, lt, length-append A X)) (subst (λ E. IsDropped d E q) (sym (append_assoc A X (r ∷ []))) w))) B

module _ (s : Sizes) (L : List Record) (e : Epoch) (n : ℕ) (may : MayResume s L e n) where
  abbrev P : List Record
  P = take (n - e.first) e.records

  abbrev R : List Record
  R = drop (n - e.first) e.records

  pub split : take (n - e.first) e.records ++ drop (n - e.first) e.records ≡ e.records
  split = take-append-drop (n - e.first) e.records

  pub through : StandsThrough s e
  through = AllEpochs-contains (StandsThrough s) L e (stands_in_epochs s L may.legal) may.epoch

  pub within : IsWithin (take (n - e.first) e.records ++ drop (n - e.first) e.records)
  within = subst IsWithin (sym split) through.0

  pub stands : (t : ℕ) → Stood (take (n - e.first) e.records) (drop (n - e.first) e.records) t
  stands t = stood s P R t within (subst (λ E. StandsIn s E t) (sym split) (through.1 t))

  began : Began s e
  began = AllEpochs-contains (Began s) L e (begun_epochs s L may.legal.rules) may.epoch

  fits : n - e.first ≤ length e.records
  fits = by_state (fold (rules_next s) (Some began.start) e.records) refl began.allowed
    where
      by_clean : (g : Rules) → Audited (record { first = e.first; records = e.records }) g → n - e.first ≤ length e.records
      by_clean g a = ⊎_elim (λ x. omega (arith, x, may.certified)) (λ x. omega (arith, x, may.certified)) a.clean

      by_state : (o : Option Rules) → fold (rules_next s) (Some began.start) e.records ≡ o → IsSome o → n - e.first ≤ length e.records
      by_state None f g = absurd (cc)
      by_state (Some m) f g = by_clean m (audited s e.first began.start began.count began.audits e.records through.0 m f)

  -- where the epoch has a record, one is left from number n on
  pub some_left : 0 < length e.records → 0 < length (drop (n - e.first) e.records)
  some_left some = by_state (fold (rules_next s) (Some began.start) e.records) refl began.allowed
    where
      by_clean : (g : Rules) → Audited (record { first = e.first; records = e.records }) g → 0 < length (drop (n - e.first) e.records)
      by_clean g a = ⊎_elim (λ x. omega (arith, x, may.certified, some, length-drop (n - e.first) e.records)) (λ x. omega (arith, x, may.certified, some, length-drop (n - e.first) e.records)) a.clean

      by_state : (o : Option Rules) → fold (rules_next s) (Some began.start) e.records ≡ o → IsSome o → 0 < length (drop (n - e.first) e.records)
      by_state None f g = absurd (cc)
      by_state (Some m) f g = by_clean m (audited s e.first began.start began.count began.audits e.records through.0 m f)

  size : length (take (n - e.first) e.records) ≡ n - e.first
  size = length-take-le (n - e.first) e.records fits

  pub found : (fold clean_step (max n e.first) (drop (n - e.first) e.records) ≡ clean_place e) × (fold failing_step [] (drop (n - e.first) e.records) ≡ failing e)
  found =
      let w = damage_is s e.first n P R (subst (λ E. Began s (record { first = e.first; records = E })) (sym split) began) within size (subst (λ E. n ≤ clean_place (record { first = e.first; records = E })) (sym split) may.certified) in
      (w.0 ∙ ap (fold clean_step e.first) split, w.1 ∙ ap (fold failing_step []) split)

  -- the damage that is found, with the number of the first record behind the image
  here : Damage
  here = record { first = e.first + length (take (n - e.first) e.records); clean = clean_place e; failing = failing e }

  starts : first_from n e ≡ e.first + length (take (n - e.first) e.records)
  starts = omega (arith, size)

  pub early : e.first + length (take (n - e.first) e.records) ≤ clean_place e
  early = omega (arith, size, may.certified, clean_rises e.records e.first)

  same_damage : damage_behind e n ≡ here
  unfolding here
  same_damage =
      ap (λ p. record { first = p; clean = fold clean_step (max n e.first) (drop (n - e.first) e.records); failing = fold failing_step [] (drop (n - e.first) e.records) }) starts
      ∙ (ap (λ q. record { first = e.first + length (take (n - e.first) e.records); clean = q; failing = fold failing_step [] (drop (n - e.first) e.records) }) found.0
      ∙ ap (λ f. record { first = e.first + length (take (n - e.first) e.records); clean = clean_place e; failing = f }) found.1)

  pub same_scan : (X : List Record) → scan (damage_behind e n) (table_before e n) X ≡ fold (scan_step (damage_of e)) (scan_start (e.first + length (take (n - e.first) e.records)) (table_of (take (n - e.first) e.records))) X
  unfolding here
  same_scan X = ap (λ d. scan d (table_before e n) X) same_damage

  fine : EachTouch IsFine (take (n - e.first) e.records ++ drop (n - e.first) e.records)
  fine = subst (EachTouch IsFine) (sym split) (fine_in_epochs L e may.spelled may.epoch)

  pub gives : GivesUndos (take (n - e.first) e.records ++ drop (n - e.first) e.records)
  gives i a at = (fine i a at).0

  pub small : ReadsSmall (drop (n - e.first) e.records)
  small i a at = (fine (length P + i) a (touch_left P R i a at)).1

  carried : Carries (take (n - e.first) e.records) (table_of (take (n - e.first) e.records)) (drop (n - e.first) e.records)
  carried = carries (damage_of e) P R early gives small stands

  -- ---- at each place
  knows_to : (i : ℕ) → Knows (damage_of e) (take (n - e.first) e.records) (table_of (take (n - e.first) e.records)) (records_to e n i) (fold (scan_step (damage_of e)) (scan_start (e.first + length (take (n - e.first) e.records)) (table_of (take (n - e.first) e.records))) (take i (drop (n - e.first) e.records)))
  knows_to i = knows_scan (damage_of e) P (table_of P) early (take i R)
      (λ j a at. gives j a (subst (λ E. touch_at E j ≡ Some a) (append_assoc P (take i R) (drop i R) ∙ ap (λ X. P ++ X) (take-append-drop i R)) (touch_front (P ++ take i R) (drop i R) j a at)))
      (λ j a at. small j a (front j a at))
      (λ j a at. carried j a (front j a at))
    where
      front : (j : ℕ) (a : Touch) → touch_at (take i R) j ≡ Some a → touch_at R j ≡ Some a
      front j a at = subst (λ E. touch_at E j ≡ Some a) (take-append-drop i R) (touch_front (take i R) (drop i R) j a at)

  gives_to : (i : ℕ) → GivesUndos (records_to e n i)
  gives_to i j a at = gives j a (subst (λ E. touch_at E j ≡ Some a) (append_assoc P (take i R) (drop i R) ∙ ap (λ X. P ++ X) (take-append-drop i R)) (touch_front (P ++ take i R) (drop i R) j a at))

  small_at : (i : ℕ) (r : Record) → slice_get (drop (n - e.first) e.records) i ≡ Some r → (b : Touch) → touch_of r ≡ Some b → b.block.read < 2 ^ 64
  small_at i r at b touch = small i b (ap touch_in at ∙ touch)

  pub corrupt_at : (i t : ℕ) → (scan_to e n i).corrupt t ≡ has_corrupt (marks (damage_of e) (records_to e n i)) t
  corrupt_at i t = ap (λ c. c.corrupt t) (same_scan (take i R)) ∙ (knows_to i).corrupt t

  pub left_at : (i : ℕ) (r : Record) → slice_get (records_from n e) i ≡ Some r → is_left_out (damage_behind e n) (scan_to e n i) r ≡ is_dropped (marks (damage_of e) (records_to e n i ++ r ∷ [])) r
  unfolding here
  left_at i r at =
      ap (λ d. is_left_out d (scan_to e n i) r) same_damage
      ∙ (ap (λ c. is_left_out (damage_of e) c r) (same_scan (take i R))
      ∙ left_is (damage_of e) P (table_of P) (records_to e n i) _ (knows_to i) r (gives_to i) (small_at i r at))

  pub mark_at : (i : ℕ) (r : Record) (b : Touch) → slice_get (records_from n e) i ≡ Some r → touch_of r ≡ Some b → has_corrupt (marks (damage_of e) (records_to e n i)) b.txn ≡ false
      → is_marked (damage_behind e n) (scan_to e n i) b ≡ mark_of (damage_of e) (marks (damage_of e) (records_to e n i)) r
  unfolding here
  mark_at i r b at touch clear =
      ap (λ d. is_marked d (scan_to e n i) b) same_damage
      ∙ (ap (λ c. is_marked (damage_of e) c b) (same_scan (take i R))
      ∙ mark_is (damage_of e) P (table_of P) (records_to e n i) _ (knows_to i) r (gives_to i) b touch (small_at i r at b touch) clear)

  pub dropped_at : (i : ℕ) (r : Record) (b : Touch) → slice_get (records_from n e) i ≡ Some r → touch_of r ≡ Some b
      → (is_left_out (damage_behind e n) (scan_to e n i) r ≡ true) ↔ IsDropped (damage_of e) e.records (n - e.first + i)
  dropped_at i r b at touch = (to, from)
    where
      whole : (records_to e n i ++ r ∷ []) ++ drop (suc i) R ≡ e.records
      whole = ap (λ X. X ++ drop (suc i) R) (append_assoc P (take i R) (r ∷ []) ∙ ap (λ X. P ++ X) (sym (take_get R i r at))) ∙ (append_assoc P (take (suc i) R) (drop (suc i) R) ∙ (ap (λ X. P ++ X) (take-append-drop (suc i) R) ∙ split))

      place : length (records_to e n i) ≡ n - e.first + i
      place = omega (arith, length-append P (take i R), size, length-take-le i R (omega (arith, touch_within R i b (ap touch_in at ∙ touch))))

      behind : length (records_to e n i) < length (records_to e n i ++ r ∷ [])
      behind = omega (arith, length-append (records_to e n i) (r ∷ []))

      to : is_left_out (damage_behind e n) (scan_to e n i) r ≡ true → IsDropped (damage_of e) e.records (n - e.first + i)
      to h = subst (IsDropped (damage_of e) e.records) place (subst (λ E. IsDropped (damage_of e) E (length (records_to e n i))) whole (IsDropped-more (damage_of e) (records_to e n i ++ r ∷ []) (drop (suc i) R) (length (records_to e n i)) (IsDropped-last (damage_of e) (records_to e n i) r b touch (sym (left_at i r at) ∙ h))))

      from : IsDropped (damage_of e) e.records (n - e.first + i) → is_left_out (damage_behind e n) (scan_to e n i) r ≡ true
      from w = left_at i r at ∙ IsDropped-new (damage_of e) (records_to e n i) r b touch (IsDropped-less (damage_of e) (records_to e n i ++ r ∷ []) (drop (suc i) R) (length (records_to e n i)) behind (subst (λ E. IsDropped (damage_of e) E (length (records_to e n i))) (sym whole) (subst (IsDropped (damage_of e) e.records) (sym place) w)))

  -- ---- the lists
  pub rolled_at : rolled_list e ≡ rolled_by (table_before e n) (records_from n e)
  rolled_at = ap (λ E. filter (λ t. not (has (committed E) t) && not (has (ended E) t)) (begun E)) (sym split) ∙ rolled_is (damage_of e) P R early gives small stands

  pub deleted_at : deleted_list e ≡ deleted_by (table_before e n) (records_from n e) (scan_all e n)
  deleted_at =
      ap (λ E. filter (λ t. has (committed E) t && has_corrupt (marks (damage_of e) E) t) (begun E)) (sym split)
      ∙ (deleted_is (damage_of e) P R early gives small stands ∙ ap (deleted_by (table_of P) R) (sym (same_scan R)))

  -- ---- the records that are written
  pub kept_at : kept_from (take (n - e.first) (marks (damage_of e) e.records)) (drop (n - e.first) (marks (damage_of e) e.records)) ≡ (scan_all e n).kept
  kept_at =
      ap (λ E. later E (n - e.first)) (sym split)
      ∙ (ap (λ k. later (P ++ R) k) (sym size)
      ∙ (kept_is (damage_of e) P R early gives small stands ∙ ap (λ c. c.kept) (sym (same_scan R))))
    where
      later : List Record → ℕ → List Record
      later E k = kept_from (take k (marks (damage_of e) E)) (drop k (marks (damage_of e) E))

  -- ---- the image
  pub recovers_at : (image : List (List ℕ)) → recover_from s image n e ≡ recover_by s image (damage_behind e n) (table_before e n) (records_from n e)
  recovers_at image =
      ap (λ E. whole E (n - e.first)) (sym split)
      ∙ (ap (λ k. whole (P ++ R) k) (sym size)
      ∙ (recovers_by (damage_of e) P R early gives small stands s image ∙ ap (recovered_by s image (table_of P) R) (sym (same_scan R))))
    where
      whole : List Record → ℕ → List (List ℕ)
      whole E k = freed s (fold (λ im t. roll_back im (undos_left (marks (damage_of e) E) t)) (redo_all image (kept_from (take k (marks (damage_of e) E)) (drop k (marks (damage_of e) E)))) (filter (λ t. has_corrupt (marks (damage_of e) E) t || not (has (committed E) t)) (begun E)))

  -- ---- the undos
  pub undoes_at : (t : ℕ) → has (losers_by (table_before e n) (records_from n e) (scan_all e n)) t ≡ true
      → (has (losers e (marks (damage_of e) e.records)) t ≡ true) × (undos_left (marks (damage_of e) e.records) t ≡ (scan_all e n).undos t)
  undoes_at t h =
      let w = undoes (damage_of e) P R early gives small stands t (subst (λ c. has (losers_by (table_of P) R c) t ≡ true) (same_scan R) h) in (
        subst (λ E. has (filter (λ u. has_corrupt (marks (damage_of e) E) u || not (has (committed E) u)) (begun E)) t ≡ true) split w.0,
        sym (ap (λ E. undos_left (marks (damage_of e) E) t) split) ∙ (w.1 ∙ ap (λ c. c.undos t) (sym (same_scan R))),
      )

  pub undoes_none_at : (t : ℕ) → has (losers e (marks (damage_of e) e.records)) t ≡ true → has (losers_by (table_before e n) (records_from n e) (scan_all e n)) t ≡ false
      → undos_left (marks (damage_of e) e.records) t ≡ []
  undoes_none_at t h none =
      ap (λ E. undos_left (marks (damage_of e) E) t) (sym split)
      ∙ undoes_none (damage_of e) P R early gives small stands t
      (subst (λ E. has (filter (λ u. has_corrupt (marks (damage_of e) E) u || not (has (committed E) u)) (begun E)) t ≡ true) (sym split) h)
      (subst (λ c. has (losers_by (table_of P) R c) t ≡ false) (same_scan R) none)

pub finds_damage : FindsDamage
finds_damage s L e n may = found s L e n may

pub judges_alike : JudgesAlike
judges_alike s L e n may = (corrupt_at s L e n may, left_at s L e n may)

pub marks_alike : MarksAlike
marks_alike s L e n may = mark_at s L e n may

pub drops_alike : DropsAlike
drops_alike s L e n may = dropped_at s L e n may

pub reports_alike : ReportsAlike
reports_alike s L e n may = (rolled_at s L e n may, deleted_at s L e n may)

pub recovers_alike : RecoversAlike
recovers_alike s L e n may = recovers_at s L e n may

pub undoes_alike : UndoesAlike
undoes_alike s L e n may = (undoes_at s L e n may, undoes_none_at s L e n may)
