-- What a crash of a run leaves is found but for the words of its image, whatever stray writes an audit missed. The words that the image would have are those that
-- the records of the epoch leave up to its clean place; or those of the base, where no checkpoint was made.
use Rattle.std.proofs.Common.{◌≡◌, ℕ, zero, suc, ◌-◌, ◌<◌, ◌≤◌, List, [], ◌∷◌, Some, length, take, drop, slice_get, refl, ap, sym, subst, ◌∙◌, inl, inr, arith}
use Rattle.std.specs.Prelude.{◌/◌, Bool, true, false, cond, fold, slice_set}
use Rattle.std.specs.List.{AllByRecursion}
use Rattle.std.proofs.Math.Seq.{take-append_seam}
use Rattle.std.proofs.lemmas.List.{append-nil, ext_get_or, length-take-le}
use Rattle.std.proofs.lemmas.Option.{slice_get_within}
use Rattle.dali_lists.proofs.Lists.{get_take, length_take}
use Rattle.dali_lists.proofs.Members.{all_append}
use Rattle.dali_words.proofs.Masks.{length-write_under}
use Rattle.dali_words.specs.Words.{AllAreWords, first_or, has_first, rest_of, write_under}
use Rattle.dali_geometry.specs.Sizes.{Sizes}
use Rattle.dali_geometry.specs.Places.{formatted_image, regions}
use Rattle.dali_record.specs.declared.operations.Block.{Block}
use Rattle.dali_record.specs.declared.records.Record.{Record}
use Rattle.dali_record.specs.declared.records.Record.TheVariants.{Format, Begin, Forward, Done, Commit, Ended, Solo, AuditBegin, AuditClean, AuditFail, Restarted, Back}
use Rattle.dali_record.specs.Epochs.{Cut, Epoch, clean_place, cut, cut_step, last_epoch}
use Rattle.dali_record.specs.Files.{Files}
use Rattle.dali_record.specs.Legal.{IsLegalFor, sizes_of}
use Rattle.dali_record.specs.Locks.{IsLockLegalIn}
use Rattle.dali_record.specs.Settled.{redo, redo_all, settled_before, words_in}
use Rattle.dali_record.specs.Spelling.{CanBeSpelled, Is64}
use Rattle.dali_history.specs.Recovered.{base_of, recover, recovered}
use Rattle.dali_history.proofs.HeadlineLemmas.NothingToFree.{recovered-base}
use Rattle.dali_runs.proofs.CountsLemmas.Fronts.{prefix_legal}
use Rattle.dali_runs.proofs.OneMoreTouch.{length-redo_all}
use Rattle.dali_runs.proofs.Redone.{redone_twice}
use Rattle.dali_runs.specs.Courses.{CameBy, Step, Begins, Operates, TakesBack, Frees, Answers, Commits, Ends, AuditBegins, AuditEnds, Locks, Refuses, OnRegion, Passes, Dies, Claims, GivesBack, Recovers, Stops, Checkpoints, Takes, Flushes, Faults, ReadFails}
use Rattle.dali_runs.specs.Images.{FitsBut, is_missed}
use Rattle.dali_runs.specs.Run.{IsPrefix, RunsOn, log_in, only}
use Rattle.dali_runs.specs.State.{CoreState, stable}
use Rattle.dali_crash.specs.Checkpoints.{Came, Copies, CopyFails, Does, Finishes, HeadFails, Keeps, Point, Skips, Starts, StoreStep, SyncFails, Syncs, Traced, TurnFails, Turns, WritesHead}
use Rattle.dali_crash.specs.CrashLogs.{cut_to}
use Rattle.dali_crash.specs.Fitting.{FitsWhole}
use Rattle.dali_crash.specs.Starts.{IsLawful}
use Rattle.dali_crash.specs.StoreRuns.{StoreRun}
use Rattle.dali_crash.specs.Traces.{Start, StartsAt, bases_of, start_point}
use Rattle.dali_crash.proofs.CrashLogs.{cut_parts, locks_cut}
use Rattle.dali_crash.proofs.RecoveredWords.{recovered_words}
use Rattle.dali_crash.proofs.Restarts.{begins_behind, sizes_take, some_sizes}
use Rattle.dali_crash.proofs.Traces.{few_gates, trace_runs}
use Rattle.dali_resume.specs.Interrupted.Found.{FindsIt}
use Rattle.dali_resume.specs.Interrupted.Stages.{HasPlace}
use Rattle.dali_resume.proofs.InterruptedLemmas.Places.{keeps_place, start_has_place}
use Rattle.dali_restart.specs.Headline.{CrashIsFoundBut}
use Rattle.dali_restart.specs.Restarting.{FindsBut, with_words}

-- ---- words stay words
all_take : {X : Type 0} (P : X → Type 0) (n : ℕ) (xs : List X) → AllByRecursion P xs → AllByRecursion P (take n xs)
all_take P zero xs h = tt
all_take P (suc n) [] h = tt
all_take P (suc n) (x ∷ xs) h = (h.0, all_take P n xs h.1)

write_fits : (m : ℕ) (news ws : List ℕ) → AllByRecursion Is64 news → AllByRecursion Is64 ws → AllByRecursion Is64 (write_under m news ws)
write_fits m news [] g h = tt
write_fits m news (w ∷ ws) g h = by_test (λ xs k. write_fits (m / 2) xs ws k h.1) (has_first m) news g
  where
    by_test : ((xs : List ℕ) → AllByRecursion Is64 xs → AllByRecursion Is64 (write_under (m / 2) xs ws)) → (c : Bool) (xs : List ℕ) → AllByRecursion Is64 xs
        → Is64 (cond c (first_or w xs) w) × AllByRecursion Is64 (write_under (m / 2) (cond c (rest_of xs) xs) ws)
    by_test later true [] k = (h.0, later [] tt)
    by_test later true (x ∷ xs) k = (k.0, later xs k.1)
    by_test later false xs k = (h.0, later xs k)

block_words : (image : List (List ℕ)) (r : ℕ) (b : Block) → AllAreWords image → AllByRecursion Is64 b.after → AllAreWords (slice_set image r (write_under b.write b.after (words_in image r)))
block_words [] r b h g = tt
block_words (ws ∷ image) zero b h g = ((length-write_under b.write b.after ws ∙ h.0.0, write_fits b.write b.after ws g h.0.1), h.1)
block_words (ws ∷ image) (suc r) b h g = (h.0, block_words image r b h.1 g)

redo_words : (image : List (List ℕ)) (r : Record) → AllAreWords image → CanBeSpelled r → AllAreWords (redo image r)
redo_words image (Forward t b) h s = block_words image b.region b h s.1.after
redo_words image (Solo t p b) h s = block_words image b.region b h s.2.after
redo_words image (Back t b) h s = block_words image b.region b h s.1.after
redo_words image _ h s = h

redo_all_words : (image : List (List ℕ)) (E : List Record) → AllAreWords image → AllByRecursion CanBeSpelled E → AllAreWords (redo_all image E)
redo_all_words image [] h s = h
redo_all_words image (r ∷ E) h s = redo_all_words (redo image r) E (redo_words image r h s.0) s.1

-- the records of the last epoch
cut_spelled : (c : Cut) (r : Record) → AllByRecursion CanBeSpelled c.now.records → CanBeSpelled r → AllByRecursion CanBeSpelled (cut_step c r).now.records
cut_spelled c (Format i h) g s = tt
cut_spelled c (Restarted rs ds) g s = tt
cut_spelled c (Begin t) g s = all_append CanBeSpelled c.now.records (Begin t ∷ []) g (s, tt)
cut_spelled c (Forward t b) g s = all_append CanBeSpelled c.now.records (Forward t b ∷ []) g (s, tt)
cut_spelled c (Done t k a) g s = all_append CanBeSpelled c.now.records (Done t k a ∷ []) g (s, tt)
cut_spelled c (Commit t) g s = all_append CanBeSpelled c.now.records (Commit t ∷ []) g (s, tt)
cut_spelled c (Ended t) g s = all_append CanBeSpelled c.now.records (Ended t ∷ []) g (s, tt)
cut_spelled c (Solo t p b) g s = all_append CanBeSpelled c.now.records (Solo t p b ∷ []) g (s, tt)
cut_spelled c AuditBegin g s = all_append CanBeSpelled c.now.records (AuditBegin ∷ []) g (s, tt)
cut_spelled c (AuditClean b) g s = all_append CanBeSpelled c.now.records (AuditClean b ∷ []) g (s, tt)
cut_spelled c (AuditFail b rs) g s = all_append CanBeSpelled c.now.records (AuditFail b rs ∷ []) g (s, tt)
cut_spelled c (Back t b) g s = all_append CanBeSpelled c.now.records (Back t b ∷ []) g (s, tt)

now_spelled : (c : Cut) (L : List Record) → AllByRecursion CanBeSpelled c.now.records → ((i : ℕ) (r : Record) → slice_get L i ≡ Some r → CanBeSpelled r)
    → AllByRecursion CanBeSpelled (fold cut_step c L).now.records
now_spelled c [] g h = g
now_spelled c (r ∷ L) g h = now_spelled (cut_step c r) L (cut_spelled c r g (h 0 r refl)) (λ i x e. h (suc i) x e)

-- ---- the anchor never moves back
by_step : (L : List Record) (c : CoreState) (x : Step) (D E : Files) → CameBy L c x D E → E.gates ≡ D.gates
by_step L c Flushes D E came = ap (λ (z : Files). z.gates) came
by_step L c (Faults n) D E (inl came) = ap (λ (z : Files). z.gates) came
by_step L c (Faults n) D E (inr came) = ap (λ (z : Files). z.gates) came
by_step L c Begins D E came = ap (λ (z : Files). z.gates) came
by_step L c (Operates t b) D E came = ap (λ (z : Files). z.gates) came
by_step L c (TakesBack t b) D E came = ap (λ (z : Files). z.gates) came
by_step L c (Frees t b) D E came = ap (λ (z : Files). z.gates) came
by_step L c (Answers t k a) D E came = ap (λ (z : Files). z.gates) came
by_step L c (Commits t) D E came = ap (λ (z : Files). z.gates) came
by_step L c (Ends t) D E came = ap (λ (z : Files). z.gates) came
by_step L c AuditBegins D E came = ap (λ (z : Files). z.gates) came
by_step L c (AuditEnds b found) D E came = ap (λ (z : Files). z.gates) came
by_step L c (Locks t k m) D E came = ap (λ (z : Files). z.gates) came
by_step L c (Refuses t k m h) D E came = ap (λ (z : Files). z.gates) came
by_step L c (OnRegion r y) D E came = ap (λ (z : Files). z.gates) came
by_step L c (Passes b r) D E came = ap (λ (z : Files). z.gates) came
by_step L c (Dies t l) D E came = ap (λ (z : Files). z.gates) came
by_step L c (Claims t) D E came = ap (λ (z : Files). z.gates) came
by_step L c (GivesBack t l) D E came = ap (λ (z : Files). z.gates) came
by_step L c (Recovers r) D E came = ap (λ (z : Files). z.gates) came
by_step L c Stops D E came = ap (λ (z : Files). z.gates) came
by_step L c (Checkpoints u) D E came = ap (λ (z : Files). z.gates) came
by_step L c Takes D E came = ap (λ (z : Files). z.gates) came
by_step L c (ReadFails n) D E came = ap (λ (z : Files). z.gates) came

by_store_step : (p : Point) (x : StoreStep) (D E : Files) → Came p x D E → D.gates ≤ E.gates
by_store_step p (Does x) D E came = omega (arith, by_step p.log p.core x D E came)
by_store_step p (Copies r n) D E (inl same) = omega (arith, ap (λ (z : Files). z.gates) same)
by_store_step p (Copies r n) D E (inr other) = omega (arith, other.2)
by_store_step p (WritesHead h) D E (inl same) = omega (arith, ap (λ (z : Files). z.gates) same)
by_store_step p (WritesHead h) D E (inr other) = omega (arith, other.2)
by_store_step p (CopyFails r ws n) D E (inl same) = omega (arith, ap (λ (z : Files). z.gates) same)
by_store_step p (CopyFails r ws n) D E (inr other) = omega (arith, other.2)
by_store_step p (HeadFails h n) D E (inl same) = omega (arith, ap (λ (z : Files). z.gates) same)
by_store_step p (HeadFails h n) D E (inr other) = omega (arith, other.2)
by_store_step p Turns D E came = omega (arith, ap (λ (z : Files). z.gates) came.3)
by_store_step p (TurnFails n) D E (inl same) = omega (arith, ap (λ (z : Files). z.gates) same)
by_store_step p (TurnFails n) D E (inr came) = omega (arith, ap (λ (z : Files). z.gates) came.3)
by_store_step p Starts D E came = omega (arith, ap (λ (z : Files). z.gates) came)
by_store_step p Keeps D E came = omega (arith, ap (λ (z : Files). z.gates) came)
by_store_step p (Skips r n) D E came = omega (arith, ap (λ (z : Files). z.gates) came)
by_store_step p Syncs D E came = omega (arith, ap (λ (z : Files). z.gates) came)
by_store_step p (SyncFails n) D E came = omega (arith, ap (λ (z : Files). z.gates) came)
by_store_step p Finishes D E came = omega (arith, ap (λ (z : Files). z.gates) came)

gates_grow : (p q : Point) (xs : List StoreStep) (D F : Files) → Traced p D xs q F → D.gates ≤ F.gates
gates_grow p q [] D F t = omega (arith, ap (λ (z : Files). z.gates) t.1)
gates_grow p q (x ∷ xs) D F t = omega (arith, by_store_step p x D t.1 t.3, gates_grow t.0 q xs t.1 F t.4)

-- ---- where a run began without a checkpoint, it began with formatted regions
take_none : {X : Type 0} (n : ℕ) → take {A = X} n [] ≡ []
take_none zero = refl
take_none (suc n) = refl

drop_none : {X : Type 0} (n : ℕ) → drop {A = X} n [] ≡ []
drop_none zero = refl
drop_none (suc n) = refl

no_records : (image base : List (List ℕ)) (k m r : ℕ) (E : List Record) → E ≡ [] → words_in (redo_all image (drop k (take m E))) r ≡ words_in (redo_all base (take m E)) r
    → words_in image r ≡ words_in base r
no_records image base k m r E none same =
    let before : drop k (take m E) ≡ [] = ap (λ X. drop k (take m X)) none ∙ (ap (drop k) (take_none m) ∙ drop_none k) in
    let after : take m E ≡ [] = ap (take m) none ∙ take_none m in
    sym (ap (λ X. words_in (redo_all image X) r) before) ∙ (same ∙ ap (λ X. words_in (redo_all base X) r) after)

began_formatted : (s : Start) (D : Files) → StartsAt s D → D.gates ≡ 0 → recovered (sizes_of s.log) s.log ≡ formatted_image (sizes_of s.log)
began_formatted s D from none =
    let z = sizes_of s.log in
    let files = from.rests.files in
    let e = last_epoch s.log in
    let image : D.image ≡ formatted_image z = (files.fits.fresh none).3 in
    let same : D.image ≡ base_of z s.log =
    ext_get_or [] D.image (base_of z s.log) (files.image_whole ∙ sym files.base_whole)
    (λ r h. no_records D.image (base_of z s.log) (D.first - e.first) (clean_place e - e.first) r e.records from.rests.none (files.fits.words r (omega (arith, h, files.image_whole)))) in
    recovered-base z s.log from.rests.none ∙ (sym same ∙ image)

-- ---- a log cut off in its last epoch
abbrev LegalCut : Cut → Type 0
LegalCut c = AllByRecursion (λ (e : Epoch). IsLockLegalIn e.records) c.closed × IsLockLegalIn c.now.records

-- ---- a crash image
module _ (s : Start) (D : Files) (from : StartsAt s D) (has_place : HasPlace D) (xs : List StoreStep) (p : Point) (F : Files) (t : Traced (start_point s) D xs p F) where
  abbrev L : List Record
  L = s.log

  abbrev K : List Record
  K = log_in F

  abbrev c : CoreState
  c = p.core

  abbrev z : Sizes
  z = c.system.sizes

  there : StoreRun (bases_of s) L (only F) p
  there = trace_runs s D from xs p F t

  run : RunsOn (bases_of s) p.log c
  run = subst (λ M. RunsOn (bases_of s) M c) (sym there.run.log) there.run.run.runs

  has : IsPrefix p.log (stable c) F
  has = subst (λ M. IsPrefix M (stable c) F) (sym there.run.log) (there.run.run.vault.prefix F refl)

  began : (last_epoch p.log).first ≤ length L
  began = subst (λ M. (last_epoch M).first ≤ length L) (sym there.run.log) there.run.run.began

  front : take (length L) p.log ≡ L
  front = ap (take (length L)) there.run.log ∙ take-append_seam L c.system.since

  longer : length L ≤ length p.log
  longer = omega (arith, has.flushed, has.within, there.run.run.first)

  to : length L ≤ has.count
  to = omega (arith, has.flushed, there.run.run.first)

  first_behind : 0 < (last_epoch p.log).first
  first_behind = begins_behind z p.log run.log.format

  behind : 0 < length L
  behind = omega (arith, first_behind, began)

  same_old : sizes_of L ≡ z
  same_old = ap sizes_of (sym front) ∙ sizes_take z p.log (length L) run.log.format behind

  same : sizes_of K ≡ z
  same = ap sizes_of has.log ∙ sizes_take z p.log has.count run.log.format (omega (arith, behind, to))

  parts : cut K ≡ record { closed = (cut p.log).closed; now = cut_to (has.count - (last_epoch p.log).first) (last_epoch p.log) }
  parts = ap cut has.log ∙ cut_parts p.log has.count (omega (arith, began, to)) has.within

  -- no epoch has ended since the start
  base : recovered (sizes_of L) L ≡ base_of z K
  base =
      recovered-base (sizes_of L) L from.rests.none
      ∙ (ap (λ (y : Sizes). base_of y L) same_old
      ∙ ap (λ (q : Cut). fold (recover z) (formatted_image z) q.closed)
      (sym (ap cut front) ∙ cut_parts p.log (length L) began longer)
      ∙ sym (ap (λ (q : Cut). fold (recover z) (formatted_image z) q.closed) parts))

  lawful : IsLawful K
  lawful = record {
    some_index = subst (λ (y : Sizes). 0 < y.index) (sym same) sizes.0;
    some_heap = subst (λ (y : Sizes). 0 < y.heap) (sym same) sizes.1;
    spelled = λ i r e.
        let e2 : slice_get (take has.count p.log) i ≡ Some r = subst (λ M. slice_get M i ≡ Some r) has.log e in
        run.log.spelled i r (sym (get_take has.count i p.log (omega (arith, slice_get_within (take has.count p.log) i r e2, length_take has.count p.log))) ∙ e2);
    legal = subst (λ (y : Sizes). IsLegalFor y K) (sym same) (subst (IsLegalFor z) (sym has.log) (prefix_legal z p.log has.count run.log.legal));
    locks = subst LegalCut (sym parts) (run.log.locks.0, locks_cut (has.count - (last_epoch p.log).first) (last_epoch p.log).records run.log.locks.1);
  }
    where
      sizes : (0 < z.index) × (0 < z.heap)
      sizes = some_sizes z (run.log.spelled 0 (Format z.index z.heap) run.log.format)

  fits_but : FitsBut z (bases_of s) (λ r. is_missed (slice_get c.regions r)) K F (last_epoch K)
  fits_but = there.images.fits F refl

  -- with these words it fits
  abbrev b : List (List ℕ)
  b = recovered (sizes_of L) L

  abbrev e : Epoch
  e = last_epoch K

  abbrev X : List Record
  X = take (clean_place e - e.first) e.records

  words_b : AllAreWords (recovered (sizes_of L) L)
  words_b = recovered_words L from.lawful.spelled

  found_with :
      (right : List (List ℕ)) → (F.gates ≡ 0 → right ≡ formatted_image z) → AllAreWords right → length right ≡ regions z
      → ((r : ℕ) → r < regions z → words_in (redo_all right (drop (F.first - e.first) (take (clean_place (last_epoch K) - e.first) e.records))) r ≡ settled_before b (last_epoch K) r (clean_place (last_epoch K)))
      → FindsBut F
  found_with right formatted words whole settled = record { right = right; words = words; finds = finds }
    where
      G : Files
      G = with_words F right

      place : HasPlace F
      place = keeps_place s D from has_place xs p F t

      for_z : FitsWhole z (recovered (sizes_of L) L) (log_in F) (with_words F right) (last_epoch (log_in F))
      for_z = record {
        fits = record {
          log = refl;
          batch = fits_but.batch;
          count = fits_but.count;
          lengths = fits_but.lengths;
          numbers = fits_but.numbers;
          fresh = λ none. let was = fits_but.fresh none in (was.0, was.1, was.2, formatted none);
          current = fits_but.current;
          epoch = fits_but.epoch;
          recent = fits_but.recent;
          certified = fits_but.certified;
          table_is = fits_but.table_is;
          words = settled;
        };
        image_whole = whole;
        base_whole = run.base;
      }

      fits : FitsWhole (sizes_of (log_in F)) (base_of (sizes_of (log_in F)) (log_in F)) (log_in F) (with_words F right) (last_epoch (log_in F))
      fits =
          subst (λ (y : Sizes). FitsWhole y (base_of y (log_in F)) (log_in F) (with_words F right) (last_epoch (log_in F))) (sym same)
          (subst (λ w. FitsWhole z w (log_in F) (with_words F right) (last_epoch (log_in F))) base for_z)

      finds : FindsIt (with_words F right)
      finds = record {
        lawful = lawful;
        found = record {
          batches = refl;
          gates = refl;
          place = record { placed = place.placed; moved = place.moved; some = place.some; read = place.read };
          front = log_in F;
          more = [];
          log = append-nil (log_in F);
          some = omega (arith, ap length has.log, length-take-le has.count p.log has.within, behind, to);
          fits = (F.batches, fits);
          parts = append-nil F.batches;
          good = refl;
        };
        few = few_gates s D from xs p F t;
        restarting = λ r E some. record { lawful = lawful; batches = refl; some = (r, E, some) };
        resting = λ none le. record { none = none; files = fits };
      }

  -- a checkpoint was made
  by_image : 0 < F.gates → FindsBut F
  by_image some =
      found_with (redo_all b X) (λ none. absurd (omega (arith, some, none)))
      (redo_all_words b X words_b (all_take CanBeSpelled (clean_place e - e.first) e.records (now_spelled (record { closed = []; now = record { first = 0; records = [] } }) K tt lawful.spelled)))
      (length-redo_all b X ∙ run.base) (λ r lt. redone_twice b (redo_all b X) X (F.first - e.first) r refl)

  -- or none
  by_format : F.gates ≡ 0 → FindsBut F
  by_format none =
      let began_none : D.gates ≡ 0 = omega (arith, none, gates_grow (start_point s) p xs D F t) in
      let first : e.first ≡ (last_epoch p.log).first = ap (λ (q : Cut). q.now.first) parts in
      let all : F.first - e.first ≡ 0 = omega (arith, (fits_but.fresh none).1, first, first_behind) in
      found_with b (λ again. began_formatted s D from began_none ∙ ap formatted_image same_old) words_b run.base
      (λ r lt. ap (λ k. words_in (redo_all b (drop k X)) r) all)

  by_gates : (n : ℕ) → F.gates ≡ n → FindsBut F
  by_gates zero none = by_format none
  by_gates (suc n) some = by_image (omega (arith, some))

  found_but : FindsBut F
  found_but = by_gates F.gates refl

pub crash_is_found_but : CrashIsFoundBut
crash_is_found_but s D from placed xs p E t = found_but s D from (start_has_place s D from placed) xs p E t
