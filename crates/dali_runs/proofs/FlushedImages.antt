-- A flush, and a fault in one, leave images and log as they fit.
use Rattle.std.proofs.Common.{◌≡◌, ℕ, ◌-◌, Bool, false, List, [], ◌∷◌, ◌++◌, take, drop, refl, ap, sym, subst, ◌∙◌, ◌⊎◌, inr, ⊎_elim, arith}
use Rattle.std.specs.Prelude.{slice_get}
use Rattle.std.specs.List.{list_any}
use Rattle.std.proofs.lemmas.List.{drop-append-le, length-take-le, take-append-drop}
use Rattle.std.proofs.lemmas.List.Folds.{list_any-append}
use Rattle.std.proofs.lemmas.Bool.{or_parts}
use Rattle.dali_geometry.specs.Sizes.{Sizes}
use Rattle.dali_geometry.specs.Places.{formatted_image}
use Rattle.dali_record.specs.declared.records.Record.{Record}
use Rattle.dali_record.specs.Epochs.{separates, Epoch, last_epoch, clean_place}
use Rattle.dali_record.specs.Settled.{words_in, redo_all, settled_before}
use Rattle.dali_record.specs.Files.{Files, Fits, with_batch}
use Rattle.dali_record.proofs.Batches.{fits_more, clean_longer, number_is_length}
use Rattle.dali_runs.specs.State.{CoreState, taken_to, stable, log_after}
use Rattle.dali_runs.specs.Run.{Bases, log_in, only}
use Rattle.dali_runs.specs.Flushes.{frame_of, with_frame}
use Rattle.dali_runs.specs.Courses.{Moment, RunsAt, Faults, Flushes, IsStepAt}
use Rattle.dali_runs.specs.Images.{Told, FitsBut, is_missed, ImageRun}
use Rattle.dali_runs.specs.ImageSteps.{FlushKeepsImages, FaultKeepsImages}
use Rattle.dali_runs.proofs.Flushes.{log_with}
use Rattle.dali_runs.proofs.Redone.{redone_on}
use Rattle.dali_runs.proofs.LastEpochs.{last_epoch-append, none_separates}
use Rattle.dali_runs.proofs.Courses.{LeavesBy, came_alone}

-- ---- one batch more
-- with no region at all, files that fit but for some regions fit
abbrev nothing : Sizes
nothing = record { index = 0; heap = 0 }

abbrev emptied : Files → Files
emptied F = record F { image = formatted_image nothing }

but_words : (s : Sizes) (bases : Bases) (missed : ℕ → Bool) (K : List Record) (F : Files) (e : Epoch) → FitsBut s bases missed K F e → Fits nothing (bases e.first) K (emptied F) e
but_words s bases missed K F e fit = record {
  log = fit.log;
  batch = fit.batch;
  count = fit.count;
  lengths = fit.lengths;
  numbers = fit.numbers;
  fresh = λ h. let w = fit.fresh h in (w.0, w.1, w.2, refl);
  current = fit.current;
  epoch = fit.epoch;
  recent = fit.recent;
  certified = fit.certified;
  table_is = fit.table_is;
  words = λ r h. absurd (omega (arith, h));
}

batch_fits : (s : Sizes) (bases : Bases) (missed : ℕ → Bool) (K B : List Record) (D : Files) → list_any separates B ≡ false → FitsBut s bases missed K D (last_epoch K) → FitsBut s bases missed (K ++ B) (with_batch D B) (last_epoch (K ++ B))
batch_fits s bases missed K B D inside fit =
    let more : Fits nothing (bases (last_epoch K).first) (K ++ B) (with_batch (emptied D) B) (last_epoch (K ++ B)) = fits_more nothing (bases (last_epoch K).first) K B (emptied D) inside (but_words s bases missed K D (last_epoch K) fit) in
    let e : Epoch = last_epoch K in
    let longer : Epoch = record { first = e.first; records = e.records ++ B } in
    let same : last_epoch (K ++ B) ≡ longer = last_epoch-append K B inside in
    record {
      log = more.log;
      batch = more.batch;
      count = more.count;
      lengths = more.lengths;
      numbers = more.numbers;
      fresh = fit.fresh;
      current = more.current;
      whole = fit.whole;
      epoch = more.epoch;
      recent = more.recent;
      certified = more.certified;
      table_is = more.table_is;
      words = λ r h n. subst (λ (d : Epoch). words_in (redo_all D.image (drop (D.first - d.first) (take (clean_place d - d.first) d.records))) r ≡ settled_before (bases d.first) d r (clean_place d)) (sym same)
          (redone_on (bases e.first) D.image e.records B (D.first - e.first) (clean_place e - e.first) (clean_place longer - e.first) r (omega (arith, fit.certified)) (omega (arith, clean_longer e B)) (omega (arith, fit.count, number_is_length K)) (fit.words r h n));
    }

frame_fits : (s : Sizes) (bases : Bases) (missed : ℕ → Bool) (F D : Files) (frame : List Record) → list_any separates frame ≡ false → F ≡ with_frame D frame → FitsBut s bases missed (log_in D) D (last_epoch (log_in D)) → FitsBut s bases missed (log_in F) F (last_epoch (log_in F))
frame_fits s bases missed F D [] inside e fit = subst (λ (G : Files). FitsBut s bases missed (log_in G) G (last_epoch (log_in G))) (sym e) fit
frame_fits s bases missed F D (x ∷ B) inside e fit = subst (λ (G : Files). FitsBut s bases missed (log_in G) G (last_epoch (log_in G))) (sym e)
    (subst (λ K. FitsBut s bases missed K (with_batch D (x ∷ B)) (last_epoch K)) (sym (log_with (with_batch D (x ∷ B)) D (x ∷ B) refl)) (batch_fits s bases missed (log_in D) (x ∷ B) D inside fit))

-- ---- the steps
framed_images :
    (bases : Bases) (told : Told) (old new : Files → Type 0) (c d : CoreState) (frame : List Record) → list_any separates frame ≡ false
    → d.regions ≡ c.regions → d.system.sizes ≡ c.system.sizes
    → ((F : Files) → new F → (D : Files) × old D × ((F ≡ D) ⊎ (F ≡ with_frame D frame)))
    → ImageRun bases old told c → ImageRun bases new told d
framed_images bases told old new c d frame inside regions sizes store run = record {
  files = λ side r g at clean cleared. run.files side r g (ap (λ rs. slice_get rs r) (sym regions) ∙ at) clean cleared;
  fits = λ F h.
      let w = store F h in
      let was : FitsBut c.system.sizes bases (λ r. is_missed (slice_get c.regions r)) (log_in w.0) w.0 (last_epoch (log_in w.0)) = run.fits w.0 w.1 in
      let now : FitsBut c.system.sizes bases (λ r. is_missed (slice_get c.regions r)) (log_in F) F (last_epoch (log_in F)) = ⊎_elim
      (λ same. subst (λ (G : Files). FitsBut c.system.sizes bases (λ r. is_missed (slice_get c.regions r)) (log_in G) G (last_epoch (log_in G))) (sym same) was)
      (λ more. frame_fits c.system.sizes bases (λ r. is_missed (slice_get c.regions r)) F w.0 frame inside more was)
      w.2 in
      subst (λ rs. FitsBut d.system.sizes bases (λ r. is_missed (slice_get rs r)) (log_in F) F (last_epoch (log_in F))) (sym regions)
      (subst (λ (s : Sizes). FitsBut s bases (λ r. is_missed (slice_get c.regions r)) (log_in F) F (last_epoch (log_in F))) (sym sizes) now);
}

-- what a flush writes belongs to the last epoch
pub frame_inside : (bases : Bases) (before : List Record) (leave : Files → Type 0) (m : Moment) → RunsAt bases before leave m → list_any separates (frame_of m.log m.core) ≡ false
frame_inside bases before leave m at =
    let L : List Record = log_after before m.core.system in
    let n : ℕ = stable m.core in
    let k : ℕ = taken_to m.core.system in
    let both : frame_of L m.core ++ drop k L ≡ drop n L = sym (drop-append-le n (take k L) (drop k L) (omega (arith, at.run.frame, length-take-le k L at.run.taken))) ∙ ap (drop n) (take-append-drop k L) in
    subst (λ M. list_any separates (frame_of M m.core) ≡ false) (sym at.log)
    (or_parts (list_any separates (frame_of L m.core)) (list_any separates (drop k L))
    (sym (list_any-append separates (frame_of L m.core) (drop k L)) ∙ (ap (list_any separates) both ∙ none_separates L n (omega (arith, at.run.began, at.run.first))))).0

pub flushed_images :
    (bases : Bases) (before : List Record) (told : Told) (old new : Files → Type 0) (m n : Moment) → RunsAt bases before old m → ImageRun bases old told m.core
    → IsStepAt m Flushes n → LeavesBy old new m.log m.core Flushes
    → ImageRun bases new told n.core
flushed_images bases before told old new m n at run s l =
    framed_images bases told old new m.core n.core (frame_of m.log m.core) (frame_inside bases before old m at)
    (ap (λ (c : CoreState). c.regions) s.0.1.1) (ap (λ (c : CoreState). c.system.sizes) s.0.1.1)
    (λ F h. let w = l F h in (w.0, w.1, inr w.2))
    run

pub flush_keeps_images : FlushKeepsImages
flush_keeps_images bases before told m n D F at run s came = flushed_images bases before told (only D) (only F) m n at run s (came_alone m.log m.core Flushes D F came)

pub faulted_images :
    (bases : Bases) (before : List Record) (told : Told) (old new : Files → Type 0) (m n : Moment) (faults : ℕ) → RunsAt bases before old m → ImageRun bases old told m.core
    → IsStepAt m (Faults faults) n → LeavesBy old new m.log m.core (Faults faults)
    → ImageRun bases new told n.core
faulted_images bases before told old new m n faults at run s l =
    framed_images bases told old new m.core n.core (frame_of m.log m.core) (frame_inside bases before old m at)
    (ap (λ (c : CoreState). c.regions) s.0.2.1) (ap (λ (c : CoreState). c.system.sizes) s.0.2.1)
    (λ F h. l F h)
    run

pub fault_keeps_images : FaultKeepsImages
fault_keeps_images bases before told m n D F faults at run s came = faulted_images bases before told (only D) (only F) m n faults at run s (came_alone m.log m.core (Faults faults) D F came)
