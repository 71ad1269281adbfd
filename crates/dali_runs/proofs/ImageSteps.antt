-- Steps that write no image leave images and log as they fit.
use Rattle.std.proofs.Common.{◌≡◌, ◌≢◌, ℕ, zero, suc, Bool, true, false, cond, List, [], ◌∷◌, Option, Some, None, refl, ap, sym, subst, ◌∙◌, ⊎_elim}
use Rattle.std.specs.Prelude.{◌==◌, ◌&&◌, not, slice_get, slice_set}
use Rattle.std.proofs.lemmas.Bool.{ne_eqb, eqb-true, eq-eqb, or_parts}
use Rattle.dali_lists.proofs.Lists.{set_cases}
use Rattle.dali_lists.proofs.Tests.{left_false}
use Rattle.dali_words.specs.Words.{write_under}
use Rattle.dali_geometry.specs.Sizes.{Sizes}
use Rattle.dali_record.specs.declared.operations.Block.{Block}
use Rattle.dali_record.specs.declared.records.Record.{Record}
use Rattle.dali_record.specs.Blocks.{rewritten}
use Rattle.dali_record.specs.Epochs.{Epoch, last_epoch}
use Rattle.dali_record.specs.Files.{Files}
use Rattle.dali_region.specs.declared.Hold.{Hold}
use Rattle.dali_region.specs.declared.Side.{Side}
use Rattle.dali_region.specs.declared.Side.TheVariants.{A, B}
use Rattle.dali_region.specs.State.{RegionState, touched, wrote, dead}
use Rattle.dali_region.specs.Answers.{is_dirty, cleaned}
use Rattle.dali_words.proofs.Writes.{write_nothing}
use Rattle.dali_runs.specs.State.{SystemState, CoreState}
use Rattle.dali_att.specs.declared.state.State.TheVariants.{Dead}
use Rattle.dali_runs.specs.Run.{Bases, log_in, only}
use Rattle.dali_runs.specs.Steps.{in_state}
use Rattle.dali_runs.proofs.Deaths.{region_with, dead_at}
use Rattle.dali_runs.specs.Regions.{IsOpen, RegionStep, Latch, NoteReads, Update, TakeBack, Poke, Check, Die, Clean, region_after}
use Rattle.dali_runs.specs.Courses.{Begins, Operates, TakesBack, Frees, Answers, Commits, Ends, AuditBegins, AuditEnds, Locks, Refuses, OnRegion, Passes, Dies, Claims, GivesBack, Recovers, Stops, Checkpoints, Takes, Flushes, Faults, ReadFails, IsStepAt, Moment, Step}
use Rattle.dali_runs.specs.Images.{Told, FitsBut, is_missed, ImageRun}
use Rattle.dali_runs.specs.ImageSteps.{clears, ImagesKeep, same_side, CopyKeeps, told_with, writes_images}
use Rattle.dali_runs.specs.Keeps.{with_region}

-- ---- regions that are missed
missed_set : (xs : List RegionState) (r q : ℕ) (g h : RegionState) → slice_get xs r ≡ Some g → (h.missed ≡ false → g.missed ≡ false) → is_missed (slice_get (slice_set xs r h) q) ≡ false → is_missed (slice_get xs q) ≡ false
missed_set [] r q g h at less e = absurd (cc)
missed_set (x ∷ xs) zero zero g h at less e = ap is_missed at ∙ less e
missed_set (x ∷ xs) zero (suc q) g h at less e = e
missed_set (x ∷ xs) (suc r) zero g h at less e = e
missed_set (x ∷ xs) (suc r) (suc q) g h at less e = missed_set xs r q g h at less e

fits_more : (s : Sizes) (bases : Bases) (old new : ℕ → Bool) (K : List Record) (F : Files) (e : Epoch) → ((r : ℕ) → new r ≡ false → old r ≡ false) → FitsBut s bases old K F e → FitsBut s bases new K F e
fits_more s bases old new K F e less fit = record {
  log = fit.log;
  batch = fit.batch;
  count = fit.count;
  lengths = fit.lengths;
  numbers = fit.numbers;
  fresh = fit.fresh;
  current = fit.current;
  whole = fit.whole;
  epoch = fit.epoch;
  recent = fit.recent;
  certified = fit.certified;
  table_is = fit.table_is;
  words = λ r h n. fit.words r h (less r n);
}

-- ---- the regions stay
images_same : (bases : Bases) (told : Told) (old new : Files → Type 0) (c d e : CoreState) → d ≡ e → e.regions ≡ c.regions → e.system.sizes ≡ c.system.sizes → ((F : Files) → new F → old F) → ImageRun bases old told c → ImageRun bases new told d
images_same bases told old new c d e is regions sizes less run = record {
  files = λ side r g at clean cleared. run.files side r g (sym (same r) ∙ at) clean cleared;
  fits = λ F h. subst (λ (rs : List RegionState). FitsBut d.system.sizes bases (λ r. is_missed (slice_get rs r)) (log_in F) F (last_epoch (log_in F))) (sym all) (subst (λ (s : Sizes). FitsBut s bases (λ r. is_missed (slice_get c.regions r)) (log_in F) F (last_epoch (log_in F))) (sym (ap (λ (k : CoreState). k.system.sizes) is ∙ sizes)) (run.fits F (less F h)));
}
  where
    all : d.regions ≡ c.regions
    all = ap (λ (k : CoreState). k.regions) is ∙ regions

    same : (r : ℕ) → slice_get d.regions r ≡ slice_get c.regions r
    same r = ap (λ (rs : List RegionState). slice_get rs r) all

-- ---- one region changes
-- where its flag is clear afterwards, it was clear before, and the words are the same
abbrev Clears : RegionState → RegionState → Type 0
Clears g h = (side : Side) → h.poked ≡ false → is_dirty h side ≡ false → (g.poked ≡ false) × (is_dirty g side ≡ false) × (h.back ≡ g.back)

images_region :
    (bases : Bases) (told : Told) (old new : Files → Type 0) (c d : CoreState) (y : SystemState) (r : ℕ) (g h : RegionState)
    → d ≡ record { regions = slice_set c.regions r h; system = y; vault = c.vault } → y.sizes ≡ c.system.sizes
    → slice_get c.regions r ≡ Some g → Clears g h → (h.missed ≡ false → g.missed ≡ false)
    → ((F : Files) → new F → old F) → ImageRun bases old told c → ImageRun bases new told d
images_region bases told old new c d y r g h is sizes at clear misses less run = subst (λ (k : CoreState). ImageRun bases new told k) (sym is) (record {
  files = λ side q k e clean cleared. ⊎_elim
      (λ here. by_own side q k here.0 here.1 clean cleared)
      (λ there. run.files side q k there.1 clean cleared)
      (set_cases c.regions r h q k e);
  fits = λ F l. subst (λ (s : Sizes). FitsBut s bases (λ q. is_missed (slice_get (slice_set c.regions r h) q)) (log_in F) F (last_epoch (log_in F))) (sym sizes) (fits_more c.system.sizes bases (λ q. is_missed (slice_get c.regions q)) (λ q. is_missed (slice_get (slice_set c.regions r h) q)) (log_in F) F (last_epoch (log_in F)) (λ q. missed_set c.regions r q g h at misses) (run.fits F (less F l)));
})
  where
    by_own : (side : Side) (q : ℕ) (k : RegionState) → q ≡ r → k ≡ h → k.poked ≡ false → is_dirty k side ≡ false → told side q ≡ k.back
    by_own side q k e f clean cleared =
        let own = clear side (sym (ap (λ (z : RegionState). z.poked) f) ∙ clean) (sym (ap (λ (z : RegionState). is_dirty z side) f) ∙ cleared) in
        ap (told side) e ∙ (run.files side r g at own.0 own.1 ∙ (sym own.2 ∙ sym (ap (λ (z : RegionState). z.back) f)))

clears_after : (x : RegionStep) (g : RegionState) → clears x ≡ false → Clears g (region_after x g)
clears_after (Poke i m) g n side p d = absurd (cc)
clears_after Check g n A p d = (p, d, refl)
clears_after Check g n B p d = (p, d, refl)
clears_after Die g n A p d = (p, d, refl)
clears_after Die g n B p d = (p, d, refl)
clears_after (Clean side) g n s p d = absurd (cc)
clears_after _ g n A p d = (p, d, refl)
clears_after _ g n B p d = (p, d, refl)

misses_after : (x : RegionStep) (g : RegionState) → (region_after x g).missed ≡ false → g.missed ≡ false
misses_after (Latch t) g e = e
misses_after (NoteReads m) g e = e
misses_after (Update i v) g e = e
misses_after TakeBack g e = e
misses_after (Poke i m) g e = e
misses_after Check g e = left_false g.missed _ e
misses_after Die g e = e
misses_after (Clean A) g e = e
misses_after (Clean B) g e = e

-- ---- an operation

wrote_none : (o : Option Hold) (write : ℕ) (g : RegionState) (owner read xor : ℕ) → g.hold ≡ Some (record { txn = owner; dead = false; read = read; xor = xor; write = write }) → wrote g ≡ false → write ≡ 0
wrote_none o write g owner read xor e f = eqb-true write 0 (not_not (write == 0) (rw e at f))
  where
    not_not : (b : Bool) → not b ≡ false → b ≡ true
    not_not true h = refl
    not_not false h = absurd (cc)

clears_touched : (g : RegionState) (owner : ℕ) (b : Block) → IsOpen g owner b → Clears g (touched g)
clears_touched g owner b is A p d = let parts = or_parts g.dirty_a (wrote g) d in (p, parts.0, is.stands p ∙ untouched b g (wrote_none g.hold b.write g owner b.read b.xor is.hold parts.1))
  where
    untouched : (q : Block) (k : RegionState) → q.write ≡ 0 → rewritten q k.back ≡ k.back
    untouched q k e = ap (λ m. write_under m q.after k.back) e ∙ write_nothing q.after k.back
clears_touched g owner b is B p d = let parts = or_parts g.dirty_b (wrote g) d in (p, parts.0, is.stands p ∙ untouched b g (wrote_none g.hold b.write g owner b.read b.xor is.hold parts.1))
  where
    untouched : (q : Block) (k : RegionState) → q.write ≡ 0 → rewritten q k.back ≡ k.back
    untouched q k e = ap (λ m. write_under m q.after k.back) e ∙ write_nothing q.after k.back

-- of whatever a crash leaves
pub images_kept : (bases : Bases) (told : Told) (leave : Files → Type 0) (m n : Moment) (x : Step) → ImageRun bases leave told m.core → IsStepAt m x n → writes_images x ≡ false → ImageRun bases leave told n.core
images_kept bases told leave m n Begins run s w = images_same bases told leave leave m.core n.core _ s.0.1.1 refl refl (λ F h. h) run
images_kept bases told leave m n (Operates t b) run s w = images_region bases told leave leave m.core n.core _ b.region s.0.0 (touched s.0.0) s.0.3.1 refl s.0.2.at (clears_touched s.0.0 t b s.0.2.is_open) (λ e. e) (λ F h. h) run
images_kept bases told leave m n (TakesBack t b) run s w = images_region bases told leave leave m.core n.core _ b.region s.0.0 (touched s.0.0) s.0.2.1 refl s.0.1.at (clears_touched s.0.0 t b s.0.1.is_open) (λ e. e) (λ F h. h) run
images_kept bases told leave m n (Frees p b) run s w = images_region bases told leave leave m.core n.core _ b.region s.0.0 (touched s.0.0) s.0.2.1 refl s.0.1.at (clears_touched s.0.0 p b s.0.1.is_open) (λ e. e) (λ F h. h) run
images_kept bases told leave m n (Answers t k a) run s w = images_same bases told leave leave m.core n.core _ s.0.3.1 refl refl (λ F h. h) run
images_kept bases told leave m n (Commits t) run s w = images_same bases told leave leave m.core n.core _ s.0.2.1 refl refl (λ F h. h) run
images_kept bases told leave m n (Ends t) run s w = images_same bases told leave leave m.core n.core _ s.0.2.1 refl refl (λ F h. h) run
images_kept bases told leave m n AuditBegins run s w = images_same bases told leave leave m.core n.core _ s.0.2.1 refl refl (λ F h. h) run
images_kept bases told leave m n (AuditEnds b found) run s w = images_same bases told leave leave m.core n.core _ s.0.1.1 refl refl (λ F h. h) run
images_kept bases told leave m n (Locks t k mode) run s w = images_same bases told leave leave m.core n.core _ s.0.2.1 refl refl (λ F h. h) run
images_kept bases told leave m n (Refuses t k mode h) run s w = images_same bases told leave leave m.core n.core _ s.0.2.1 refl refl (λ F h. h) run
images_kept bases told leave m n (OnRegion r x) run s w = images_region bases told leave leave m.core n.core m.core.system r s.0.0 (region_after x s.0.0) s.0.3.1 refl s.0.1 (clears_after x s.0.0 w) (misses_after x s.0.0) (λ F h. h) run
images_kept bases told leave m n (Passes b r) run s w = images_region bases told leave leave m.core n.core m.core.system r s.0.0 (region_after Check s.0.0) s.0.2.1 refl s.0.1 (clears_after Check s.0.0 refl) (misses_after Check s.0.0) (λ F h. h) run
images_kept bases told leave m n (Dies t None) run s w = images_same bases told leave leave m.core n.core _ s.0.1.1 refl refl (λ F h. h) run
images_kept bases told leave m n (Dies t (Some r)) run s w =
    let held = s.0.0.latched.held r refl in
    let region = region_with (slice_get m.core.regions r) held.0 held.1 in
    images_region bases told leave leave m.core n.core (in_state m.core.system t (Dead (Some r))) r region.0 (dead region.0)
    (s.0.1.1 ∙ ap (λ gs. record { regions = gs; system = in_state m.core.system t (Dead (Some r)); vault = m.core.vault }) (dead_at m.core.regions r region.0 region.1)) refl region.1 (clears_after Die region.0 refl) (misses_after Die region.0) (λ F h. h) run
images_kept bases told leave m n (Claims t) run s w = images_same bases told leave leave m.core n.core _ s.0.2.1 refl refl (λ F h. h) run
images_kept bases told leave m n (GivesBack t o) run s w = images_same bases told leave leave m.core n.core _ s.0.1.1 refl refl (λ F h. h) run
images_kept bases told leave m n (Recovers r) run s w = images_region bases told leave leave m.core n.core m.core.system r s.0.0 (region_after TakeBack s.0.0) s.0.3.1 refl s.0.1 (clears_after TakeBack s.0.0 refl) (misses_after TakeBack s.0.0) (λ F h. h) run
images_kept bases told leave m n Stops run s w = images_same bases told leave leave m.core n.core _ s.0.1.1 refl refl (λ F h. h) run
images_kept bases told leave m n (Checkpoints b) run s w = images_same bases told leave leave m.core n.core _ s.0.1.1 refl refl (λ F h. h) run
images_kept bases told leave m n Takes run s w = images_same bases told leave leave m.core n.core _ s.0.1 refl refl (λ F h. h) run
images_kept bases told leave m n Flushes run s w = absurd (cc)
images_kept bases told leave m n (Faults k) run s w = absurd (cc)
images_kept bases told leave m n (ReadFails k) run s w = images_same bases told leave leave m.core n.core _ s.0.1.1 refl refl (λ F h. h) run

pub images_keep : ImagesKeep
images_keep bases told m n x F run s w = images_kept bases told (only F) m n x run s w

pub images_fewer : (bases : Bases) (told : Told) (old new : Files → Type 0) (c : CoreState) → ((F : Files) → new F → old F) → ImageRun bases old told c → ImageRun bases new told c
images_fewer bases told old new c less run = record { files = run.files; fits = λ F h. run.fits F (less F h) }

-- ---- a copy that was written
pub side_self : (side : Side) → same_side side side ≡ true
side_self A = refl
side_self B = refl

-- the flag of the other side is left
other_side : (s side : Side) (g : RegionState) → same_side s side ≡ false → is_dirty (cleaned side g) s ≡ is_dirty g s
other_side A A g e = absurd (cc)
other_side A B g e = refl
other_side B A g e = refl
other_side B B g e = absurd (cc)

cleaned_back : (side : Side) (g : RegionState) → ((cleaned side g).back ≡ g.back) × ((cleaned side g).poked ≡ g.poked) × ((cleaned side g).missed ≡ g.missed)
cleaned_back A g = (refl, refl, refl)
cleaned_back B g = (refl, refl, refl)

pub copy_kept : (bases : Bases) (told : Told) (leave : Files → Type 0) (c : CoreState) (side : Side) (r : ℕ) (g : RegionState) → ImageRun bases leave told c → slice_get c.regions r ≡ Some g → ImageRun bases leave (told_with told side r g.back) (with_region c r (cleaned side g))
copy_kept bases told leave c side r g run at = record {
  files = λ s q k e clean cleared. ⊎_elim
      (λ here. own s q k here.0 here.1 clean cleared (same_side s side) refl)
      (λ there. others s q k there.0 there.1 clean cleared)
      (set_cases c.regions r (cleaned side g) q k e);
  fits = λ F l. fits_more c.system.sizes bases (λ q. is_missed (slice_get c.regions q)) (λ q. is_missed (slice_get (slice_set c.regions r (cleaned side g)) q)) (log_in F) F (last_epoch (log_in F)) (λ q. missed_set c.regions r q g (cleaned side g) at (λ e. sym (cleaned_back side g).2 ∙ e)) (run.fits F l);
}
  where
    own : (s : Side) (q : ℕ) (k : RegionState) → q ≡ r → k ≡ cleaned side g → k.poked ≡ false → is_dirty k s ≡ false → (b : Bool) → same_side s side ≡ b → cond (same_side s side && (q == r)) g.back (told s q) ≡ k.back
    own s q k e f clean cleared true same = rw (same, eq-eqb q r e, f) (sym (cleaned_back side g).0)
    own s q k e f clean cleared false same = rw same (ap (told s) e ∙ (run.files s r g at (sym (ap (λ (z : RegionState). z.poked) f ∙ (cleaned_back side g).1) ∙ clean) (sym (ap (λ (z : RegionState). is_dirty z s) f ∙ other_side s side g same) ∙ cleared) ∙ sym (ap (λ (z : RegionState). z.back) f ∙ (cleaned_back side g).0)))

    others : (s : Side) (q : ℕ) (k : RegionState) → r ≢ q → slice_get c.regions q ≡ Some k → k.poked ≡ false → is_dirty k s ≡ false → cond (same_side s side && (q == r)) g.back (told s q) ≡ k.back
    others s q k apart e clean cleared = by_test (same_side s side) (q == r) (ne_eqb q r (λ same. apart (sym same)))
      where
        by_test : (a b : Bool) → b ≡ false → cond (a && b) g.back (told s q) ≡ k.back
        by_test true true h = absurd (cc)
        by_test true false h = run.files s q k e clean cleared
        by_test false b h = run.files s q k e clean cleared

pub copy_keeps : CopyKeeps
copy_keeps bases told F c side r g run at = copy_kept bases told (only F) c side r g run at
