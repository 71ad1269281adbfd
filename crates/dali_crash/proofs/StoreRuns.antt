-- Each step keeps a run with its store, and each list of steps.
use Rattle.std.proofs.Common.{◌≡◌, ℕ, zero, suc, ◌+◌, ◌*◌, ◌%◌, ◌<◌, ◌≤◌, Bool, true, false, cond, List, [], ◌∷◌, length, take, Option, Some, None, is_some, refl, ap, sym, subst, ◌∙◌, inl, inr, ⊎_elim, arith, ◌⊎◌}
use Rattle.std.specs.Prelude.{◌==◌, ◌^◌, ◌&&◌, ◌||◌, not, slice_get, slice_set, flat_map, sum_by}
use Rattle.std.specs.List.{range_with_len}
use Rattle.std.proofs.lemmas.List.{length-map, take_all, length-take-le}
use Rattle.std.proofs.lemmas.List.FromFn.{length-range_with_len, get_or-map-range_with_len}
use Rattle.std.proofs.lemmas.Bool.{eqb-true, eq-eqb}
use Rattle.dali_lists.proofs.Lists.{set_cases, get_within}
use Rattle.dali_lists.proofs.Options.{some_of_test, some_same}
use Rattle.dali_lists.proofs.Tests.{left_true, right_true}
use Rattle.dali_geometry.specs.Places.{regions}
use Rattle.dali_record.specs.declared.records.Record.{Record}
use Rattle.dali_record.specs.Epochs.{Epoch, last_epoch}
use Rattle.dali_record.specs.Settled.{words_in}
use Rattle.dali_record.specs.Spelling.{record_length, is_size_of_index}
use Rattle.dali_record.specs.Files.{Files, batch_length, next_after, table_before}
use Rattle.dali_region.specs.declared.Side.{Side}
use Rattle.dali_region.specs.declared.Side.TheVariants.{A, B}
use Rattle.dali_region.specs.State.{RegionState}
use Rattle.dali_region.specs.Answers.{is_dirty, cleaned}
use Rattle.dali_runs.proofs.CountsLemmas.Tallies.{numbers, tallies, numbers_drawn}
use Rattle.dali_runs.specs.State.{VaultState, CoreState, stable, log_after}
use Rattle.dali_runs.specs.Run.{Bases, log_in, RunsOn, IsPrefix, VaultRun, HasRisen, no_image, only}
use Rattle.dali_runs.specs.Regions.{Clean}
use Rattle.dali_runs.specs.Keeps.{with_region}
use Rattle.dali_runs.specs.Flushes.{faulted, frame_of, with_frame}
use Rattle.dali_runs.specs.Courses.{Step, OnRegion, Checkpoints, Flushes, Faults, Moment, IsStepAt, RunsAt}
use Rattle.dali_runs.specs.Images.{Told, FilesRun, FitsBut, is_missed, ImageRun}
use Rattle.dali_runs.specs.ImageSteps.{same_side, told_with}
use Rattle.dali_runs.proofs.Courses.{Goes, step_goes, LeavesBy, fewer, step_keeps_none, step_runs, run_less, runs_on}
use Rattle.dali_runs.proofs.Flushes.{risen_since, no_less, fault_keeps}
use Rattle.dali_record.specs.declared.records.Record.TheVariants.{Format}
use Rattle.dali_runs.proofs.FlushedImages.{frame_inside, faulted_images, flushed_images}
use Rattle.dali_crash.specs.Checkpoints.{Head, Copy, Point, Does, Starts, Keeps, IsUntouched, copy_at, Copies, Skips, WritesHead, Syncs, Turns, CopyFails, HeadFails, SyncFails, TurnFails, Finishes, side_of, image_side, target, copies_with, head_now, pass_copy, passes_region, copies_after, is_of_checkpoint, image_in, MayHold, turned, MayTurn, IsFault, with_fault, with_current, with_flag, Came, IsOverwritten, IsPointStep, StoreStep, moment_of}
use Rattle.dali_crash.specs.StoreRuns.{IsCopied, IsKept, AreWritten, StoreRun, CurrentIsSmall, StoreStepKeeps, StoreCourseKeeps, TurnEnds, BareStoreCourseKeeps, TurnLeaves}
use Rattle.dali_words.specs.Words.{AreWords}
use Rattle.dali_record.proofs.Batches.{number_is_length, got_none}
use Rattle.dali_runs.proofs.CountsLemmas.SmallLogs.{is_small}
use Rattle.dali_crash.proofs.StepFlags.{flags_go}
use Rattle.dali_crash.proofs.StepLeaves.{VaultGoes, vault_goes, RegionGoes, regions_go, core_came}
use Rattle.dali_crash.proofs.Kept.{held_frame, kept_goes, copied_goes, copied_onward}
use Rattle.dali_crash.proofs.Turned.{IsRightPlace, turned_fits}
use Rattle.dali_crash.proofs.Untouched.{untouched_words}
use Rattle.dali_runs.proofs.ImageSteps.{copy_kept, images_fewer, images_kept}

-- ---- sides
-- the next checkpoint isn't written where the current image stands
pub other_side : (c : ℕ) → image_side c ≡ Some (side_of (c + 1)) → ⊥
other_side c e = by_tests (c == 0) (c % 2 == 1) ((c + 1) % 2 == 1) refl refl e
  where
    by_tests : (a b d : Bool) → (c % 2 == 1) ≡ b → ((c + 1) % 2 == 1) ≡ d → cond a None (Some (cond b A B)) ≡ Some (cond d A B) → ⊥
    by_tests true b d p q f = cc
    by_tests false true true p q f = let x : c % 2 ≡ 1 = eqb-true (c % 2) 1 p in let y : (c + 1) % 2 ≡ 1 = eqb-true ((c + 1) % 2) 1 q in omega (arith, x, y)
    by_tests false true false p q f = cc
    by_tests false false true p q f = cc
    by_tests false false false p q f = odd_or (λ x. absurd (clash (eq-eqb (c % 2) 1 x) p)) (λ y. absurd (clash (eq-eqb ((c + 1) % 2) 1 y) q))
      where
        clash : {b : Bool} → b ≡ true → b ≡ false → ⊥
        clash g h = cc

        odd_or : (c % 2 ≡ 1 → ⊥) → ((c + 1) % 2 ≡ 1 → ⊥) → ⊥
        odd_or x y = omega (arith, x, y)

pub side_is : (a b : Side) → same_side a b ≡ true → a ≡ b
side_is A A f = refl
side_is B B f = refl
side_is A B f = absurd (cc)
side_is B A f = absurd (cc)

-- ---- what a crash leaves
-- each crash image behind the step came from one before
abbrev pub Leaves : (Files → Type 0) → (Files → Type 0) → Point → StoreStep → Type 0
Leaves old new p x = (F : Files) → new F → (D : Files) × old D × Came p x D F

pub one_came : (p : Point) (x : StoreStep) (D F : Files) → Came p x D F → Leaves (only D) (only F) p x
one_came p x D F came G is = (D, refl, subst (Came p x D) (sym is) came)

-- what is written to the target leaves the current image
unwritten : (bases : Bases) (before : List Record) (old new : Files → Type 0) (st : Point) → StoreRun bases before old st → st.core.vault.stopped ≡ false → ((F : Files) → new F → (D : Files) × old D × ((F ≡ D) ⊎ IsOverwritten (target st) D F)) → (F : Files) → new F → old F
unwritten bases before old new st run runs written F h =
    let w = written F h in
    ⊎_elim (λ same. subst old (sym same) w.1)
    (λ other. absurd (other_side st.core.vault.current (ap image_side (sym (run.anchor runs w.0 w.1)) ∙ other.0)))
    w.2

kept_less : (L : List Record) (v w : VaultState) (old new : Files → Type 0) (h : Head) → w.current ≡ v.current → ((F : Files) → new F → old F) → IsKept L v old h → IsKept L w new h
kept_less L v w old new h same less kept = record { number = kept.number ∙ ap (λ c. c + 1) (sym same); from = kept.from; to = kept.to; weight = kept.weight; next = kept.next; table = kept.table; moved = omega (arith, same, kept.moved); short = kept.short; held = λ F l. kept.held F (less F l); place = λ F l. kept.place F (less F l) }

-- ---- runs
vault_less : (old new : Files → Type 0) (L : List Record) (n : ℕ) (v w : VaultState) → w.end ≡ v.end → w.stopped ≡ v.stopped → w.faults ≡ v.faults → w.faults_then ≡ v.faults_then → ((F : Files) → new F → (D : Files) × old D × (F.batches ≡ D.batches)) → VaultRun old L n v → VaultRun new L n w
vault_less old new L n v w end stopped faults then less run = record {
  within = run.within;
  prefix = λ F h. let s = less F h in let is = run.prefix s.0 s.1 in record { count = is.count; flushed = is.flushed; within = is.within; log = ap (flat_map (λ b. b)) s.2 ∙ is.log };
  exact = λ e F h. let s = less F h in let is = run.exact (sym stopped ∙ e) s.0 s.1 in record { log = ap (flat_map (λ b. b)) s.2 ∙ is.log; end = end ∙ (is.end ∙ ap (sum_by batch_length) (sym s.2)) };
  short = subst (λ k. k ≤ sum_by record_length (take n L) + 5 * n) (sym end) run.short;
  then_fits = rw then run.then_fits;
  counts = rw (faults, then) run.counts;
  rose = λ e. rw (faults, then) (run.rose (sym stopped ∙ e));
}

vault_faults : (old new : Files → Type 0) (L : List Record) (n k : ℕ) (v : VaultState) → HasRisen v.faults k → ((F : Files) → new F → (D : Files) × old D × (F.batches ≡ D.batches)) → VaultRun old L n v → VaultRun new L n (faulted v k)
vault_faults old new L n k v rose less run = record {
  within = run.within;
  prefix = λ F h. let s = less F h in let is = run.prefix s.0 s.1 in record { count = is.count; flushed = is.flushed; within = is.within; log = ap (flat_map (λ b. b)) s.2 ∙ is.log };
  exact = λ e. absurd (cc);
  short = run.short;
  then_fits = run.then_fits;
  counts = no_less v.faults_then v.faults k run.then_fits run.counts rose;
  rose = λ e. risen_since v.faults_then v.faults k run.counts rose;
}

abbrev Batches : (old new : Files → Type 0) → Type 0
Batches old new = (F : Files) → new F → (D : Files) × old D × (F.batches ≡ D.batches)

-- the anchor moved
run_turned : (bases : Bases) (before : List Record) (old new : Files → Type 0) (m : Moment) → Batches old new → RunsAt bases before old m → RunsAt bases before new (record { log = m.log; core = with_current m.core; audits = m.audits })
run_turned bases before old new m less at = record {
  log = at.log;
  run = record {
    first = at.run.first;
    began = at.run.began;
    runs = let q : RunsOn bases (log_after before m.core.system) m.core = at.run.runs in record {
      log = q.log;
      counts = q.counts;
      table = q.table;
      locks = q.locks;
      stop = record { damage = q.stop.damage; failed = q.stop.failed; store = q.stop.store };
      whole = q.whole;
      base = q.base;
      regions = q.regions;
    };
    frame = at.run.frame;
    taken = at.run.taken;
    vault = vault_less old new (log_after before m.core.system) (stable m.core) m.core.vault _ refl refl refl refl less at.run.vault;
  };
  audits = record { within = at.audits.within; tells = at.audits.tells; once = at.audits.once };
}

-- a fault
run_faults : (bases : Bases) (before : List Record) (old new : Files → Type 0) (m : Moment) (k : ℕ) → HasRisen m.core.vault.faults k → Batches old new → RunsAt bases before old m → RunsAt bases before new (record { log = m.log; core = with_fault m.core k; audits = m.audits })
run_faults bases before old new m k rose less at = record {
  log = at.log;
  run = record {
    first = at.run.first;
    began = at.run.began;
    runs = fault_keeps bases (log_after before m.core.system) m.core k at.run.runs;
    frame = at.run.frame;
    taken = at.run.taken;
    vault = vault_faults old new (log_after before m.core.system) (stable m.core) k m.core.vault rose less at.run.vault;
  };
  audits = record { within = at.audits.within; tells = at.audits.tells; once = at.audits.once };
}

-- ---- a step that writes no image
images_do : (bases : Bases) (before : List Record) (old new : Files → Type 0) (st : Point) (n : Moment) (x : Step) → StoreRun bases before old st → is_of_checkpoint x ≡ false → IsStepAt (moment_of st) x n → LeavesBy old new st.log st.core x → ImageRun bases new st.told n.core
images_do bases before old new st n Flushes run quiet s l = flushed_images bases before st.told old new (moment_of st) n run.run run.images s l
images_do bases before old new st n (Faults k) run quiet s l = faulted_images bases before st.told old new (moment_of st) n k run.run run.images s l
images_do bases before old new st n (OnRegion r y) run quiet s l = images_fewer bases st.told old new n.core (fewer old new l) (images_kept bases st.told old (moment_of st) n (OnRegion r y) run.images s quiet)
images_do bases before old new st n x run quiet s l = images_fewer bases st.told old new n.core (fewer old new l) (images_kept bases st.told old (moment_of st) n x run.images s refl)

some_copy : (b : Bool) (o : Option Copy) (k : Copy) → pass_copy b o ≡ Some k → (c : Copy) × (o ≡ Some c) × (k ≡ record c { passed = c.passed || b })
some_copy b None k e = absurd (cc)
some_copy b (Some c) k e = (c, refl, sym (some_same e))

pub still_copied : (b : Bool) (o : Option Copy) → is_some o ≡ true → is_some (pass_copy b o) ≡ true
still_copied b None e = absurd (cc)
still_copied b (Some c) e = refl

does : (bases : Bases) (before : List Record) (old new : Files → Type 0) (st : Point) (x : Step) (n : Moment) → StoreRun bases before old st → is_of_checkpoint x ≡ false → IsStepAt (moment_of st) x n → LeavesBy old new st.log st.core x → StoreRun bases before new (record st { log = n.log; core = n.core; audits = n.audits; copies = copies_after st.core x st.copies })
does bases before old new st x n run quiet s l = record {
  run = there;
  images = images_do bases before old new st n x run quiet s l;
  anchor = λ runs F h. let w = files F h in
      ⊎_elim (λ same. ap (λ (f : Files). f.gates) same) (λ more. ap (λ (f : Files). f.gates) more) w.2
      ∙ (run.anchor (vault.runs runs) w.0 w.1 ∙ sym vault.current);
  kept = λ h e. kept_goes (moment_of st) n h st.core.vault n.core.vault old new _ (run.kept h e) goes vault.current (frame_inside bases before old (moment_of st) run.run) files;
  copied = λ side r k g e at. copied side r k g (some_copy (passes_region st.core x r) (st.copies side r) k e) (regions_go (moment_of st) n x r g s at);
  written = record {
    copied = λ side r k e. let w = some_copy (passes_region st.core x r) (st.copies side r) k e in run.written.copied side r w.0 w.1;
    clean = λ side r g at clear. let w = flags_go (moment_of st) n x r g s quiet at in still_copied (passes_region st.core x r) (st.copies side r) (run.written.clean side r w.0 w.1 (w.2 side clear));
  };
  moved = omega (arith, run.moved, vault.current, vault.flushed, run.run.run.first, there.run.first);
  few = λ F l. let w = files F l in ⊎_elim
      (λ same. subst (λ (f : Files). f.gates ≤ length (log_in f) + 2 ^ 61) (sym same) (run.few w.0 w.1))
      (λ more. omega (arith, ap (λ (f : Files). f.gates) more, held_frame F w.0 _ (length (log_in w.0)) more (let e : length (log_in w.0) ≤ length (log_in w.0) = omega arith in e), run.few w.0 w.1))
      w.2;
}
  where
    there : RunsAt bases before new n
    there = step_runs bases before old new (moment_of st) n x run.run s l

    vault : VaultGoes (moment_of st) n
    vault = vault_goes (moment_of st) n x s

    files : (F : Files) → new F → (D : Files) × old D × ((F ≡ D) ⊎ (F ≡ with_frame D (frame_of st.log st.core)))
    files F h = let w = l F h in (w.0, w.1, core_came st.log st.core x w.0 F w.2)

    goes : Goes (moment_of st) n
    goes = step_goes (moment_of st) n x s

    copied :
        (side : Side) (r : ℕ) (k : Copy) (g : RegionState)
        → (c : Copy) × (st.copies side r ≡ Some c) × (k ≡ record c { passed = c.passed || passes_region st.core x r })
        → RegionGoes (passes_region st.core x r) st.core.regions r g
        → IsCopied (bases (last_epoch n.log).first) (last_epoch n.log) r g k (st.told side r)
    copied side r k g w q = copied_goes bases (moment_of st) n r g k (st.told side r) goes
        (subst (λ z. IsCopied (bases (last_epoch st.log).first) (last_epoch st.log) r g z (st.told side r)) (sym w.2)
        (copied_onward (bases (last_epoch st.log).first) (last_epoch st.log) r (passes_region st.core x r) q.was g w.0 (st.told side r) q.onward (run.copied side r w.0 q.was w.1 q.at)))

-- ---- the flag of a checkpoint
flag_set :
    (bases : Bases) (before : List Record) (leave : Files → Type 0) (st : Point) (b : Bool) → StoreRun bases before leave st → st.core.system.checking ≡ not b
    → StoreRun bases before leave (record st { core = with_flag st.core b })
flag_set bases before leave st b run was = record {
  run = step_runs bases before leave leave (moment_of st) n (Checkpoints b) run.run s (λ F h. (F, h, refl));
  images = images_kept bases st.told leave (moment_of st) n (Checkpoints b) run.images s refl;
  anchor = run.anchor;
  kept = run.kept;
  copied = run.copied;
  written = record { copied = run.written.copied; clean = run.written.clean };
  moved = run.moved;
  few = run.few;
}
  where
    n : Moment
    n = record { log = st.log; core = with_flag st.core b; audits = st.audits }

    s : IsStepAt (moment_of st) (Checkpoints b) n
    s = ((was, (refl, refl)), refl)

-- what is kept is another, or nothing
keeps_other :
    (bases : Bases) (before : List Record) (leave : Files → Type 0) (st : Point) (o : Option Head) → StoreRun bases before leave st
    → ((h : Head) → o ≡ Some h → IsKept st.log st.core.vault leave h)
    → StoreRun bases before leave (record st { begun = o })
keeps_other bases before leave st o run kept = record { run = run.run; images = run.images; anchor = run.anchor; kept = kept; copied = run.copied; written = record { copied = run.written.copied; clean = run.written.clean }; moved = run.moved; few = run.few }

-- ---- what a checkpoint keeps
keeps_now : (bases : Bases) (before : List Record) (leave : Files → Type 0) (m : Moment) → RunsAt bases before leave m → m.core.vault.stopped ≡ false → stable m.core ≡ m.core.system.records → m.core.vault.current ≤ stable m.core + 2 ^ 61 → IsKept m.log m.core.vault leave (head_now m.log m.core)
keeps_now bases before leave m at runs all few = record {
  number = refl;
  from = omega (arith, number_is_length m.log, count);
  to = omega (arith, count);
  weight = run.counts.end ∙ (tell.1 ∙ ap (sum_by record_length) (sym whole));
  next = run.counts.next ∙ (tell.2 ∙ (numbers_drawn m.log ∙ ap next_after (sym whole)));
  table = ap (table_before (last_epoch m.log)) (sym count);
  moved = omega (arith, all, few);
  short = omega (arith, all, vault.short, ap (λ n. sum_by record_length (take n m.log)) all, ap (sum_by record_length) whole, run.counts.end, tell.1);
  held = λ F l. omega (arith, size F l);
  place = λ F l. (
    length F.batches,
    ap (flat_map (λ b. b)) (every F) ∙ sym (take_all m.core.system.records (log_in F) (omega (arith, size F l))),
    (vault.exact runs F l).end ∙ ap (sum_by batch_length) (sym (every F)),
    λ j b h e. absurd (got_none F.batches j b h e),
  );
}
  where
    run : RunsOn bases m.log m.core
    run = subst (λ L. RunsOn bases L m.core) (sym at.log) at.run.runs

    vault : VaultRun leave m.log (stable m.core) m.core.vault
    vault = subst (λ L. VaultRun leave L (stable m.core) m.core.vault) (sym at.log) at.run.vault

    tell : (run.counts.now.count ≡ length m.log) × (run.counts.now.weight ≡ sum_by record_length m.log) × (run.counts.now.next ≡ numbers m.log)
    tell = tallies m.core.system.sizes m.log run.counts.now run.counts.rules

    count : m.core.system.records ≡ length m.log
    count = run.counts.records ∙ tell.0

    whole : take m.core.system.records m.log ≡ m.log
    whole = take_all m.core.system.records m.log (omega (arith, count))

    size : (F : Files) → leave F → length (log_in F) ≡ m.core.system.records
    size F l = ap length ((vault.exact runs F l).log ∙ (ap (λ n. take n m.log) all ∙ whole)) ∙ sym count

    every : (F : Files) → take (length F.batches) F.batches ≡ F.batches
    every F = take_all (length F.batches) F.batches (omega arith)

-- ---- a copy
-- what is known of a place right after it was brought up to date
up_to_date : (bases : Bases) (L : List Record) (c : CoreState) (r n : ℕ) (g : RegionState) (ws : List ℕ) → RunsOn bases L c → slice_get c.regions r ≡ Some g → IsUntouched L r n → (g.poked ≡ false → ws ≡ g.back) → IsCopied (bases (last_epoch L).first) (last_epoch L) r g (copy_at n) ws
up_to_date bases L c r n g ws run at still same = by_test g.poked refl
  where
    by_test : (b : Bool) → g.poked ≡ b → IsCopied (bases (last_epoch L).first) (last_epoch L) r g (copy_at n) ws
    by_test true e = inr (record { poked = e; missed = λ f. absurd (cc) })
    by_test false e = inl (record {
      to = omega (arith, number_is_length L, still.within);
      words = same e ∙ ((run.regions r g at).settled e ∙ untouched_words (bases (last_epoch L).first) L r n still.none);
    })

-- the places of the others are as they were
abbrev IsKnown : Bases → List Record → List RegionState → (Side → ℕ → Option Copy) → Told → Type 0
IsKnown bases L regions copies told = (side : Side) (r : ℕ) (k : Copy) (g : RegionState) → copies side r ≡ Some k → slice_get regions r ≡ Some g → IsCopied (bases (last_epoch L).first) (last_epoch L) r g k (told side r)

-- one place changes, and perhaps the region's flag
known_with :
    (bases : Bases) (L : List Record) (old new : List RegionState) (copies : Side → ℕ → Option Copy) (told : Told) (t : Side) (r : ℕ) (o : Option Copy) (ws : List ℕ)
    → IsKnown bases L old copies told
    → ((q : ℕ) (h : RegionState) → slice_get new q ≡ Some h → (g : RegionState) × (slice_get old q ≡ Some g) × (h.poked ≡ g.poked) × (h.missed ≡ g.missed))
    → ((k : Copy) (h : RegionState) → o ≡ Some k → slice_get new r ≡ Some h → IsCopied (bases (last_epoch L).first) (last_epoch L) r h k ws)
    → IsKnown bases L new (copies_with copies t r o) (told_with told t r ws)
known_with bases L old new copies told t r o ws known same here side q k h e at = by_test (same_side side t && (q == r)) refl e
  where
    by_test :
        (b : Bool) → (same_side side t && (q == r)) ≡ b → cond b o (copies side q) ≡ Some k
        → IsCopied (bases (last_epoch L).first) (last_epoch L) q h k (cond b ws (told side q))
    by_test true f d = subst (λ p. IsCopied (bases (last_epoch L).first) (last_epoch L) p h k ws) (sym (eqb-true q r (right_true (same_side side t) (q == r) f))) (here k h d (subst (λ p. slice_get new p ≡ Some h) (eqb-true q r (right_true (same_side side t) (q == r) f)) at))
    by_test false f d = let w = same q h at in ⊎_elim
        (λ a. inl (record { to = a.to; words = a.words }))
        (λ a. inr (record { poked = w.2 ∙ a.poked; missed = λ p. w.3 ∙ a.missed p }))
        (known side q k w.0 d w.1)

as_before : (rs : List RegionState) (q : ℕ) (h : RegionState) → slice_get rs q ≡ Some h → (g : RegionState) × (slice_get rs q ≡ Some g) × (h.poked ≡ g.poked) × (h.missed ≡ g.missed)
as_before rs q h e = (h, e, refl, refl)

cleaned_same : (t : Side) (g : RegionState) → ((cleaned t g).poked ≡ g.poked) × ((cleaned t g).missed ≡ g.missed)
cleaned_same A g = (refl, refl)
cleaned_same B g = (refl, refl)

one_cleaned : (rs : List RegionState) (t : Side) (r : ℕ) (g : RegionState) → slice_get rs r ≡ Some g → (q : ℕ) (h : RegionState) → slice_get (slice_set rs r (cleaned t g)) q ≡ Some h → (k : RegionState) × (slice_get rs q ≡ Some k) × (h.poked ≡ k.poked) × (h.missed ≡ k.missed)
one_cleaned rs t r g at q h e = ⊎_elim
    (λ w. (g, subst (λ p. slice_get rs p ≡ Some g) (sym w.0) at, ap (λ (z : RegionState). z.poked) w.1 ∙ (cleaned_same t g).0, ap (λ (z : RegionState). z.missed) w.1 ∙ (cleaned_same t g).1))
    (λ w. (h, w.1, refl, refl))
    (set_cases rs r (cleaned t g) q h e)

-- with the flag cleared the region is known as before
copied_same : (base : List (List ℕ)) (e : Epoch) (r : ℕ) (g h : RegionState) (k : Copy) (ws : List ℕ) → h.poked ≡ g.poked → h.missed ≡ g.missed → IsCopied base e r g k ws → IsCopied base e r h k ws
copied_same base e r g h k ws p m is = ⊎_elim (λ a. inl a) (λ a. inr (record { poked = p ∙ a.poked; missed = λ f. m ∙ a.missed f })) is

-- ---- the words in a place
are_words : (bases : Bases) (L : List Record) (c : CoreState) (r : ℕ) (g : RegionState) → RunsOn bases L c → slice_get c.regions r ≡ Some g → AreWords g.back
are_words bases L c r g run at = (run.regions r g at).protected.back

cleaned_other : (t s : Side) (g : RegionState) → same_side s t ≡ false → is_dirty (cleaned t g) s ≡ is_dirty g s
cleaned_other A A g e = absurd (cc)
cleaned_other A B g e = refl
cleaned_other B A g e = refl
cleaned_other B B g e = absurd (cc)

-- right after a copy
written_now :
    (rs : List RegionState) (copies : Side → ℕ → Option Copy) (told : Told) (t : Side) (r n : ℕ) (g : RegionState) → AreWritten rs copies told
    → slice_get rs r ≡ Some g → AreWords g.back
    → AreWritten (slice_set rs r (cleaned t g)) (copies_with copies t r (Some (copy_at n))) (told_with told t r g.back)
written_now rs copies told t r n g was at words = record {
  copied = λ side q k e. copied_there side q k (same_side side t && (q == r)) refl e;
  clean = λ side q h e clear. clean_there side q h e clear (same_side side t) (q == r) refl refl;
}
  where
    copied_there : (side : Side) (q : ℕ) (k : Copy) (b : Bool) → (same_side side t && (q == r)) ≡ b → cond b (Some (copy_at n)) (copies side q) ≡ Some k → AreWords (cond b g.back (told side q))
    copied_there side q k true f e = words
    copied_there side q k false f e = was.copied side q k e

    clean_there : (side : Side) (q : ℕ) (h : RegionState) → slice_get (slice_set rs r (cleaned t g)) q ≡ Some h → is_dirty h side ≡ false → (a b : Bool) → same_side side t ≡ a → (q == r) ≡ b → is_some (cond (a && b) (Some (copy_at n)) (copies side q)) ≡ true
    clean_there side q h e clear true true f d = refl
    clean_there side q h e clear true false f d = ⊎_elim
        (λ w. absurd (let same : (q == r) ≡ true = eq-eqb q r w.0 in cc))
        (λ w. was.clean side q h w.1 clear)
        (set_cases rs r (cleaned t g) q h e)
    clean_there side q h e clear false b f d = ⊎_elim
        (λ w. was.clean side q g (subst (λ p. slice_get rs p ≡ Some g) (sym w.0) at) (sym (ap (λ z. is_dirty z side) w.1 ∙ cleaned_other t side g f) ∙ clear))
        (λ w. was.clean side q h w.1 clear)
        (set_cases rs r (cleaned t g) q h e)

-- a copy that failed: its place isn't up to date, and the region's flag stands
written_torn :
    (rs : List RegionState) (copies : Side → ℕ → Option Copy) (told : Told) (t : Side) (r : ℕ) (g : RegionState) (ws : List ℕ) → AreWritten rs copies told
    → slice_get rs r ≡ Some g → is_dirty g t ≡ true
    → AreWritten rs (copies_with copies t r None) (told_with told t r ws)
written_torn rs copies told t r g ws was at dirty = record {
  copied = λ side q k e. copied_there side q k (same_side side t && (q == r)) refl e;
  clean = λ side q h e clear. clean_there side q h e clear (same_side side t) (q == r) refl refl;
}
  where
    copied_there : (side : Side) (q : ℕ) (k : Copy) (b : Bool) → (same_side side t && (q == r)) ≡ b → cond b None (copies side q) ≡ Some k → AreWords (cond b ws (told side q))
    copied_there side q k true f e = absurd (cc)
    copied_there side q k false f e = was.copied side q k e

    clean_there : (side : Side) (q : ℕ) (h : RegionState) → slice_get rs q ≡ Some h → is_dirty h side ≡ false → (a b : Bool) → same_side side t ≡ a → (q == r) ≡ b → is_some (cond (a && b) None (copies side q)) ≡ true
    clean_there side q h e clear true true f d =
        let same : h ≡ g = some_same (sym e ∙ (ap (slice_get rs) (eqb-true q r d) ∙ at)) in
        let stands : is_dirty h side ≡ true = ap (λ (z : RegionState). is_dirty z side) same ∙ (ap (is_dirty g) (side_is side t f) ∙ dirty) in
        absurd (cc)
    clean_there side q h e clear true false f d = was.clean side q h e clear
    clean_there side q h e clear false b f d = was.clean side q h e clear

-- a region that is skipped, whose flag is clear
written_skipped :
    (rs : List RegionState) (copies : Side → ℕ → Option Copy) (told : Told) (t : Side) (r n : ℕ) (g : RegionState) → AreWritten rs copies told
    → slice_get rs r ≡ Some g → is_dirty g t ≡ false
    → AreWritten rs (copies_with copies t r (Some (copy_at n))) told
written_skipped rs copies told t r n g was at clear = record {
  copied = λ side q k e. copied_there side q k (same_side side t) (q == r) refl refl e;
  clean = λ side q h e empty. clean_there side q (same_side side t && (q == r)) (was.clean side q h e empty);
}
  where
    clean_there : (side : Side) (q : ℕ) (b : Bool) → is_some (copies side q) ≡ true → is_some (cond b (Some (copy_at n)) (copies side q)) ≡ true
    clean_there side q true e = refl
    clean_there side q false e = e

    copied_there : (side : Side) (q : ℕ) (k : Copy) (a b : Bool) → same_side side t ≡ a → (q == r) ≡ b → cond (a && b) (Some (copy_at n)) (copies side q) ≡ Some k → AreWords (told side q)
    copied_there side q k true true f d e = let w = some_of_test (copies side q) (was.clean side q g (ap (slice_get rs) (eqb-true q r d) ∙ at) (ap (is_dirty g) (side_is side t f) ∙ clear)) in was.copied side q w.0 w.1
    copied_there side q k true false f d e = was.copied side q k e
    copied_there side q k false b f d e = was.copied side q k e

copies_keep :
    (bases : Bases) (before : List Record) (old new : Files → Type 0) (st : Point) (r n : ℕ) (g : RegionState) (synced : Side → Bool) → StoreRun bases before old st
    → slice_get st.core.regions r ≡ Some g → IsUntouched st.log r n
    → ((F : Files) → new F → old F)
    → StoreRun bases before new (record st {
      core = with_region st.core r (cleaned (target st) g);
      told = told_with st.told (target st) r g.back;
      synced = synced;
      copies = copies_with st.copies (target st) r (Some (copy_at n));
    })
copies_keep bases before old new st r n g synced run at still less = record {
  run = step_runs bases before old new (moment_of st) (record { log = st.log; core = with_region st.core r (cleaned (target st) g); audits = st.audits }) (OnRegion r (Clean (target st))) run.run ((g, at, (tt, tt), (refl, refl)), refl) (λ F h. (F, less F h, refl));
  images = images_fewer bases (told_with st.told (target st) r g.back) old new (with_region st.core r (cleaned (target st) g)) less (copy_kept bases st.told old st.core (target st) r g run.images at);
  anchor = λ e F h. run.anchor e F (less F h);
  kept = λ h e. kept_less st.log st.core.vault st.core.vault old new h refl less (run.kept h e);
  copied = known;
  written = written_now st.core.regions st.copies st.told (target st) r n g run.written at (are_words bases st.log st.core r g (runs_on bases before old (moment_of st) run.run) at);
  moved = run.moved;
  few = λ F h. run.few F (less F h);
}
  where
    known : IsKnown bases st.log (slice_set st.core.regions r (cleaned (target st) g)) (copies_with st.copies (target st) r (Some (copy_at n))) (told_with st.told (target st) r g.back)
    known = known_with bases st.log st.core.regions (slice_set st.core.regions r (cleaned (target st) g)) st.copies st.told (target st) r _ g.back run.copied (one_cleaned st.core.regions (target st) r g at)
        (λ k h e new. let w = one_cleaned st.core.regions (target st) r g at r h new in
        let same : w.0 ≡ g = some_same (sym w.1 ∙ at) in
        subst (λ z. IsCopied (bases (last_epoch st.log).first) (last_epoch st.log) r h z g.back) (some_same e)
        (copied_same (bases (last_epoch st.log).first) (last_epoch st.log) r g h _ g.back (w.2 ∙ ap (λ (z : RegionState). z.poked) same) (w.3 ∙ ap (λ (z : RegionState). z.missed) same)
        (up_to_date bases st.log st.core r n g g.back (runs_on bases before old (moment_of st) run.run) at still (λ p. refl))))

-- ---- steps that leave the core, but for a fault
still :
    (bases : Bases) (before : List Record) (old new : Files → Type 0) (st : Point) (heads : Side → Head) (synced : Side → Bool) → StoreRun bases before old st
    → ((F : Files) → new F → old F)
    → StoreRun bases before new (record st { heads = heads; synced = synced })
still bases before old new st heads synced run less = record {
  run = run_less bases before old new (moment_of st) less run.run;
  images = record { files = run.images.files; fits = λ F h. run.images.fits F (less F h) };
  anchor = λ e F h. run.anchor e F (less F h);
  kept = λ h e. kept_less st.log st.core.vault st.core.vault old new h refl less (run.kept h e);
  copied = run.copied;
  written = run.written;
  moved = run.moved;
  few = λ F h. run.few F (less F h);
}

failed :
    (bases : Bases) (before : List Record) (old new : Files → Type 0) (st : Point) (told : Told) (heads : Side → Head) (synced : Side → Bool) (copies : Side → ℕ → Option Copy) (n : ℕ) → StoreRun bases before old st
    → IsFault st n
    → ((F : Files) → new F → old F)
    → FilesRun told st.core → IsKnown bases st.log st.core.regions copies told → AreWritten st.core.regions copies told
    → StoreRun bases before new (record st { core = with_fault st.core n; told = told; heads = heads; synced = synced; copies = copies })
failed bases before old new st told heads synced copies n run fault less files known written = record {
  run = run_faults bases before old new (moment_of st) n fault.rose (λ F h. (F, less F h, refl)) run.run;
  images = record { files = files; fits = λ F h. run.images.fits F (less F h) };
  anchor = λ e. absurd (cc);
  kept = λ h e. kept_less st.log st.core.vault _ old new h refl less (run.kept h e);
  copied = known;
  written = written;
  moved = run.moved;
  few = λ F h. run.few F (less F h);
}

-- a place of a region whose flag stands may read anything
dirty_told : (told : Told) (c : CoreState) (t : Side) (r : ℕ) (g : RegionState) (ws : List ℕ) → slice_get c.regions r ≡ Some g → is_dirty g t ≡ true → FilesRun told c → FilesRun (told_with told t r ws) c
dirty_told told c t r g ws at dirty files s q h e clean cleared = by_test (same_side s t) (q == r) refl refl
  where
    by_test : (a b : Bool) → same_side s t ≡ a → (q == r) ≡ b → cond (a && b) ws (told s q) ≡ h.back
    by_test true true f d =
        let same : h ≡ g = some_same (sym e ∙ (ap (slice_get c.regions) (eqb-true q r d) ∙ at)) in
        let stands : is_dirty h s ≡ true = ap (λ (z : RegionState). is_dirty z s) same ∙ (ap (is_dirty g) (side_is s t f) ∙ dirty) in
        absurd (cc)
    by_test true false f d = files s q h e clean cleared
    by_test false b f d = files s q h e clean cleared

-- ---- the anchor moves
-- there is a region, which was brought up to date between the checkpoint's start and the audit's begin
pub later_than : (bases : Bases) (before : List Record) (old : Files → Type 0) (st : Point) (h : Head) (b k : ℕ) → StoreRun bases before old st → MayTurn st h b k → h.first ≤ b
later_than bases before old st h b k run may = let w = may.copies 0 some in omega (arith, w.2.since, w.2.until)
  where
    on : RunsOn bases st.log st.core
    on = runs_on bases before old (moment_of st) run.run

    some : 0 < regions st.core.system.sizes
    some = by_index st.core.system.sizes.index (on.log.spelled 0 (Format st.core.system.sizes.index st.core.system.sizes.heap) on.log.format).0
      where
        by_index : (i : ℕ) → is_size_of_index i ≡ true → 0 < i + st.core.system.sizes.heap
        by_index zero e = absurd (cc)
        by_index (suc i) e = omega arith

-- the audit's end is a record behind the one where the checkpoint began
moves_once : (bases : Bases) (before : List Record) (old : Files → Type 0) (st : Point) (h : Head) (b k : ℕ) → StoreRun bases before old st → MayTurn st h b k → st.core.vault.current + 1 ≤ stable st.core + 2 ^ 61
moves_once bases before old st h b k run may = omega (arith, (run.kept h may.begun).moved, later_than bases before old st h b k run may, may.ends, may.flushed)

few_turned : (bases : Bases) (before : List Record) (old : Files → Type 0) (st : Point) (h : Head) (b k : ℕ) (D : Files) → StoreRun bases before old st → st.core.vault.stopped ≡ false → MayTurn st h b k → old D → D.gates + 1 ≤ length (log_in D) + 2 ^ 61
few_turned bases before old st h b k D run runs may l =
    let is : IsPrefix (log_after before st.core.system) (stable st.core) D = run.run.run.vault.prefix D l in
    omega (arith, run.anchor runs D l, moves_once bases before old st h b k run may, is.flushed, ap length is.log, length-take-le is.count (log_after before st.core.system) is.within)

turn_fits :
    (bases : Bases) (before : List Record) (old : Files → Type 0) (st : Point) (h : Head) (b k : ℕ) (D : Files) (head : Head) (image : List (List ℕ)) → StoreRun bases before old st
    → st.core.vault.stopped ≡ false → MayTurn st h b k → old D → MayHold st (side_of (D.gates + 1)) head image
    → FitsBut st.core.system.sizes bases (λ r. is_missed (slice_get st.core.regions r)) (log_in (turned D head image)) (turned D head image) (last_epoch (log_in (turned D head image)))
turn_fits bases before old st h b k D head image run runs may l hold =
    subst (λ (z : Head). FitsBut c.system.sizes bases (λ r. is_missed (slice_get c.regions r)) (log_in D) (turned D z image) (last_epoch (log_in D))) (sym same)
    (turned_fits c.system.sizes bases (λ r. is_missed (slice_get c.regions r)) L c.vault old D h image b k is.count
    (run.kept h may.begun) l is.log is.within may.clean later may.ends (omega (arith, may.flushed, is.flushed))
    ((run.kept h may.begun).number ∙ ap (λ n. n + 1) (sym gates)) (ap length words ∙ (length-map (range_with_len 0 (regions c.system.sizes)) (st.told (target st)) ∙ length-range_with_len 0 (regions c.system.sizes))) places)
  where
    c : CoreState
    c = st.core

    L : List Record
    L = st.log

    gates : D.gates ≡ c.vault.current
    gates = run.anchor runs D l

    side : side_of (D.gates + 1) ≡ target st
    side = ap (λ n. side_of (n + 1)) gates

    later : h.first ≤ b
    later = later_than bases before old st h b k run may

    same : head ≡ h
    same = hold.head_is (ap st.synced side ∙ may.synced) ∙ (ap st.heads side ∙ may.head)

    words : image ≡ image_in c.system.sizes st.told (target st)
    words = hold.image_is (ap st.synced side ∙ may.synced) ∙ ap (image_in c.system.sizes st.told) side

    is : IsPrefix L (stable c) D
    is = subst (λ M. IsPrefix M (stable c) D) (sym run.run.log) (run.run.run.vault.prefix D l)

    places : (r : ℕ) → r < regions c.system.sizes → is_missed (slice_get c.regions r) ≡ false → IsRightPlace (bases (last_epoch L).first) (last_epoch L) h b r (words_in image r)
    places r hr seen =
        let w = may.copies r hr in
        let region : (g : RegionState) × (slice_get c.regions r ≡ Some g) = get_within c.regions r (omega (arith, hr, (runs_on bases before old (moment_of st) run.run).whole)) in
        let read : words_in image r ≡ st.told (target st) r = ap (λ im. words_in im r) words ∙ get_or-map-range_with_len (st.told (target st)) 0 (regions c.system.sizes) r r [] hr (omega arith) in
        ⊎_elim
        (λ a. record { at = w.0.at; from = w.2.since; to = omega (arith, w.2.until); settled = record { to = a.to; words = read ∙ a.words } })
        (λ a. let missed : region.0.missed ≡ true = a.missed w.2.passed in let not_missed : region.0.missed ≡ false = ap is_missed (sym region.1) ∙ seen in absurd (cc))
        (run.copied (target st) r w.0 region.0 w.1 region.1)

turns :
    (bases : Bases) (before : List Record) (old new : Files → Type 0) (st : Point) (h : Head) (b k : ℕ) → StoreRun bases before old st
    → st.core.vault.stopped ≡ false → MayTurn st h b k → Leaves old new st Turns
    → StoreRun bases before new (record st { core = with_current st.core; begun = None })
turns bases before old new st h b k run runs may store = record {
  run = run_turned bases before old new (moment_of st) (λ F l. let w = store F l in (w.0, w.1, ap (λ (f : Files). f.batches) w.2.3)) run.run;
  images = record {
    files = run.images.files;
    fits = λ F l. let w = store F l in subst (λ (f : Files). FitsBut st.core.system.sizes bases (λ r. is_missed (slice_get st.core.regions r)) (log_in f) f (last_epoch (log_in f))) (sym w.2.3) (turn_fits bases before old st h b k w.0 w.2.0 w.2.1 run runs may w.1 w.2.2);
  };
  anchor = λ e F l. let w = store F l in ap (λ (f : Files). f.gates) w.2.3 ∙ ap (λ n. n + 1) (run.anchor runs w.0 w.1);
  kept = λ z e. absurd (cc);
  copied = run.copied;
  written = run.written;
  moved = moves_once bases before old st h b k run may;
  few = λ F l. let w = store F l in subst (λ (f : Files). f.gates ≤ length (log_in f) + 2 ^ 61) (sym w.2.3) (few_turned bases before old st h b k w.0 run runs may w.1);
}

turn_fails :
    (bases : Bases) (before : List Record) (old new : Files → Type 0) (st : Point) (h : Head) (b k n : ℕ) → StoreRun bases before old st
    → IsFault st n → MayTurn st h b k → Leaves old new st (TurnFails n)
    → StoreRun bases before new (record st { core = with_fault st.core n; begun = None })
turn_fails bases before old new st h b k n run fault may store = record {
  run = run_faults bases before old new (moment_of st) n fault.rose (λ F l. let w = store F l in (w.0, w.1, ⊎_elim (λ e. ap (λ (f : Files). f.batches) e) (λ s. ap (λ (f : Files). f.batches) s.3) w.2)) run.run;
  images = record {
    files = run.images.files;
    fits = λ F l. let w = store F l in ⊎_elim
        (λ e. subst (λ (f : Files). FitsBut st.core.system.sizes bases (λ r. is_missed (slice_get st.core.regions r)) (log_in f) f (last_epoch (log_in f))) (sym e) (run.images.fits w.0 w.1))
        (λ s. subst (λ (f : Files). FitsBut st.core.system.sizes bases (λ r. is_missed (slice_get st.core.regions r)) (log_in f) f (last_epoch (log_in f))) (sym s.3) (turn_fits bases before old st h b k w.0 s.0 s.1 run fault.may.runs may w.1 s.2))
        w.2;
  };
  anchor = λ e. absurd (cc);
  kept = λ z e. absurd (cc);
  copied = run.copied;
  written = run.written;
  moved = run.moved;
  few = λ F l. let w = store F l in ⊎_elim
      (λ e. subst (λ (f : Files). f.gates ≤ length (log_in f) + 2 ^ 61) (sym e) (run.few w.0 w.1))
      (λ s. subst (λ (f : Files). f.gates ≤ length (log_in f) + 2 ^ 61) (sym s.3) (few_turned bases before old st h b k w.0 run fault.may.runs may w.1))
      w.2;
}

-- ---- fewer crash images
pub fewer_runs : (bases : Bases) (before : List Record) (old new : Files → Type 0) (st : Point) → ((F : Files) → new F → old F) → StoreRun bases before old st → StoreRun bases before new st
fewer_runs bases before old new st less run = still bases before old new st st.heads st.synced run less

-- ---- each step
pub store_step_runs : (bases : Bases) (before : List Record) (old leave : Files → Type 0) (st new : Point) (x : StoreStep) → StoreRun bases before old st → IsPointStep st x new → Leaves old leave st x → StoreRun bases before leave new
store_step_runs bases before old leave st new (Does x) run s l = subst (StoreRun bases before leave) (sym s.2) (does bases before old leave st x (moment_of new) run s.0 s.1 l)
store_step_runs bases before old leave st new Starts run s l = fewer_runs bases before old leave new (fewer old leave l) (subst (StoreRun bases before old) (sym s.1) (flag_set bases before old st true run s.0))
store_step_runs bases before old leave st new Keeps run s l =
    fewer_runs bases before old leave new (fewer old leave l) (subst (StoreRun bases before old) (sym s.4)
    (keeps_other bases before old st (Some (head_now st.log st.core)) run (λ h e. subst (IsKept st.log st.core.vault old) (some_same e) (keeps_now bases before old (moment_of st) run.run s.0 s.3 run.moved))))
store_step_runs bases before old leave st new (Copies r n) run s l = subst (StoreRun bases before leave) (sym s.5) (copies_keep bases before old leave st r n s.0 _ run s.1 s.4 (unwritten bases before old leave st run s.2.runs l))
store_step_runs bases before old leave st new (Skips r n) run s l =
    fewer_runs bases before old leave new (fewer old leave l) (subst (StoreRun bases before old) (sym s.5)
    (record { run = run.run; images = run.images; anchor = run.anchor; kept = run.kept; copied = skipped; written = written_skipped st.core.regions st.copies st.told (target st) r n s.0 run.written s.1 s.3; moved = run.moved; few = run.few }))
  where
    skipped : IsKnown bases st.log st.core.regions (copies_with st.copies (target st) r (Some (copy_at n))) st.told
    skipped side q k h e at = by_test (same_side side (target st) && (q == r)) refl e
      where
        by_test :
            (b : Bool) → (same_side side (target st) && (q == r)) ≡ b → cond b (Some (copy_at n)) (st.copies side q) ≡ Some k
            → IsCopied (bases (last_epoch st.log).first) (last_epoch st.log) q h k (st.told side q)
        by_test false f d = run.copied side q k h d at
        by_test true f d =
            let there : side ≡ target st = side_is side (target st) (left_true (same_side side (target st)) (q == r) f) in
            let here : q ≡ r = eqb-true q r (right_true (same_side side (target st)) (q == r) f) in
            let same : h ≡ s.0 = some_same (sym at ∙ (ap (slice_get st.core.regions) here ∙ s.1)) in
            let clear : is_dirty h side ≡ false = ap (λ (z : RegionState). is_dirty z side) same ∙ (ap (is_dirty s.0) there ∙ s.3) in
            subst (λ z. IsCopied (bases (last_epoch st.log).first) (last_epoch st.log) q h z (st.told side q)) (some_same d)
            (up_to_date bases st.log st.core q n h (st.told side q) (runs_on bases before old (moment_of st) run.run) at (subst (λ p. IsUntouched st.log p n) (sym here) s.4) (λ p. run.images.files side q h at p clear))
store_step_runs bases before old leave st new (WritesHead h) run s l = subst (StoreRun bases before leave) (sym s.1) (still bases before old leave st _ _ run (unwritten bases before old leave st run s.0.runs l))
store_step_runs bases before old leave st new Syncs run s l = subst (StoreRun bases before leave) (sym s.1) (still bases before old leave st st.heads _ run (fewer old leave l))
store_step_runs bases before old leave st new Turns run s l = subst (StoreRun bases before leave) (sym s.5) (turns bases before old leave st s.0 s.1 s.2 run s.3.runs s.4 l)
store_step_runs bases before old leave st new (CopyFails r ws n) run s l =
    subst (StoreRun bases before leave) (sym s.4)
    (failed bases before old leave st _ st.heads _ _ n run s.3 (unwritten bases before old leave st run s.3.may.runs l) (dirty_told st.told st.core (target st) r s.0 ws s.1 s.2 run.images.files)
    (known_with bases st.log st.core.regions st.core.regions st.copies st.told (target st) r None ws run.copied (as_before st.core.regions) (λ k h e. absurd (cc)))
    (written_torn st.core.regions st.copies st.told (target st) r s.0 ws run.written s.1 s.2))
store_step_runs bases before old leave st new (HeadFails h n) run s l = subst (StoreRun bases before leave) (sym s.1) (failed bases before old leave st st.told _ _ st.copies n run s.0 (unwritten bases before old leave st run s.0.may.runs l) run.images.files run.copied run.written)
store_step_runs bases before old leave st new (SyncFails n) run s l = subst (StoreRun bases before leave) (sym s.1) (failed bases before old leave st st.told st.heads st.synced st.copies n run s.0 (fewer old leave l) run.images.files run.copied run.written)
store_step_runs bases before old leave st new (TurnFails n) run s l = subst (StoreRun bases before leave) (sym s.5) (turn_fails bases before old leave st s.0 s.1 s.2 n run s.3 s.4 l)
store_step_runs bases before old leave st new Finishes run s l =
    fewer_runs bases before old leave new (fewer old leave l) (subst (StoreRun bases before old) (sym s.1) (flag_set bases before old (record st { begun = None }) false (keeps_other bases before old st None run (λ h e. absurd (cc))) s.0))

pub store_step_keeps : StoreStepKeeps
store_step_keeps bases before st new x D F run s came = store_step_runs bases before (only D) (only F) st new x run s (one_came st x D F came)

pub store_course_keeps : StoreCourseKeeps
store_course_keeps bases before st new [] D F run t = subst (λ G. StoreRun bases before (only G) new) t.1 (subst (StoreRun bases before (only D)) t.0 run)
store_course_keeps bases before st new (x ∷ xs) D F run t = store_course_keeps bases before t.0 new xs t.1 F (store_step_keeps bases before st t.0 x D t.1 run t.2 t.3) t.4

-- ---- where nothing is said of crashes
pub bare_store_course_keeps : BareStoreCourseKeeps
bare_store_course_keeps bases before st new [] run course = subst (StoreRun bases before no_image) course run
bare_store_course_keeps bases before st new (x ∷ xs) run course = bare_store_course_keeps bases before course.0 new xs (store_step_runs bases before no_image no_image st course.0 x run course.1 (λ F h. absurd h)) course.2

along_none : (bases : Bases) (before : List Record) (st new mid : Point) → new ≡ mid → RunsAt bases before no_image (moment_of mid) → RunsAt bases before no_image (moment_of new)
along_none bases before st new mid e run = subst (λ (z : Point). RunsAt bases before no_image (moment_of z)) (sym e) run

flag_none : (bases : Bases) (before : List Record) (st : Point) (b : Bool) → RunsAt bases before no_image (moment_of st) → st.core.system.checking ≡ not b → RunsAt bases before no_image (record { log = st.log; core = with_flag st.core b; audits = st.audits })
flag_none bases before st b run was = step_keeps_none bases before (moment_of st) (record { log = st.log; core = with_flag st.core b; audits = st.audits }) (Checkpoints b) run ((was, (refl, refl)), refl)

pub store_step_none : (bases : Bases) (before : List Record) (st new : Point) (x : StoreStep) → RunsAt bases before no_image (moment_of st) → IsPointStep st x new → RunsAt bases before no_image (moment_of new)
store_step_none bases before st new (Does x) run s = step_keeps_none bases before (moment_of st) (moment_of new) x run s.1
store_step_none bases before st new Starts run s = along_none bases before st new _ s.1 (flag_none bases before st true run s.0)
store_step_none bases before st new Keeps run s = along_none bases before st new _ s.4 run
store_step_none bases before st new (Copies r n) run s = along_none bases before st new _ s.5 (step_keeps_none bases before (moment_of st) (record { log = st.log; core = with_region st.core r (cleaned (target st) s.0); audits = st.audits }) (OnRegion r (Clean (target st))) run ((s.0, s.1, (tt, tt), (refl, refl)), refl))
store_step_none bases before st new (Skips r n) run s = along_none bases before st new _ s.5 run
store_step_none bases before st new (WritesHead h) run s = along_none bases before st new _ s.1 run
store_step_none bases before st new Syncs run s = along_none bases before st new _ s.1 run
store_step_none bases before st new Turns run s = along_none bases before st new _ s.5 (run_turned bases before no_image no_image (moment_of st) (λ F l. absurd l) run)
store_step_none bases before st new (CopyFails r ws n) run s = along_none bases before st new _ s.4 (run_faults bases before no_image no_image (moment_of st) n s.3.rose (λ F l. absurd l) run)
store_step_none bases before st new (HeadFails h n) run s = along_none bases before st new _ s.1 (run_faults bases before no_image no_image (moment_of st) n s.0.rose (λ F l. absurd l) run)
store_step_none bases before st new (SyncFails n) run s = along_none bases before st new _ s.1 (run_faults bases before no_image no_image (moment_of st) n s.0.rose (λ F l. absurd l) run)
store_step_none bases before st new (TurnFails n) run s = along_none bases before st new _ s.5 (run_faults bases before no_image no_image (moment_of st) n s.3.rose (λ F l. absurd l) run)
store_step_none bases before st new Finishes run s = along_none bases before st new _ s.1 (flag_none bases before st false run s.0)

-- ---- once the anchor moved
pub turn_ends : TurnEnds
turn_ends bases before st new run s = record {
  head = s.0;
  begun = s.4.begun;
  number = (run.kept s.0 s.4.begun).number;
  current = ap (λ (z : Point). z.core.vault.current) s.5;
}

pub turn_leaves : TurnLeaves
turn_leaves bases before st new D F h run s came begun = (
  (store_step_keeps bases before st new Turns D F run s came).anchor (ap (λ (z : Point). z.core.vault.stopped) s.5 ∙ s.3.runs) F refl,
  ap (λ (f : Files). f.first) came.3 ∙ ap (λ (z : Head). z.first) (came.2.head_is (ap st.synced side ∙ may.synced) ∙ (ap st.heads side ∙ (may.head ∙ some_same (sym may.begun ∙ begun)))),
)
  where
    may : MayTurn st s.0 s.1 s.2
    may = s.4

    side : side_of (D.gates + 1) ≡ target st
    side = ap (λ n. side_of (n + 1)) (run.anchor s.3.runs D refl)

-- ---- how often the anchor was moved
pub current_is_small : CurrentIsSmall
current_is_small bases before st run =
    omega (arith, run.moved, run.run.run.frame, run.run.run.taken, is_small st.core.system.sizes (log_after before st.core.system) run.run.run.runs.log.legal)
