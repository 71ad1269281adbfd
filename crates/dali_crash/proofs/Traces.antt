-- Each crash image that came along steps fits and restarts right.
use Rattle.std.proofs.Common.{◌≡◌, ℕ, length, take, drop, ◌+◌, ◌-◌, ◌*◌, ◌≤◌, ◌<◌, Bool, true, false, List, [], ◌∷◌, ◌++◌, Some, refl, ap, sym, subst, ◌∙◌, inl, inr, ⊎_elim, arith, map}
use Rattle.std.specs.Prelude.{◌^◌, ◌⊎◌, None, fold, sum_by, slice_get, Contains}
use Rattle.std.proofs.lemmas.List.{take_all, length_push}
use Rattle.dali_geometry.specs.Sizes.{Sizes}
use Rattle.dali_geometry.specs.Places.{formatted_image}
use Rattle.dali_record.specs.declared.records.Record.{Record}
use Rattle.dali_record.specs.declared.records.Record.TheVariants.{Format, Restarted}
use Rattle.dali_record.specs.Log.{committed}
use Rattle.dali_record.specs.Epochs.{Epoch, Cut, cut, last_epoch, clean_place}
use Rattle.dali_record.specs.Settled.{words_in, redo_all, settled_before}
use Rattle.dali_record.specs.Legal.{sizes_of, Rules, rules_state}
use Rattle.dali_record.specs.Files.{Files, batch_length}
use Rattle.dali_record.specs.Spelling.{record_length}
use Rattle.dali_region.specs.Answers.{is_dirty}
use Rattle.dali_history.specs.Recovered.{recover, base_of, recovered}
use Rattle.dali_history.proofs.HeadlineLemmas.NothingToFree.{recovered-base}
use Rattle.dali_runs.specs.State.{CoreState, VaultState, stable, log_after}
use Rattle.dali_runs.specs.Run.{Bases, LogRun, HasRisen, IsPrefix, log_in, VaultRun, no_image, only}
use Rattle.dali_runs.specs.Crashes.{NoneEscapes}
use Rattle.dali_runs.specs.Flushes.{with_vault, faulted}
use Rattle.dali_runs.specs.Courses.{Step, Flushes, Faults, Moment, IsCourse, CoreTraced, RunsAt}
use Rattle.dali_runs.specs.Images.{FitsBut, is_missed}
use Rattle.dali_runs.proofs.Loads.{empty_rests}
use Rattle.dali_runs.proofs.Courses.{load_runs_with, course_keeps, with_none}
use Rattle.dali_crash.specs.Restarts.{HasRightBase, RestartsRight}
use Rattle.dali_crash.specs.Fitting.{FitsWhole, recover_from}
use Rattle.dali_crash.specs.Checkpoints.{Head, StoreStep, Does, Copies, WritesHead, Turns, CopyFails, HeadFails, TurnFails, target, head_with, synced_with, copies_after, IsTurnedFrom, IsOverwritten, MayTurn, MayWrite, with_fault, IsPointCourse, Point, is_of_checkpoint, moment_of, Came, Inside, IsPointStep, Traced}
use Rattle.dali_crash.specs.StoreRuns.{StoreRun, LeavesRight}
use Rattle.dali_crash.proofs.CrashLogs.{cut_parts}
use Rattle.dali_crash.proofs.RecoveredWords.{recovered_count, recovered_words}
use Rattle.dali_crash.proofs.Courses.{format_of, honest_before, course_keeps_the_base}
use Rattle.dali_crash.proofs.Restarts.{sizes_take, begins_behind, run_is_right_for, flushed_stays_in, acknowledged_stays, run_is_right}
use Rattle.dali_crash.proofs.Fitting.{but_is_whole}
use Rattle.dali_crash.proofs.FromImage.{recovers_from_image}
use Rattle.dali_crash.specs.Starts.{IsLawful, IsRestarted}
use Rattle.dali_crash.proofs.Starts.{fresh_fits}
use Rattle.dali_crash.proofs.StoreRuns.{store_course_keeps}
use Rattle.dali_crash.proofs.StoreStarts.{all_dirty, store_base, recovers}
use Rattle.dali_crash.proofs.Unpoked.{none_loaded, NoneFails, none_escapes, deletes_nobody, store_course_unpoked, store_course_clean, NonePoked, course_unpoked, course_clean}
use Rattle.dali_crash.specs.Traces.{MayRun, FewGates, EveryCoreTraceIsRight, TraceGoesOn, Start, IsRestingImage, FreshRests, CrashRests, StartsAt, start_point, bases_of, EveryTraceIsRight, EveryMomentIsRight, FlushedTraces, AcknowledgedTraces, UnpokedTraceIsRight, StartRuns, UnpokedCoreTraceIsRight, core_start, BareStartRuns}
use Rattle.dali_runs.proofs.Touching.{trace_course}
use Rattle.std.specs.List.{list_any}
use Rattle.std.proofs.lemmas.Bool.{or_parts}
use Rattle.dali_lists.proofs.Lists.{get_within}
use Rattle.dali_history.specs.History.{IsHistory}

-- ---- any steps
pub traced_course : (p q : Point) (D F : Files) (xs : List StoreStep) → Traced p D xs q F → IsPointCourse p xs q
traced_course p q D F [] t = t.0
traced_course p q D F (x ∷ xs) t = (t.0, t.2, traced_course t.0 q t.1 F xs t.4)

pub join_point_traces : (p k q : Point) (D E F : Files) (xs ys : List StoreStep) → Traced p D xs k E → Traced k E ys q F → Traced p D (xs ++ ys) q F
join_point_traces p k q D E F [] ys t u = subst (λ (j : Point). Traced j D ys q F) (sym t.0) (subst (λ G. Traced k G ys q F) (sym t.1) u)
join_point_traces p k q D E F (x ∷ xs) ys t u = (t.0, t.1, t.2, t.3, join_point_traces t.0 k q t.1 E F xs ys t.4 u)

-- the steps of a core, with its store
abbrev stepped : Point → Step → Moment → Point
stepped p x n = record p { log = n.log; core = n.core; audits = n.audits; copies = copies_after p.core x p.copies }

pub does_traced : (p : Point) (xs : List Step) (n : Moment) (D F : Files) → list_any is_of_checkpoint xs ≡ false → CoreTraced (moment_of p) D xs n F → (q : Point) × (moment_of q ≡ n) × Traced p D (map Does xs) q F
does_traced p [] n D F quiet t = (p, t.0, (refl, t.1))
does_traced p (x ∷ xs) n D F quiet t =
    let parts = or_parts (is_of_checkpoint x) (list_any is_of_checkpoint xs) quiet in
    let rest = does_traced (stepped p x t.0) xs n t.1 F parts.1 t.4 in
    (rest.0, rest.1, (stepped p x t.0, t.1, (parts.0, t.2, refl), t.3, rest.2))

pub trace_goes_on : TraceGoesOn
trace_goes_on start p q D E F [] x t s came = (q, F, subst (λ (r : Point). IsPointStep r x q) (sym t.0) s, subst (λ (r : Point). Came r x D F) (sym t.0) (subst (λ (C : Files). Came p x C F) (sym t.1) came), (refl, refl))
trace_goes_on start p q D E F (y ∷ xs) x t s came = (t.0, t.1, t.2, t.3, trace_goes_on t.0 p q t.1 E F xs x t.4 s came)

-- ---- where a core is made
stands_behind : (L : List Record) (D : Files) → (is : IsRestarted L D) → log_in D ≡ L → D.first < length (log_in D)
stands_behind L D is log = omega (arith, is.first, ap length log, ap length is.log, length_push is.closed (Restarted is.rolled is.deleted))

pub fresh_rests : FreshRests
fresh_rests L v D fresh = record {
  vault = fresh.vault;
  none = fresh.none;
  files = subst (λ base. FitsWhole (sizes_of L) base L D (last_epoch L)) (recovered-base (sizes_of L) L fresh.none)
      (but_is_whole (sizes_of L) (λ k. recovered (sizes_of L) L) (λ r. false) L D (last_epoch L)
      (subst (λ K. FitsBut (sizes_of L) (λ k. recovered (sizes_of L) L) (λ r. false) K D (last_epoch K)) fresh.files.log (fresh_fits (λ k. recovered (sizes_of L) L) L D (λ r. false) refl fresh.files))
      (recovered_count (sizes_of L) L) (λ r h. refl));
  end = fresh.end;
  current = fresh.current;
  read = ⊎_elim (λ formatted. inl formatted.gates) (λ restarted. inr (stands_behind L D restarted fresh.files.log)) fresh.files.kind;
}

pub crash_rests : CrashRests
crash_rests before c F v right none vault end current read = record { vault = vault; none = none; files = right.image.fits; end = end; current = current; read = read }

whole_short : (L : List Record) (v : VaultState) → MayRun L v → v.end ≤ sum_by record_length (take (length L) L) + 5 * length L
whole_short L v may = subst (λ K. v.end ≤ sum_by record_length K + 5 * length L) (sym (take_all (length L) L (omega arith))) may.short

rest_vault : (L : List Record) (v : VaultState) (D : Files) → IsRestingImage L v D → VaultRun (only D) L (length L) v
rest_vault L v D rest = record {
  within = omega arith;
  prefix = λ F h. record { count = length L; flushed = omega arith; within = omega arith; log = all F h };
  exact = λ e F h. record { log = all F h; end = subst (λ (E : Files). v.end ≡ sum_by batch_length E.batches) (sym h) rest.end };
  short = whole_short L v rest.vault;
  then_fits = rest.vault.faults_fit;
  counts = rest.vault.faults;
  rose = λ e. let runs : v.stopped ≡ false = rest.vault.runs in absurd (cc);
}
  where
    all : (F : Files) → only D F → log_in F ≡ take (length L) L
    all F h = subst (λ (E : Files). log_in E ≡ L) (sym h) rest.files.fits.log ∙ sym (take_all (length L) L (omega arith))

-- files that fit whole fit but for any regions
but_some : (s : Sizes) (bases : Bases) (base : List (List ℕ)) (missed : ℕ → Bool) (L : List Record) (D : Files) (e : Epoch) → FitsWhole s base L D e → bases e.first ≡ base → FitsBut s bases missed L D e
but_some s bases base missed L D e whole same = record {
  log = whole.fits.log;
  batch = whole.fits.batch;
  count = whole.fits.count;
  lengths = whole.fits.lengths;
  numbers = whole.fits.numbers;
  fresh = whole.fits.fresh;
  current = whole.fits.current;
  whole = whole.image_whole;
  epoch = whole.fits.epoch;
  recent = whole.fits.recent;
  certified = whole.fits.certified;
  table_is = whole.fits.table_is;
  words = λ r h m. subst (λ b. words_in (redo_all D.image (drop (D.first - e.first) (take (clean_place e - e.first) e.records))) r ≡ settled_before b e r (clean_place e)) (sym same) (whole.fits.words r h);
}

starts_with :
    (s : Start) (leave : Files → Type 0) → IsLawful s.log → rules_state (sizes_of s.log) s.log ≡ Some s.rules → (last_epoch s.log).records ≡ []
    → s.limit ≤ 268435456 → VaultRun leave s.log (length s.log) s.vault → s.vault.flushed ≡ 0
    → ((F : Files) → leave F → FitsWhole (sizes_of s.log) (base_of (sizes_of s.log) s.log) s.log F (last_epoch s.log))
    → ((F : Files) → leave F → F.gates ≡ s.vault.current)
    → s.vault.current ≤ length s.log + 2 ^ 61
    → StoreRun (bases_of s) s.log leave (start_point s)
starts_with s leave is rules nothing limit vault flushed fits current moved = record {
  run = there;
  written = record {
    copied = λ side r q e. absurd (cc);
    clean = λ side r g at clear. let dirty : is_dirty g side ≡ true = all_dirty image r g side at in absurd (cc);
  };
  moved = omega (arith, moved, there.run.first);
  few = λ F h. omega (arith, current F h, moved, ap length (fits F h).fits.log);
  images = record {
    files = λ side r k e clean cleared. let dirty : is_dirty k side ≡ true = all_dirty image r k side e in absurd (cc);
    fits = λ F h. subst (λ K. FitsBut z (bases_of s) missed K F (last_epoch K)) (sym (fits F h).fits.log)
        (but_some z (bases_of s) (base_of z L) missed L F (last_epoch L) (fits F h) (recovered-base z L nothing));
  };
  anchor = λ e F h. current F h;
  kept = λ h e. absurd (cc);
  copied = λ side r k q e. absurd (cc);
}
  where
    L : List Record
    L = s.log

    z : Sizes
    z = sizes_of L

    image : List (List ℕ)
    image = recovered z L

    missed : ℕ → Bool
    missed = λ r. is_missed (slice_get (start_point s).core.regions r)

    log : LogRun z L
    log = record { format = format_of L is.some_index; spelled = is.spelled; legal = is.legal; locks = is.locks }

    there : RunsAt (bases_of s) s.log leave (moment_of (start_point s))
    there = load_runs_with (bases_of s) z L s.rules s.limit s.vault leave (empty_rests z L s.rules log rules nothing) limit (recovered_count z L) (recovered_words L is.spelled) vault flushed

pub start_runs : StartRuns
start_runs s D from = starts_with s (only D) from.lawful from.rules from.rests.none from.fits (rest_vault s.log s.vault D from.rests) from.rests.vault.flushed
    (λ F h. subst (λ (G : Files). FitsWhole (sizes_of s.log) (base_of (sizes_of s.log) s.log) s.log G (last_epoch s.log)) (sym h) from.rests.files)
    (λ F h. subst (λ (E : Files). E.gates ≡ s.vault.current) (sym h) from.rests.current)
    from.rests.vault.moved

pub bare_start_runs : BareStartRuns
bare_start_runs s is rules nothing limit may = starts_with s no_image is rules nothing limit vault may.flushed (λ F h. absurd h) (λ F h. absurd h) may.moved
  where
    vault : VaultRun no_image s.log (length s.log) s.vault
    vault = record {
      within = omega arith;
      prefix = λ F h. absurd h;
      exact = λ e F h. absurd h;
      short = whole_short s.log s.vault may;
      then_fits = may.faults_fit;
      counts = may.faults;
      rose = λ e. let runs : s.vault.stopped ≡ false = may.runs in absurd (cc);
    }

-- a run with its store, of this image
pub trace_runs :
    (s : Start) (D : Files) → StartsAt s D
    → (xs : List StoreStep) (p : Point) (F : Files) → Traced (start_point s) D xs p F
    → StoreRun (bases_of s) s.log (only F) p
trace_runs s D from xs p F t = store_course_keeps (bases_of s) s.log (start_point s) p xs D F (start_runs s D from) t

pub few_gates : FewGates
few_gates s D from xs p F t = (trace_runs s D from xs p F t).few F refl

pub every_trace_is_right : EveryTraceIsRight
every_trace_is_right s D from xs p F t = record {
  fits = there.images.fits F refl;
  right = λ h safe. record {
    restarts = restarts h safe;
    image = record {
      fits = subst (λ (z : Sizes). FitsWhole z (base_of z (log_in F)) (log_in F) F (last_epoch (log_in F))) (sym same) (whole h safe);
      gives = subst (λ (z : Sizes). recover_from z F.image F.first (last_epoch (log_in F)) ≡ recovered z (log_in F)) (sym same)
          (recovers_from_image c.system.sizes (base_of c.system.sizes (log_in F)) (log_in F) F (last_epoch (log_in F)) (whole h safe)
          ∙ subst (λ (z : Sizes). recover z (base_of z (log_in F)) (last_epoch (log_in F)) ≡ recovered z (log_in F)) same (recovers (log_in F) (restarts h safe).history));
    };
  };
}
  where
    L : List Record
    L = s.log

    z : Sizes
    z = sizes_of L

    c : CoreState
    c = p.core

    there : StoreRun (bases_of s) L (only F) p
    there = trace_runs s D from xs p F t

    right : IsHistory s.log → HasRightBase (bases_of s) c.system.sizes p.log
    right h = store_base (bases_of s) (start_point s) p xs (record { base = recovered-base z L from.rests.none; honest = honest_before z (formatted_image z) (cut L).closed (cut L).now h.honest }) (traced_course (start_point s) p D F xs t)

    has : IsPrefix p.log (stable c) F
    has = subst (λ M. IsPrefix M (stable c) F) (sym there.run.log) (there.run.run.vault.prefix F refl)

    began : (last_epoch p.log).first ≤ length L
    began = subst (λ M. (last_epoch M).first ≤ length L) (sym there.run.log) there.run.run.began

    -- the epochs before the last one are those of the whole log
    base : IsHistory s.log → recovered z L ≡ base_of c.system.sizes (log_in F)
    base h =
        (right h).base
        ∙ sym (ap (λ (q : Cut). fold (recover c.system.sizes) (formatted_image c.system.sizes) q.closed)
        (ap cut has.log ∙ cut_parts p.log has.count (omega (arith, has.flushed, began, there.run.run.first)) has.within))

    restarts : IsHistory s.log → NoneEscapes (last_epoch (log_in F)) c → RestartsRight L c F
    restarts h safe = run_is_right_for (bases_of s) L (only F) c there.run.run (subst (λ M. HasRightBase (bases_of s) c.system.sizes M) there.run.log (right h)) F refl safe

    same : sizes_of (log_in F) ≡ c.system.sizes
    same = ap sizes_of has.log ∙ sizes_take c.system.sizes p.log has.count format (omega (arith, begins_behind c.system.sizes p.log format, has.flushed, began, there.run.run.first))
      where
        format : slice_get p.log 0 ≡ Some (Format c.system.sizes.index c.system.sizes.heap)
        format = subst (λ M. slice_get M 0 ≡ Some (Format c.system.sizes.index c.system.sizes.heap)) (sym there.run.log) there.run.run.runs.log.format

    whole : IsHistory s.log → NoneEscapes (last_epoch (log_in F)) c → FitsWhole c.system.sizes (base_of c.system.sizes (log_in F)) (log_in F) F (last_epoch (log_in F))
    whole h safe = subst (λ b. FitsWhole c.system.sizes b (log_in F) F (last_epoch (log_in F))) (base h)
        (but_is_whole c.system.sizes (bases_of s) _ (log_in F) F (last_epoch (log_in F)) (there.images.fits F refl) there.run.run.runs.base
        (λ r k. let region = get_within c.regions r (omega (arith, k, there.run.run.runs.whole)) in ap is_missed region.1 ∙ safe.seen r region.0 region.1))

pub flushed_traces : FlushedTraces
flushed_traces s D from xs p F t k x before there =
    let run = (trace_runs s D from xs p F t).run in
    flushed_stays_in (bases_of s) s.log p.core F k x run.run before (subst (λ M. slice_get M k ≡ Some x) run.log there)

pub acknowledged_traces : AcknowledgedTraces
acknowledged_traces s D from xs p F t u acknowledged =
    let run = (trace_runs s D from xs p F t).run in
    acknowledged_stays (bases_of s) s.log p.core F u run.run acknowledged

pub unpoked_trace_is_right : UnpokedTraceIsRight
unpoked_trace_is_right s D history from xs p F quiet t =
    let course : IsPointCourse (start_point s) xs p = traced_course (start_point s) p D F xs t in
    let there : RunsAt (bases_of s) s.log (only F) (moment_of p) = (trace_runs s D from xs p F t).run in
    let begins : RunsAt (bases_of s) s.log no_image (moment_of (start_point s)) = with_none (bases_of s) s.log (only D) (moment_of (start_point s)) (start_runs s D from).run in
    let none : NonePoked (start_point s).core.regions = none_loaded (recovered (sizes_of s.log) s.log) in (
      (every_trace_is_right s D from xs p F t).right history (none_escapes (bases_of s) s.log (only F) (moment_of p) F there refl (store_course_unpoked (start_point s) p xs quiet course none)),
      deletes_nobody (bases_of s) s.log (only F) (moment_of p) F there refl (store_course_clean (bases_of s) s.log (start_point s) p xs begins quiet course none (subst NoneFails (sym from.rests.none) tt)),
    )

-- ---- inside a step
pub risen : (n : ℕ) → HasRisen n (n + 1)
risen n = inl (omega arith)

-- steps that lead to the same core with another vault, and leave the same
pub record Halts (start p : Point) (D F : Files) : Type 0 where
  pub point : Point
  pub steps : List StoreStep
  pub trace : Traced start D steps point F
  pub log : point.log ≡ p.log
  pub vault : VaultState
  pub core : point.core ≡ with_vault p.core vault
  pub flushed : vault.flushed ≡ p.core.vault.flushed

-- a moment inside a step is one behind a fault in it, or before it
pub moment_halts : (start p q : Point) (D E F : Files) (xs : List StoreStep) (x : StoreStep) → Traced start D xs p E → IsPointStep p x q → Inside p x E F → Halts start p D F
moment_halts start p q D E F xs x t s inside = ⊎_elim stays (by_step x s) inside
  where
    c : CoreState
    c = p.core

    n : ℕ
    n = c.vault.faults + 1

    stays : F ≡ E → Halts start p D F
    stays same = record { point = p; steps = xs; trace = subst (Traced start D xs p) (sym same) t; log = refl; vault = c.vault; core = refl; flushed = refl }

    -- a fault in it leaves the same
    halted : (y : StoreStep) (r : Point) → r.log ≡ p.log → r.core ≡ with_fault c n → IsPointStep p y r → Came p y E F → Halts start p D F
    halted y r log core step came = record { point = r; steps = xs ++ y ∷ []; trace = trace_goes_on start p r D E F xs y t step came; log = log; vault = faulted c.vault n; core = core; flushed = refl }

    in_flush : c.vault.stopped ≡ false → Came p (Does (Faults n)) E F → Halts start p D F
    in_flush runs came = halted (Does (Faults n)) (record p { core = with_fault c n; copies = copies_after c (Faults n) p.copies }) refl refl (refl, ((runs, risen c.vault.faults, (refl, refl)), refl), refl) came

    in_write : MayWrite p → (F ≡ E) ⊎ IsOverwritten (target p) E F → Halts start p D F
    in_write may came = let h : Head = p.heads (target p) in halted (HeadFails h n) (record p { core = with_fault c n; heads = head_with p.heads (target p) h; synced = synced_with p.synced (target p) false }) refl refl (record { may = may; rose = risen c.vault.faults }, refl) came

    in_turn : (h : Head) (b k : ℕ) → MayWrite p → MayTurn p h b k → (F ≡ E) ⊎ IsTurnedFrom p E F → Halts start p D F
    in_turn h b k may turn came = halted (TurnFails n) (record p { core = with_fault c n; begun = None }) refl refl (h, b, k, record { may = may; rose = risen c.vault.faults }, turn, refl) came

    by_core : (y : Step) → IsPointStep p (Does y) q → Came p (Does y) E F → Halts start p D F
    by_core Flushes s came = in_flush s.1.0.0 (inr came)
    by_core (Faults k) s came = in_flush s.1.0.0 came
    by_core y s came = stays came

    by_step : (y : StoreStep) → IsPointStep p y q → Came p y E F → Halts start p D F
    by_step (Does y) s came = by_core y s came
    by_step (Copies r k) s came = in_write s.2 came
    by_step (WritesHead h) s came = in_write s.0 came
    by_step (CopyFails r ws k) s came = in_write s.3.may came
    by_step (HeadFails h k) s came = in_write s.0.may came
    by_step Turns s came = in_turn s.0 s.1 s.2 s.3 s.4 (inr came)
    by_step (TurnFails k) s came = in_turn s.0 s.1 s.2 s.3.may s.4 came
    by_step y s came = stays came

-- with another vault
right_for : (bases : Bases) (L : List Record) (c : CoreState) (v : VaultState) (F : Files) → v.flushed ≡ c.vault.flushed → LeavesRight bases L (with_vault c v) F → LeavesRight bases L c F
right_for bases L c v F same right = record {
  fits = right.fits;
  right = λ h safe. let crash = right.right h (record { seen = safe.seen; named = safe.named }) in record {
    restarts = record { history = crash.restarts.history; right = crash.restarts.right; keeps = λ t a. crash.restarts.keeps t (subst (λ n. Contains (committed (take (c.system.first + n) (log_after L c.system))) t) (sym same) a) };
    image = crash.image;
  };
}

pub every_moment_is_right : EveryMomentIsRight
every_moment_is_right s D from xs p E t x q F step inside =
    let h = moment_halts (start_point s) p q D E F xs x t step inside in
    right_for (bases_of s) s.log p.core h.vault F h.flushed (subst (λ (d : CoreState). LeavesRight (bases_of s) s.log d F) h.core
    (every_trace_is_right s D from h.steps h.point F h.trace))

-- ---- the flushed records
pub trace_prefix :
    (s : Start) (D : Files) → StartsAt s D
    → (xs : List StoreStep) (p : Point) (F : Files) → Traced (start_point s) D xs p F
    → IsPrefix p.log (stable p.core) F
trace_prefix s D from xs p F t =
    let run = (trace_runs s D from xs p F t).run in
    subst (λ M. IsPrefix M (stable p.core) F) (sym run.log) (run.run.vault.prefix F refl)

pub moment_prefix :
    (s : Start) (D : Files) → StartsAt s D
    → (xs : List StoreStep) (p : Point) (E : Files) → Traced (start_point s) D xs p E
    → (x : StoreStep) (q : Point) (F : Files) → IsPointStep p x q → Inside p x E F
    → IsPrefix p.log (stable p.core) F
moment_prefix s D from xs p E t x q F step inside =
    let h = moment_halts (start_point s) p q D E F xs x t step inside in
    subst (λ M. IsPrefix M (stable p.core) F) h.log
    (subst (λ n. IsPrefix h.point.log (p.core.system.first + n) F) h.flushed
    (subst (λ (d : CoreState). IsPrefix h.point.log (stable d) F) h.core
    (trace_prefix s D from h.steps h.point F h.trace)))

-- ---- a core alone
pub core_starts :
    (L : List Record) (g : Rules) (limit : ℕ) (v : VaultState) (leave : Files → Type 0)
    → IsHistory L → rules_state (sizes_of L) L ≡ Some g → (last_epoch L).records ≡ []
    → limit ≤ 268435456 → VaultRun leave L (length L) v → v.flushed ≡ 0
    → RunsAt (λ k. recovered (sizes_of L) L) L leave (core_start L g limit v)
core_starts L g limit v leave history rules nothing fits vault flushed =
    load_runs_with (λ k. recovered (sizes_of L) L) (sizes_of L) L g limit v leave (empty_rests (sizes_of L) L g log rules nothing) fits (recovered_count (sizes_of L) L) (recovered_words L history.spelled) vault flushed
  where
    log : LogRun (sizes_of L) L
    log = record { format = format_of L history.some_index; spelled = history.spelled; legal = history.legal; locks = history.locks }

pub every_core_trace_is_right : EveryCoreTraceIsRight
every_core_trace_is_right L g limit v D history rules nothing fits vault flushed xs n F t safe =
    run_is_right bases L n.core F there.run (subst (λ M. HasRightBase bases n.core.system.sizes M) there.log right) safe
  where
    bases : Bases
    bases = λ k. recovered (sizes_of L) L

    start : Moment
    start = core_start L g limit v

    there : RunsAt bases L (only F) n
    there = course_keeps bases L start n xs D F (core_starts L g limit v (only D) history rules nothing fits vault flushed) t

    right : HasRightBase bases n.core.system.sizes n.log
    right = course_keeps_the_base bases start n xs (record { base = recovered-base (sizes_of L) L nothing; honest = honest_before (sizes_of L) (formatted_image (sizes_of L)) (cut L).closed (cut L).now history.honest }) (trace_course start n D F xs t)

pub unpoked_core_trace_is_right : UnpokedCoreTraceIsRight
unpoked_core_trace_is_right L g limit v D history rules nothing fits vault flushed xs n F quiet t =
    let bases : Bases = λ k. recovered (sizes_of L) L in
    let start : Moment = core_start L g limit v in
    let course : IsCourse start xs n = trace_course start n D F xs t in
    let begins : RunsAt bases L (only D) start = core_starts L g limit v (only D) history rules nothing fits vault flushed in
    let there : RunsAt bases L (only F) n = course_keeps bases L start n xs D F begins t in
    let none : NonePoked start.core.regions = none_loaded (recovered (sizes_of L) L) in (
      every_core_trace_is_right L g limit v D history rules nothing fits vault flushed xs n F t (none_escapes bases L (only F) n F there refl (course_unpoked start n xs quiet course none)),
      deletes_nobody bases L (only F) n F there refl (course_clean bases L start n xs (with_none bases L (only D) start begins) quiet course none (subst NoneFails (sym nothing) tt)),
    )
