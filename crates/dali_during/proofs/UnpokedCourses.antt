-- From a core that a format or a restart hands out, whatever steps are taken without a stray write.
use Rattle.std.proofs.Common.{false, Some, refl, ◌≡◌, ℕ, ◌-◌, ◌≤◌, true, List, [], ◌∷◌, ◌++◌, length, take, ap, sym, subst, ◌∙◌, ⊎_elim, arith}
use Rattle.std.specs.List.{AllByRecursion, list_any}
use Rattle.dali_geometry.specs.Places.{formatted_image}
use Rattle.dali_record.specs.declared.records.Record.{Record}
use Rattle.dali_record.specs.declared.records.Record.TheVariants.{Ended}
use Rattle.dali_record.specs.Log.{committed}
use Rattle.dali_record.specs.Damage.{has}
use Rattle.dali_record.specs.Epochs.{Epoch, Cut, cut, last_epoch, failing}
use Rattle.dali_record.specs.Legal.{sizes_of, Rules, rules_state}
use Rattle.dali_record.specs.Files.{Files}
use Rattle.dali_record.specs.Settled.{redo_all}
use Rattle.dali_record.proofs.Pushes.{cut_push}
use Rattle.dali_history.specs.Recovered.{base_of, recovered}
use Rattle.dali_history.specs.History.{IsHistory}
use Rattle.dali_crash.specs.Checkpoints.{Point, StoreStep, IsPointCourse, moment_of}
use Rattle.dali_crash.proofs.Starts.{lawful}
use Rattle.dali_crash.proofs.StoreStarts.{store_goes, store_base}
use Rattle.dali_history.proofs.HeadlineLemmas.Undamaged.{all_survive}
use Rattle.dali_history.proofs.HeadlineLemmas.NothingToFree.{recovered-base}
use Rattle.dali_runs.specs.State.{stable, VaultState}
use Rattle.dali_runs.specs.Run.{Bases, base_at, log_in, RunsOn, IsPrefix, only, VaultRun, no_image}
use Rattle.dali_runs.specs.Courses.{Step, Moment, IsCourse, RunsAt}
use Rattle.dali_runs.proofs.OneMore.{is_inside, step_inside, last_epoch-push}
use Rattle.dali_runs.proofs.Courses.{Goes, step_goes, course_keeps, bare_course_keeps}
use Rattle.dali_crash.specs.CrashLogs.{cut_to, IsUnpoked}
use Rattle.dali_crash.specs.Restarts.{HasRightBase}
use Rattle.dali_crash.proofs.CrashLogs.{cut_parts}
use Rattle.dali_crash.proofs.Courses.{course_keeps_the_base, honest_before}
use Rattle.dali_history.specs.Undone.AsLeft.{FindAsLeft}
use Rattle.dali_during.proofs.UndosFind.{undos_find_in_runs}
use Rattle.dali_during.specs.During.{IsRightBase, image_of, IsTakenBack, NoneFailed, AllSurvive, CourseIsQuiet, ImageIsQuiet, UnpokedCourses, UnpokedCoreTraces, UnpokedPointCourses, UnpokedTraces}
use Rattle.dali_crash.proofs.Unpoked.{NonePoked, NoneFails, IsClean, none_loaded, course_unpoked, none_failing, none_fails_take, course_clean, store_course_unpoked, store_course_clean}
use Rattle.dali_during.proofs.Runs.{right_bases, image_is, indexed_in_runs, quiet_in_runs, taken_back_in_runs}
use Rattle.dali_during.proofs.Ends.{taken_back_at_its_end}
use Rattle.dali_during.proofs.Shows.{shows_what_is_expected}
use Rattle.dali_runs.proofs.Touching.{trace_course}
use Rattle.dali_crash.specs.Traces.{bases_of, core_start, start_point, MayRun, Start}
use Rattle.dali_crash.proofs.Traces.{core_starts, trace_runs, traced_course, bare_start_runs}
use Rattle.dali_crash.specs.Unpoked.{pokes, store_pokes}
use Rattle.dali_crash.specs.StoreRuns.{StoreRun}
use Rattle.dali_crash.proofs.StoreRuns.{bare_store_course_keeps}

-- ---- epochs
abbrev FailsNot : Epoch → Type 0
FailsNot e = failing e ≡ []

all_but_last : (es : List Epoch) (e : Epoch) → AllByRecursion FailsNot (es ++ e ∷ []) → AllByRecursion FailsNot es
all_but_last [] e h = tt
all_but_last (d ∷ es) e h = (h.0, all_but_last es e h.1)

pub all_and_last : (es : List Epoch) (e : Epoch) → AllByRecursion FailsNot es → FailsNot e → AllByRecursion FailsNot (es ++ e ∷ [])
all_and_last [] e h g = (g, tt)
all_and_last (d ∷ es) e h g = (h.0, all_and_last es e h.1 g)

closed_push : (L : List Record) (x : Record) → is_inside x ≡ true → (cut (L ++ x ∷ [])).closed ≡ (cut L).closed
closed_push L x inside = ap (λ (c : Cut). c.closed) (cut_push L x ∙ step_inside (cut L) x inside)

closed_goes : (m n : Moment) → Goes m n → (cut n.log).closed ≡ (cut m.log).closed
closed_goes m n goes = ⊎_elim (λ same. ap (λ L. (cut L).closed) same) (λ more. ap (λ L. (cut L).closed) more.2 ∙ closed_push m.log more.0 more.1) goes.log

closed_course : (m n : Moment) (xs : List Step) → IsCourse m xs n → (cut n.log).closed ≡ (cut m.log).closed
closed_course m n [] course = ap (λ (k : Moment). (cut k.log).closed) (sym course)
closed_course m n (x ∷ xs) course = closed_course course.0 n xs course.2 ∙ closed_goes m course.0 (step_goes m course.0 x course.1)

-- ---- a log by itself
pub all_that_committed_survives : AllSurvive
all_that_committed_survives L none = all_survive L none

-- what a course keeps that the laws ask for
record Quiet (bases : Bases) (L : List Record) (n : Moment) : Type 0 where
  there : RunsAt bases L no_image n
  none_poked : NonePoked n.core.regions
  clean : IsClean n
  right : HasRightBase bases n.core.system.sizes n.log
  closed : (cut n.log).closed ≡ (cut L).closed

whole_epoch : (bases : Bases) (L : List Record) (n : Moment) → Quiet bases L n → failing (last_epoch n.log) ≡ []
whole_epoch bases L n q = none_failing (last_epoch n.log).records q.clean

closed_quiet : (bases : Bases) (L : List Record) (n : Moment) → Quiet bases L n → NoneFailed L → AllByRecursion FailsNot (cut n.log).closed
closed_quiet bases L n q before = subst (AllByRecursion FailsNot) (sym q.closed) (all_but_last (cut L).closed (cut L).now before)

course_is_quiet : (bases : Bases) (L : List Record) (n : Moment) → base_at bases n.log ≡ recovered (sizes_of L) L → Quiet bases L n → CourseIsQuiet L n
course_is_quiet bases L n start q = record {
  unpoked = unpoked;
  right_base = subst (IsRightBase n.core.system.sizes) q.right.base base;
  base_is = sym q.right.base ∙ start;
  image_is = subst (λ b. image_of n.core ≡ redo_all b (last_epoch n.log).records) q.right.base (image_is bases n.log n.core runs unpoked base.image);
  indexed = indexed_in_runs bases n.log n.core runs unpoked base;
  quiet = quiet_in_runs bases n.log n.core runs unpoked base;
  undos = λ order permutes. subst (λ b. FindAsLeft b (last_epoch n.log).records (image_of n.core) order) q.right.base (undos_find_in_runs bases n.log n.core runs unpoked base order permutes);
  taken_back = λ t row at state none. subst (λ b. IsTakenBack n.core.system.sizes (image_of n.core) b (last_epoch n.log).records t) q.right.base (taken_back_in_runs bases n.log n.core runs unpoked base t row at state none);
  ended = ended;
  shows = λ idle. shows_what_is_expected bases n.log n.core runs unpoked q.right (whole_epoch bases L n q) idle;
  none_failed = none_failed;
  none_deleted = λ before. all_survive n.log (none_failed before);
}
  where
    runs : RunsOn bases n.log n.core
    runs = subst (λ M. RunsOn bases M n.core) (sym q.there.log) q.there.run.runs

    unpoked : IsUnpoked n.core
    unpoked r g e = (q.none_poked r g e, (runs.regions r g e).protected.none_missed (q.none_poked r g e))

    base : IsRightBase n.core.system.sizes (base_at bases n.log)
    base = right_bases bases n.log n.core runs q.right

    ended : (M : List Record) (t : ℕ) → n.log ≡ M ++ Ended t ∷ [] → has (committed (last_epoch M).records) t ≡ false → IsTakenBack n.core.system.sizes (image_of n.core) (base_of n.core.system.sizes n.log) (last_epoch M).records t
    ended M t log un = subst (λ b. IsTakenBack n.core.system.sizes (image_of n.core) b (last_epoch M).records t) same (taken_back_at_its_end bases M t n.core (subst (λ K. RunsOn bases K n.core) log runs) unpoked (subst (λ K. IsRightBase n.core.system.sizes (base_at bases K)) log base) un)
      where
        same : base_at bases M ≡ base_of n.core.system.sizes n.log
        same = ap (λ (e : Epoch). bases e.first) (sym (ap last_epoch log ∙ last_epoch-push M (Ended t) refl)) ∙ q.right.base

    none_failed : NoneFailed L → NoneFailed n.log
    none_failed before = all_and_last (cut n.log).closed (cut n.log).now (closed_quiet bases L n q before) (whole_epoch bases L n q)

image_is_quiet : (bases : Bases) (L : List Record) (n : Moment) (F : Files) → Quiet bases L n → RunsAt bases L (only F) n → ImageIsQuiet L F
image_is_quiet bases L n F q at = record { none_failed = none_failed; none_deleted = λ before. all_survive (log_in F) (none_failed before) }
  where
    left : (k : ℕ) × (cut (log_in F) ≡ record { closed = (cut n.log).closed; now = cut_to k (last_epoch n.log) })
    left = (is.count - (last_epoch n.log).first, ap cut is.log ∙ cut_parts n.log is.count (omega (arith, is.flushed, began, at.run.first)) is.within)
      where
        is : IsPrefix n.log (stable n.core) F
        is = subst (λ M. IsPrefix M (stable n.core) F) (sym at.log) (at.run.vault.prefix F refl)

        began : (last_epoch n.log).first ≤ length L
        began = subst (λ M. (last_epoch M).first ≤ length L) (sym at.log) at.run.began

    none_failed : NoneFailed L → NoneFailed (log_in F)
    none_failed before = subst (λ (c : Cut). AllByRecursion FailsNot (c.closed ++ c.now ∷ [])) (sym left.1) (all_and_last (cut n.log).closed (cut_to left.0 (last_epoch n.log)) (closed_quiet bases L n q before) (none_failing (take left.0 (last_epoch n.log).records) (none_fails_take left.0 (last_epoch n.log).records q.clean)))

right_start : (L : List Record) → IsHistory L → (last_epoch L).records ≡ [] → HasRightBase (λ k. recovered (sizes_of L) L) (sizes_of L) L
right_start L history none = record { base = recovered-base (sizes_of L) L none; honest = honest_before (sizes_of L) (formatted_image (sizes_of L)) (cut L).closed (cut L).now history.honest }

core_quiet :
    (L : List Record) (g : Rules) (limit : ℕ) (v : VaultState)
    → IsHistory L → rules_state (sizes_of L) L ≡ Some g → (last_epoch L).records ≡ []
    → limit ≤ 268435456 → VaultRun no_image L (length L) v → v.flushed ≡ 0
    → (xs : List Step) (n : Moment) → list_any pokes xs ≡ false → IsCourse (core_start L g limit v) xs n
    → Quiet (λ k. recovered (sizes_of L) L) L n
core_quiet L g limit v history rules none fits vault zero xs n quiet course =
    let bases : Bases = λ k. recovered (sizes_of L) L in
    let start : Moment = core_start L g limit v in
    let begins : RunsAt bases L no_image start = core_starts L g limit v no_image history rules none fits vault zero in
    record {
      there = bare_course_keeps bases L start n xs begins course;
      none_poked = course_unpoked start n xs quiet course (none_loaded (recovered (sizes_of L) L));
      clean = course_clean bases L start n xs begins quiet course (none_loaded (recovered (sizes_of L) L)) (subst NoneFails (sym none) tt);
      right = course_keeps_the_base bases start n xs (right_start L history none) course;
      closed = closed_course start n xs course;
    }

pub unpoked_courses : UnpokedCourses
unpoked_courses L g limit v history rules none fits vault zero xs n quiet course =
    course_is_quiet (λ k. recovered (sizes_of L) L) L n refl (core_quiet L g limit v history rules none fits vault zero xs n quiet course)

pub unpoked_core_traces : UnpokedCoreTraces
unpoked_core_traces L g limit v D history rules none fits vault zero xs n F quiet t =
    let bases : Bases = λ k. recovered (sizes_of L) L in
    let bare : VaultRun no_image L (length L) v = record { within = vault.within; prefix = λ G h. absurd h; exact = λ e G h. absurd h; short = vault.short; then_fits = vault.then_fits; counts = vault.counts; rose = vault.rose } in
    image_is_quiet bases L n F
    (core_quiet L g limit v history rules none fits bare zero xs n quiet (trace_course (core_start L g limit v) n D F xs t))
    (course_keeps bases L (core_start L g limit v) n xs D F (core_starts L g limit v (only D) history rules none fits vault zero) t)

-- ---- with the store
closed_point_course : (p q : Point) (xs : List StoreStep) → IsPointCourse p xs q → (cut q.log).closed ≡ (cut p.log).closed
closed_point_course p q [] course = ap (λ (k : Point). (cut k.log).closed) (sym course)
closed_point_course p q (x ∷ xs) course = closed_point_course course.0 q xs course.2 ∙ closed_goes (moment_of p) (moment_of course.0) (store_goes p course.0 x course.1)

point_quiet :
    (s : Start) → IsHistory s.log → rules_state (sizes_of s.log) s.log ≡ Some s.rules → (last_epoch s.log).records ≡ []
    → s.limit ≤ 268435456 → MayRun s.log s.vault
    → (xs : List StoreStep) (p : Point) → list_any store_pokes xs ≡ false → IsPointCourse (start_point s) xs p
    → Quiet (bases_of s) s.log (moment_of p)
point_quiet s history rules none limit may xs p quiet course =
    let start : Point = start_point s in
    let begins : StoreRun (bases_of s) s.log no_image start = bare_start_runs s (lawful s.log history) rules none limit may in
    record {
      there = (bare_store_course_keeps (bases_of s) s.log start p xs begins course).run;
      none_poked = store_course_unpoked start p xs quiet course (none_loaded (recovered (sizes_of s.log) s.log));
      clean = store_course_clean (bases_of s) s.log start p xs begins.run quiet course (none_loaded (recovered (sizes_of s.log) s.log)) (subst NoneFails (sym none) tt);
      right = store_base (bases_of s) start p xs (right_start s.log history none) course;
      closed = closed_point_course start p xs course;
    }

pub unpoked_point_courses : UnpokedPointCourses
unpoked_point_courses s history rules none limit may xs p quiet course =
    course_is_quiet (bases_of s) s.log (moment_of p) refl (point_quiet s history rules none limit may xs p quiet course)

pub unpoked_traces : UnpokedTraces
unpoked_traces s D history from xs p F quiet t =
    image_is_quiet (bases_of s) s.log (moment_of p) F
    (point_quiet s history from.rules from.rests.none from.fits from.rests.vault xs p quiet (traced_course (start_point s) p D F xs t))
    (trace_runs s D from xs p F t).run
