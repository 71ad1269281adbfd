-- Without stray writes no region is poked, no damage escapes a stop, no audit names a region, and nobody is deleted.
use Rattle.std.proofs.Common.{◌≡◌, ℕ, zero, suc, ◌-◌, ◌<◌, ◌≤◌, Bool, true, false, List, [], ◌∷◌, ◌++◌, length, take, Some, None, refl, ap, sym, subst, ◌∙◌, ⊎_elim, arith}
use Rattle.std.specs.Prelude.{map, fold, slice_get, slice_set, ⊤, nat_lt}
use Rattle.std.specs.List.{list_any, list_all}
use Rattle.dali_geometry.specs.Places.{regions}
use Rattle.std.proofs.lemmas.Bool.{or_parts, ltb-true, eq-eqb}
use Rattle.dali_lists.proofs.Lists.{set_cases, get_within as found}
use Rattle.dali_lists.proofs.Tests.{left_true}
use Rattle.dali_record.specs.declared.records.Record.{Record}
use Rattle.dali_record.specs.declared.records.Record.TheVariants.{Begin, Forward, Done, Commit, Ended, Solo, AuditBegin, AuditClean, AuditFail, Back}
use Rattle.dali_record.specs.Epochs.{Epoch, Cut, last_epoch, failing_step}
use Rattle.dali_record.specs.Damage.{deleted_list, has}
use Rattle.dali_record.specs.Files.{Files}
use Rattle.dali_region.specs.declared.Side.{Side}
use Rattle.dali_region.specs.declared.Side.TheVariants.{A, B}
use Rattle.dali_region.specs.State.{RegionState, loaded, touched, taken_back, checked, dead}
use Rattle.dali_region.specs.Answers.{cleaned}
use Rattle.dali_history.proofs.HeadlineLemmas.Undamaged.{undamaged_deleted}
use Rattle.dali_runs.specs.State.{CoreState, stable}
use Rattle.dali_runs.specs.Run.{Bases, log_in, RunsOn, IsPrefix, no_image}
use Rattle.dali_runs.specs.Crashes.{NoneEscapes}
use Rattle.dali_runs.specs.Regions.{RegionStep, Latch, NoteReads, Update, TakeBack, Poke, Check, Die, Clean, region_after}
use Rattle.dali_runs.specs.Audits.{MayEndAudit}
use Rattle.dali_runs.specs.Courses.{Step, Begins, Operates, TakesBack, Frees, Answers, Commits, Ends, AuditBegins, AuditEnds, Locks, Refuses, OnRegion, Passes, Dies, Claims, GivesBack, Recovers, Stops, Checkpoints, Takes, Flushes, Faults, ReadFails, Adds, Moment, IsStepAt, IsCourse, RunsAt}
use Rattle.dali_runs.proofs.Deaths.{region_with, dead_at}
use Rattle.dali_runs.proofs.AuditEnds.{may_end_audit}
use Rattle.dali_runs.proofs.OneMore.{is_inside, last_epoch-push}
use Rattle.dali_crash.specs.CrashLogs.{cut_to, IsUnpoked}
use Rattle.dali_crash.specs.Checkpoints.{Point, StoreStep, Does, Keeps, Copies, Skips, Turns, CopyFails, TurnFails, target, IsPointStep, IsPointCourse, moment_of}
use Rattle.dali_crash.specs.Unpoked.{is_poke, pokes, store_pokes, DeletesNobody}
use Rattle.dali_crash.proofs.CrashLogs.{cut_parts}
use Rattle.dali_crash.proofs.Honest.{unpoked_escapes_none}
use Rattle.dali_runs.proofs.Courses.{step_keeps_none, runs_on}
use Rattle.dali_crash.proofs.StoreRuns.{store_step_none}

-- ---- no region is poked
abbrev pub NonePoked : List RegionState → Type 0
NonePoked rs = (r : ℕ) (g : RegionState) → slice_get rs r ≡ Some g → g.poked ≡ false

as_was : (old new : List RegionState) → new ≡ old → NonePoked old → NonePoked new
as_was old new same none q h e = none q h (ap (λ rs. slice_get rs q) (sym same) ∙ e)

one_set : (old new : List RegionState) (r : ℕ) (g k : RegionState) → new ≡ slice_set old r k → slice_get old r ≡ Some g → k.poked ≡ g.poked → NonePoked old → NonePoked new
one_set old new r g k is at same none q h e = ⊎_elim
    (λ w. ap (λ (z : RegionState). z.poked) w.1 ∙ (same ∙ none r g at))
    (λ w. none q h w.1)
    (set_cases old r k q h (ap (λ rs. slice_get rs q) (sym is) ∙ e))

pub none_loaded : (image : List (List ℕ)) → NonePoked (map loaded image)
none_loaded [] r g e = absurd (cc)
none_loaded (ws ∷ image) zero g e = let same : loaded ws ≡ g = cc in ap (λ (z : RegionState). z.poked) (sym same)
none_loaded (ws ∷ image) (suc r) g e = none_loaded image r g e

same_poked : (x : RegionStep) (g : RegionState) → is_poke x ≡ false → (region_after x g).poked ≡ g.poked
same_poked (Latch t) g e = refl
same_poked (NoteReads m) g e = refl
same_poked (Update i v) g e = refl
same_poked TakeBack g e = refl
same_poked (Poke i m) g e = absurd (cc)
same_poked Check g e = refl
same_poked Die g e = refl
same_poked (Clean A) g e = refl
same_poked (Clean B) g e = refl

step_unpoked : (m n : Moment) (x : Step) → pokes x ≡ false → IsStepAt m x n → NonePoked m.core.regions → NonePoked n.core.regions
step_unpoked m n Begins quiet s = as_was m.core.regions n.core.regions (ap (λ (c : CoreState). c.regions) s.0.1.1)
step_unpoked m n (Operates t b) quiet s = one_set m.core.regions n.core.regions b.region s.0.0 (touched s.0.0) (ap (λ (c : CoreState). c.regions) s.0.3.1) s.0.2.at refl
step_unpoked m n (TakesBack t b) quiet s = one_set m.core.regions n.core.regions b.region s.0.0 (touched s.0.0) (ap (λ (c : CoreState). c.regions) s.0.2.1) s.0.1.at refl
step_unpoked m n (Frees p b) quiet s = one_set m.core.regions n.core.regions b.region s.0.0 (touched s.0.0) (ap (λ (c : CoreState). c.regions) s.0.2.1) s.0.1.at refl
step_unpoked m n (Answers t k a) quiet s = as_was m.core.regions n.core.regions (ap (λ (c : CoreState). c.regions) s.0.3.1)
step_unpoked m n (Commits t) quiet s = as_was m.core.regions n.core.regions (ap (λ (c : CoreState). c.regions) s.0.2.1)
step_unpoked m n (Ends t) quiet s = as_was m.core.regions n.core.regions (ap (λ (c : CoreState). c.regions) s.0.2.1)
step_unpoked m n AuditBegins quiet s = as_was m.core.regions n.core.regions (ap (λ (c : CoreState). c.regions) s.0.2.1)
step_unpoked m n (AuditEnds b found) quiet s = as_was m.core.regions n.core.regions (ap (λ (c : CoreState). c.regions) s.0.1.1)
step_unpoked m n (Locks t k mode) quiet s = as_was m.core.regions n.core.regions (ap (λ (c : CoreState). c.regions) s.0.2.1)
step_unpoked m n (Refuses t k mode o) quiet s = as_was m.core.regions n.core.regions (ap (λ (c : CoreState). c.regions) s.0.2.1)
step_unpoked m n (OnRegion r x) quiet s = one_set m.core.regions n.core.regions r s.0.0 (region_after x s.0.0) (ap (λ (c : CoreState). c.regions) s.0.3.1) s.0.1 (same_poked x s.0.0 quiet)
step_unpoked m n (Passes b r) quiet s = one_set m.core.regions n.core.regions r s.0.0 (checked s.0.0) (ap (λ (c : CoreState). c.regions) s.0.2.1) s.0.1 refl
step_unpoked m n (Dies t None) quiet s = as_was m.core.regions n.core.regions (ap (λ (c : CoreState). c.regions) s.0.1.1)
step_unpoked m n (Dies t (Some r)) quiet s =
    let held = s.0.0.latched.held r refl in
    let region = region_with (slice_get m.core.regions r) held.0 held.1 in
    one_set m.core.regions n.core.regions r region.0 (dead region.0) (ap (λ (c : CoreState). c.regions) s.0.1.1 ∙ dead_at m.core.regions r region.0 region.1) region.1 refl
step_unpoked m n (Claims t) quiet s = as_was m.core.regions n.core.regions (ap (λ (c : CoreState). c.regions) s.0.2.1)
step_unpoked m n (GivesBack t o) quiet s = as_was m.core.regions n.core.regions (ap (λ (c : CoreState). c.regions) s.0.1.1)
step_unpoked m n (Recovers r) quiet s = one_set m.core.regions n.core.regions r s.0.0 (taken_back s.0.0) (ap (λ (c : CoreState). c.regions) s.0.3.1) s.0.1 refl
step_unpoked m n Stops quiet s = as_was m.core.regions n.core.regions (ap (λ (c : CoreState). c.regions) s.0.1.1)
step_unpoked m n (Checkpoints b) quiet s = as_was m.core.regions n.core.regions (ap (λ (c : CoreState). c.regions) s.0.1.1)
step_unpoked m n Takes quiet s = as_was m.core.regions n.core.regions (ap (λ (c : CoreState). c.regions) s.0.1)
step_unpoked m n Flushes quiet s = as_was m.core.regions n.core.regions (ap (λ (c : CoreState). c.regions) s.0.1.1)
step_unpoked m n (Faults k) quiet s = as_was m.core.regions n.core.regions (ap (λ (c : CoreState). c.regions) s.0.2.1)
step_unpoked m n (ReadFails k) quiet s = as_was m.core.regions n.core.regions (ap (λ (c : CoreState). c.regions) s.0.1.1)

pub course_unpoked : (m n : Moment) (xs : List Step) → list_any pokes xs ≡ false → IsCourse m xs n → NonePoked m.core.regions → NonePoked n.core.regions
course_unpoked m n [] quiet s none = subst (λ (k : Moment). NonePoked k.core.regions) s none
course_unpoked m n (x ∷ xs) quiet s none = let p = or_parts (pokes x) (list_any pokes xs) quiet in course_unpoked s.0 n xs p.1 s.2 (step_unpoked m s.0 x p.0 s.1 none)

-- ---- no audit named a region
abbrev is_fail : Record → Bool
is_fail (AuditFail b rs) = true
is_fail _ = false

abbrev pub NoneFails : List Record → Type 0
NoneFails [] = ⊤
NoneFails (x ∷ E) = (is_fail x ≡ false) × NoneFails E

none_fails_push : (E : List Record) (x : Record) → NoneFails E → is_fail x ≡ false → NoneFails (E ++ x ∷ [])
none_fails_push [] x h e = (e, tt)
none_fails_push (y ∷ E) x h e = (h.0, none_fails_push E x h.1 e)

pub none_fails_take : (n : ℕ) (E : List Record) → NoneFails E → NoneFails (take n E)
none_fails_take zero E h = tt
none_fails_take (suc n) [] h = tt
none_fails_take (suc n) (x ∷ E) h = (h.0, none_fails_take n E h.1)

step_none : (x : Record) → is_fail x ≡ false → failing_step [] x ≡ []
step_none (AuditFail b rs) e = absurd (cc)
step_none _ e = refl

pub none_failing : (E : List Record) → NoneFails E → fold failing_step [] E ≡ []
none_failing [] h = refl
none_failing (x ∷ E) h = ap (λ rs. fold failing_step rs E) (step_none x h.0) ∙ none_failing E h.1

abbrev pub IsClean : Moment → Type 0
IsClean m = NoneFails (last_epoch m.log).records

clean_adds : (m n : Moment) (e : CoreState) (x : Record) → is_inside x ≡ true → is_fail x ≡ false → Adds m.log x e n.log n.core → IsClean m → IsClean n
clean_adds m n e x inside isnt adds h = subst (λ (k : Epoch). NoneFails k.records) (sym (ap last_epoch adds.0 ∙ last_epoch-push m.log x inside)) (none_fails_push (last_epoch m.log).records x h isnt)

clean_on : (m n : Moment) → n.log ≡ m.log → IsClean m → IsClean n
clean_on m n same h = subst (λ L. NoneFails (last_epoch L).records) (sym same) h

-- an audit names only a region to which a stray write came
names_none : (bases : Bases) (before : List Record) (leave : Files → Type 0) (m : Moment) (b r : ℕ) (rs : List ℕ) → RunsAt bases before leave m → NonePoked m.core.regions → MayEndAudit m.log m.core b (r ∷ rs) → ⊥
names_none bases before leave m b r rs at none may = not_both (none r region.0 region.1) (may.stray r region.0 region.1 named)
  where
    within : r < length m.core.regions
    within = omega (arith, ltb-true r (regions m.core.system.sizes) (left_true (nat_lt r (regions m.core.system.sizes)) (list_all (λ q. nat_lt q (regions m.core.system.sizes)) rs) may.may.numbers), (runs_on bases before leave m at).whole)

    region : (g : RegionState) × (slice_get m.core.regions r ≡ Some g)
    region = found m.core.regions r within

    named : has (r ∷ rs) r ≡ true
    named = rw (eq-eqb r r refl) refl

    not_both : {p : Bool} → p ≡ false → p ≡ true → ⊥
    not_both e f = cc

step_clean : (bases : Bases) (before : List Record) (leave : Files → Type 0) (m n : Moment) (x : Step) → RunsAt bases before leave m → NonePoked m.core.regions → IsStepAt m x n → IsClean m → IsClean n
step_clean bases before leave m n Begins at none s = clean_adds m n _ (Begin m.core.system.next) refl refl s.0.1
step_clean bases before leave m n (Operates t b) at none s = clean_adds m n _ (Forward t b) refl refl s.0.3
step_clean bases before leave m n (TakesBack t b) at none s = clean_adds m n _ (Back t b) refl refl s.0.2
step_clean bases before leave m n (Frees p b) at none s = clean_adds m n _ (Solo m.core.system.next p b) refl refl s.0.2
step_clean bases before leave m n (Answers t k a) at none s = clean_adds m n _ (Done t k a) refl refl s.0.3
step_clean bases before leave m n (Commits t) at none s = clean_adds m n _ (Commit t) refl refl s.0.2
step_clean bases before leave m n (Ends t) at none s = clean_adds m n _ (Ended t) refl refl s.0.2
step_clean bases before leave m n AuditBegins at none s = clean_adds m n _ AuditBegin refl refl s.0.2
step_clean bases before leave m n (AuditEnds b []) at none s = clean_adds m n _ (AuditClean b) refl refl s.0.1
step_clean bases before leave m n (AuditEnds b (r ∷ rs)) at none s = absurd (names_none bases before leave m b r rs at none (may_end_audit m.log m.core m.audits b (r ∷ rs) (runs_on bases before leave m at).whole at.audits s.0.0 s.1.0))
step_clean bases before leave m n (Locks t k mode) at none s = clean_on m n s.0.2.0
step_clean bases before leave m n (Refuses t k mode o) at none s = clean_on m n s.0.2.0
step_clean bases before leave m n (OnRegion r x) at none s = clean_on m n s.0.3.0
step_clean bases before leave m n (Passes b r) at none s = clean_on m n s.0.2.0
step_clean bases before leave m n (Dies t o) at none s = clean_on m n s.0.1.0
step_clean bases before leave m n (Claims t) at none s = clean_on m n s.0.2.0
step_clean bases before leave m n (GivesBack t o) at none s = clean_on m n s.0.1.0
step_clean bases before leave m n (Recovers r) at none s = clean_on m n s.0.3.0
step_clean bases before leave m n Stops at none s = clean_on m n s.0.1.0
step_clean bases before leave m n (Checkpoints b) at none s = clean_on m n s.0.1.0
step_clean bases before leave m n Takes at none s = clean_on m n s.0.0
step_clean bases before leave m n Flushes at none s = clean_on m n s.0.1.0
step_clean bases before leave m n (Faults k) at none s = clean_on m n s.0.2.0
step_clean bases before leave m n (ReadFails k) at none s = clean_on m n s.0.1.0

pub course_clean : (bases : Bases) (before : List Record) (m n : Moment) (xs : List Step) → RunsAt bases before no_image m → list_any pokes xs ≡ false → IsCourse m xs n → NonePoked m.core.regions → IsClean m → IsClean n
course_clean bases before m n [] at quiet s none clean = subst IsClean s clean
course_clean bases before m n (x ∷ xs) at quiet s none clean = let p = or_parts (pokes x) (list_any pokes xs) quiet in course_clean bases before s.0 n xs (step_keeps_none bases before m s.0 x at s.1) p.1 s.2 (step_unpoked m s.0 x p.0 s.1 none) (step_clean bases before no_image m s.0 x at none s.1 clean)

-- ---- what a crash leaves
-- its last epoch is the run's, cut off
left_epoch : (bases : Bases) (before : List Record) (leave : Files → Type 0) (m : Moment) (F : Files) → RunsAt bases before leave m → leave F → (k : ℕ) × (last_epoch (log_in F) ≡ cut_to k (last_epoch m.log))
left_epoch bases before leave m F at l = (is.count - (last_epoch m.log).first, ap last_epoch is.log ∙ ap (λ (q : Cut). q.now) (cut_parts m.log is.count (omega (arith, is.flushed, began, at.run.first)) is.within))
  where
    is : IsPrefix m.log (stable m.core) F
    is = subst (λ M. IsPrefix M (stable m.core) F) (sym at.log) (at.run.vault.prefix F l)

    began : (last_epoch m.log).first ≤ length before
    began = subst (λ M. (last_epoch M).first ≤ length before) (sym at.log) at.run.began

pub none_escapes : (bases : Bases) (before : List Record) (leave : Files → Type 0) (m : Moment) (F : Files) → RunsAt bases before leave m → leave F → NonePoked m.core.regions → NoneEscapes (last_epoch (log_in F)) m.core
none_escapes bases before leave m F at l none = let w = left_epoch bases before leave m F at l in subst (λ (e : Epoch). NoneEscapes e m.core) (sym w.1) (unpoked_escapes_none bases m.log m.core w.0 runs unpoked)
  where
    runs : RunsOn bases m.log m.core
    runs = subst (λ M. RunsOn bases M m.core) (sym at.log) at.run.runs

    unpoked : IsUnpoked m.core
    unpoked r g e = (none r g e, (runs.regions r g e).protected.none_missed (none r g e))

pub deletes_nobody : (bases : Bases) (before : List Record) (leave : Files → Type 0) (m : Moment) (F : Files) → RunsAt bases before leave m → leave F → IsClean m → DeletesNobody F
deletes_nobody bases before leave m F at l clean = let w = left_epoch bases before leave m F at l in subst (λ (e : Epoch). deleted_list e ≡ []) (sym w.1) (undamaged_deleted (cut_to w.0 (last_epoch m.log)) (none_failing (take w.0 (last_epoch m.log).records) (none_fails_take w.0 (last_epoch m.log).records clean)))

-- ---- with its store
cleaned_poked : (t : Side) (g : RegionState) → (cleaned t g).poked ≡ g.poked
cleaned_poked A g = refl
cleaned_poked B g = refl

store_unpoked : (st new : Point) (x : StoreStep) → store_pokes x ≡ false → IsPointStep st x new → NonePoked st.core.regions → NonePoked new.core.regions
store_unpoked st new (Does x) quiet s = step_unpoked (moment_of st) (moment_of new) x quiet s.1
store_unpoked st new Keeps quiet s = as_was st.core.regions new.core.regions (ap (λ (z : Point). z.core.regions) s.4)
store_unpoked st new (Copies r n) quiet s = one_set st.core.regions new.core.regions r s.0 (cleaned (target st) s.0) (ap (λ (z : Point). z.core.regions) s.5) s.1 (cleaned_poked (target st) s.0)
store_unpoked st new (Skips r n) quiet s = as_was st.core.regions new.core.regions (ap (λ (z : Point). z.core.regions) s.5)
store_unpoked st new Turns quiet s = as_was st.core.regions new.core.regions (ap (λ (z : Point). z.core.regions) s.5)
store_unpoked st new (CopyFails r ws n) quiet s = as_was st.core.regions new.core.regions (ap (λ (z : Point). z.core.regions) s.4)
store_unpoked st new (TurnFails n) quiet s = as_was st.core.regions new.core.regions (ap (λ (z : Point). z.core.regions) s.5)
store_unpoked st new _ quiet s = as_was st.core.regions new.core.regions (ap (λ (z : Point). z.core.regions) s.1)

pub store_course_unpoked : (st new : Point) (xs : List StoreStep) → list_any store_pokes xs ≡ false → IsPointCourse st xs new → NonePoked st.core.regions → NonePoked new.core.regions
store_course_unpoked st new [] quiet s none = subst (λ (k : Point). NonePoked k.core.regions) s none
store_course_unpoked st new (x ∷ xs) quiet s none = let p = or_parts (store_pokes x) (list_any store_pokes xs) quiet in store_course_unpoked s.0 new xs p.1 s.2 (store_unpoked st s.0 x p.0 s.1 none)

store_clean : (bases : Bases) (before : List Record) (st new : Point) (x : StoreStep) → RunsAt bases before no_image (moment_of st) → NonePoked st.core.regions → IsPointStep st x new → IsClean (moment_of st) → IsClean (moment_of new)
store_clean bases before st new (Does x) run none s = step_clean bases before no_image (moment_of st) (moment_of new) x run none s.1
store_clean bases before st new Keeps run none s = clean_on (moment_of st) (moment_of new) (ap (λ (z : Point). z.log) s.4)
store_clean bases before st new (Copies r n) run none s = clean_on (moment_of st) (moment_of new) (ap (λ (z : Point). z.log) s.5)
store_clean bases before st new (Skips r n) run none s = clean_on (moment_of st) (moment_of new) (ap (λ (z : Point). z.log) s.5)
store_clean bases before st new Turns run none s = clean_on (moment_of st) (moment_of new) (ap (λ (z : Point). z.log) s.5)
store_clean bases before st new (CopyFails r ws n) run none s = clean_on (moment_of st) (moment_of new) (ap (λ (z : Point). z.log) s.4)
store_clean bases before st new (TurnFails n) run none s = clean_on (moment_of st) (moment_of new) (ap (λ (z : Point). z.log) s.5)
store_clean bases before st new _ run none s = clean_on (moment_of st) (moment_of new) (ap (λ (z : Point). z.log) s.1)

pub store_course_clean : (bases : Bases) (before : List Record) (st new : Point) (xs : List StoreStep) → RunsAt bases before no_image (moment_of st) → list_any store_pokes xs ≡ false → IsPointCourse st xs new → NonePoked st.core.regions → IsClean (moment_of st) → IsClean (moment_of new)
store_course_clean bases before st new [] run quiet s none clean = subst (λ (k : Point). IsClean (moment_of k)) s clean
store_course_clean bases before st new (x ∷ xs) run quiet s none clean = let p = or_parts (store_pokes x) (list_any store_pokes xs) quiet in store_course_clean bases before s.0 new xs (store_step_none bases before st s.0 x run s.1) p.1 s.2 (store_unpoked st s.0 x p.0 s.1 none) (store_clean bases before st s.0 x run none s.1 clean)
