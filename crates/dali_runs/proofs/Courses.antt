-- Each step, and each list of steps, keeps a run.
use Rattle.std.proofs.Common.{◌≡◌, ℕ, true, false, List, [], ◌∷◌, ◌++◌, length, refl, ap, sym, subst, ◌∙◌, arith, append_assoc, ◌⊎◌, inl, inr, ◌+◌, ◌≤◌}
use Rattle.std.specs.Prelude.{◌==◌, not, slice_get, Some}
use Rattle.std.proofs.lemmas.List.{length-append, append-nil}
use Rattle.dali_lists.proofs.Lists.{EachFrom}
use Rattle.dali_record.specs.declared.records.Record.{Record}
use Rattle.dali_record.specs.declared.records.Record.TheVariants.{Begin, Forward, Done, Commit, Ended, Solo, AuditBegin, Back}
use Rattle.dali_record.specs.Files.{Files}
use Rattle.dali_runs.proofs.CountsLemmas.Tallies.{tallies}
use Rattle.dali_runs.specs.State.{CoreState, VaultState, taken_to, stable, log_after}
use Rattle.dali_runs.specs.Run.{Bases, base_at, RunsOn, VaultRun, IsRun, only, no_image}
use Rattle.dali_runs.specs.Steps.{audit_record, taken}
use Rattle.dali_region.specs.State.{touched, checked, taken_back}
use Rattle.dali_att.specs.declared.state.State.TheVariants.{Dead, Cleaning}
use Rattle.dali_runs.specs.Regions.{region_after, TakeBack, Check}
use Rattle.dali_geometry.specs.Places.{regions}
use Rattle.dali_record.specs.Damage.{has}
use Rattle.dali_runs.specs.Passes.{Pass, audits_with, has_found, IsVerdict, AuditsRun, no_audits}
use Rattle.dali_runs.specs.Keeps.{with_system}
use Rattle.dali_runs.specs.Loads.{new_core, IsAtRest}
use Rattle.dali_runs.specs.Flushes.{frame_of, longer, faulted, with_vault, Appended, Appending, read_failed}
use Rattle.dali_runs.specs.Courses.{Begins, Operates, TakesBack, Frees, Answers, Commits, Ends, AuditBegins, AuditEnds, Locks, Refuses, OnRegion, Passes, Dies, Claims, GivesBack, Recovers, Stops, Checkpoints, Takes, Flushes, Faults, ReadFails, Adds, AddsNone, Moment, CameBy, RunsAt, StepKeeps, CourseKeeps, TakenAllIsFlushed, AuditEndTells, Step, LoadRunsAt, IsStepAt, BareCourseKeeps, BareLoadRuns}
use Rattle.dali_runs.proofs.OneMore.{is_inside, last_epoch-push, VaultRun-push}
use Rattle.dali_runs.proofs.RecordSteps.{begin_keeps, op_keeps, back_keeps, solo_keeps, done_keeps, commit_keeps, ended_keeps}
use Rattle.dali_runs.proofs.AuditSteps.{audit_begin_keeps, audit_end_keeps}
use Rattle.dali_runs.proofs.QuietSteps.{grant_keeps, refuse_keeps, region_keeps, state_keeps, stop_keeps, checkpoint_flag_keeps}
use Rattle.dali_runs.proofs.Deaths.{death_keeps, recover_keeps}
use Rattle.dali_runs.proofs.Passes.{later_all, later_one, check_later, after_later, death_later, touch_later, audits_later, audits_begin, audits_pass, no_audits_run, pass_at, IsLater}
use Rattle.dali_runs.proofs.AuditEnds.{pass_of, found_is, none_found, may_end_audit}
use Rattle.dali_runs.proofs.Loads.{load_runs}
use Rattle.dali_runs.proofs.Flushes.{take_keeps, flush_keeps, fault_keeps, read_keeps, flush_leaves, fault_leaves, read_leaves, longer_flushed, length-frame}
use Rattle.dali_words.specs.Words.{AllAreWords}
use Rattle.dali_geometry.specs.Sizes.{Sizes}
use Rattle.dali_record.specs.Legal.{Rules}

-- ---- what a crash leaves
-- each crash image behind the step came from one before
abbrev pub LeavesBy : (Files → Type 0) → (Files → Type 0) → List Record → CoreState → Step → Type 0
LeavesBy old new L c x = (F : Files) → new F → (D : Files) × old D × CameBy L c x D F

pub came_alone : (L : List Record) (c : CoreState) (x : Step) (D F : Files) → CameBy L c x D F → LeavesBy (only D) (only F) L c x
came_alone L c x D F came G is = (D, refl, subst (CameBy L c x D) (sym is) came)

-- a step that flushes nothing leaves no more
pub fewer : (old new : Files → Type 0) → ((F : Files) → new F → (D : Files) × old D × (F ≡ D)) → (F : Files) → new F → old F
fewer old new l F h = let w = l F h in subst old (sym w.2) w.1

-- fewer crash images
vault_less : (old new : Files → Type 0) (L : List Record) (n : ℕ) (v : VaultState) → ((F : Files) → new F → old F) → VaultRun old L n v → VaultRun new L n v
vault_less old new L n v less run = record {
  within = run.within;
  prefix = λ F h. run.prefix F (less F h);
  exact = λ e F h. run.exact e F (less F h);
  short = run.short;
  then_fits = run.then_fits;
  counts = run.counts;
  rose = run.rose;
}

-- one record more: the vault is left
logged_run :
    (bases : Bases) (before : List Record) (old new : Files → Type 0) (c e : CoreState) (x : Record) → is_inside x ≡ true → IsRun bases before old c
    → ((F : Files) → new F → old F)
    → e.system.since ≡ c.system.since ++ x ∷ [] → e.system.first ≡ c.system.first → e.system.taken ≡ c.system.taken → e.vault ≡ c.vault
    → RunsOn bases (log_after before c.system ++ x ∷ []) e
    → IsRun bases before new e
logged_run bases before old new c e x inside run less since first taken vault runs =
    let L : List Record = log_after before c.system in
    let same : log_after before e.system ≡ L ++ x ∷ [] = ap (λ l. before ++ l) since ∙ sym (append_assoc before c.system.since (x ∷ [])) in
    let n : stable e ≡ stable c = omega (arith, first, ap (λ (v : VaultState). v.flushed) vault) in
    record {
      first = first ∙ run.first;
      began = rw (same, ap (λ e. e.first) (last_epoch-push L x inside)) run.began;
      runs = subst (λ M. RunsOn bases M e) (sym same) runs;
      frame = omega (arith, run.frame, n, first, taken);
      taken = omega (arith, run.taken, first, taken, ap length same, length-append L (x ∷ []));
      vault = subst (λ M. VaultRun new M (stable e) e.vault) (sym same) (subst (λ v. VaultRun new (L ++ x ∷ []) (stable e) v) (sym vault) (subst (λ k. VaultRun new (L ++ x ∷ []) k c.vault) (sym n) (VaultRun-push new L x (stable c) c.vault (vault_less old new L (stable c) c.vault less run.vault))));
    }

-- none
quiet_run :
    (bases : Bases) (before : List Record) (old new : Files → Type 0) (c e : CoreState) → IsRun bases before old c
    → ((F : Files) → new F → old F)
    → e.system.since ≡ c.system.since → e.system.first ≡ c.system.first → e.system.taken ≡ c.system.taken → e.vault ≡ c.vault
    → RunsOn bases (log_after before c.system) e
    → IsRun bases before new e
quiet_run bases before old new c e run less since first taken vault runs =
    let L : List Record = log_after before c.system in
    let same : log_after before e.system ≡ L = ap (λ l. before ++ l) since in
    let n : stable e ≡ stable c = omega (arith, first, ap (λ (v : VaultState). v.flushed) vault) in
    record {
      first = first ∙ run.first;
      began = rw same run.began;
      runs = subst (λ M. RunsOn bases M e) (sym same) runs;
      frame = omega (arith, run.frame, n, first, taken);
      taken = omega (arith, run.taken, first, taken, ap length same);
      vault = subst (λ M. VaultRun new M (stable e) e.vault) (sym same) (subst (λ v. VaultRun new L (stable e) v) (sym vault) (subst (λ k. VaultRun new L k c.vault) (sym n) (vault_less old new L (stable c) c.vault less run.vault)));
    }

-- a frame is taken
all_logged : (bases : Bases) (before : List Record) (c : CoreState) → RunsOn bases (log_after before c.system) c → c.system.records ≡ length (log_after before c.system)
all_logged bases before c runs = runs.counts.records ∙ (tallies c.system.sizes (log_after before c.system) runs.counts.now runs.counts.rules).0

taken_run :
    (bases : Bases) (before : List Record) (old new : Files → Type 0) (c : CoreState) → IsRun bases before old c
    → ((F : Files) → new F → old F)
    → IsRun bases before new (with_system c (taken c.system))
taken_run bases before old new c run less =
    let L : List Record = log_after before c.system in
    let all : c.system.records ≡ length L = all_logged bases before c run.runs in
    record {
      first = run.first;
      began = run.began;
      runs = take_keeps bases L c run.runs;
      frame = omega (arith, all, run.frame, run.taken);
      taken = omega (arith, all, run.frame, run.taken);
      vault = vault_less old new L (stable c) c.vault less run.vault;
    }

-- and flushed
flushed_to : (L : List Record) (c : CoreState) → stable c ≤ taken_to c.system → taken_to c.system ≤ length L → stable (with_vault c (longer c.vault (frame_of L c))) ≡ taken_to c.system
flushed_to L c frame within = omega (arith, longer_flushed c.vault (frame_of L c), length-frame L (stable c) (taken_to c.system) frame within)

flushed_run :
    (bases : Bases) (before : List Record) (old new : Files → Type 0) (c : CoreState) → IsRun bases before old c
    → c.vault.stopped ≡ false → Appended old new (frame_of (log_after before c.system) c)
    → IsRun bases before new (with_vault c (longer c.vault (frame_of (log_after before c.system) c)))
flushed_run bases before old new c run runs store =
    let L : List Record = log_after before c.system in
    let n : stable (with_vault c (longer c.vault (frame_of L c))) ≡ taken_to c.system = flushed_to L c run.frame run.taken in
    record {
      first = run.first;
      began = run.began;
      runs = flush_keeps bases L (frame_of L c) c run.runs;
      frame = omega (arith, n);
      taken = run.taken;
      vault = subst (λ k. VaultRun new L k (longer c.vault (frame_of L c))) (sym n) (flush_leaves old new L (stable c) (taken_to c.system) c.vault run.vault run.frame run.taken runs store);
    }

-- a run at a moment, but for its audits
record Stands (bases : Bases) (before : List Record) (leave : Files → Type 0) (m : Moment) : Type 0 where
  log : m.log ≡ log_after before m.core.system
  run : IsRun bases before leave m.core

at_once : (bases : Bases) (before : List Record) (new : Files → Type 0) (m n : Moment) (e : CoreState) → n.core ≡ e → n.log ≡ log_after before e.system → IsRun bases before new e → Stands bases before new n
at_once bases before new m n e is log run = record {
  log = log ∙ ap (λ (d : CoreState). log_after before d.system) (sym is);
  run = subst (λ d. IsRun bases before new d) (sym is) run;
}

-- the log of the next moment
log_more : (bases : Bases) (before : List Record) (old : Files → Type 0) (m n : Moment) (since : List Record) (x : Record) → RunsAt bases before old m → n.log ≡ m.log ++ x ∷ [] → since ≡ m.core.system.since ++ x ∷ [] → n.log ≡ before ++ since
log_more bases before old m n since x at e f = e ∙ (ap (λ l. l ++ x ∷ []) at.log ∙ (append_assoc before m.core.system.since (x ∷ []) ∙ ap (λ l. before ++ l) (sym f)))

logged_at :
    (bases : Bases) (before : List Record) (old new : Files → Type 0) (m n : Moment) (e : CoreState) (x : Record) → RunsAt bases before old m → is_inside x ≡ true
    → ((F : Files) → new F → old F)
    → e.system.since ≡ m.core.system.since ++ x ∷ [] → e.system.first ≡ m.core.system.first → e.system.taken ≡ m.core.system.taken → e.vault ≡ m.core.vault
    → (RunsOn bases m.log m.core → RunsOn bases (m.log ++ x ∷ []) e)
    → Adds m.log x e n.log n.core
    → Stands bases before new n
logged_at bases before old new m n e x at inside less since first taken vault keeps adds =
    at_once bases before new m n e adds.1 (log_more bases before old m n e.system.since x at adds.0 since)
    (logged_run bases before old new m.core e x inside at.run less since first taken vault
    (subst (λ M. RunsOn bases (M ++ x ∷ []) e) at.log (keeps (subst (λ M. RunsOn bases M m.core) (sym at.log) at.run.runs))))

quiet_at :
    (bases : Bases) (before : List Record) (old new : Files → Type 0) (m n : Moment) (e : CoreState) → RunsAt bases before old m
    → ((F : Files) → new F → old F)
    → e.system.since ≡ m.core.system.since → e.system.first ≡ m.core.system.first → e.system.taken ≡ m.core.system.taken → e.vault ≡ m.core.vault
    → (RunsOn bases m.log m.core → RunsOn bases m.log e)
    → AddsNone m.log e n.log n.core
    → Stands bases before new n
quiet_at bases before old new m n e at less since first taken vault keeps adds =
    at_once bases before new m n e adds.1 (adds.0 ∙ (at.log ∙ ap (λ l. before ++ l) (sym since)))
    (quiet_run bases before old new m.core e at.run less since first taken vault
    (subst (λ M. RunsOn bases M e) at.log (keeps (subst (λ M. RunsOn bases M m.core) (sym at.log) at.run.runs))))

audit_inside : (b : ℕ) (found : List ℕ) → is_inside (audit_record b found) ≡ true
audit_inside b [] = refl
audit_inside b (r ∷ rs) = refl

step_stands : (bases : Bases) (before : List Record) (old new : Files → Type 0) (m n : Moment) (x : Step) → RunsAt bases before old m → IsStepAt m x n → LeavesBy old new m.log m.core x → Stands bases before new n
step_stands bases before old new m n Begins at s l = logged_at bases before old new m n _ (Begin m.core.system.next) at refl (fewer old new l) refl refl refl refl (λ run. begin_keeps bases m.log m.core run s.0.0) s.0.1
step_stands bases before old new m n (Operates t b) at s l = logged_at bases before old new m n _ (Forward t b) at refl (fewer old new l) refl refl refl refl (λ run. op_keeps bases m.log m.core t b s.0.0 run s.0.1 s.0.2) s.0.3
step_stands bases before old new m n (TakesBack t b) at s l = logged_at bases before old new m n _ (Back t b) at refl (fewer old new l) refl refl refl refl (λ run. back_keeps bases m.log m.core t b s.0.0 run s.0.1) s.0.2
step_stands bases before old new m n (Frees p b) at s l = logged_at bases before old new m n _ (Solo m.core.system.next p b) at refl (fewer old new l) refl refl refl refl (λ run. solo_keeps bases m.log m.core p b s.0.0 run s.0.1) s.0.2
step_stands bases before old new m n (Answers t k a) at s l = logged_at bases before old new m n _ (Done t k a) at refl (fewer old new l) refl refl refl refl (λ run. done_keeps bases m.log m.core t k a run s.0.0 s.0.1 s.0.2.next) s.0.3
step_stands bases before old new m n (Commits t) at s l = logged_at bases before old new m n _ (Commit t) at refl (fewer old new l) refl refl refl refl (λ run. commit_keeps bases m.log m.core t run s.0.0 s.0.1.next) s.0.2
step_stands bases before old new m n (Ends t) at s l = logged_at bases before old new m n _ (Ended t) at refl (fewer old new l) refl refl refl refl (λ run. ended_keeps bases m.log m.core t run s.0.0 s.0.1.0.next) s.0.2
step_stands bases before old new m n AuditBegins at s l = logged_at bases before old new m n _ AuditBegin at refl (fewer old new l) refl refl refl refl (λ run. audit_begin_keeps bases m.log m.core run s.0.0 s.0.1) s.0.2
step_stands bases before old new m n (AuditEnds b found) at s l = logged_at bases before old new m n _ (audit_record b found) at (audit_inside b found) (fewer old new l) refl refl refl refl (λ run. audit_end_keeps bases m.log m.core b found run (may_end_audit m.log m.core m.audits b found at.run.runs.whole at.audits s.0.0 s.1.0)) s.0.1
step_stands bases before old new m n (Locks t k mode) at s l = quiet_at bases before old new m n _ at (fewer old new l) refl refl refl refl (λ run. grant_keeps bases m.log m.core t k mode run s.0.0 s.0.1) s.0.2
step_stands bases before old new m n (Refuses t k mode h) at s l = quiet_at bases before old new m n _ at (fewer old new l) refl refl refl refl (λ run. refuse_keeps bases m.log m.core t k h mode run s.0.0 s.0.1) s.0.2
step_stands bases before old new m n (OnRegion r x) at s l = quiet_at bases before old new m n _ at (fewer old new l) refl refl refl refl (λ run. region_keeps bases m.log m.core r s.0.0 x run s.0.1 s.0.2.0) s.0.3
step_stands bases before old new m n (Passes b r) at s l = quiet_at bases before old new m n _ at (fewer old new l) refl refl refl refl (λ run. region_keeps bases m.log m.core r s.0.0 Check run s.0.1 tt) s.0.2
step_stands bases before old new m n (Dies t o) at s l = quiet_at bases before old new m n _ at (fewer old new l) refl refl refl refl (λ run. death_keeps bases m.log m.core t o run s.0.0) s.0.1
step_stands bases before old new m n (Claims t) at s l = quiet_at bases before old new m n _ at (fewer old new l) refl refl refl refl (λ run. state_keeps bases m.log m.core t (Dead s.0.0) (Cleaning s.0.0) run s.0.1 refl) s.0.2
step_stands bases before old new m n (GivesBack t o) at s l = quiet_at bases before old new m n _ at (fewer old new l) refl refl refl refl (λ run. state_keeps bases m.log m.core t (Cleaning s.0.0.was) (Dead o) run s.0.0.claimed refl) s.0.1
step_stands bases before old new m n (Recovers r) at s l = quiet_at bases before old new m n _ at (fewer old new l) refl refl refl refl (λ run. recover_keeps bases m.log m.core r s.0.0 run s.0.1 s.0.2) s.0.3
step_stands bases before old new m n Stops at s l = quiet_at bases before old new m n _ at (fewer old new l) refl refl refl refl (λ run. stop_keeps bases m.log m.core run s.0.0) s.0.1
step_stands bases before old new m n (Checkpoints b) at s l = quiet_at bases before old new m n _ at (fewer old new l) refl refl refl refl (λ run. checkpoint_flag_keeps bases m.log m.core b run) s.0.1
step_stands bases before old new m n Takes at s l =
    at_once bases before new m n (with_system m.core (taken m.core.system)) s.0.1 (s.0.0 ∙ at.log)
    (taken_run bases before old new m.core at.run (fewer old new l))
step_stands bases before old new m n Flushes at s l =
    at_once bases before new m n (with_vault m.core (longer m.core.vault (frame_of m.log m.core))) s.0.1.1 (s.0.1.0 ∙ at.log)
    (subst (λ L. IsRun bases before new (with_vault m.core (longer m.core.vault (frame_of L m.core)))) (sym at.log)
    (flushed_run bases before old new m.core at.run s.0.0 (subst (λ L. Appended old new (frame_of L m.core)) at.log (record { each = l }))))
step_stands bases before old new m n (Faults k) at s l =
    at_once bases before new m n (with_vault m.core (faulted m.core.vault k)) s.0.2.1 (s.0.2.0 ∙ at.log)
    (record {
      first = at.run.first;
      began = at.run.began;
      runs = fault_keeps bases (log_after before m.core.system) m.core k at.run.runs;
      frame = at.run.frame;
      taken = at.run.taken;
      vault = fault_leaves old new (log_after before m.core.system) (stable m.core) (taken_to m.core.system) k m.core.vault at.run.vault at.run.frame at.run.taken s.0.0 s.0.1 (subst (λ L. Appending old new (frame_of L m.core)) at.log (record { each = l }));
    })
step_stands bases before old new m n (ReadFails k) at s l =
    at_once bases before new m n (with_vault m.core (read_failed m.core.vault k)) s.0.1.1 (s.0.1.0 ∙ at.log)
    (record {
      first = at.run.first;
      began = at.run.began;
      runs = read_keeps bases (log_after before m.core.system) m.core k at.run.runs;
      frame = at.run.frame;
      taken = at.run.taken;
      vault = vault_less old new (log_after before m.core.system) (stable m.core) (read_failed m.core.vault k) (fewer old new l) (read_leaves old (log_after before m.core.system) (stable m.core) k m.core.vault at.run.vault s.0.0);
    })

-- ---- what each step leaves of the sizes and of the epochs
pub record Goes (m n : Moment) : Type 0 where
  pub sizes : n.core.system.sizes ≡ m.core.system.sizes
  pub log : (n.log ≡ m.log) ⊎ ((x : Record) × (is_inside x ≡ true) × (n.log ≡ m.log ++ x ∷ []))

goes_with : (m n : Moment) (e : CoreState) (x : Record) → is_inside x ≡ true → e.system.sizes ≡ m.core.system.sizes → Adds m.log x e n.log n.core → Goes m n
goes_with m n e x inside same adds = record { sizes = ap (λ (d : CoreState). d.system.sizes) adds.1 ∙ same; log = inr (x, inside, adds.0) }

goes_on : (m n : Moment) (e : CoreState) → e.system.sizes ≡ m.core.system.sizes → AddsNone m.log e n.log n.core → Goes m n
goes_on m n e same adds = record { sizes = ap (λ (d : CoreState). d.system.sizes) adds.1 ∙ same; log = inl adds.0 }

pub step_goes : (m n : Moment) (x : Step) → IsStepAt m x n → Goes m n
step_goes m n Begins s = goes_with m n _ (Begin m.core.system.next) refl refl s.0.1
step_goes m n (Operates t b) s = goes_with m n _ (Forward t b) refl refl s.0.3
step_goes m n (TakesBack t b) s = goes_with m n _ (Back t b) refl refl s.0.2
step_goes m n (Frees p b) s = goes_with m n _ (Solo m.core.system.next p b) refl refl s.0.2
step_goes m n (Answers t k a) s = goes_with m n _ (Done t k a) refl refl s.0.3
step_goes m n (Commits t) s = goes_with m n _ (Commit t) refl refl s.0.2
step_goes m n (Ends t) s = goes_with m n _ (Ended t) refl refl s.0.2
step_goes m n AuditBegins s = goes_with m n _ AuditBegin refl refl s.0.2
step_goes m n (AuditEnds b found) s = goes_with m n _ (audit_record b found) (audit_inside b found) refl s.0.1
step_goes m n (Locks t k mode) s = goes_on m n _ refl s.0.2
step_goes m n (Refuses t k mode h) s = goes_on m n _ refl s.0.2
step_goes m n (OnRegion r x) s = goes_on m n _ refl s.0.3
step_goes m n (Passes b r) s = goes_on m n _ refl s.0.2
step_goes m n (Claims t) s = goes_on m n _ refl s.0.2
step_goes m n (Recovers r) s = goes_on m n _ refl s.0.3
step_goes m n Takes s = goes_on m n _ refl s.0
step_goes m n (Faults k) s = goes_on m n _ refl s.0.2
step_goes m n _ s = goes_on m n _ refl s.0.1

-- ---- what the audits have passed
pub runs_on : (bases : Bases) (before : List Record) (old : Files → Type 0) (m : Moment) → RunsAt bases before old m → RunsOn bases m.log m.core
runs_on bases before old m at = subst (λ M. RunsOn bases M m.core) (sym at.log) at.run.runs

later_by : (m n : Moment) (e : CoreState) → n.core ≡ e → EachFrom IsLater m.core.regions e.regions → EachFrom IsLater m.core.regions n.core.regions
later_by m n e is later = subst (λ (d : CoreState). EachFrom IsLater m.core.regions d.regions) (sym is) later

later_same : (m n : Moment) (e : CoreState) → n.core ≡ e → e.regions ≡ m.core.regions → EachFrom IsLater m.core.regions n.core.regions
later_same m n e is same = later_by m n e is (subst (EachFrom IsLater m.core.regions) (sym same) (later_all m.core.regions))

regions_later : (bases : Bases) (before : List Record) (old : Files → Type 0) (m n : Moment) (x : Step) → RunsAt bases before old m → IsStepAt m x n → EachFrom IsLater m.core.regions n.core.regions
regions_later bases before old m n (Operates t b) at s = later_by m n _ s.0.3.1 (later_one m.core.regions b.region s.0.0 (touched s.0.0) s.0.2.at (touch_later bases m.log m.core b.region s.0.0 (runs_on bases before old m at) s.0.2.at))
regions_later bases before old m n (TakesBack t b) at s = later_by m n _ s.0.2.1 (later_one m.core.regions b.region s.0.0 (touched s.0.0) s.0.1.at (touch_later bases m.log m.core b.region s.0.0 (runs_on bases before old m at) s.0.1.at))
regions_later bases before old m n (Frees p b) at s = later_by m n _ s.0.2.1 (later_one m.core.regions b.region s.0.0 (touched s.0.0) s.0.1.at (touch_later bases m.log m.core b.region s.0.0 (runs_on bases before old m at) s.0.1.at))
regions_later bases before old m n (Answers t k a) at s = later_same m n _ s.0.3.1 refl
regions_later bases before old m n (Commits t) at s = later_same m n _ s.0.2.1 refl
regions_later bases before old m n (Ends t) at s = later_same m n _ s.0.2.1 refl
regions_later bases before old m n AuditBegins at s = later_same m n _ s.0.2.1 refl
regions_later bases before old m n (Locks t k mode) at s = later_same m n _ s.0.2.1 refl
regions_later bases before old m n (Refuses t k mode h) at s = later_same m n _ s.0.2.1 refl
regions_later bases before old m n (OnRegion r x) at s = later_by m n _ s.0.3.1 (later_one m.core.regions r s.0.0 (region_after x s.0.0) s.0.1 (after_later x s.0.0))
regions_later bases before old m n (Passes b r) at s = later_by m n _ s.0.2.1 (later_one m.core.regions r s.0.0 (checked s.0.0) s.0.1 (check_later s.0.0))
regions_later bases before old m n (Dies t o) at s = later_by m n _ s.0.1.1 (death_later m.core.regions o)
regions_later bases before old m n (Claims t) at s = later_same m n _ s.0.2.1 refl
regions_later bases before old m n (Recovers r) at s = later_by m n _ s.0.3.1 (later_one m.core.regions r s.0.0 (taken_back s.0.0) s.0.1 (after_later TakeBack s.0.0))
regions_later bases before old m n Takes at s = later_same m n _ s.0.1 refl
regions_later bases before old m n (Faults k) at s = later_same m n _ s.0.2.1 refl
regions_later bases before old m n _ at s = later_same m n _ s.0.1.1 refl

-- the audits of a step that passes nothing
audits_left : (bases : Bases) (before : List Record) (old : Files → Type 0) (m n : Moment) (x : Step) → RunsAt bases before old m → IsStepAt m x n → n.audits ≡ m.audits → AuditsRun n.log n.core n.audits
audits_left bases before old m n x at s same = subst (AuditsRun n.log n.core) (sym same) (audits_later m.log n.log m.core n.core m.audits (step_goes m n x s).log (regions_later bases before old m n x at s) at.audits)

audits_step : (bases : Bases) (before : List Record) (old : Files → Type 0) (m n : Moment) (x : Step) → RunsAt bases before old m → IsStepAt m x n → AuditsRun n.log n.core n.audits
audits_step bases before old m n AuditBegins at s = subst (AuditsRun n.log n.core) (sym s.1) (audits_begin n.log n.core m.audits m.core.system.records (audits_later m.log n.log m.core n.core m.audits (step_goes m n AuditBegins s).log (regions_later bases before old m n AuditBegins at s) at.audits))
audits_step bases before old m n (Passes b r) at s =
    subst (AuditsRun n.log n.core) (sym (s.1.1 ∙ ap (λ ps. audits_with m.audits b (m.audits b ++ ps)) (pass_at m.core r s.0.0 s.0.1)))
    (subst (λ K. AuditsRun K n.core (audits_with m.audits b (m.audits b ++ record { region = r; answer = s.0.0.stray } ∷ []))) (sym s.0.2.0)
    (audits_pass bases m.log m.core n.core m.audits b r s.0.0 (runs_on bases before old m at) at.audits s.0.1 (ap (λ (d : CoreState). d.regions) s.0.2.1) s.1.0))
audits_step bases before old m n (AuditEnds b found) at s = audits_left bases before old m n (AuditEnds b found) at s s.1.1
audits_step bases before old m n Begins at s = audits_left bases before old m n Begins at s s.1
audits_step bases before old m n (Operates t b) at s = audits_left bases before old m n (Operates t b) at s s.1
audits_step bases before old m n (TakesBack t b) at s = audits_left bases before old m n (TakesBack t b) at s s.1
audits_step bases before old m n (Frees p b) at s = audits_left bases before old m n (Frees p b) at s s.1
audits_step bases before old m n (Answers t k a) at s = audits_left bases before old m n (Answers t k a) at s s.1
audits_step bases before old m n (Commits t) at s = audits_left bases before old m n (Commits t) at s s.1
audits_step bases before old m n (Ends t) at s = audits_left bases before old m n (Ends t) at s s.1
audits_step bases before old m n (Locks t k mode) at s = audits_left bases before old m n (Locks t k mode) at s s.1
audits_step bases before old m n (Refuses t k mode h) at s = audits_left bases before old m n (Refuses t k mode h) at s s.1
audits_step bases before old m n (OnRegion r x) at s = audits_left bases before old m n (OnRegion r x) at s s.1
audits_step bases before old m n (Dies t o) at s = audits_left bases before old m n (Dies t o) at s s.1
audits_step bases before old m n (Claims t) at s = audits_left bases before old m n (Claims t) at s s.1
audits_step bases before old m n (GivesBack t o) at s = audits_left bases before old m n (GivesBack t o) at s s.1
audits_step bases before old m n (Recovers r) at s = audits_left bases before old m n (Recovers r) at s s.1
audits_step bases before old m n Stops at s = audits_left bases before old m n Stops at s s.1
audits_step bases before old m n (Checkpoints b) at s = audits_left bases before old m n (Checkpoints b) at s s.1
audits_step bases before old m n Takes at s = audits_left bases before old m n Takes at s s.1
audits_step bases before old m n Flushes at s = audits_left bases before old m n Flushes at s s.1
audits_step bases before old m n (Faults k) at s = audits_left bases before old m n (Faults k) at s s.1
audits_step bases before old m n (ReadFails k) at s = audits_left bases before old m n (ReadFails k) at s s.1

-- of whatever a crash leaves
pub step_runs : (bases : Bases) (before : List Record) (old new : Files → Type 0) (m n : Moment) (x : Step) → RunsAt bases before old m → IsStepAt m x n → LeavesBy old new m.log m.core x → RunsAt bases before new n
step_runs bases before old new m n x at s l = let stands : Stands bases before new n = step_stands bases before old new m n x at s l in record { log = stands.log; run = stands.run; audits = audits_step bases before old m n x at s }

pub step_keeps : StepKeeps
step_keeps bases before m n x D F at s came = step_runs bases before (only D) (only F) m n x at s (came_alone m.log m.core x D F came)

-- where nothing is said of crashes
pub step_keeps_none : (bases : Bases) (before : List Record) (m n : Moment) (x : Step) → RunsAt bases before no_image m → IsStepAt m x n → RunsAt bases before no_image n
step_keeps_none bases before m n x at s = step_runs bases before no_image no_image m n x at s (λ F h. absurd h)

-- where less is said of them
pub run_less : (bases : Bases) (before : List Record) (old new : Files → Type 0) (m : Moment) → ((F : Files) → new F → old F) → RunsAt bases before old m → RunsAt bases before new m
run_less bases before old new m less at = record {
  log = at.log;
  run = record {
    first = at.run.first;
    began = at.run.began;
    runs = at.run.runs;
    frame = at.run.frame;
    taken = at.run.taken;
    vault = vault_less old new (log_after before m.core.system) (stable m.core) m.core.vault less at.run.vault;
  };
  audits = at.audits;
}

pub with_none : (bases : Bases) (before : List Record) (leave : Files → Type 0) (m : Moment) → RunsAt bases before leave m → RunsAt bases before no_image m
with_none bases before leave m at = run_less bases before leave no_image m (λ F h. absurd h) at

-- ---- an audit that ends
answer_named : (ps : List Pass) (found : List ℕ) (i : ℕ) (p : Pass) → slice_get ps i ≡ Some p → has found p.region ≡ has_found ps p.region
    → ((j k : ℕ) (q h : Pass) → slice_get ps j ≡ Some q → slice_get ps k ≡ Some h → q.region ≡ h.region → j ≡ k)
    → has found p.region ≡ not (p.answer == 0)
answer_named ps found i p at named once = named ∙ found_is ps i p at once

pub audit_end_tells : AuditEndTells
audit_end_tells bases before m n b found at s = record {
  each = λ r below. let pass = pass_of (m.audits b) r (verdict.passed r below) in
      (pass.0, pass.1, pass.2, pass.3, subst (λ z. has found z ≡ not (pass.0.answer == 0)) pass.3 (answer_named (m.audits b) found pass.1 pass.0 pass.2 (subst (λ z. has found z ≡ has_found (m.audits b) z) (sym pass.3) (verdict.named r below)) (at.audits.once b)));
  once = at.audits.once b;
  clean = none_found (regions m.core.system.sizes) (m.audits b) found verdict.named s.0.0.numbers;
  may = may_end_audit m.log m.core m.audits b found at.run.runs.whole at.audits s.0.0 verdict;
}
  where
    verdict : IsVerdict m.core.system.sizes (m.audits b) found
    verdict = s.1.0

pub course_keeps : CourseKeeps
course_keeps bases before m n [] D F at t = subst (λ G. RunsAt bases before (only G) n) t.1 (subst (RunsAt bases before (only D)) t.0 at)
course_keeps bases before m n (x ∷ xs) D F at t = course_keeps bases before t.0 n xs t.1 F (step_keeps bases before m t.0 x D t.1 at t.2 t.3) t.4

pub bare_course_keeps : BareCourseKeeps
bare_course_keeps bases before m n [] at course = subst (RunsAt bases before no_image) course at
bare_course_keeps bases before m n (x ∷ xs) at course = bare_course_keeps bases before course.0 n xs (step_keeps_none bases before m course.0 x at course.1) course.2

-- ---- a frame that is flushed as soon as it is taken
pub taken_all_is_flushed : TakenAllIsFlushed
taken_all_is_flushed bases before m n at course =
    let k : Moment = course.0 in
    let takes : AddsNone m.log (with_system m.core (taken m.core.system)) k.log k.core = course.1.0 in
    let flush : AddsNone k.log (with_vault k.core (longer k.core.vault (frame_of k.log k.core))) course.2.0.log course.2.0.core = course.2.1.0.1 in
    let there : RunsAt bases before no_image k = step_keeps_none bases before m k Takes at course.1 in
    let all : m.core.system.records ≡ length (log_after before m.core.system) = all_logged bases before m.core at.run.runs in
    let to : taken_to k.core.system ≡ length k.log = ap (λ (c : CoreState). taken_to c.system) takes.1 ∙ (omega (arith, all, at.run.frame, at.run.taken) ∙ sym (ap length (takes.0 ∙ at.log))) in
    subst (λ (z : Moment). stable z.core ≡ length z.log) course.2.2
    (ap stable flush.1
    ∙ (flushed_to k.log k.core there.run.frame (subst (λ L. taken_to k.core.system ≤ length L) (sym there.log) there.run.taken)
    ∙ (to ∙ sym (ap length flush.0))))

-- ---- a core that was just made
pub load_runs_with :
    (bases : Bases) (s : Sizes) (L : List Record) (g : Rules) (limit : ℕ) (v : VaultState) (leave : Files → Type 0) → IsAtRest s L g
    → limit ≤ 268435456 → length (base_at bases L) ≡ regions s → AllAreWords (base_at bases L)
    → VaultRun leave L (length L) v → v.flushed ≡ 0
    → RunsAt bases L leave (record { log = L; core = new_core s (base_at bases L) g limit v; audits = no_audits })
load_runs_with bases s L g limit v leave rest fits whole words vault none = record {
  log = sym all;
  run = record {
    first = count;
    began = rw all (omega (arith, rest.number, count));
    runs = subst (λ M. RunsOn bases M (new_core s (base_at bases L) g limit v)) (sym all) (load_runs bases s L g limit v rest fits whole words);
    frame = omega (arith, none);
    taken = omega (arith, count, ap length all);
    vault = subst (λ M. VaultRun leave M (g.count + v.flushed) v) (sym all) (subst (λ k. VaultRun leave L k v) (omega (arith, count, none)) vault);
  };
  audits = no_audits_run L (new_core s (base_at bases L) g limit v);
}
  where
    all : L ++ [] ≡ L
    all = append-nil L

    count : g.count ≡ length L
    count = (tallies s L g rest.rules).0

pub load_runs_at : LoadRunsAt
load_runs_at bases s L g limit v D rest fits whole words vault none = load_runs_with bases s L g limit v (only D) rest fits whole words vault none

pub bare_load_runs : BareLoadRuns
bare_load_runs bases s L g limit v rest fits whole words vault none = load_runs_with bases s L g limit v no_image rest fits whole words vault none
