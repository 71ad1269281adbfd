-- What a step of a core leaves to audits and to a checkpoint that aren't its own.
use Rattle.std.proofs.Common.{◌≡◌, ℕ, ◌<◌, ◌≤◌, Bool, true, false, not, List, [], ◌∷◌, ◌++◌, length, Option, refl, ap, sym, subst, ◌∙◌, ◌⊎◌, inl, inr, arith, is_some, length-append}
use Rattle.std.specs.Prelude.{◌==◌, slice_get}
use Rattle.std.specs.List.{list_all}
use Rattle.std.proofs.lemmas.Bool.{and_parts, not-true}
use Rattle.dali_lists.proofs.Numbers.{eqb_turned}
use Rattle.dali_runs.proofs.CountsLemmas.Lists.{equal}
use Rattle.dali_runs.proofs.CountsLemmas.Tallies.{tallies}
use Rattle.dali_geometry.specs.Sizes.{Sizes}
use Rattle.dali_record.specs.declared.records.Record.{Record}
use Rattle.dali_record.specs.declared.records.Record.TheVariants.{Begin, Forward, Done, Commit, Ended, Solo, AuditBegin, Back}
use Rattle.dali_record.specs.Legal.{rules_state, txn_state}
use Rattle.dali_region.specs.State.{RegionState}
use Rattle.dali_region.specs.Answers.{cleaned}
use Rattle.dali_store.specs.Store.{Files as Disk}
use Rattle.dali_store.specs.declared.store.Store.{Ghosts}
use Rattle.dali_runs.specs.Run.{Bases, no_image}
use Rattle.dali_runs.specs.State.{SystemState, CoreState, row_of, lock_of, hold_in, log_after}
use Rattle.dali_runs.specs.Keeps.{with_region}
use Rattle.dali_runs.specs.Regions.{Clean}
use Rattle.dali_runs.specs.Steps.{audit_record}
use Rattle.dali_runs.specs.Passes.{Audits}
use Rattle.dali_runs.specs.Audits.{IsAuditing, ends_audit}
use Rattle.dali_runs.specs.Courses.{Step, Begins, Operates, TakesBack, Frees, Answers, Commits, Ends, AuditBegins, AuditEnds, Locks, Refuses, OnRegion, Passes, Dies, Claims, GivesBack, Recovers, Stops, Checkpoints, Takes, Flushes, Faults, ReadFails, IsStep, AuditsBy, pass_now}
use Rattle.dali_runs.proofs.OneMore.{is_inside}
use Rattle.dali_runs.proofs.Courses.{step_goes}
use Rattle.dali_runs.proofs.OpenAudits.{audit_goes_on}
use Rattle.dali_crash.specs.Checkpoints.{StoreStep, Does, Starts, Keeps as KeepsAll, Copies, Skips, WritesHead, Syncs, Turns, CopyFails, HeadFails, SyncFails, TurnFails, Finishes, Point, IsPointStep, IsPointCourse, moment_of, target, with_flag, with_fault, with_current}
use Rattle.dali_crash.specs.StoreRuns.{StoreRun}
use Rattle.dali_crash.specs.Traces.{Start}
use Rattle.dali_crash.proofs.StoreRuns.{bare_store_course_keeps}
use Rattle.dali_crash.proofs.Flags.{flag_changes}
use Rattle.dali_core.specs.Vault.Vaulted.{Vaulted}
use Rattle.dali_calls.specs.Others.{is_apart}
use Rattle.dali_calls.specs.Stepwise.Beside.{LeavesBe}
use Rattle.dali_calls.proofs.StepwiseLemmas.Waiting.{each_leaves, further}
use Rattle.dali_core.specs.Steps.Courses.{is_quiet}
use Rattle.dali_checkpoint.proofs.Audited.{audits_at}
use Rattle.dali_checkpoint.proofs.Others.{others_keep}
use Rattle.dali_checkpoint.specs.Laws.{Keeps}
use Rattle.dali_turns.specs.Others.{AuditStays, ImageStays}

-- the step is one of the audit that began at record b
abbrev pub is_in_audit : ℕ → Step → Bool
is_in_audit b (Passes a r) = a == b
is_in_audit b (AuditEnds a found) = a == b
is_in_audit b x = false

below : (b n : ℕ) → b < n → (b == n) ≡ false
below b n less = by_test (b == n) refl
  where
    by_test : (t : Bool) → (b == n) ≡ t → (b == n) ≡ false
    by_test true f = absurd (omega (arith, less, equal b n f))
    by_test false f = f

-- what it logs doesn't end that audit
abbrev AddsLittle : ℕ → List Record → List Record → Type 0
AddsLittle b L M = (M ≡ L) ⊎ ((R : Record) × (M ≡ L ++ R ∷ []) × (ends_audit b R ≡ false))

adds_little : (b : ℕ) (L M : List Record) (c d : CoreState) (x : Step) → is_in_audit b x ≡ false → IsStep L c x M d → AddsLittle b L M
adds_little b L M c d Begins e s = inr (Begin c.system.next, s.1.0, refl)
adds_little b L M c d (Operates t k) e s = inr (Forward t k, s.3.0, refl)
adds_little b L M c d (TakesBack t k) e s = inr (Back t k, s.2.0, refl)
adds_little b L M c d (Frees t k) e s = inr (Solo c.system.next t k, s.2.0, refl)
adds_little b L M c d (Answers t k a) e s = inr (Done t k a, s.3.0, refl)
adds_little b L M c d (Commits t) e s = inr (Commit t, s.2.0, refl)
adds_little b L M c d (Ends t) e s = inr (Ended t, s.2.0, refl)
adds_little b L M c d AuditBegins e s = inr (AuditBegin, s.2.0, refl)
adds_little b L M c d (AuditEnds a found) e s = inr (audit_record a found, s.1.0, by_found found)
  where
    by_found : (found : List ℕ) → ends_audit b (audit_record a found) ≡ false
    by_found [] = e
    by_found (r ∷ rs) = e
adds_little b L M c d (Locks t k m) e s = inl s.2.0
adds_little b L M c d (Refuses t k m h) e s = inl s.2.0
adds_little b L M c d (OnRegion r x) e s = inl s.3.0
adds_little b L M c d (Passes a r) e s = inl s.2.0
adds_little b L M c d (Dies t o) e s = inl s.1.0
adds_little b L M c d (Claims t) e s = inl s.2.0
adds_little b L M c d (GivesBack t o) e s = inl s.1.0
adds_little b L M c d (Recovers r) e s = inl s.3.0
adds_little b L M c d Stops e s = inl s.1.0
adds_little b L M c d (Checkpoints u) e s = inl s.1.0
adds_little b L M c d Takes e s = inl s.0
adds_little b L M c d Flushes e s = inl s.1.0
adds_little b L M c d (Faults n) e s = inl s.2.0
adds_little b L M c d (ReadFails n) e s = inl s.1.0

-- it leaves that audit's passes
passes_stay : (b : ℕ) (old new : Audits) (L : List Record) (c : CoreState) (x : Step) → is_in_audit b x ≡ false → b < c.system.records → AuditsBy old new L c x → new b ≡ old b
passes_stay b old new L c AuditBegins e less s = audits_at c.system.records b old new [] s false (below b c.system.records less)
passes_stay b old new L c (Passes a r) e less s = audits_at a b old new (old a ++ pass_now c r) s.1 false (eqb_turned a b e)
passes_stay b old new L c (AuditEnds a found) e less s = ap (λ z. z b) s.1
passes_stay b old new L c _ e less s = ap (λ z. z b) s

pub audit_still : (p : Point) (b : ℕ) → AuditStays p p b
audit_still p b = record { same = refl; opened = λ is. is }

pub audit_then : (p q r : Point) (b : ℕ) → AuditStays p q b → AuditStays q r b → AuditStays p r b
audit_then p q r b f g = record { same = g.same ∙ f.same; opened = λ is. g.opened (f.opened is) }

-- a step that changes nothing of log, sizes and passes
as_it_was : (p q : Point) (b : ℕ) (r : Point) → q ≡ r → r.audits ≡ p.audits → r.log ≡ p.log → r.core.system.sizes ≡ p.core.system.sizes → AuditStays p q b
as_it_was p q b r e audits log sizes = subst (λ (z : Point). AuditStays p z b) (sym e) (record {
  same = ap (λ z. z b) audits;
  opened = λ is. subst (λ (s : Sizes). IsAuditing s r.log b) (sym sizes) (subst (λ (l : List Record). IsAuditing p.core.system.sizes l b) (sym log) is);
})

-- ---- one step
module _ (bases : Bases) (before : List Record) (p q : Point) (x : StoreStep) (run : StoreRun bases before no_image p) (step : IsPointStep p x q) where
  counted : p.core.system.records ≡ length p.log
  counted =
      run.run.run.runs.counts.records
      ∙ ((tallies p.core.system.sizes (log_after before p.core.system) run.run.run.runs.counts.now run.run.run.runs.counts.rules).0 ∙ ap length (sym run.run.log))

  pub run_behind : StoreRun bases before no_image q
  run_behind = bare_store_course_keeps bases before p q (x ∷ []) run (q, step, refl)

  has_rules : is_some (rules_state q.core.system.sizes q.log) ≡ true
  has_rules =
      ap (λ (l : List Record). is_some (rules_state q.core.system.sizes l)) run_behind.run.log
      ∙ ap is_some run_behind.run.run.runs.counts.rules

-- a step of the core
module _ (bases : Bases) (before : List Record) (p q : Point) (x : Step) (run : StoreRun bases before no_image p) (step : IsPointStep p (Does x) q) where
  does_audit : (b : ℕ) → is_in_audit b x ≡ false → b < length p.log → AuditStays p q b
  does_audit b e less = record {
    same = passes_stay b p.audits q.audits p.log p.core x e (omega (arith, less, counted bases before p q (Does x) run step)) step.1.1;
    opened = λ is. by_log is (adds_little b p.log q.log p.core q.core x e step.1.0);
  }
    where
      sizes : q.core.system.sizes ≡ p.core.system.sizes
      sizes = (step_goes (moment_of p) (moment_of q) x step.1).sizes

      by_log : IsAuditing p.core.system.sizes p.log b → AddsLittle b p.log q.log → IsAuditing q.core.system.sizes q.log b
      by_log is (inl same) = subst (λ (s : Sizes). IsAuditing s q.log b) (sym sizes) (subst (λ (l : List Record). IsAuditing p.core.system.sizes l b) (sym same) is)
      by_log is (inr more) =
          subst (λ (s : Sizes). IsAuditing s q.log b) (sym sizes)
          (subst (λ (l : List Record). IsAuditing p.core.system.sizes l b) (sym more.1)
          (audit_goes_on p.core.system.sizes p.log more.0 b is
          (subst (λ (l : List Record). is_some (rules_state p.core.system.sizes l) ≡ true) more.1
          (subst (λ (s : Sizes). is_some (rules_state s q.log) ≡ true) sizes (has_rules bases before p q (Does x) run step)))
          more.2))

-- ---- whose a step is
abbrev pub is_in : ℕ → StoreStep → Bool
is_in b (Does x) = is_in_audit b x
is_in b x = false

abbrev pub is_beside : ℕ → StoreStep → Bool
is_beside t (Does x) = is_apart t x
is_beside t x = true

pub step_audit : (bases : Bases) (before : List Record) (p q : Point) (x : StoreStep) (b : ℕ) → StoreRun bases before no_image p → IsPointStep p x q → is_in b x ≡ false → b < length p.log → AuditStays p q b
step_audit bases before p q (Does x) b run step e less = does_audit bases before p q x run step b e less
step_audit bases before p q KeepsAll b run step e less = as_it_was p q b _ step.4 refl refl refl
step_audit bases before p q (Copies r n) b run step e less = as_it_was p q b _ step.5 refl refl refl
step_audit bases before p q (Skips r n) b run step e less = as_it_was p q b _ step.5 refl refl refl
step_audit bases before p q Turns b run step e less = as_it_was p q b _ step.5 refl refl refl
step_audit bases before p q (CopyFails r ws n) b run step e less = as_it_was p q b _ step.4 refl refl refl
step_audit bases before p q (TurnFails n) b run step e less = as_it_was p q b _ step.5 refl refl refl
step_audit bases before p q _ b run step e less = as_it_was p q b _ step.1 refl refl refl

-- the same system, but for the flag of a checkpoint, and regions with the same holds
same_system : (t : ℕ) (L M : List Record) (c d : CoreState) → M ≡ L → d.system ≡ c.system → d.regions ≡ c.regions → LeavesBe t L c M d
same_system t L M c d log system regions = record {
  sizes = ap (λ (y : SystemState). y.sizes) system;
  next = omega (arith, ap (λ (y : SystemState). y.next) system);
  row = ap (λ (y : SystemState). row_of y t) system;
  locks = λ k. ap (λ (y : SystemState). lock_of y t k) system;
  rules = ap (txn_state c.system.sizes t) log;
  free = λ free r h held. free r h (ap (λ (gs : List RegionState). hold_in (slice_get gs r)) (sym regions) ∙ held);
  count = ap length regions;
}

by_core : (t : ℕ) (p q r : Point) → q ≡ r → LeavesBe t p.log p.core r.log r.core → LeavesBe t p.log p.core q.log q.core
by_core t p q r e is = subst (λ (z : Point). LeavesBe t p.log p.core z.log z.core) (sym e) is

pub step_leaves : (t : ℕ) (p q : Point) (x : StoreStep) → t < p.core.system.next → is_beside t x ≡ true → IsPointStep p x q → LeavesBe t p.log p.core q.log q.core
step_leaves t p q (Does x) less e step = each_leaves t p.log q.log p.core q.core x less e step.1.0
step_leaves t p q Starts less e step = by_core t p q _ step.1 (each_leaves t p.log p.log p.core (with_flag p.core true) (Checkpoints true) less refl (step.0, (refl, refl)))
step_leaves t p q KeepsAll less e step = by_core t p q _ step.4 (same_system t p.log p.log p.core p.core refl refl refl)
step_leaves t p q (Copies r n) less e step = by_core t p q _ step.5 (each_leaves t p.log p.log p.core (with_region p.core r (cleaned (target p) step.0)) (OnRegion r (Clean (target p))) less refl (step.0, step.1, (tt, tt), (refl, refl)))
step_leaves t p q (Skips r n) less e step = by_core t p q _ step.5 (same_system t p.log p.log p.core p.core refl refl refl)
step_leaves t p q (WritesHead h) less e step = by_core t p q _ step.1 (same_system t p.log p.log p.core p.core refl refl refl)
step_leaves t p q Syncs less e step = by_core t p q _ step.1 (same_system t p.log p.log p.core p.core refl refl refl)
step_leaves t p q Turns less e step = by_core t p q _ step.5 (same_system t p.log p.log p.core (with_current p.core) refl refl refl)
step_leaves t p q (CopyFails r ws n) less e step = by_core t p q _ step.4 (same_system t p.log p.log p.core (with_fault p.core n) refl refl refl)
step_leaves t p q (HeadFails h n) less e step = by_core t p q _ step.1 (same_system t p.log p.log p.core (with_fault p.core n) refl refl refl)
step_leaves t p q (SyncFails n) less e step = by_core t p q _ step.1 (same_system t p.log p.log p.core (with_fault p.core n) refl refl refl)
step_leaves t p q (TurnFails n) less e step = by_core t p q _ step.5 (same_system t p.log p.log p.core (with_fault p.core n) refl refl refl)
step_leaves t p q Finishes less e step = by_core t p q _ step.1 (each_leaves t p.log p.log p.core (with_flag p.core false) (Checkpoints false) less refl (step.0, (refl, refl)))

-- the log grows
log_longer : (p q r : Point) → q ≡ r → r.log ≡ p.log → length p.log ≤ length q.log
log_longer p q r e same = omega (arith, ap (λ (z : Point). length z.log) e, ap length same)

pub step_longer : (p q : Point) (x : StoreStep) → IsPointStep p x q → length p.log ≤ length q.log
step_longer p q (Does x) step = by_log (step_goes (moment_of p) (moment_of q) x step.1).log
  where
    by_log : (q.log ≡ p.log) ⊎ ((y : Record) × (is_inside y ≡ true) × (q.log ≡ p.log ++ y ∷ [])) → length p.log ≤ length q.log
    by_log (inl same) = omega (arith, ap length same)
    by_log (inr more) = omega (arith, ap length more.2, length-append p.log (more.0 ∷ []))
step_longer p q Starts step = log_longer p q _ step.1 refl
step_longer p q KeepsAll step = log_longer p q _ step.4 refl
step_longer p q (Copies r n) step = log_longer p q _ step.5 refl
step_longer p q (Skips r n) step = log_longer p q _ step.5 refl
step_longer p q (WritesHead h) step = log_longer p q _ step.1 refl
step_longer p q Syncs step = log_longer p q _ step.1 refl
step_longer p q Turns step = log_longer p q _ step.5 refl
step_longer p q (CopyFails r ws n) step = log_longer p q _ step.4 refl
step_longer p q (HeadFails h n) step = log_longer p q _ step.1 refl
step_longer p q (SyncFails n) step = log_longer p q _ step.1 refl
step_longer p q (TurnFails n) step = log_longer p q _ step.5 refl
step_longer p q Finishes step = log_longer p q _ step.1 refl

-- ---- lists of steps

abbrev pub is_out_of : ℕ → StoreStep → Bool
is_out_of b x = not (is_in b x)

pub course_leaves : (t : ℕ) (p q : Point) (xs : List StoreStep) → t < p.core.system.next → list_all (is_beside t) xs ≡ true → IsPointCourse p xs q → LeavesBe t p.log p.core q.log q.core
course_leaves t p q [] less e course = by_core t p q p (sym course) (same_system t p.log p.log p.core p.core refl refl refl)
course_leaves t p q (x ∷ xs) less e course =
    let parts = and_parts (is_beside t x) (list_all (is_beside t) xs) e in
    let one = step_leaves t p course.0 x less parts.0 course.1 in
    further t p.log course.0.log q.log p.core course.0.core q.core one (course_leaves t course.0 q xs (omega (arith, less, one.next)) parts.1 course.2)

pub course_audit : (bases : Bases) (before : List Record) (p q : Point) (xs : List StoreStep) (b : ℕ) → StoreRun bases before no_image p → IsPointCourse p xs q → list_all (is_out_of b) xs ≡ true → b < length p.log → AuditStays p q b
course_audit bases before p q [] b run course e less = subst (λ (z : Point). AuditStays p z b) course (audit_still p b)
course_audit bases before p q (x ∷ xs) b run course e less =
    let parts = and_parts (is_out_of b x) (list_all (is_out_of b) xs) e in
    let longer = step_longer p course.0 x course.1 in
    audit_then p course.0 q b (step_audit bases before p course.0 x b run course.1 (not-true (is_in b x) parts.0) less)
    (course_audit bases before course.0 q xs b (run_behind bases before p course.0 x run course.1) course.2 parts.1 (omega (arith, less, longer)))

pub course_longer : (p q : Point) (xs : List StoreStep) → IsPointCourse p xs q → length p.log ≤ length q.log
course_longer p q [] course = omega (arith, ap (λ (z : Point). length z.log) course)
course_longer p q (x ∷ xs) course = omega (arith, step_longer p course.0 x course.1, course_longer course.0 q xs course.2)

-- ---- a checkpoint of another client
module _ {V : Type 0} (means : Ghosts V) where
  -- a step that calls no store and takes no frame
  pub step_image : (s : Start) (B : List (List Record)) (p q : Point) (x : Step) (gs : List RegionState) (y : SystemState) (v : Vaulted V) → is_quiet x ≡ true → IsPointStep p (Does x) q
      → q.core.system.taken ≡ p.core.system.taken → p.core.system ≡ y → ImageStays means s B p gs y v B q q.core.regions q.core.system v
  step_image s B p q x gs y v quiet step taken system = record {
    flag = flag_changes p q (Does x) step ∙ ap (λ (z : SystemState). z.checking) system;
    copying = λ runs c h is. keeps.copying gs y c h is;
    settled = λ runs c h n is. keeps.settled gs y c h n is;
    passes = λ runs c h n b is tell. keeps.passes gs y c h n b is tell;
  }
    where
      keeps : Keeps means s B p q v
      keeps = others_keep means s B p q v x quiet step taken

  -- one behind another: a vault that runs in the end ran in between
  pub image_then : (s : Start) (B C D : List (List Record)) (p q r : Point) (gs hs ks : List RegionState) (y z x : SystemState) (v u t : Vaulted V) → (t.stopped ≡ false → u.stopped ≡ false)
      → ImageStays means s B p gs y v C q hs z u → ImageStays means s C q hs z u D r ks x t → ImageStays means s B p gs y v D r ks x t
  image_then s B C D p q r gs hs ks y z x v u t ran f g = record {
    flag = g.flag ∙ f.flag;
    copying = λ runs c h is. g.copying runs c h (f.copying (ran runs) c h is);
    settled = λ runs c h n is. g.settled runs c h n (f.settled (ran runs) c h n is);
    passes = λ runs c h n b is tell. g.passes runs c h n b (f.settled (ran runs) c h n is) (f.passes (ran runs) c h n b is tell);
  }

  pub image_still : (s : Start) (B : List (List Record)) (p : Point) (gs : List RegionState) (y : SystemState) (v : Vaulted V) → ImageStays means s B p gs y v B p gs y v
  image_still s B p gs y v = record { flag = refl; copying = λ runs c h is. is; settled = λ runs c h n is. is; passes = λ runs c h n b is tell. tell }
