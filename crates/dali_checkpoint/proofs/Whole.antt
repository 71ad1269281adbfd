-- A whole checkpoint as steps of a run.
use Rattle.std.proofs.Common.{◌≡◌, ℕ, zero, suc, ◌+◌, ◌<◌, ◌≤◌, ◌^◌, Bool, true, false, List, [], ◌∷◌, ◌++◌, length, map, replicate, Option, Some, None, refl, ap, sym, subst, ◌∙◌, arith}
use Rattle.std.specs.Prelude.{slice_get, slice_set}
use Rattle.std.proofs.lemmas.Bool.{eq-eqb}
use Rattle.std.proofs.lemmas.List.{map-id}
use Rattle.dali_lists.proofs.Lists.{get_within as found}
use Rattle.dali_lists.proofs.Options.{some_same}
use Rattle.dali_runs.proofs.FactsLemmas.KeysAndUndos.{has_counts}
use Rattle.dali_geometry.specs.Places.{regions}
use Rattle.dali_record.specs.declared.records.Record.{Record}
use Rattle.dali_record.specs.declared.records.Record.TheVariants.{AuditBegin}
use Rattle.dali_region.specs.State.{RegionState, checked}
use Rattle.dali_crash.specs.Disks.Disks.{image_name}
use Rattle.dali_crash.specs.Disks.Places.{place_of}
use Rattle.dali_core.specs.Steps.Said.{HasWritten, WriteHasFailed}
use Rattle.dali_store.specs.Store.{Files as Disk}
use Rattle.dali_store.specs.declared.store.Store.{Ghosts}
use Rattle.dali_runs.specs.State.{SystemState}
use Rattle.dali_runs.specs.Steps.{taken, audit_begun, audit_ended, audit_record, in_checkpoint, store_stopped}
use Rattle.dali_runs.specs.Keeps.{with_system, with_region}
use Rattle.dali_runs.specs.Audits.{IsAuditing}
use Rattle.dali_runs.specs.Passes.{audits_with}
use Rattle.dali_runs.specs.Courses.{Takes, Flushes, AuditBegins, AuditEnds, Passes, IsStepAt, pass_now}
use Rattle.dali_runs.proofs.OpenAudits.{audit_starts}
use Rattle.dali_crash.specs.Checkpoints.{Head, StoreStep, Does, Starts, Keeps as KeepsAll, WritesHead, Syncs, Turns, Finishes, Point, IsPointStep, IsPointCourse, copies_after, moment_of, side_of}
use Rattle.dali_crash.specs.StoreRuns.{FlagTells}
use Rattle.dali_crash.specs.Traces.{Start, bases_of}
use Rattle.dali_core.specs.Vault.Vaulted.{Vaulted}
use Rattle.dali_audit.specs.declared.audit.Finding.{Finding}
use Rattle.dali_audit.specs.declared.audit.Finding.TheVariants.{Waiting}
use Rattle.dali_audit.specs.Findings.{finding_of, damaged, is_passed, is_damaged, AllPassed}
use Rattle.dali_audit.specs.Stepped.{AreFindings, behind_pass}
use Rattle.dali_audit.proofs.Stepping.{pass_is_step, end_is_step}
use Rattle.dali_checkpoint.specs.Kept.{Checkpointed, side_in, given_up}
use Rattle.dali_checkpoint.specs.Running.{IsIdle, IsSettled, IsCertifiedAt, PassesTell}
use Rattle.dali_checkpoint.specs.Done.{Reaches, Writes, FailsToWrite, HasStarted, HasTurnedTo, FailsToTurn, HasEnded}
use Rattle.dali_checkpoint.specs.Runs.{run_at, is_run_dirty, run_bytes, behind_run, cleaned_run}
use Rattle.dali_checkpoint.specs.Laws.{Ends, Keeps, Started, copy_steps, skip_steps}
use Rattle.dali_checkpoint.specs.Making.{IdleAgain, LeadsIdle, CopiesGo, CopiesFail, AuditedAll, AuditGoes, AuditFails, ImageMade, ImageGoes, ImageFails, found_in, failing_in}
use Rattle.dali_checkpoint.proofs.Walks.{walk, walk_get, walk_set, walk_all, map_none, map_length}
use Rattle.dali_checkpoint.proofs.Calls.{course_join, runs_on_log, start_goes, settle_goes_on, certify_goes_on}
use Rattle.dali_checkpoint.proofs.Far.{run_goes_on, run_skips_on}
use Rattle.dali_checkpoint.proofs.Faults.{ended, more, nothing, start_faults, run_faults_end, settle_faults, certify_faults, failure_ends, gives_up}
use Rattle.dali_checkpoint.proofs.Results.{all_found}
use Rattle.dali_checkpoint.proofs.Idle.{ends_idle, points_tell}
use Rattle.dali_checkpoint.proofs.Audited.{audits_at}
use Rattle.dali_checkpoint.proofs.Others.{others_keep, audits_tell}

-- ---- the steps of the calls
abbrev pub start_steps : Head → List StoreStep
start_steps h = Starts ∷ Does Takes ∷ Does Flushes ∷ KeepsAll ∷ WritesHead h ∷ []

abbrev settle_steps : Head → List StoreStep
settle_steps h = Does Takes ∷ Does Flushes ∷ WritesHead h ∷ []

abbrev certify_steps : List StoreStep
certify_steps = Does Takes ∷ Does Flushes ∷ Syncs ∷ Turns ∷ Finishes ∷ []

-- before the first pass
waiting : (m r : ℕ) (f : Finding) → slice_get (replicate m Waiting) r ≡ Some f → Waiting ≡ f
waiting zero r f e = absurd (cc)
waiting (suc m) zero f e = some_same e
waiting (suc m) (suc r) f e = waiting m r f e

pub none_found : (m : ℕ) → AreFindings [] (replicate m Waiting)
none_found m = record { passed = λ r f e. ap is_passed (waiting m r f e); found = λ r f e. ap is_damaged (waiting m r f e) }

module _ {V : Type 0} (means : Ghosts V) where
  -- ---- an audit under way
  pub record Auditing (s : Start) (B : List (List Record)) (p : Point) (gs : List RegionState) (y : SystemState) (v : Vaulted V) (c : Checkpointed) (h : Head) (n b : ℕ) (fs : List Finding) : Type 0 where
    pub to : Point
    pub steps : List StoreStep
    pub course : IsPointCourse p steps to
    pub is : IsSettled means s B to gs y v c h n
    pub auditing : IsAuditing to.core.system.sizes to.log b
    pub findings : AreFindings (to.audits b) fs
    pub tell : PassesTell to b

  pub audit_begins : (s : Start) (B : List (List Record)) (p : Point) (gs : List RegionState) (y : SystemState) (v : Vaulted V) (c : Checkpointed) (h : Head) (n : ℕ)
      → IsSettled means s B p gs y v c h n → y.stop ≡ None → y.end + 1 ≤ y.limit + 1048576
      → Auditing s B p gs (audit_begun y) v c h n y.records (replicate (regions y.sizes) Waiting)
  audit_begins s B p gs y v c h n k runs room = record {
    to = q;
    steps = Does AuditBegins ∷ [];
    course = (q, step, refl);
    is = subst (λ z. IsSettled means s B q gs z v c h n) (ap audit_begun at_y)
        (subst (λ (l : List RegionState). IsSettled means s B q l q.core.system v c h n) k.at.regions (keeps.settled gs y c h n k));
    auditing = subst (λ i. IsAuditing q.core.system.sizes q.log i) records_are (audit_starts (bases_of s) p.log p.core (runs_on_log s p k.at.vault.run) stop fits);
    findings = subst (λ ps. AreFindings ps (replicate (regions y.sizes) Waiting)) (sym none) (none_found (regions y.sizes));
    tell = subst (PassesTell q) records_are ((audits_tell p q y.records).begins step);
  }
    where
      at_y : p.core.system ≡ y
      at_y = k.at.system

      records_are : p.core.system.records ≡ y.records
      records_are = ap (λ (x : SystemState). x.records) at_y

      stop : p.core.system.stop ≡ None
      stop = ap (λ (x : SystemState). x.stop) at_y ∙ runs

      fits : p.core.system.end + 1 ≤ p.core.system.limit + 1048576
      fits = subst (λ (x : SystemState). x.end + 1 ≤ x.limit + 1048576) (sym at_y) room

      q : Point
      q = record p {
        log = p.log ++ AuditBegin ∷ [];
        core = with_system p.core (audit_begun p.core.system);
        audits = audits_with p.audits p.core.system.records [];
        copies = copies_after p.core AuditBegins p.copies;
      }

      step : IsPointStep p (Does AuditBegins) q
      step = (refl, ((stop, fits, (refl, refl)), refl), refl)

      keeps : Keeps means s B p q v
      keeps = others_keep means s B p q v AuditBegins refl step refl

      none : q.audits y.records ≡ []
      none = audits_at p.core.system.records y.records p.audits q.audits [] refl true (eq-eqb y.records p.core.system.records (sym records_are))

  -- one region more
  pub audit_passes : (s : Start) (B : List (List Record)) (p : Point) (gs : List RegionState) (y : SystemState) (v : Vaulted V) (c : Checkpointed) (h : Head) (n b r : ℕ) (fs : List Finding) (g : RegionState)
      → Auditing s B p gs y v c h n b fs → slice_get fs r ≡ Some Waiting → slice_get gs r ≡ Some g
      → Auditing s B p (slice_set gs r (checked g)) y v c h n b (slice_set fs r (finding_of g.stray))
  audit_passes s B p gs y v c h n b r fs g k waits at = record {
    to = q;
    steps = k.steps ++ Does (Passes b r) ∷ [];
    course = course_join p k.to q k.steps (Does (Passes b r) ∷ []) k.course (q, step, refl);
    is = subst (λ z. IsSettled means s B q (slice_set gs r (checked g)) z v c h n) k.is.at.system
        (subst (λ (l : List RegionState). IsSettled means s B q l q.core.system v c h n) (ap (λ l. slice_set l r (checked g)) k.is.at.regions) (keeps.settled gs y c h n k.is));
    auditing = k.auditing;
    findings = subst (λ ps. AreFindings ps (slice_set fs r (finding_of g.stray))) (sym (audits_at b b k.to.audits q.audits (k.to.audits b ++ pass_now k.to.core r) refl true (eq-eqb b b refl))) one.1;
    tell = keeps.passes gs y c h n b k.is k.tell;
  }
    where
      there : slice_get k.to.core.regions r ≡ Some g
      there = ap (λ l. slice_get l r) k.is.at.regions ∙ at

      one : IsStepAt (moment_of k.to) (Passes b r) (behind_pass (moment_of k.to) b r g) × AreFindings (k.to.audits b ++ pass_now k.to.core r) (slice_set fs r (finding_of g.stray))
      one = pass_is_step (moment_of k.to) b r fs g k.auditing k.findings waits there

      q : Point
      q = record k.to {
        core = with_region k.to.core r (checked g);
        audits = audits_with k.to.audits b (k.to.audits b ++ pass_now k.to.core r);
        copies = copies_after k.to.core (Passes b r) k.to.copies;
      }

      step : IsPointStep k.to (Does (Passes b r)) q
      step = (refl, one.0, refl)

      keeps : Keeps means s B k.to q v
      keeps = others_keep means s B k.to q v (Passes b r) refl step refl

  pub all_pass : (s : Start) (B : List (List Record)) (p : Point) (gs : List RegionState) (y : SystemState) (v : Vaulted V) (c : Checkpointed) (h : Head) (n b : ℕ)
      → Auditing s B p gs y v c h n b (replicate (length gs) Waiting) → Auditing s B p (map checked gs) y v c h n b (map found_in gs)
  all_pass s B p gs y v c h n b k =
      subst (λ (l : List RegionState). Auditing s B p l y v c h n b (map found_in gs)) (walk_all checked (λ g. g) gs)
      (subst (λ (fs : List Finding). Auditing s B p (walk checked (λ g. g) (length gs) gs) y v c h n b fs) (walk_all found_in (λ _. Waiting) gs) (some_pass (length gs) (omega arith)))
    where
      some_pass : (i : ℕ) → i ≤ length gs → Auditing s B p (walk checked (λ g. g) i gs) y v c h n b (walk found_in (λ _. Waiting) i gs)
      some_pass zero le = subst (λ (l : List RegionState). Auditing s B p l y v c h n b (map (λ _. Waiting) gs)) (sym (map-id gs)) (subst (Auditing s B p gs y v c h n b) (sym (map_none Waiting gs)) k)
      some_pass (suc i) le =
          let g = found gs i (omega (arith, le)) in
          subst (λ (l : List RegionState). Auditing s B p l y v c h n b (walk found_in (λ _. Waiting) (suc i) gs)) (walk_set checked (λ x. x) i gs g.0 g.1)
          (subst (λ (fs : List Finding). Auditing s B p (slice_set (walk checked (λ x. x) i gs) i (checked g.0)) y v c h n b fs) (walk_set found_in (λ _. Waiting) i gs g.0 g.1)
          (audit_passes s B p (walk checked (λ x. x) i gs) y v c h n b i (walk found_in (λ _. Waiting) i gs) g.0 (some_pass i (omega (arith, le))) (walk_get found_in (λ _. Waiting) i gs g.0 g.1) (walk_get checked (λ x. x) i gs g.0 g.1)))

  -- its end
  pub audit_ends : (s : Start) (B : List (List Record)) (p : Point) (gs : List RegionState) (y : SystemState) (v : Vaulted V) (c : Checkpointed) (h : Head) (n b : ℕ) (fs : List Finding)
      → Auditing s B p gs y v c h n b fs → b < 2 ^ 64 → length fs ≡ regions y.sizes → length fs < 2 ^ 32 → AllPassed fs → y.stop ≡ None → n ≤ b
      → AuditedAll means s B p gs (audit_ended y b (damaged fs)) v c h n b (damaged fs)
  audit_ends s B p gs y v c h n b fs k number all few passed runs behind = record {
    to = q;
    steps = k.steps ++ Does (AuditEnds b (damaged fs)) ∷ [];
    course = course_join p k.to q k.steps (Does (AuditEnds b (damaged fs)) ∷ []) k.course (q, step, refl);
    is = subst (λ z. IsSettled means s B q gs z v c h n) (ap (λ x. audit_ended x b (damaged fs)) k.is.at.system)
        (subst (λ (l : List RegionState). IsSettled means s B q l q.core.system v c h n) k.is.at.regions (keeps.settled gs y c h n k.is));
    certified = λ none. (audits_tell k.to q b).ends n (subst (λ found. IsPointStep k.to (Does (AuditEnds b found)) q) none step) behind k.tell;
  }
    where
      q : Point
      q = record k.to {
        log = k.to.log ++ audit_record b (damaged fs) ∷ [];
        core = with_system k.to.core (audit_ended k.to.core.system b (damaged fs));
        copies = copies_after k.to.core (AuditEnds b (damaged fs)) k.to.copies;
      }

      step : IsPointStep k.to (Does (AuditEnds b (damaged fs))) q
      step = (
        refl,
        end_is_step (moment_of k.to) b fs k.auditing k.findings number (all ∙ ap (λ (x : SystemState). regions x.sizes) (sym k.is.at.system)) few passed (ap (λ (x : SystemState). x.stop) k.is.at.system ∙ runs),
        refl,
      )

      keeps : Keeps means s B k.to q v
      keeps = others_keep means s B k.to q v (AuditEnds b (damaged fs)) refl step refl

  -- the whole audit
  pub audit_leads : (gs : List RegionState) (y : SystemState) → y.stop ≡ None → y.end + 1 ≤ y.limit + 1048576 → y.records < 2 ^ 64 → length gs ≡ regions y.sizes → length gs < 2 ^ 32
      → AuditGoes means gs y (map checked gs) (audit_ended (audit_begun y) y.records (failing_in gs)) (failing_in gs)
  audit_leads gs y runs room number all few s B p v c h n k =
      audit_ends s B p (map checked gs) (audit_begun y) v c h n y.records (map found_in gs)
      (all_pass s B p gs (audit_begun y) v c h n y.records (subst (λ m. Auditing s B p gs (audit_begun y) v c h n y.records (replicate m Waiting)) (sym all) (audit_begins s B p gs y v c h n k runs room)))
      number (map_length found_in gs ∙ all) (omega (arith, map_length found_in gs, few)) (all_found gs) runs
      (omega (arith, k.within, ap (λ (x : SystemState). x.records) k.at.system, (has_counts (bases_of s) p.log p.core (runs_on_log s p k.at.vault.run)).records))

  -- it isn't ended
  pub audit_stays : (gs : List RegionState) (y : SystemState) → AuditFails means gs y gs y
  audit_stays gs y s B p v c h n k = nothing means s B p gs y v k.at

  pub audit_is_left : (gs : List RegionState) (y : SystemState) → y.stop ≡ None → y.end + 1 ≤ y.limit + 1048576 → length gs ≡ regions y.sizes → AuditFails means gs y (map checked gs) (audit_begun y)
  audit_is_left gs y runs room all s B p v c h n k =
      let a = all_pass s B p gs (audit_begun y) v c h n y.records (subst (λ m. Auditing s B p gs (audit_begun y) v c h n y.records (replicate m Waiting)) (sym all) (audit_begins s B p gs y v c h n k runs room)) in
      record { to = a.to; batches = B; steps = a.steps; course = a.course; at = a.is.at }

  -- ---- the copies
  pub copies_none : (gs : List RegionState) (v : Vaulted V) (c : Checkpointed) → CopiesGo means gs v c gs v c
  copies_none gs v c s B p y h k = record { to = p; steps = []; course = refl; is = k }

  pub copies_run : (gs hs : List RegionState) (v u w : Vaulted V) (c d : Checkpointed) → CopiesGo means gs v c hs u d
      → is_run_dirty d hs ≡ true → HasWritten means u (image_name (side_in d)) (place_of d.copied) (run_bytes d hs) w
      → CopiesGo means gs v c (cleaned_run d hs) w (behind_run d hs)
  copies_run gs hs v u w c d goes dirty said s B p y h k =
      let a = goes s B p y h k in
      let b = run_goes_on means s B a.to hs y u w d h a.is dirty said in
      let steps : List StoreStep = copy_steps d.copied (run_at d hs) (length a.to.log) in
      record { to = b.to; steps = a.steps ++ steps; course = course_join p a.to b.to a.steps steps a.course b.course; is = b.is }

  pub copies_skip : (gs hs : List RegionState) (v u : Vaulted V) (c d : Checkpointed) → CopiesGo means gs v c hs u d
      → is_run_dirty d hs ≡ false → Reaches means.told (side_in d) (d.copied + run_at d hs) u
      → CopiesGo means gs v c hs u (behind_run d hs)
  copies_skip gs hs v u c d goes clean reaches s B p y h k =
      let a = goes s B p y h k in
      let b = run_skips_on means s B a.to hs y u d h a.is clean reaches in
      let steps : List StoreStep = skip_steps d.copied (run_at d hs) (length a.to.log) in
      record { to = b.to; steps = a.steps ++ steps; course = course_join p a.to b.to a.steps steps a.course b.course; is = b.is }

  pub copies_fail : (gs hs : List RegionState) (v u w : Vaulted V) (c d : Checkpointed) → CopiesGo means gs v c hs u d
      → WriteHasFailed means u (image_name (side_in d)) (place_of d.copied) (length (run_bytes d hs)) w
      → CopiesFail means gs v c hs w
  copies_fail gs hs v u w c d goes said s B p y h k =
      let a = goes s B p y h k in
      more means s p a.to hs y w a.steps a.course (ended means s a.to _ hs y w (run_faults_end means s B a.to hs y u w d h a.is said))

  -- ---- the image
  pub image_goes : (gs ks hs : List RegionState) (y x z : SystemState) (v u w : Vaulted V) (c d e : Checkpointed) (found : List ℕ) → CopiesGo means gs v c ks u d
      → d.copied ≡ regions d.header.geometry → Writes means y u (image_name (side_in d)) (place_of d.copied) d.table w
      → x ≡ taken y → e ≡ record d { settled = Some y.records } → AuditGoes means ks x hs z found
      → ImageGoes means gs y v c hs z w e found
  image_goes gs ks hs y x z v u w c d e found copies full said is settled audit s B p h k =
      let a = copies s B p y h k in
      let b = settle_goes_on means s B a.to ks y x u w d h a.is full said is in
      let f = audit s b.batches b.to w e h y.records (subst (λ i. IsSettled means s b.batches b.to ks x w i h y.records) (sym settled) b.is) in
      record {
        to = f.to;
        batches = b.batches;
        steps = a.steps ++ (settle_steps h ++ f.steps);
        course = course_join p a.to f.to a.steps (settle_steps h ++ f.steps) a.course (course_join a.to b.to f.to (settle_steps h) f.steps b.course f.course);
        is = f.is;
        certified = λ none. subst (IsCertifiedAt f.to y.records) (ap (λ (t : SystemState). t.records) is) (f.certified none);
      }

  pub settle_fails : (gs ks : List RegionState) (y z : SystemState) (v u w : Vaulted V) (c d : Checkpointed) (at n : ℕ) → CopiesGo means gs v c ks u d
      → FailsToWrite means y u (image_name (side_in d)) at n w → z ≡ store_stopped (taken y)
      → ImageFails means gs y v c ks z w
  settle_fails gs ks y z v u w c d at n copies said is s B p h k =
      let a = copies s B p y h k in
      subst (λ i. Ends means s p ks i w) (sym is) (more means s p a.to ks (store_stopped (taken y)) w a.steps a.course (ended means s a.to _ ks (store_stopped (taken y)) w (settle_faults means s B a.to ks y u w d h at n a.is said)))

  pub audit_fails : (gs ks hs : List RegionState) (y x z : SystemState) (v u w : Vaulted V) (c d e : Checkpointed) → CopiesGo means gs v c ks u d
      → d.copied ≡ regions d.header.geometry → Writes means y u (image_name (side_in d)) (place_of d.copied) d.table w
      → x ≡ taken y → e ≡ record d { settled = Some y.records } → AuditFails means ks x hs z
      → ImageFails means gs y v c hs z w
  audit_fails gs ks hs y x z v u w c d e copies full said is settled audit s B p h k =
      let a = copies s B p y h k in
      let b = settle_goes_on means s B a.to ks y x u w d h a.is full said is in
      more means s p a.to hs z w a.steps a.course (more means s a.to b.to hs z w (settle_steps h) b.course
      (audit s b.batches b.to w e h y.records (subst (λ i. IsSettled means s b.batches b.to ks x w i h y.records) (sym settled) b.is)))

  -- ---- the whole
  idle_by : (s : Start) (p : Point) (hs : List RegionState) (z : SystemState) (w : Vaulted V) → FlagTells p → z.checking ≡ false → Ends means s p hs z w → IdleAgain means s p hs z w
  idle_by s p hs z w tells flag e = record { to = e.to; batches = e.batches; steps = e.steps; course = e.course; is = ends_idle means s p hs z w tells e flag }

  pub leads_same : (gs : List RegionState) (y : SystemState) (v : Vaulted V) → LeadsIdle means gs y v gs y v
  leads_same gs y v s B p k = record { to = p; batches = B; steps = []; course = refl; is = k }

  pub start_fails : (gs : List RegionState) (y z : SystemState) (v w : Vaulted V) → FailsToWrite means y v (image_name (side_of (v.current + 1))) 0 64 w → z ≡ store_stopped (taken y)
      → LeadsIdle means gs y v gs z w
  start_fails gs y z v w said is s B p k =
      idle_by s p gs z w ((points_tell means s B p gs y v).idle k) (ap (λ (t : SystemState). t.checking) is ∙ k.flag)
      (subst (λ i. Ends means s p gs i w) (sym is) (ended means s p _ gs (store_stopped (taken y)) w (start_faults means s B p gs y v w k said).1))

  module _ (gs hs : List RegionState) (y x z : SystemState) (v u w : Vaulted V) (c : Checkpointed) (started : HasStarted means y v c u) (is : x ≡ in_checkpoint (taken y) true) where
    pub start_of : (s : Start) (B : List (List Record)) (p : Point) → IsIdle means s B p gs y v → Started means s p gs y x u c
    start_of s B p k = start_goes means s B p gs y x v u c k started is

    -- the steps of the start, and others
    behind : (s : Start) (p : Point) (k : Started means s p gs y x u c) (es : List RegionState) (t : SystemState) (q : Vaulted V) → IdleAgain means s k.to es t q → IdleAgain means s p es t q
    behind s p k es t q e = record { to = e.to; batches = e.batches; steps = start_steps k.head ++ e.steps; course = course_join p k.to e.to (start_steps k.head) e.steps k.course e.course; is = e.is }

    pub image_given_up : (t : SystemState) (failed : Bool) → ImageFails means gs x u c hs t w → t.checking ≡ true → (failed ≡ true → w.stopped ≡ true) → z ≡ given_up failed t
        → LeadsIdle means gs y v hs z w
    image_given_up t failed fails flag stopped given s B p k =
        let a = start_of s B p k in
        let e = fails s a.batches a.to a.head a.is in
        behind s p a hs z w (idle_by s a.to hs z w ((points_tell means s a.batches a.to gs x u).copying c a.head a.is) (ap (λ (i : SystemState). i.checking) given ∙ ended failed)
        (subst (λ i. Ends means s a.to hs i w) (sym given) (more means s a.to e.to hs (given_up failed t) w e.steps e.course (gives_up means s e.batches e.to hs t w failed e.at flag stopped))))
      where
        ended : (b : Bool) → (given_up b t).checking ≡ false
        ended true = refl
        ended false = refl

    module _ (t : SystemState) (m : Vaulted V) (d : Checkpointed) (found : List ℕ) (made : ImageGoes means gs x u c hs t m d found) where
      image_of : (s : Start) (B : List (List Record)) (p : Point) (k : IsIdle means s B p gs y v) → ImageMade means s (start_of s B p k).to hs t m d (start_of s B p k).head x.records found
      image_of s B p k = let a = start_of s B p k in made s a.batches a.to a.head a.is

      pub certified_leads : found ≡ [] → HasTurnedTo means t m (side_in d) w → z ≡ in_checkpoint (taken t) false → LeadsIdle means gs y v hs z w
      certified_leads none said now s B p k =
          let a = start_of s B p k in
          let b = image_of s B p k in
          let e = certify_goes_on means s b.batches b.to hs t z m w d a.head x.records x.records b.is (b.certified none) said now in
          behind s p a hs z w (record { to = e.to; batches = e.batches; steps = b.steps ++ certify_steps; course = course_join a.to b.to e.to b.steps certify_steps b.course e.course; is = e.is })

      pub certify_fault_leads : found ≡ [] → FailsToTurn means t m (side_in d) w → z ≡ in_checkpoint (store_stopped (taken t)) false → LeadsIdle means gs y v hs z w
      certify_fault_leads none said now s B p k =
          let a = start_of s B p k in
          let b = image_of s B p k in
          let e = ended means s b.to _ hs (in_checkpoint (store_stopped (taken t)) false) w (certify_faults means s b.batches b.to hs t m w d a.head x.records x.records b.is (b.certified none) said) in
          behind s p a hs z w (idle_by s a.to hs z w ((points_tell means s a.batches a.to gs x u).copying c a.head a.is) (ap (λ (i : SystemState). i.checking) now)
          (subst (λ i. Ends means s a.to hs i w) (sym now) (more means s a.to b.to hs (in_checkpoint (store_stopped (taken t)) false) w b.steps b.course e)))

      pub failure_leads : HasEnded means t m z w → z.checking ≡ false → LeadsIdle means gs y v hs z w
      failure_leads said flag s B p k =
          let a = start_of s B p k in
          let b = image_of s B p k in
          let e = ended means s b.to _ hs z w (failure_ends means s b.batches b.to hs t z m w b.is.at b.is.flag said) in
          behind s p a hs z w (idle_by s a.to hs z w ((points_tell means s a.batches a.to gs x u).copying c a.head a.is) flag (more means s a.to b.to hs z w b.steps b.course e))
