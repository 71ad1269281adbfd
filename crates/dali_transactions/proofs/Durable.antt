-- A commit as steps of a run.
use Rattle.std.proofs.Common.{inl, ◌≡◌, ℕ, ◌+◌, ◌≤◌, Bool, true, false, List, [], ◌∷◌, ◌++◌, length, drop, Option, Some, None, refl, ap, sym, subst, ◌∙◌, arith, length-append, slice_get}
use Rattle.std.specs.List.{AllByRecursion}
use Rattle.std.specs.Prelude.{◌==◌, if◌then◌else◌, Err, IsErrOf}
use Rattle.std.proofs.lemmas.Bool.{ne_eqb}
use Rattle.std.proofs.lemmas.List.{length-drop}
use Rattle.std.proofs.lemmas.Option.{IfSome_then}
use Rattle.dali_lists.proofs.Members.{all_weaker}
use Rattle.dali_record.specs.declared.operations.Pending.{Pending}
use Rattle.dali_record.specs.declared.records.Record.{Record}
use Rattle.dali_record.specs.declared.records.Record.TheVariants.{Commit, Ended}
use Rattle.dali_record.specs.Legal.{TxnState, Active, Committed, dead_of}
use Rattle.dali_region.specs.State.{RegionState}
use Rattle.dali_att.specs.declared.state.State.TheVariants.{Live}
use Rattle.dali_att.specs.Table.{undos_at}
use Rattle.dali_store.specs.Store.{Files as Disk}
use Rattle.dali_runs.specs.State.{SystemState, VaultState, CoreState, row_of, state_of, hold_in, stable, log_after}
use Rattle.dali_runs.specs.Run.{IsRow, RunsOn, no_image}
use Rattle.dali_runs.specs.Steps.{commit_logged, taken}
use Rattle.dali_runs.specs.Keeps.{with_system}
use Rattle.dali_runs.specs.Wholes.{IsWhole}
use Rattle.dali_runs.specs.Courses.{Commits as CommitsStep, Takes, Flushes, Faults, Stops, Moment, IsStep, IsCourse, RunsAt}
use Rattle.dali_runs.proofs.WholeSteps.{whole_course_keeps}
use Rattle.dali_runs.specs.Facts.Ends.{IsEnding}
use Rattle.dali_runs.proofs.FactsLemmas.Ends.{commit_follows, commit_is_step}
use Rattle.dali_crash.specs.Checkpoints.{Point, Does, IsPointCourse, moment_of}
use Rattle.dali_crash.specs.Traces.{Start, bases_of}
use Rattle.dali_crash.proofs.Courses.{flush_logs_none}
use Rattle.dali_core.specs.Vault.Vaulted.{Vaulted}
use Rattle.dali_core.specs.declared.vault.error.VaultError.{VaultError}
use Rattle.dali_core.specs.declared.vault.error.VaultError.TheVariants.{Fault as VaultFault, Stopped as VaultStopped}
use Rattle.dali_store.specs.Calls.{fewer}
use Rattle.dali_store.specs.declared.store.Store.{Ghosts}
use Rattle.dali_system.specs.Served.{Served}
use Rattle.dali_core.specs.Steps.Courses.{WentOn}
use Rattle.dali_core.proofs.StepsLemmas.Courses.{quiet_course}
use Rattle.dali_calls.proofs.Rows.{undos_in}
use Rattle.dali_calls.specs.Single.Stands.{core as core_of}
use Rattle.dali_calls.specs.Single.Single.{MayCall, OthersStay as RowsStay}
use Rattle.dali_calls.specs.Single.Settling.{MayFree, MayCommit, Commits, IsSoloOf}
use Rattle.dali_clean.specs.Cleaned.{core, moment, AreDead}
use Rattle.dali_clean.specs.Others.{OthersStay}
use Rattle.dali_clean.proofs.Courses.{runs_of}
use Rattle.dali_clean.proofs.Others.{others_further}
use Rattle.dali_core.proofs.StepsLemmas.Frames.{longer_faults}
use Rattle.dali_core.specs.Flushed.{AllFlushed, FlushesAll, HasStopped, FlushFails}
use Rattle.dali_core.specs.Moments.{FlushLeaves, Within, flush_calls}
use Rattle.dali_core.proofs.Moments.{flush_right}
use Rattle.dali_transactions.specs.Stands.{StandsAt, IsUp, IsBetween}
use Rattle.dali_transactions.specs.Ended.{Walked, HasCome}
use Rattle.dali_transactions.specs.Left.{HoldsStay, IsSettling, SettlesIn, Settled}
use Rattle.dali_transactions.specs.Committed.{IsLogged, CommitGoes, CommitFails, CommitIsRight}
use Rattle.dali_transactions.proofs.Walking.{Same, same_course, walked_of_end}
use Rattle.dali_transactions.proofs.Alone.{rows_left, dead_still}
use Rattle.dali_transactions.proofs.Standing.{moment_here, run_at, come}

-- ---- courses of points that flush
flush_course : (p q : Point) → IsPointCourse p (Does Takes ∷ Does Flushes ∷ []) q → IsCourse (moment_of p) (Takes ∷ Flushes ∷ []) (moment_of q)
flush_course p q c = (moment_of c.0, c.1.1, (moment_of c.2.0, c.2.1.1, ap moment_of c.2.2))

fault_course : (p q : Point) (n : ℕ) → IsPointCourse p (Does Takes ∷ Does (Faults n) ∷ Does Stops ∷ []) q → IsCourse (moment_of p) (Takes ∷ Faults n ∷ Stops ∷ []) (moment_of q)
fault_course p q n c = (moment_of c.0, c.1.1, (moment_of c.2.0, c.2.1.1, (moment_of c.2.2.0, c.2.2.1.1, ap moment_of c.2.2.2)))

pub fault_logs_none : (p q : Point) (n : ℕ) → IsPointCourse p (Does Takes ∷ Does (Faults n) ∷ Does Stops ∷ []) q → q.log ≡ p.log
fault_logs_none p q n c = ap (λ (x : Point). x.log) (sym c.2.2.2) ∙ (c.2.2.1.1.0.1.0 ∙ (c.2.1.1.0.2.0 ∙ c.1.1.0.0))

counted_over : (p q : Point) → IsPointCourse p (Does Takes ∷ Does Flushes ∷ []) q → q.core.vault.faults ≡ p.core.vault.faults
counted_over p q c =
    ap (λ (x : Point). x.core.vault.faults) (sym c.2.2)
    ∙ (ap (λ (k : CoreState). k.vault.faults) c.2.1.1.0.1.1
    ∙ (longer_faults c.0.core.vault _
    ∙ ap (λ (k : CoreState). k.vault.faults) c.1.1.0.1))

-- ---- what the rules have
-- the log behind the commit has its removals left
abbrev pub Leaves : SystemState → SystemState → ℕ → List Pending → Type 0
Leaves y y1 t us = (L : List Record) (rs : List RegionState) (u : VaultState) → MayCommit L (core_of rs y u) t → Commits L (core_of rs y u) t us (core_of rs y1 u)

same_left : (us vs : List Pending) → (let o : Option TxnState = Some (Committed us) in o ≡ Some (Committed vs)) → us ≡ vs
same_left us vs e = cc

pub holds_stand : (us : List Pending) (gs hs : List RegionState) → hs ≡ gs → HoldsStay us gs hs
holds_stand us gs hs same r none = ap (λ (rs : List RegionState). hold_in (slice_get rs r)) same

module _ {V : Type 0} (means : Ghosts V) where
  call_here : (s : Start) (B : List (List Record)) (p : Point) (gs : List RegionState) (y : SystemState) (v : Vaulted V) (t : ℕ) → StandsAt means s B p gs y v → MayCall p.log p.core t → MayCall p.log (core gs y p.core.vault) t
  call_here s B p gs y v t k may = subst (λ (m : Moment). MayCall p.log m.core t) (sym (moment_here means s B p gs y v k)) may

  pub may_commit : (s : Start) (B : List (List Record)) (p : Point) (gs : List RegionState) (y : SystemState) (v : Vaulted V) (t : ℕ) → StandsAt means s B p gs y v → MayCall p.log p.core t → MayCommit p.log (core gs y p.core.vault) t
  may_commit s B p gs y v t k call = record {
    may = may;
    undos = ap undos_in row.2;
    unbegun = λ n more. runs.counts.fresh n (omega (arith, runs.counts.next, more));
  }
    where
      may : MayCall p.log (core gs y p.core.vault) t
      may = call_here s B p gs y v t k call

      runs : RunsOn (bases_of s) p.log (core gs y p.core.vault)
      runs = runs_of (bases_of s) s.log (moment gs y p.log p.core.vault p.audits) (run_at means s B p gs y v k)

      row : IsRow (Some (Active may.working)) (row_of y t)
      row = subst (λ (o : Option TxnState). IsRow o (row_of y t)) may.at_work (runs.table t)

  pub logged : (s : Start) (B : List (List Record)) (p : Point) (gs : List RegionState) (y : SystemState) (v : Vaulted V) (t : ℕ) → StandsAt means s B p gs y v → MayCall p.log p.core t → state_of y t ≡ Some Live → y.stop ≡ None
      → IsLogged means s B p gs y v t
  logged s B p gs y v t k may lives runs = record {
    to = went.to;
    course = went.course;
    log = ap (λ (m : Moment). m.log) went.moment;
    stands = record {
      at = record {
        regions = ap (λ (m : Moment). m.core.regions) went.moment ∙ k.at.regions;
        system = ap (λ (m : Moment). m.core.system) went.moment ∙ ap (λ (x : SystemState). commit_logged x t) k.at.system;
        vault = went.is;
        none_in_hand = λ up. k.at.none_in_hand up;
      };
      whole = subst (λ (m : Moment). IsWhole m.core) (sym went.moment) (whole_course_keeps (bases_of s) s.log (moment_of p) n (CommitsStep t ∷ []) k.at.vault.run.run k.whole course);
      dead = k.dead;
    };
    keeps = went.keeps;
  }
    where
      n : Moment
      n = record { log = p.log ++ Commit t ∷ []; core = with_system p.core (commit_logged p.core.system t); audits = p.audits }

      step : IsStep p.log p.core (CommitsStep t) (p.log ++ Commit t ∷ []) (with_system p.core (commit_logged p.core.system t))
      step = commit_is_step p.log p.core t may.working may.at_work may.level (ap (λ (x : SystemState). x.stop) k.at.system ∙ runs) (ap (λ (x : SystemState). state_of x t) k.at.system ∙ lives)

      course : IsCourse (moment_of p) (CommitsStep t ∷ []) n
      course = (n, (step, refl), refl)

      went : WentOn means s B p n (CommitsStep t ∷ []) v
      went = quiet_course means s B p n (CommitsStep t ∷ []) v k.at.vault refl course

  -- ---- behind the flush
  pub flushed_stands : (s : Start) (B : List (List Record)) (p : Point) (gs : List RegionState) (y z : SystemState) (v w : Vaulted V) → StandsAt means s B p gs y v → (f : AllFlushed means s p gs v z w)
      → StandsAt means s f.batches f.to gs z w
  flushed_stands s B p gs y z v w k f = record {
    at = f.at;
    whole = whole_course_keeps (bases_of s) s.log (moment_of p) (moment_of f.to) (Takes ∷ Flushes ∷ []) k.at.vault.run.run k.whole (flush_course p f.to f.course);
    dead = k.dead;
  }

  pub logged_as : (s : Start) (B : List (List Record)) (p : Point) (gs : List RegionState) (y y1 : SystemState) (v : Vaulted V) (t : ℕ) (us : List Pending) → StandsAt means s B p gs y v → MayCall p.log p.core t
      → Leaves y y1 t us → (y.stop ≡ None) × (y1 ≡ commit_logged y t) × IsEnding y1.sizes (p.log ++ Commit t ∷ []) t us
  logged_as s B p gs y y1 v t us k may leaves =
      let one = leaves p.log gs p.core.vault (may_commit s B p gs y v t k may) in
      (one.step.0, ap (λ (c : CoreState). c.system) one.step.2.1, one.is.ending)

  -- which removals these are
  removals_are : (s : Start) (B : List (List Record)) (p : Point) (gs : List RegionState) (y y1 : SystemState) (v : Vaulted V) (t : ℕ) (us : List Pending) → StandsAt means s B p gs y v → MayCall p.log p.core t → Leaves y y1 t us
      → us ≡ dead_of (undos_at y.table t)
  removals_are s B p gs y y1 v t us k may leaves =
      let mine = may_commit s B p gs y v t k may in
      let found = logged_as s B p gs y y1 v t us k may leaves in
      let here : IsEnding y.sizes (p.log ++ Commit t ∷ []) t us = subst (λ x. IsEnding x (p.log ++ Commit t ∷ []) t us) (ap (λ (x : SystemState). x.sizes) found.1) found.2 in
      let follows : IsEnding y.sizes (p.log ++ Commit t ∷ []) t (dead_of mine.may.working.undos) = commit_follows y.sizes p.log t mine.may.working mine.may.at_work mine.may.level in
      same_left us (dead_of mine.may.working.undos) (sym here ∙ follows) ∙ ap dead_of (sym mine.undos)

  settle_here : (s : Start) (B : List (List Record)) (p : Point) (gs : List RegionState) (y y1 z : SystemState) (v w : Vaulted V) (t : ℕ) (us : List Pending) (k : StandsAt means s B p gs y v) (may : MayCall p.log p.core t)
      → state_of y t ≡ Some Live → Leaves y y1 t us → FlushesAll means gs y1 v z w → z.sizes ≡ y1.sizes
      → (l : IsLogged means s B p gs y v t) × (f : AllFlushed means s l.to gs v z w) × StandsAt means s f.batches f.to gs z w × IsEnding z.sizes f.to.log t us
  settle_here s B p gs y y1 z v w t us k may lives leaves flushes sizes =
      let found = logged_as s B p gs y y1 v t us k may leaves in
      let l = logged s B p gs y v t k may lives found.0 in
      let stands : StandsAt means s B l.to gs y1 v = subst (λ (x : SystemState). StandsAt means s B l.to gs x v) (sym found.1) l.stands in
      let f = flushes s B l.to stands.at in (
        l,
        f,
        flushed_stands s B l.to gs y1 z v w stands f,
        subst (λ (x : List Record). IsEnding z.sizes x t us) (sym (flush_logs_none l.to f.to f.course ∙ l.log)) (subst (λ x. IsEnding x (p.log ++ Commit t ∷ []) t us) (sym sizes) found.2),
      )

  -- where it is settled
  pub settling : (gs : List RegionState) (y y1 z : SystemState) (v w : Vaulted V) (t : ℕ) (us : List Pending) → IsBetween means gs y v t → state_of y t ≡ Some Live → Leaves y y1 t us → FlushesAll means gs y1 v z w
      → z.sizes ≡ y1.sizes → IsSettling gs z t us
  settling gs y y1 z v w t us between lives leaves flushes sizes =
      let up = between.up in
      let here = settle_here up.start up.batches up.point gs y y1 z v w t us up.stands between.may lives leaves flushes sizes in
      record {
        running = record {
          bases = bases_of up.start;
          before = up.start.log;
          log = here.1.to.log;
          vault = here.1.to.core.vault;
          audits = here.1.to.audits;
          run = run_at means up.start here.1.batches here.1.to gs z w here.2;
          dead = up.stands.dead;
        };
        ending = here.3;
      }

  pub commit_goes : (gs hs : List RegionState) (y y1 z z' : SystemState) (v w : Vaulted V) (t : ℕ) (us : List Pending) → state_of y t ≡ Some Live → Leaves y y1 t us → FlushesAll means gs y1 v z w
      → z.sizes ≡ y1.sizes → SettlesIn t us gs z hs z' → (AreDead gs → AreDead hs) → CommitGoes means gs y v t hs z' w
  commit_goes gs hs y y1 z z' v w t us lives leaves flushes sizes settles still s B p k may = record {
    logged = here.0;
    between = z;
    flushed = here.1;
    settled = settled;
    durable = omega (arith, all, size, later);
  }
    where
      here : (l : IsLogged means s B p gs y v t) × (f : AllFlushed means s l.to gs v z w) × StandsAt means s f.batches f.to gs z w × IsEnding z.sizes f.to.log t us
      here = settle_here s B p gs y y1 z v w t us k may lives leaves flushes sizes

      walk : Walked t (IsSoloOf t) (Ended t ∷ []) (moment gs z here.1.to.log here.1.to.core.vault here.1.to.audits) hs z'
      walk = settles (bases_of s) s.log here.1.to.log here.1.to.core.vault here.1.to.audits (run_at means s here.1.batches here.1.to gs z w here.2) here.2.dead here.3

      settled : HasCome means t (IsSoloOf t) (Ended t ∷ []) s here.1.batches here.1.to w hs z'
      settled = come means t (IsSoloOf t) (Ended t ∷ []) s here.1.batches here.1.to gs hs z z' w here.2 walk (still here.2.dead)

      same : Same z z'
      same = same_course (moment gs z here.1.to.log here.1.to.core.vault here.1.to.audits) (moment hs z' walk.log here.1.to.core.vault here.1.to.audits) walk.steps (walked_of_end t (IsSoloOf t) (Ended t ∷ []) (moment gs z here.1.to.log here.1.to.core.vault here.1.to.audits) hs z' walk) walk.course

      all : stable here.1.to.core ≡ length here.1.to.log
      all = here.1.all

      size : length here.1.to.log ≡ length p.log + 1
      size = ap length (flush_logs_none here.0.to here.1.to here.1.course ∙ here.0.log) ∙ length-append p.log (Commit t ∷ [])

      later : stable settled.to.core ≡ stable here.1.to.core
      later =
          ap (λ (x : SystemState). x.first + settled.to.core.vault.flushed) settled.stands.at.system
          ∙ (ap (λ n. z'.first + n) settled.stands.at.vault.vault.flushed
          ∙ (ap (λ n. n + w.flushed) same.first
          ∙ (ap (λ n. z.first + n) (sym here.1.at.vault.vault.flushed)
          ∙ ap (λ (x : SystemState). x.first + here.1.to.core.vault.flushed) (sym here.1.at.system))))

  -- ---- the calls of the store, and its count of faults
  pub four_calls : (gs : List RegionState) (y y1 : SystemState) (v : Vaulted V) (t : ℕ) (us : List Pending) → IsBetween means gs y v t → Leaves y y1 t us → flush_calls y1 ≡ 4
  four_calls gs y y1 v t us between leaves = ap flush_calls found.1 ∙ ap (λ (b : Bool). let n : ℕ = if b then 0 else 4 in n) waits
    where
      up : IsUp means gs y v
      up = between.up

      found : (y.stop ≡ None) × (y1 ≡ commit_logged y t) × IsEnding y1.sizes (up.point.log ++ Commit t ∷ []) t us
      found = logged_as up.start up.batches up.point gs y y1 v t us up.stands between.may leaves

      within : y.taken ≤ length y.since
      within =
          let run = up.stands.at.vault.run.run in
          let most = run.run.taken in
          let all = length-append up.start.log up.point.core.system.since in
          let taken = ap (λ (x : SystemState). x.taken) up.stands.at.system in
          let since = ap (λ (x : SystemState). length x.since) up.stands.at.system in
          omega (arith, most, all, run.run.first, taken, since)

      waits : (length (drop y.taken (y.since ++ Commit t ∷ [])) == 0) ≡ false
      waits =
          let left = length-drop y.taken (y.since ++ Commit t ∷ []) in
          let one = length-append y.since (Commit t ∷ []) in
          ne_eqb (length (drop y.taken (y.since ++ Commit t ∷ []))) 0 (λ none. absurd (omega (arith, left, one, within, none)))

  pub faults_kept : (gs : List RegionState) (y y1 z : SystemState) (v w : Vaulted V) (t : ℕ) (us : List Pending) → IsBetween means gs y v t → state_of y t ≡ Some Live → Leaves y y1 t us → FlushesAll means gs y1 v z w
      → z.sizes ≡ y1.sizes → means.faults w.store ≡ means.faults v.store
  faults_kept gs y y1 z v w t us between lives leaves flushes sizes =
      sym here.1.at.vault.vault.counted ∙ (counted_over here.0.to here.1.to here.1.course ∙ here.0.stands.at.vault.vault.counted)
    where
      up : IsUp means gs y v
      up = between.up

      here : (l : IsLogged means up.start up.batches up.point gs y v t) × (f : AllFlushed means up.start l.to gs v z w) × StandsAt means up.start f.batches f.to gs z w × IsEnding z.sizes f.to.log t us
      here = settle_here up.start up.batches up.point gs y y1 z v w t us up.stands between.may lives leaves flushes sizes

  -- ---- a fault
  pub commit_fails : (gs : List RegionState) (y y1 z : SystemState) (v w : Vaulted V) (t : ℕ) (us : List Pending) → state_of y t ≡ Some Live → Leaves y y1 t us → FlushFails means gs y1 v z w
      → z.first ≡ y1.first → w.flushed ≡ v.flushed → CommitFails means gs y v t z w
  commit_fails gs y y1 z v w t us lives leaves fails first flushed s B p k may = record {
    logged = l;
    stopped = stopped;
    stands = record {
      at = stopped.at;
      whole = whole_course_keeps (bases_of s) s.log (moment_of l.to) (moment_of stopped.to) (Takes ∷ Faults (means.faults w.store) ∷ Stops ∷ []) stands.at.vault.run.run stands.whole (fault_course l.to stopped.to (means.faults w.store) stopped.course);
      dead = k.dead;
    };
    log = fault_logs_none l.to stopped.to (means.faults w.store) stopped.course ∙ l.log;
    unflushed = omega (arith, now, frame, taken, ap length (run.log));
  }
    where
      found : (y.stop ≡ None) × (y1 ≡ commit_logged y t) × IsEnding y1.sizes (p.log ++ Commit t ∷ []) t us
      found = logged_as s B p gs y y1 v t us k may leaves

      l : IsLogged means s B p gs y v t
      l = logged s B p gs y v t k may lives found.0

      stands : StandsAt means s B l.to gs y1 v
      stands = subst (λ (x : SystemState). StandsAt means s B l.to gs x v) (sym found.1) l.stands

      stopped : HasStopped means s B l.to gs z w
      stopped = fails s B l.to stands.at

      run : RunsAt (bases_of s) s.log no_image (moment_of p)
      run = k.at.vault.run.run

      frame : stable p.core ≤ p.core.system.first + p.core.system.taken
      frame = run.run.frame

      taken : p.core.system.first + p.core.system.taken ≤ length (log_after s.log p.core.system)
      taken = run.run.taken

      now : stable stopped.to.core ≡ stable p.core
      now =
          ap (λ (x : SystemState). x.first + stopped.to.core.vault.flushed) stopped.at.system
          ∙ (ap (λ n. z.first + n) (stopped.at.vault.vault.flushed ∙ flushed)
          ∙ (ap (λ n. n + v.flushed) (first ∙ ap (λ (x : SystemState). x.first) found.1)
          ∙ (ap (λ n. y.first + n) (sym k.at.vault.vault.flushed)
          ∙ ap (λ (x : SystemState). x.first + p.core.vault.flushed) (sym k.at.system))))

  -- ---- a crash inside it
  pub commit_is_right : CommitIsRight means
  commit_is_right s B p gs y v t k may lives runs up =
      let l = logged s B p gs y v t k may lives runs in
      IfSome_then (means.told v.store) (flush_right means s B l.to gs (commit_logged y t) v l.stands.at up)
      (λ fs right c left. let D = right c left in (D.0, D.1, record { logged = l.to; course = l.course; right = D.2 }))

  -- ---- for the call
  pub up_committed : (gs hs : List RegionState) (y z : SystemState) (v w : Vaulted V) (t : ℕ) → IsBetween means gs y v t → CommitGoes means gs y v t hs z w → IsUp means hs z w
  up_committed gs hs y z v w t between goes =
      let up = between.up in
      let is = goes up.start up.batches up.point up.stands between.may in
      record { start = up.start; batches = is.flushed.batches; point = is.settled.to; stands = is.settled.stands }

  pub up_failed : (gs : List RegionState) (y z : SystemState) (v w : Vaulted V) (t : ℕ) → IsBetween means gs y v t → CommitFails means gs y v t z w → IsUp means gs z w
  up_failed gs y z v w t between fails =
      let up = between.up in
      let is = fails up.start up.batches up.point up.stands between.may in
      record { start = up.start; batches = up.batches; point = is.stopped.to; stands = is.stands }

  pub commit_done : (gs gs1 hs : List RegionState) (y y1 : SystemState) (s1 s2 : Served) (v w w1 : Vaulted V) (t : ℕ) (us us1 : List Pending) → state_of y t ≡ Some Live → Leaves y y1 t us → FlushesAll means gs y1 v s1.state w
      → s1.state.sizes ≡ y1.sizes → gs1 ≡ gs → us1 ≡ us → w1 ≡ w → Settled t us1 gs1 s1 hs s2 → CommitGoes means gs y v t hs s2.state w1
  commit_done gs gs1 hs y y1 s1 s2 v w w1 t us us1 lives leaves flushes sizes same removals vault settled =
      subst (λ (u : Vaulted V). CommitGoes means gs y v t hs s2.state u) (sym vault)
      (commit_goes gs hs y y1 s1.state s2.state v w t us lives leaves flushes sizes
      (subst (λ (rs : List RegionState). SettlesIn t us rs s1.state hs s2.state) same (subst (λ (ps : List Pending). SettlesIn t ps gs1 s1.state hs s2.state) removals settled.walks))
      (λ dead. dead_still t gs1 hs s1.state s2.state settled.others (subst (λ (rs : List RegionState). AreDead rs) (sym same) dead)))

  pub commit_kept : (gs gs1 hs : List RegionState) (y y1 : SystemState) (s1 s2 : Served) (v w : Vaulted V) (t : ℕ) (us us1 : List Pending) → state_of y t ≡ Some Live → Leaves y y1 t us → FlushesAll means gs y1 v s1.state w
      → s1.state.sizes ≡ y1.sizes → gs1 ≡ gs → us1 ≡ us → Settled t us1 gs1 s1 hs s2 → IsBetween means gs y v t → HoldsStay (dead_of (undos_at y.table t)) gs hs
  commit_kept gs gs1 hs y y1 s1 s2 v w t us us1 lives leaves flushes sizes same removals settled between =
      let up = between.up in
      let are = removals_are up.start up.batches up.point gs y y1 v t us up.stands between.may leaves in
      let here = settling gs y y1 s1.state v w t us between lives leaves flushes sizes in
      let there : IsSettling gs1 s1.state t us1 = subst (λ (rs : List RegionState). IsSettling rs s1.state t us1) (sym same) (subst (λ (ps : List Pending). IsSettling gs s1.state t ps) (sym removals) here) in
      subst (λ (ps : List Pending). HoldsStay ps gs hs) are (subst (λ (ps : List Pending). HoldsStay ps gs hs) removals (subst (λ (rs : List RegionState). HoldsStay us1 rs hs) same (settled.holds there)))

  pub kept_at : (v w w1 : Vaulted V) → w1 ≡ w → means.faults w.store ≡ means.faults v.store → means.faults w1.store ≡ means.faults v.store
  kept_at v w w1 same kept = ap (λ (u : Vaulted V). means.faults u.store) same ∙ kept

  pub calls_at : (lets_pass : V → Option ℕ) (v w w1 : Vaulted V) (n m : ℕ) → w1 ≡ w → n ≡ m → lets_pass w.store ≡ fewer n (lets_pass v.store) → lets_pass w1.store ≡ fewer m (lets_pass v.store)
  calls_at lets_pass v w w1 n m same count calls = ap (λ (u : Vaulted V). lets_pass u.store) same ∙ (calls ∙ ap (λ k. fewer k (lets_pass v.store)) count)

  pub within_at : (moment_in : V → ℕ) (left_since : V → ℕ → Disk → Type 0) (v w w1 : Vaulted V) (y1 y2 : SystemState) → w1 ≡ w → y1 ≡ y2 → Within means.told moment_in left_since v w (FlushLeaves means.may_leave y1 v) → Within means.told moment_in left_since v w1 (FlushLeaves means.may_leave y2 v)
  within_at moment_in left_since v w w1 y1 y2 same is within =
      subst (λ (u : Vaulted V). Within means.told moment_in left_since v u (FlushLeaves means.may_leave y2 v)) (sym same) (subst (λ (x : SystemState). Within means.told moment_in left_since v w (FlushLeaves means.may_leave x v)) is within)

pub fault_only : {T : Type 0} (e : VaultError) (b : Bool) → (IsErrOf {T = T} (Err e) VaultStopped → b ≡ true) → b ≡ false → IsErrOf {T = T} (Err e) VaultFault
fault_only VaultFault b stopped runs = refl
fault_only VaultStopped b stopped runs = absurd (let so : b ≡ true = stopped refl in cc)

pub may_taken : (y z : SystemState) (t : ℕ) (us : List Pending) → z ≡ taken y → AllByRecursion (MayFree y t) us → AllByRecursion (MayFree z t) us
may_taken y z t us is h = subst (λ (x : SystemState). AllByRecursion (MayFree x t) us) (sym is) (all_weaker (MayFree y t) (MayFree (taken y) t) us (λ u may. record { removal = may.removal; spelled = may.spelled; kind = may.kind; lock = may.lock }) h)

pub others_taken : (gs hs : List RegionState) (y y1 z z' : SystemState) (t : ℕ) → RowsStay y t y1 → z ≡ taken y1 → OthersStay gs z t hs z' → OthersStay gs y t hs z'
others_taken gs hs y y1 z z' t rows is others =
    others_further gs gs hs y (taken y1) z' t (rows_left gs gs y (taken y1) t (λ u e. ((rows u e).0, λ k. (rows u e).1 k)) (λ r. inl refl)) (subst (λ (x : SystemState). OthersStay gs x t hs z') is others)
