-- All records of a core are taken and flushed.
use Rattle.std.proofs.Common.{◌≡◌, ℕ, ◌+◌, ◌-◌, ◌≤◌, true, false, List, ◌++◌, length, take, drop, Option, Some, refl, ap, sym, subst, ◌∙◌, arith, length-append}
use Rattle.std.specs.Prelude.{Contains}
use Rattle.std.proofs.lemmas.Option.{IfSome_then}
use Rattle.std.proofs.lemmas.List.{take_all, drop_at, drop-drop}
use Rattle.dali_record.specs.declared.records.Record.{Record}
use Rattle.dali_record.specs.Log.{committed}
use Rattle.dali_region.specs.State.{RegionState}
use Rattle.dali_store.specs.declared.store.FileName.TheVariants.{Log}
use Rattle.dali_store.specs.Store.{Files as Disk, TornTold}
use Rattle.dali_store.specs.declared.store.Store.{Ghosts}
use Rattle.dali_log.specs.Batch.{Framed}
use Rattle.dali_log.specs.Log.{body_bytes}
use Rattle.dali_runs.specs.State.{SystemState, VaultState, CoreState, state_in, stable, log_after}
use Rattle.dali_runs.specs.Run.{Bases, no_image}
use Rattle.dali_runs.specs.Steps.{taken, store_stopped}
use Rattle.dali_runs.specs.Keeps.{with_system}
use Rattle.dali_runs.specs.Flushes.{frame_of, with_vault, longer, faulted}
use Rattle.dali_runs.specs.Courses.{Takes, Faults, Stops, RunsAt}
use Rattle.dali_runs.specs.Wholes.{IsWhole, AreOfKind, latched_in}
use Rattle.dali_runs.specs.Regions.{is_alive}
use Rattle.dali_att.specs.declared.state.State.TheVariants.{Dead}
use Rattle.dali_geometry.specs.Places.{regions}
use Rattle.std.specs.FinMap as map
use Rattle.dali_runs.proofs.Courses.{taken_all_is_flushed}
use Rattle.dali_runs.proofs.CountsLemmas.Tallies.{tallies}
use Rattle.dali_crash.specs.Checkpoints.{Point, Does, IsPointStep, copies_after, moment_of}
use Rattle.dali_crash.specs.Traces.{Start, bases_of}
use Rattle.dali_crash.specs.Disks.Bridges.{batches_on}
use Rattle.dali_crash.proofs.DisksLemmas.Bridges.{same_image}
use Rattle.dali_crash.specs.Disks.Places.{place_of}
use Rattle.dali_core.specs.Vault.Vaulted.{Vaulted}
use Rattle.dali_core.specs.Steps.At.{IsAt, Goes}
use Rattle.dali_core.specs.Steps.Said.{IsFrameAt}
use Rattle.dali_core.specs.Steps.Called.{KeepsImage, Flushed}
use Rattle.dali_core.proofs.StepsLemmas.Files.{torn_over}
use Rattle.dali_core.proofs.StepsLemmas.Steps.{flush_goes, flush_faults, quiet_goes, quiet_keeps, acknowledged_stands}
use Rattle.dali_core.specs.Cores.{IsWholeCore, HoldsPlaces}
use Rattle.dali_core.specs.Flushed.{IsUntaken, FlushesFrame, FailsFrame, FlushesAll, FlushFails, CommittedStands}

-- ---- what is taken
-- behind what was flushed, which is what was taken, the log has the rest
untaken : (before since : List Record) (first k n : ℕ) → first ≡ length before → length (before ++ since) ≤ n → drop (first + k) (take n (before ++ since)) ≡ drop k since
untaken before since first k n e le =
    ap (drop (first + k)) (take_all n (before ++ since) le)
    ∙ (sym (drop-drop k first (before ++ since))
    ∙ ap (drop k) (drop_at before since first (sym e)))

-- the records are counted
counted : (bases : Bases) (before : List Record) (p : Point) → RunsAt bases before no_image (moment_of p) → p.core.system.records ≡ length (log_after before p.core.system)
counted bases before p run = run.run.runs.counts.records ∙ (tallies p.core.system.sizes (log_after before p.core.system) run.run.runs.counts.now run.run.runs.counts.rules).0

abbrev pub take_point : Point → Point
take_point p = record p { core = with_system p.core (taken p.core.system); copies = copies_after p.core Takes p.copies }

pub takes : (p : Point) → IsPointStep p (Does Takes) (take_point p)
takes p = (refl, ((refl, refl), refl), refl)

module _ {V : Type 0} (means : Ghosts V) where
  pub took : (s : Start) (B : List (List Record)) (p : Point) (v : Vaulted V) → IsAt means s B p v → IsAt means s B (take_point p) v
  took s B p v at = quiet_goes means s B p (take_point p) (Does Takes) v at (takes p) refl (λ F. refl) refl

  pub frame_at : (s : Start) (B : List (List Record)) (p : Point) (v : Vaulted V) (f : Framed) → IsAt means s B p v → v.flushed ≡ p.core.system.taken → IsUntaken p.core.system f → IsFrameAt (take_point p) f
  frame_at s B p v f at none is = record {
    body = is.body ∙ ap body_bytes (sym same);
    records = is.records ∙ ap length (sym same);
  }
    where
      run : RunsAt (bases_of s) s.log no_image (moment_of p)
      run = at.run.run

      all : p.core.system.records ≡ length (log_after s.log p.core.system)
      all = counted (bases_of s) s.log p run

      at_least : p.core.system.first ≤ p.core.system.records
      at_least = omega (arith, all, run.run.first, length-append s.log p.core.system.since)

      same : frame_of (take_point p).log (take_point p).core ≡ drop p.core.system.taken p.core.system.since
      same =
          ap (λ L. drop (p.core.system.first + p.core.vault.flushed) (take (p.core.system.first + (p.core.system.records - p.core.system.first)) L)) run.log
          ∙ (ap (λ n. drop (p.core.system.first + n) (take (p.core.system.first + (p.core.system.records - p.core.system.first)) (log_after s.log p.core.system))) (at.vault.flushed ∙ none)
          ∙ untaken s.log p.core.system.since p.core.system.first p.core.system.taken (p.core.system.first + (p.core.system.records - p.core.system.first)) run.run.first (omega (arith, all, at_least)))

  -- ---- Ok
  pub flushes_all : (gs : List RegionState) (y z : SystemState) (v w : Vaulted V) → v.stopped ≡ false → FlushesFrame means y v w → z ≡ taken y → FlushesAll means gs y v z w
  flushes_all gs y z v w runs said is s B p at = record {
    to = flushed.goes.to;
    batches = batches_on B (take_point p);
    course = (take_point p, takes p, (flushed.goes.to, flushed.goes.step, refl));
    at = record {
      regions = ap (λ (c : CoreState). c.regions) core_is ∙ at.regions;
      system = system_is;
      vault = flushed.goes.is;
      none_in_hand = λ _. now;
    };
    all = all;
    keeps = record {
      under_way = λ h k way. flushed.keeps.under_way h k (first.under_way h k way);
      whole = λ whole. flushed.keeps.whole (first.whole whole);
      held = λ held. flushed.keeps.held (first.held held);
    };
  }
    where
      at_y : p.core.system ≡ y
      at_y = at.system

      fr : IsFrameAt (take_point p) said.0
      fr = frame_at s B p v said.0 at.vault (at.none_in_hand runs ∙ ap (λ (x : SystemState). x.taken) (sym at_y)) (subst (λ (x : SystemState). IsUntaken x said.0) (sym at_y) said.1)

      flushed : Flushed means s B (take_point p) v w
      flushed = flush_goes means s B (take_point p) v w said.0 (took s B p v at.vault) fr said.2

      first : KeepsImage means p (take_point p) v.store v.store
      first = quiet_keeps means p (take_point p) (Does Takes) v.store (takes p) refl refl

      core_is : flushed.goes.to.core ≡ with_vault (take_point p).core (longer p.core.vault (frame_of p.log (take_point p).core))
      core_is = flushed.goes.step.1.0.1.1

      system_is : flushed.goes.to.core.system ≡ z
      system_is = ap (λ (c : CoreState). c.system) core_is ∙ (ap taken at_y ∙ sym is)

      all : stable flushed.goes.to.core ≡ length flushed.goes.to.log
      all = taken_all_is_flushed (bases_of s) s.log (moment_of p) (moment_of flushed.goes.to) at.vault.run.run (moment_of (take_point p), (takes p).1, (moment_of flushed.goes.to, flushed.goes.step.1, refl))

      to_run : RunsAt (bases_of s) s.log no_image (moment_of flushed.goes.to)
      to_run = flushed.goes.is.run.run

      now : w.flushed ≡ z.taken
      now =
          sym flushed.goes.is.vault.flushed
          ∙ (omega (arith, all, ap length to_run.log, counted (bases_of s) s.log flushed.goes.to to_run, to_run.run.first, length-append s.log flushed.goes.to.core.system.since, ap (λ (x : SystemState). x.taken) system_is, ap (λ (x : SystemState). x.taken) is, ap (λ (x : SystemState). x.records) system_is, ap (λ (x : SystemState). x.records) is, ap (λ (x : SystemState). x.first) system_is, ap (λ (x : SystemState). x.first) is))

  -- ---- a fault
  pub flush_fails : (gs : List RegionState) (y z : SystemState) (v w : Vaulted V) → FailsFrame means y v w → z ≡ store_stopped (taken y) → FlushFails means gs y v z w
  flush_fails gs y z v w said is s B p at = record {
    to = q;
    course = (take_point p, takes p, (failed.to, failed.step, (q, stops, refl)));
    at = record {
      regions = ap (λ (c : CoreState). c.regions) core_is ∙ at.regions;
      system = ap (λ (c : CoreState). store_stopped c.system) core_is ∙ (ap (λ (x : SystemState). store_stopped (taken x)) at.system ∙ sym is);
      vault = quiet_goes means s B failed.to q (Does Stops) w failed.is stops refl (λ F. refl) refl;
      none_in_hand = λ runs. absurd (ends (sym (ap (λ (x : Vaulted V). x.stopped) said.2.vault) ∙ runs));
    };
  }
    where
      fr : IsFrameAt (take_point p) said.0
      fr = frame_at s B p v said.0 at.vault (at.none_in_hand said.2.ran ∙ ap (λ (x : SystemState). x.taken) (sym at.system)) (subst (λ (x : SystemState). IsUntaken x said.0) (sym at.system) said.1)

      failed : Goes means s (take_point p) (Does (Faults (means.faults w.store))) B w
      failed = flush_faults means s B (take_point p) v w said.0 (took s B p v at.vault) fr said.2

      core_is : failed.to.core ≡ with_vault (take_point p).core (faulted p.core.vault (means.faults w.store))
      core_is = failed.step.1.0.2.1

      q : Point
      q = record failed.to { core = with_system failed.to.core (store_stopped failed.to.core.system); copies = copies_after failed.to.core Stops failed.to.copies }

      stops : IsPointStep failed.to (Does Stops) q
      stops = (refl, ((ap (λ (c : CoreState). c.vault.stopped) core_is, (refl, refl)), refl), refl)

      ends : true ≡ false → ⊥
      ends e = cc

  -- ---- wholeness
  pub still_whole : (gs : List RegionState) (y z : SystemState) (v w : Vaulted V) (n : ℕ) → TornTold Log v.end n (means.told v.store) (means.told w.store)
      → z.sizes ≡ y.sizes → z.table ≡ y.table → IsWholeCore means.told gs y v → IsWholeCore means.told gs z w
  still_whole gs y z v w n torn sizes table is = record {
    parts = λ u. over u (is.parts u);
    files = torn_over Log v.end n (means.told v.store) (means.told w.store) (HoldsPlaces gs) (HoldsPlaces gs) torn (λ a b same places side r g at clean. subst (λ bytes. place_of (r + 1) ≤ length bytes) (sym (same_image b a side same)) (places side r g at clean)) is.files;
  }
    where
      over : (u : VaultState) → IsWhole (record { regions = gs; system = y; vault = u }) → IsWhole (record { regions = gs; system = z; vault = u })
      over u whole = record {
        regions = whole.regions ∙ ap regions (sym sizes);
        undos = λ t. subst (λ x. AreOfKind x (map.get z.table t)) (sym sizes) (subst (λ m. AreOfKind y.sizes (map.get m t)) (sym table) (whole.undos t));
        dead = λ r h held dead. subst (λ m. latched_in (state_in (map.get m h.txn)) ≡ Some r) (sym table) (whole.dead r h held dead);
        named = λ t r state. whole.named t r (subst (λ m. state_in (map.get m t) ≡ Some (Dead (Some r))) table state);
        live = λ r h held lives. subst (λ m. is_alive (state_in (map.get m h.txn)) ≡ true) (sym table) (whole.live r h held lives);
      }

  -- ---- commits
  pub committed_stands : CommittedStands means
  committed_stands s B p gs y v at all = IfSome_then (means.told v.store) (acknowledged_stands means s B p v at.vault)
      (λ fs spelled c left. let D = spelled c left in (D.0, D.1, λ t is. D.2 t (subst (λ L. Contains (committed L) t) (sym whole) is)))
    where
      run : RunsAt (bases_of s) s.log no_image (moment_of p)
      run = at.vault.run.run

      whole : take (stable p.core) (log_after s.log p.core.system) ≡ p.log
      whole = ap (take (stable p.core)) (sym run.log) ∙ take_all (stable p.core) p.log (omega (arith, all))
