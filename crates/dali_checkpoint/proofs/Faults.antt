-- What the calls of a checkpoint leave where one is refused or meets a fault is behind steps of a run too.
use Rattle.std.proofs.Common.{◌≡◌, ℕ, ◌+◌, true, false, List, [], ◌∷◌, ◌++◌, length, Option, None, is_some, refl, ap, sym, subst, ◌∙◌, inl, inr}
use Rattle.std.specs.Prelude.{Bool, slice_get}
use Rattle.dali_record.specs.declared.records.Record.{Record}
use Rattle.dali_record.specs.Spelling.{words_bytes}
use Rattle.dali_region.specs.State.{RegionState}
use Rattle.dali_region.specs.Answers.{is_dirty}
use Rattle.dali_store.specs.Store.{Files as Disk}
use Rattle.dali_store.specs.declared.store.Store.{Ghosts}
use Rattle.dali_runs.specs.State.{SystemState}
use Rattle.dali_runs.specs.Steps.{taken, store_stopped, in_checkpoint}
use Rattle.dali_runs.specs.Keeps.{with_system}
use Rattle.dali_runs.specs.Courses.{Takes, Flushes, Faults, Stops}
use Rattle.dali_crash.specs.Checkpoints.{Head, StoreStep, Does, Starts, Keeps, CopyFails, HeadFails, Syncs, SyncFails, TurnFails, Finishes, Point, IsPointStep, IsPointCourse, target, side_of, head_now, with_flag, copies_after}
use Rattle.dali_crash.specs.Traces.{Start}
use Rattle.dali_crash.specs.Disks.Disks.{image_name}
use Rattle.dali_crash.specs.Disks.Places.{place_of}
use Rattle.dali_core.specs.Vault.Vaulted.{Vaulted, faulted}
use Rattle.dali_core.specs.Steps.At.{Goes}
use Rattle.dali_core.specs.Steps.Said.{WriteHasFailed}
use Rattle.dali_core.proofs.StepsLemmas.Steps.{quiet_goes, head_faults, copy_faults, sync_faults, turn_faults}
use Rattle.dali_core.specs.Cores.{IsCoreAt}
use Rattle.dali_core.specs.Flushed.{FailsFrame, AllFlushed}
use Rattle.dali_core.proofs.Flushing.{flushes_all, flush_fails}
use Rattle.dali_checkpoint.specs.Kept.{Checkpointed, side_in, given_up}
use Rattle.dali_checkpoint.specs.Done.{IsLost}
use Rattle.dali_checkpoint.specs.Running.{IsCopying}
use Rattle.dali_checkpoint.specs.declared.error.CheckpointError.{CheckpointError}
use Rattle.dali_checkpoint.specs.declared.error.CheckpointError.TheVariants.{Failed, InProgress, Stopped, LogFull, Fault, OutOfMemory}
use Rattle.dali_checkpoint.specs.Laws.{lost_end, giving_up, Ends, EndsBy, StartFaults, CopyFaults, RunFaults, SettleFaults, CertifyFaults, FailureEnds, GivesUp}
use Rattle.dali_checkpoint.proofs.Calls.{flagged, course_join, untouched_now, flush_ran, flag_rises, flagged_at, start_keeps, KeptAt, side_is_next, copying_flushed, CopyingFlushed, settled_flushed, SettledFlushed, certify_turn, CertifyTurn}

module _ {V : Type 0} (means : Ghosts V) where
  -- ---- steps that needn't be named
  pub ended : (s : Start) (p : Point) (xs : List StoreStep) (gs : List RegionState) (z : SystemState) (w : Vaulted V) → EndsBy means s p xs gs z w → Ends means s p gs z w
  ended s p xs gs z w e = record { to = e.to; batches = e.batches; steps = xs; course = e.course; at = e.at }

  pub more : (s : Start) (p q : Point) (gs : List RegionState) (z : SystemState) (w : Vaulted V) (xs : List StoreStep) → IsPointCourse p xs q → Ends means s q gs z w → Ends means s p gs z w
  more s p q gs z w xs course e = record { to = e.to; batches = e.batches; steps = xs ++ e.steps; course = course_join p q e.to xs e.steps course e.course; at = e.at }

  -- ---- steps behind others
  behind : (s : Start) (p q : Point) (gs : List RegionState) (z : SystemState) (w : Vaulted V) (xs ys : List StoreStep) → IsPointCourse p xs q → EndsBy means s q ys gs z w → EndsBy means s p (xs ++ ys) gs z w
  behind s p q gs z w xs ys course e = record { to = e.to; batches = e.batches; course = course_join p q e.to xs ys course e.course; at = e.at }

  stop : (s : Start) (p : Point) (xs : List StoreStep) (gs : List RegionState) (z : SystemState) (w : Vaulted V) → w.stopped ≡ true → EndsBy means s p xs gs z w
      → EndsBy means s p (xs ++ Does Stops ∷ []) gs (store_stopped z) w
  stop s p xs gs z w stopped e = record {
    to = q;
    batches = e.batches;
    course = course_join p e.to q xs (Does Stops ∷ []) e.course (q, stops, refl);
    at = record {
      regions = e.at.regions;
      system = ap store_stopped e.at.system;
      vault = quiet_goes means s e.batches e.to q (Does Stops) w e.at.vault stops refl (λ F. refl) refl;
      none_in_hand = e.at.none_in_hand;
    };
  }
    where
      q : Point
      q = record e.to { core = with_system e.to.core (store_stopped e.to.core.system); copies = copies_after e.to.core Stops e.to.copies }

      stops : IsPointStep e.to (Does Stops) q
      stops = (refl, ((e.at.vault.vault.stopped ∙ stopped, (refl, refl)), refl), refl)

  finish : (s : Start) (p : Point) (xs : List StoreStep) (gs : List RegionState) (z : SystemState) (w : Vaulted V) → z.checking ≡ true → EndsBy means s p xs gs z w
      → EndsBy means s p (xs ++ Finishes ∷ []) gs (in_checkpoint z false) w
  finish s p xs gs z w checking e = record {
    to = q;
    batches = e.batches;
    course = course_join p e.to q xs (Finishes ∷ []) e.course (q, finishes, refl);
    at = record {
      regions = e.at.regions;
      system = ap (λ (x : SystemState). in_checkpoint x false) e.at.system;
      vault = quiet_goes means s e.batches e.to q Finishes w e.at.vault finishes refl (λ F. refl) refl;
      none_in_hand = e.at.none_in_hand;
    };
  }
    where
      q : Point
      q = record e.to { core = with_flag e.to.core false; begun = None }

      finishes : IsPointStep e.to Finishes q
      finishes = (ap (λ (x : SystemState). x.checking) e.at.system ∙ checking, refl)

  nothing_by : (s : Start) (B : List (List Record)) (p : Point) (gs : List RegionState) (y : SystemState) (v : Vaulted V) → IsCoreAt means s B p gs y v → EndsBy means s p [] gs y v
  nothing_by s B p gs y v at = record { to = p; batches = B; course = refl; at = at }

  pub nothing : (s : Start) (B : List (List Record)) (p : Point) (gs : List RegionState) (y : SystemState) (v : Vaulted V) → IsCoreAt means s B p gs y v → Ends means s p gs y v
  nothing s B p gs y v at = ended s p [] gs y v (nothing_by s B p gs y v at)

  -- a step that met a fault: the vault stopped, and the rest of the core is as it was
  fault : (s : Start) (B : List (List Record)) (p : Point) (gs : List RegionState) (y : SystemState) (v w : Vaulted V) (x : StoreStep) → IsCoreAt means s B p gs y v
      → (goes : Goes means s p x B w) → goes.to.core.regions ≡ p.core.regions → goes.to.core.system ≡ p.core.system → w ≡ faulted v w.store
      → EndsBy means s p (x ∷ []) gs y w
  fault s B p gs y v w x at goes regions system vault = record {
    to = goes.to;
    batches = B;
    course = (goes.to, goes.step, refl);
    at = record {
      regions = regions ∙ at.regions;
      system = system ∙ at.system;
      vault = goes.is;
      none_in_hand = λ runs. absurd (clash (sym (ap (λ (z : Vaulted V). z.stopped) vault) ∙ runs));
    };
  }
    where
      clash : true ≡ false → ⊥
      clash e = cc

  has_stopped : (v w : Vaulted V) → w ≡ faulted v w.store → w.stopped ≡ true
  has_stopped v w vault = ap (λ (z : Vaulted V). z.stopped) vault

  flush_fault : (s : Start) (B : List (List Record)) (p : Point) (gs : List RegionState) (y : SystemState) (v w : Vaulted V) → IsCoreAt means s B p gs y v → FailsFrame means y v w
      → EndsBy means s p (Does Takes ∷ Does (Faults (means.faults w.store)) ∷ Does Stops ∷ []) gs (store_stopped (taken y)) w
  flush_fault s B p gs y v w at said =
      let f = flush_fails means gs y (store_stopped (taken y)) v w said refl s B p at in
      record { to = f.to; batches = B; course = f.course; at = f.at }

  -- a write of the head, while a checkpoint keeps something
  head_fault : (s : Start) (B : List (List Record)) (p : Point) (gs : List RegionState) (y : SystemState) (v w : Vaulted V) (h : Head) (at n : ℕ) → IsCoreAt means s B p gs y v
      → is_some p.begun ≡ true → WriteHasFailed means v (image_name (target p)) at n w
      → EndsBy means s p (HeadFails h (means.faults w.store) ∷ Does Stops ∷ []) gs (store_stopped y) w
  head_fault s B p gs y v w h place n at begun said =
      let goes = head_faults means s B p v w h place n at.vault begun said in
      stop s p (HeadFails h (means.faults w.store) ∷ []) gs y w (has_stopped v w said.vault)
      (fault s B p gs y v w (HeadFails h (means.faults w.store)) at goes (ap (λ (q : Point). q.core.regions) goes.step.1) (ap (λ (q : Point). q.core.system) goes.step.1) said.vault)

  -- ---- a start
  pub start_faults : StartFaults means
  start_faults s B p gs y v w idle (inl said) = (
    head_now p.log p.core,
    subst (λ z. EndsBy means s p (Starts ∷ Does Takes ∷ Does (Faults (means.faults w.store)) ∷ Does Stops ∷ Finishes ∷ []) gs z w) (ap (in_checkpoint (store_stopped (taken y))) (sym idle.flag))
        (finish s p (Starts ∷ Does Takes ∷ Does (Faults (means.faults w.store)) ∷ Does Stops ∷ []) gs (store_stopped (taken (in_checkpoint y true))) w refl
        (behind s p (flagged p) gs (store_stopped (taken (in_checkpoint y true))) w (Starts ∷ []) (Does Takes ∷ Does (Faults (means.faults w.store)) ∷ Does Stops ∷ []) (flagged p, flag_rises means s B p gs y v idle, refl)
        (flush_fault s B (flagged p) gs (in_checkpoint y true) v w (flagged_at means s B p gs y v idle) frame))),
  )
    where
      frame : FailsFrame means (in_checkpoint y true) v w
      frame = (said.0, record { body = said.1.body; records = said.1.records }, said.2)
  start_faults s B p gs y v w idle (inr said) = (
    h,
    subst (λ z. EndsBy means s p (Starts ∷ Does Takes ∷ Does Flushes ∷ Keeps ∷ HeadFails h (means.faults w.store) ∷ Does Stops ∷ Finishes ∷ []) gs z w) (ap (in_checkpoint (store_stopped (taken y))) (sym idle.flag))
        (finish s p (Starts ∷ Does Takes ∷ Does Flushes ∷ Keeps ∷ HeadFails h (means.faults w.store) ∷ Does Stops ∷ []) gs (store_stopped (in_checkpoint (taken y) true)) w refl
        (behind s p k.to gs (store_stopped (in_checkpoint (taken y) true)) w (Starts ∷ Does Takes ∷ Does Flushes ∷ Keeps ∷ []) (HeadFails h (means.faults w.store) ∷ Does Stops ∷ []) k.course
        (head_fault s k.batches k.to gs (in_checkpoint (taken y) true) said.mid w h 0 64 k.at (ap is_some k.begun)
        (subst (λ n. WriteHasFailed means said.mid (image_name (side_of (n + 1))) 0 64 w) (sym (k.at.vault.vault.current ∙ ap (λ (z : Vaulted V). z.current) said.flushed.2.vault)) said.failed)))),
  )
    where
      k : KeptAt means s p gs (in_checkpoint (taken y) true) said.mid
      k = start_keeps means s B p gs y v said.mid idle said.flushed

      h : Head
      h = head_now k.to.log k.to.core

  -- ---- a copy
  pub copy_faults_end : CopyFaults means
  copy_faults_end s B p gs y v w c h g k at dirty said =
      let side = side_is_next means s B p gs y v c h k.at.vault.run k.is in
      let goes = copy_faults means s B p v w c.copied (length p.log) g k.at.vault
      (record { at = ap (λ l. slice_get l c.copied) k.at.regions ∙ at; under_way = ap is_some k.is.begun; dirty = subst (λ z. is_dirty g z ≡ true) side dirty; untouched = untouched_now p.log c.copied })
      (subst (λ z. WriteHasFailed means v (image_name z) (place_of c.copied) (length (words_bytes g.back)) w) side said) in
      fault s B p gs y v w (CopyFails c.copied [] (means.faults w.store)) k.at goes (ap (λ (q : Point). q.core.regions) goes.step.4) (ap (λ (q : Point). q.core.system) goes.step.4) said.vault

  -- a write of any bytes
  range_faults : (s : Start) (B : List (List Record)) (p : Point) (gs : List RegionState) (y : SystemState) (v w : Vaulted V) (c : Checkpointed) (h : Head) (place n : ℕ) → IsCopying means s B p gs y v c h
      → WriteHasFailed means v (image_name (side_in c)) place n w → EndsBy means s p (HeadFails h (means.faults w.store) ∷ []) gs y w
  range_faults s B p gs y v w c h place n k said =
      let goes = head_faults means s B p v w h place n k.at.vault (ap is_some k.is.begun)
      (subst (λ side. WriteHasFailed means v (image_name side) place n w) (side_is_next means s B p gs y v c h k.at.vault.run k.is) said) in
      fault s B p gs y v w (HeadFails h (means.faults w.store)) k.at goes (ap (λ (q : Point). q.core.regions) goes.step.1) (ap (λ (q : Point). q.core.system) goes.step.1) said.vault

  -- a run
  pub run_faults_end : RunFaults means
  run_faults_end s B p gs y v w c h k said = range_faults s B p gs y v w c h _ _ k said

  -- ---- a settlement
  pub settle_faults : SettleFaults means
  settle_faults s B p gs y v w c h at n k (inl said) = flush_fault s B p gs y v w k.at said
  settle_faults s B p gs y v w c h at n k (inr said) =
      behind s p f.to gs (store_stopped (taken y)) w (Does Takes ∷ Does Flushes ∷ []) (HeadFails h (means.faults w.store) ∷ Does Stops ∷ []) f.course
      (head_fault s f.batches f.to gs (taken y) said.mid w h at n f.is.at (ap is_some f.is.is.begun)
      (subst (λ side. WriteHasFailed means said.mid (image_name side) at n w) (side_is_next means s f.batches f.to gs (taken y) said.mid c h f.is.at.vault.run f.is.is) said.failed))
    where
      f : CopyingFlushed means s p gs (taken y) said.mid c h
      f = copying_flushed means s B p gs y (taken y) v said.mid c h k said.flushed refl

  -- ---- an audit that failed
  nothing_waits : (s : Start) (B : List (List Record)) (p : Point) (gs : List RegionState) (y z : SystemState) (v w : Vaulted V) → IsCoreAt means s B p gs y v → y.checking ≡ true → w ≡ v → z ≡ in_checkpoint y false
      → EndsBy means s p (Finishes ∷ []) gs z w
  nothing_waits s B p gs y z v w at checking same is =
      subst (λ x. EndsBy means s p (Finishes ∷ []) gs x w) (sym is) (subst (λ x. EndsBy means s p (Finishes ∷ []) gs (in_checkpoint y false) x) (sym same) (finish s p [] gs y v checking (nothing_by s B p gs y v at)))

  pub failure_ends : FailureEnds means
  failure_ends s B p gs y z v w at checking (inl (inl said)) = nothing_waits s B p gs y z v w at checking said.1 said.2
  failure_ends s B p gs y z v w at checking (inl (inr said)) = subst (λ x. EndsBy means s p (Does Takes ∷ Does Flushes ∷ Finishes ∷ []) gs x w) (sym said.2)
      (finish s p (Does Takes ∷ Does Flushes ∷ []) gs (taken y) w checking (record { to = f.to; batches = f.batches; course = f.course; at = f.at }))
    where
      f : AllFlushed means s p gs v (taken y) w
      f = flushes_all means gs y (taken y) v w (flush_ran means y v w said.1) said.1 refl s B p at
  failure_ends s B p gs y z v w at checking (inr said) = by_error said.0 said.1
    where
      by_error : (e : CheckpointError) → IsLost means y v z w e → EndsBy means s p (lost_end (means.faults w.store) e) gs z w
      by_error (Stopped cause) lost = nothing_waits s B p gs y z v w at checking lost.2 lost.3
      by_error Fault lost = subst (λ x. EndsBy means s p (Does Takes ∷ Does (Faults (means.faults w.store)) ∷ Does Stops ∷ Finishes ∷ []) gs x w) (sym lost.2)
          (finish s p (Does Takes ∷ Does (Faults (means.faults w.store)) ∷ Does Stops ∷ []) gs (store_stopped (taken y)) w checking (flush_fault s B p gs y v w at lost.1))
      by_error (Failed regions) lost = absurd lost
      by_error InProgress lost = absurd lost
      by_error (LogFull end limit) lost = absurd lost
      by_error OutOfMemory lost = absurd lost

  -- ---- a checkpoint that is given up
  pub gave_up : GivesUp means
  gave_up s B p gs y v true at checking stopped = finish s p (Does Stops ∷ []) gs (store_stopped y) v checking (stop s p [] gs y v (stopped refl) (nothing_by s B p gs y v at))
  gave_up s B p gs y v false at checking stopped = finish s p [] gs y v checking (nothing_by s B p gs y v at)

  pub gives_up : (s : Start) (B : List (List Record)) (p : Point) (gs : List RegionState) (y : SystemState) (v : Vaulted V) (failed : Bool) → IsCoreAt means s B p gs y v → y.checking ≡ true → (failed ≡ true → v.stopped ≡ true)
      → Ends means s p gs (given_up failed y) v
  gives_up s B p gs y v failed at checking stopped = ended s p (giving_up failed) gs (given_up failed y) v (gave_up s B p gs y v failed at checking stopped)

  -- ---- the anchor
  pub certify_faults : CertifyFaults means
  certify_faults s B p gs y v w c h n b k certified (inl said) =
      finish s p (Does Takes ∷ Does (Faults (means.faults w.store)) ∷ Does Stops ∷ []) gs (store_stopped (taken y)) w k.flag (flush_fault s B p gs y v w k.at said)
  certify_faults s B p gs y v w c h n b k certified (inr (inl said)) =
      finish s p (Does Takes ∷ Does Flushes ∷ SyncFails (means.faults w.store) ∷ Does Stops ∷ []) gs (store_stopped (taken y)) w k.flag
      (behind s p f.to gs (store_stopped (taken y)) w (Does Takes ∷ Does Flushes ∷ []) (SyncFails (means.faults w.store) ∷ Does Stops ∷ []) f.course
      (stop s f.to (SyncFails (means.faults w.store) ∷ []) gs (taken y) w (has_stopped said.mid w said.failed.vault)
      (fault s f.batches f.to gs (taken y) said.mid w (SyncFails (means.faults w.store)) f.is.at goes (ap (λ (q : Point). q.core.regions) goes.step.1) (ap (λ (q : Point). q.core.system) goes.step.1) said.failed.vault)))
    where
      f : SettledFlushed means s p gs (taken y) said.mid c h n
      f = settled_flushed means s B p gs y (taken y) v said.mid c h n k said.flushed refl

      goes : Goes means s f.to (SyncFails (means.faults w.store)) f.batches w
      goes = sync_faults means s f.batches f.to said.mid w f.is.at.vault (ap is_some f.is.is.begun) said.failed
  certify_faults s B p gs y v w c h n b k certified (inr (inr said)) =
      finish s p (Does Takes ∷ Does Flushes ∷ Syncs ∷ TurnFails (means.faults w.store) ∷ Does Stops ∷ []) gs (store_stopped (taken y)) w k.flag
      (behind s p t.to gs (store_stopped (taken y)) w (Does Takes ∷ Does Flushes ∷ Syncs ∷ []) (TurnFails (means.faults w.store) ∷ Does Stops ∷ []) t.course
      (stop s t.to (TurnFails (means.faults w.store) ∷ []) gs (taken y) w (has_stopped said.late w said.failed.vault)
      (fault s t.batches t.to gs (taken y) said.late w (TurnFails (means.faults w.store)) t.at goes (ap (λ (q : Point). q.core.regions) goes.step.5) (ap (λ (q : Point). q.core.system) goes.step.5) said.failed.vault)))
    where
      t : CertifyTurn means s p gs (taken y) said.late h b
      t = certify_turn means s B p gs y v said.mid said.late c h n b k certified said.flushed said.synced

      goes : Goes means s t.to (TurnFails (means.faults w.store)) t.batches w
      goes = turn_faults means s t.batches t.to said.late w h b t.end t.at.vault (ap is_some t.may.begun) t.may t.held said.failed
