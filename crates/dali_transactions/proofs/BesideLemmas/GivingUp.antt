-- A call of one client fails while another's checkpoint is under way.
use Rattle.std.proofs.Common.{◌≡◌, ℕ, Bool, true, List, [], ◌∷◌, Option, refl, ap, sym, ◌∙◌}
use Rattle.dali_record.specs.declared.records.Record.{Record}
use Rattle.dali_region.specs.State.{RegionState}
use Rattle.dali_store.specs.Store.{Files as Disk}
use Rattle.dali_store.specs.declared.store.Store.{Ghosts}
use Rattle.dali_runs.specs.State.{SystemState, CoreState}
use Rattle.dali_runs.specs.Steps.{taken, store_stopped}
use Rattle.dali_runs.specs.Courses.{Commits, Takes, Faults, Stops}
use Rattle.dali_crash.specs.Checkpoints.{Point, Does, IsPointCourse}
use Rattle.dali_crash.specs.Traces.{Start}
use Rattle.dali_core.specs.Vault.Vaulted.{Vaulted}
use Rattle.dali_core.specs.Cores.{IsCoreAt}
use Rattle.dali_core.specs.Flushed.{FlushFails, HasStopped}
use Rattle.dali_checkpoint.specs.Kept.{given_up}
use Rattle.dali_checkpoint.specs.Laws.{Ends}
use Rattle.dali_checkpoint.proofs.Faults.{more, gives_up}
use Rattle.dali_transactions.specs.Committed.{HasFailed}
use Rattle.dali_transactions.specs.Beside.Beside.{FlushEnds, CommitEnds}

by_core : (c d e : CoreState) → d ≡ e → e.system.checking ≡ c.system.checking → d.system.checking ≡ c.system.checking
by_core c d e is same = ap (λ (k : CoreState). k.system.checking) is ∙ same

-- the flag stays as it was
fault_checks : (p q : Point) (n : ℕ) → IsPointCourse p (Does Takes ∷ Does (Faults n) ∷ Does Stops ∷ []) q → q.core.system.checking ≡ p.core.system.checking
fault_checks p q n c =
    ap (λ (x : Point). x.core.system.checking) (sym c.2.2.2)
    ∙ (by_core c.2.0.core c.2.2.0.core _ c.2.2.1.1.0.1.1 refl
    ∙ (by_core c.0.core c.2.0.core _ c.2.1.1.0.2.1 refl
    ∙ by_core p.core c.0.core _ c.1.1.0.1 refl))

module _ {V : Type 0} (means : Ghosts V) where
  flush_at : (s : Start) (B : List (List Record)) (p : Point) (gs : List RegionState) (y z : SystemState) (v w : Vaulted V) → FlushFails means gs y v z w → w.stopped ≡ true → IsCoreAt means s B p gs y v → y.checking ≡ true → z.checking ≡ y.checking
      → (failed : Bool) → Ends means s p gs (given_up failed z) w
  flush_at s B p gs y z v w fails stopped at flag same failed =
      let is : HasStopped means s B p gs z w = fails s B p at in
      more means s p is.to gs (given_up failed z) w (Does Takes ∷ Does (Faults (means.faults w.store)) ∷ Does Stops ∷ []) is.course (gives_up means s B is.to gs z w failed is.at (same ∙ flag) (λ e. stopped))

  pub flush_ends : FlushEnds means
  flush_ends s B p gs y v w fails stopped = record {
    copying = λ c h is failed. flush_at s B p gs y (store_stopped (taken y)) v w fails stopped is.at is.flag refl failed;
    settled = λ c h n is failed. flush_at s B p gs y (store_stopped (taken y)) v w fails stopped is.at is.flag refl failed;
  }

  commit_at : (s : Start) (B : List (List Record)) (p : Point) (gs : List RegionState) (y z : SystemState) (v w : Vaulted V) (t : ℕ) → HasFailed means s B p gs y v t z w → w.stopped ≡ true → y.checking ≡ true → (failed : Bool) → Ends means s p gs (given_up failed z) w
  commit_at s B p gs y z v w t e stopped flag failed =
      let same : z.checking ≡ y.checking =
      ap (λ (x : SystemState). x.checking) (sym e.stopped.at.system)
      ∙ (fault_checks e.logged.to e.stopped.to (means.faults w.store) e.stopped.course
      ∙ ap (λ (x : SystemState). x.checking) e.logged.stands.at.system) in
      let behind = gives_up means s B e.stopped.to gs z w failed e.stopped.at (same ∙ flag) (λ f. stopped) in
      more means s p e.logged.to gs (given_up failed z) w (Does (Commits t) ∷ []) e.logged.course
      (more means s e.logged.to e.stopped.to gs (given_up failed z) w (Does Takes ∷ Does (Faults (means.faults w.store)) ∷ Does Stops ∷ []) e.stopped.course behind)

  pub commit_ends : CommitEnds means
  commit_ends s B p gs y z v w t e stopped = record {
    copying = λ c h is failed. commit_at s B p gs y z v w t e stopped is.flag failed;
    settled = λ c h n is failed. commit_at s B p gs y z v w t e stopped is.flag failed;
  }
