-- A transaction of a core commits.
--     HasCommitted s p t ..    its commit was logged and flushed, and then what it removed was freed, and its end logged
--     CommitGoes gs y v t hs z w       so it is, wherever the core stands in a run and t is between two calls
--     HasFailed s B p t ..     its commit was logged, and isn't flushed: the store has failed
--     CommitFails gs y v t z w         so it is
--     CommitIsRight            each disk that a crash inside one leaves spells files that restart right at a point whose log has at most the commit more
use Rattle.std.specs.Prelude.{◌≡◌, ℕ, ◌<◌, ◌≤◌, false, List, [], ◌∷◌, ◌++◌, Option, Some, None, IfSome, length}
use Rattle.dali_record.specs.declared.records.Record.{Record}
use Rattle.dali_record.specs.declared.records.Record.TheVariants.{Commit, Ended}
use Rattle.dali_record.specs.Files.{Files}
use Rattle.dali_region.specs.State.{RegionState}
use Rattle.dali_att.specs.declared.state.State.TheVariants.{Live}
use Rattle.dali_store.specs.Store.{Files as Disk}
use Rattle.dali_store.specs.declared.store.Store.{Ghosts}
use Rattle.dali_runs.specs.State.{SystemState, state_of, stable}
use Rattle.dali_runs.specs.Steps.{commit_logged}
use Rattle.dali_runs.specs.Courses.{Commits as CommitsStep}
use Rattle.dali_crash.specs.Checkpoints.{Point, Does, IsPointCourse}
use Rattle.dali_crash.specs.Traces.{Start}
use Rattle.dali_crash.specs.Disks.Disks.{AllSpell}
use Rattle.dali_core.specs.Vault.Vaulted.{Vaulted}
use Rattle.dali_core.specs.Steps.Called.{KeepsImage}
use Rattle.dali_calls.specs.Single.Single.{MayCall}
use Rattle.dali_core.specs.Flushed.{AllFlushed, HasStopped}
use Rattle.dali_core.specs.Moments.{FlushLeaves, IsRightWithin}
use Rattle.dali_transactions.specs.Stands.{StandsAt}
use Rattle.dali_calls.specs.Single.Settling.{IsSoloOf}
use Rattle.dali_transactions.specs.Ended.{HasCome}

module _ {V : Type 0} (means : Ghosts V) where
  -- one step logs the commit, with the vault as it was
  pub record IsLogged (s : Start) (B : List (List Record)) (p : Point) (gs : List RegionState) (y : SystemState) (v : Vaulted V) (t : ℕ) : Type 0 where
    pub to : Point
    pub course : IsPointCourse p (Does (CommitsStep t) ∷ []) to
    pub log : to.log ≡ p.log ++ Commit t ∷ []
    pub stands : StandsAt means s B to gs (commit_logged y t) v
    pub keeps : KeepsImage means p to v.store v.store

  pub record HasCommitted (s : Start) (B : List (List Record)) (p : Point) (gs : List RegionState) (y : SystemState) (v : Vaulted V) (t : ℕ) (hs : List RegionState) (z : SystemState) (w : Vaulted V) : Type 0 where
    pub logged : IsLogged s B p gs y v t
    -- the system behind the flush
    pub between : SystemState
    pub flushed : AllFlushed means s logged.to gs v between w
    pub settled : HasCome means t (IsSoloOf t) (Ended t ∷ []) s flushed.batches flushed.to w hs z
    -- the commit is among the flushed records
    pub durable : length p.log < stable settled.to.core

  abbrev pub CommitGoes : List RegionState → SystemState → Vaulted V → ℕ → List RegionState → SystemState → Vaulted V → Type 0
  CommitGoes gs y v t hs z w =
      (s : Start) (B : List (List Record)) (p : Point) → StandsAt means s B p gs y v → MayCall p.log p.core t → HasCommitted s B p gs y v t hs z w

  pub record HasFailed (s : Start) (B : List (List Record)) (p : Point) (gs : List RegionState) (y : SystemState) (v : Vaulted V) (t : ℕ) (z : SystemState) (w : Vaulted V) : Type 0 where
    pub logged : IsLogged s B p gs y v t
    pub stopped : HasStopped means s B logged.to gs z w
    pub stands : StandsAt means s B stopped.to gs z w
    pub log : stopped.to.log ≡ p.log ++ Commit t ∷ []
    pub unflushed : stable stopped.to.core ≤ length p.log

  abbrev pub CommitFails : List RegionState → SystemState → Vaulted V → ℕ → SystemState → Vaulted V → Type 0
  CommitFails gs y v t z w =
      (s : Start) (B : List (List Record)) (p : Point) → StandsAt means s B p gs y v → MayCall p.log p.core t → HasFailed s B p gs y v t z w

  -- ---- a crash inside it
  pub record IsRightBehind (s : Start) (p : Point) (t : ℕ) (F : Files) : Type 0 where
    pub logged : Point
    pub course : IsPointCourse p (Does (CommitsStep t) ∷ []) logged
    pub right : IsRightWithin s logged F

  abbrev pub CommitIsRight : Type 0
  CommitIsRight =
      (s : Start) (B : List (List Record)) (p : Point) (gs : List RegionState) (y : SystemState) (v : Vaulted V) (t : ℕ) → StandsAt means s B p gs y v
      → MayCall p.log p.core t → state_of y t ≡ Some Live → y.stop ≡ None → v.stopped ≡ false
      → IfSome (means.told v.store) (λ _. AllSpell (FlushLeaves means.may_leave (commit_logged y t) v) (IsRightBehind s p t))
