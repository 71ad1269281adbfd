-- A transaction of a core at a point of a run is cleaned up.
--     CleanedAt, EndsAt        the steps of a clean-up lead to a point where its end is the last record, with the vault as it was, and the core is
--                              whole again
--     IsLeftAt, LeavesAt       it was refused: they lead to a point where its claim is given back and the core whole again, with the vault as it was
use Rattle.std.specs.Prelude.{◌≡◌, ℕ, List, [], ◌∷◌, ◌++◌, Option, None, map}
use Rattle.dali_record.specs.declared.records.Record.{Record}
use Rattle.dali_record.specs.declared.records.Record.TheVariants.{Ended}
use Rattle.dali_region.specs.State.{RegionState}
use Rattle.dali_store.specs.Store.{Files as Disk}
use Rattle.dali_store.specs.declared.store.Store.{Ghosts}
use Rattle.dali_runs.specs.State.{SystemState}
use Rattle.dali_runs.specs.Wholes.{IsWhole}
use Rattle.dali_runs.specs.Courses.{Step, Ends as EndsTxn, GivesBack as GivesTxnBack}
use Rattle.dali_crash.specs.Checkpoints.{Point, Does, IsPointCourse}
use Rattle.dali_crash.specs.Traces.{Start}
use Rattle.dali_core.specs.Vault.Vaulted.{Vaulted}
use Rattle.dali_clean.specs.Steps.{IsCleanUp, AreBeside}
use Rattle.dali_core.specs.Steps.Called.{KeepsImage}
use Rattle.dali_core.specs.Cores.{IsCoreAt}

module _ {V : Type 0} (means : Ghosts V) where
  pub record CleanedAt (s : Start) (B : List (List Record)) (p : Point) (v : Vaulted V) (t : ℕ) (gs : List RegionState) (z : SystemState) : Type 0 where
    pub to : Point
    pub steps : List Step
    pub course : IsPointCourse p (map Does steps) to
    pub log : List Record
    pub ends : to.log ≡ log ++ Ended t ∷ []
    pub by : IsCleanUp p.core.system t (EndsTxn t) steps
    pub beside : AreBeside t p.core.system steps
    pub at : IsCoreAt means s B to gs z v
    pub whole : IsWhole to.core
    pub keeps : KeepsImage means p to v.store v.store

  abbrev pub EndsAt : List RegionState → SystemState → Vaulted V → ℕ → List RegionState → SystemState → Type 0
  EndsAt gs y v t gs' z = (s : Start) (B : List (List Record)) (p : Point) → IsCoreAt means s B p gs y v → IsWhole p.core → CleanedAt s B p v t gs' z

  pub record IsLeftAt (s : Start) (B : List (List Record)) (p : Point) (v : Vaulted V) (t : ℕ) (gs : List RegionState) (z : SystemState) : Type 0 where
    pub to : Point
    pub steps : List Step
    pub course : IsPointCourse p (map Does steps) to
    pub by : IsCleanUp p.core.system t (GivesTxnBack t None) steps
    pub beside : AreBeside t p.core.system steps
    pub at : IsCoreAt means s B to gs z v
    pub whole : IsWhole to.core
    pub keeps : KeepsImage means p to v.store v.store

  abbrev pub LeavesAt : List RegionState → SystemState → Vaulted V → ℕ → List RegionState → SystemState → Type 0
  LeavesAt gs y v t gs' z = (s : Start) (B : List (List Record)) (p : Point) → IsCoreAt means s B p gs y v → IsWhole p.core → IsLeftAt s B p v t gs' z
