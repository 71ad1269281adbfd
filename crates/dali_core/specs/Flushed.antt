-- All records of a core are flushed.
--     IsUntaken y f            the frame has the records that aren't taken
--     Grows y v w              the vault w is v behind a flush of these
--     FlushesFrame, FailsFrame a flush of these led from v to w, or met a fault
--     FlushesAll               the steps of a taking and a flush lead to a point where all records are flushed
--     FlushFails               those of a taking, a fault and a stop
--     CommittedStands          where all records are flushed, each crash image has the commits of all
use Rattle.std.specs.Prelude.{◌≡◌, ℕ, List, [], ◌∷◌, Option, IfSome, length, drop, Contains}
use Rattle.dali_record.specs.declared.records.Record.{Record}
use Rattle.dali_record.specs.Log.{committed}
use Rattle.dali_record.specs.Files.{Files}
use Rattle.dali_region.specs.State.{RegionState}
use Rattle.dali_store.specs.Store.{Files as Disk}
use Rattle.dali_store.specs.declared.store.Store.{Ghosts}
use Rattle.dali_log.specs.Batch.{Framed}
use Rattle.dali_log.specs.Log.{body_bytes}
use Rattle.dali_runs.specs.State.{SystemState, stable}
use Rattle.dali_runs.specs.Run.{log_in}
use Rattle.dali_runs.specs.Courses.{Takes, Flushes, Faults, Stops}
use Rattle.dali_crash.specs.Checkpoints.{Point, Does, IsPointCourse}
use Rattle.dali_crash.specs.Traces.{Start}
use Rattle.dali_crash.specs.Disks.Disks.{AllSpell}
use Rattle.dali_core.specs.Vault.Vaulted.{Vaulted, grown}
use Rattle.dali_core.specs.Steps.Said.{HasFlushed, FlushHasFailed}
use Rattle.dali_core.specs.Steps.Called.{KeepsImage}
use Rattle.dali_core.specs.Cores.{IsCoreAt}

pub record IsUntaken (y : SystemState) (f : Framed) : Type 0 where
  pub body : f.body ≡ body_bytes (drop y.taken y.since)
  pub records : f.records ≡ length (drop y.taken y.since)

abbrev pub Grows : {V : Type 0} → SystemState → Vaulted V → Vaulted V → Type 0
Grows y v w = (f : Framed) × IsUntaken y f × (w ≡ grown v w.store f)

module _ {V : Type 0} (means : Ghosts V) where
  abbrev pub FlushesFrame : SystemState → Vaulted V → Vaulted V → Type 0
  FlushesFrame y v w = (f : Framed) × IsUntaken y f × HasFlushed means v f w

  abbrev pub FailsFrame : SystemState → Vaulted V → Vaulted V → Type 0
  FailsFrame y v w = (f : Framed) × IsUntaken y f × FlushHasFailed means v f w

  pub record AllFlushed (s : Start) (p : Point) (gs : List RegionState) (v : Vaulted V) (z : SystemState) (w : Vaulted V) : Type 0 where
    pub to : Point
    pub batches : List (List Record)
    pub course : IsPointCourse p (Does Takes ∷ Does Flushes ∷ []) to
    pub at : IsCoreAt means s batches to gs z w
    pub all : stable to.core ≡ length to.log
    pub keeps : KeepsImage means p to v.store w.store

  abbrev pub FlushesAll : List RegionState → SystemState → Vaulted V → SystemState → Vaulted V → Type 0
  FlushesAll gs y v z w = (s : Start) (B : List (List Record)) (p : Point) → IsCoreAt means s B p gs y v → AllFlushed s p gs v z w

  pub record HasStopped (s : Start) (B : List (List Record)) (p : Point) (gs : List RegionState) (z : SystemState) (w : Vaulted V) : Type 0 where
    pub to : Point
    pub course : IsPointCourse p (Does Takes ∷ Does (Faults (means.faults w.store)) ∷ Does Stops ∷ []) to
    pub at : IsCoreAt means s B to gs z w

  abbrev pub FlushFails : List RegionState → SystemState → Vaulted V → SystemState → Vaulted V → Type 0
  FlushFails gs y v z w = (s : Start) (B : List (List Record)) (p : Point) → IsCoreAt means s B p gs y v → HasStopped s B p gs z w

  -- the commits of the point's log
  abbrev pub HasCommits : Point → Files → Type 0
  HasCommits p F = (t : ℕ) → Contains (committed p.log) t → Contains (committed (log_in F)) t

  abbrev pub CommittedStands : Type 0
  CommittedStands =
      (s : Start) (B : List (List Record)) (p : Point) (gs : List RegionState) (y : SystemState) (v : Vaulted V) → IsCoreAt means s B p gs y v
      → stable p.core ≡ length p.log
      → IfSome (means.told v.store) (λ _. AllSpell (means.may_leave v.store) (HasCommits p))
