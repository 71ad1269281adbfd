-- What a crash at any moment of a call leaves, and how many calls of the store the call makes.
--     flush_calls y            a flush of all records makes no call where none waits, else four
--     FlushLeaves y v c        the disk c is left at a moment of one
--     Within .. v w P          a crash at any moment from v to w leaves disks that have P, where the store tells what its reads give
--     IsRightWithin s p F      the files F restart right at a point to which steps that log nothing and leave the regions lead from p
--     FlushIsRight             so does what each disk spells that a crash inside a flush leaves
use Rattle.std.specs.Prelude.{◌≡◌, ◌==◌, ℕ, false, if◌then◌else◌, List, Option, IfSome, length, drop}
use Rattle.dali_record.specs.declared.records.Record.{Record}
use Rattle.dali_region.specs.State.{RegionState}
use Rattle.dali_store.specs.Store.{Files as Disk, LeavesOnly}
use Rattle.dali_log.specs.Appending.{bodies_of, SomeAdded}
use Rattle.dali_log.specs.Log.{body_bytes}
use Rattle.dali_record.specs.Files.{Files}
use Rattle.dali_store.specs.declared.store.Store.{Ghosts}
use Rattle.dali_runs.specs.State.{SystemState}
use Rattle.dali_crash.specs.Checkpoints.{Point, StoreStep, IsPointCourse}
use Rattle.dali_crash.specs.Traces.{Start}
use Rattle.dali_crash.specs.Disks.Disks.{AllSpell}
use Rattle.dali_crash.specs.Disks.Bridges.{LeavesRightAt}
use Rattle.dali_core.specs.Vault.Vaulted.{Vaulted}
use Rattle.dali_core.specs.Cores.{IsCoreAt}

abbrev pub flush_calls : SystemState → ℕ
flush_calls y = if length (drop y.taken y.since) == 0 then 0 else 4

abbrev pub FlushLeaves : {V : Type 0} → (V → Disk → Type 0) → SystemState → Vaulted V → Disk → Type 0
FlushLeaves may_leave y v = SomeAdded (may_leave v.store) v.end (bodies_of (body_bytes (drop y.taken y.since)))

abbrev pub Within : {V : Type 0} → (V → Option Disk) → (V → ℕ) → (V → ℕ → Disk → Type 0) → Vaulted V → Vaulted V → (Disk → Type 0) → Type 0
Within told moment left_since v w P = IfSome (told v.store) (λ _. LeavesOnly moment left_since v.store w.store P)

pub record IsRightWithin (s : Start) (p : Point) (F : Files) : Type 0 where
  pub to : Point
  pub steps : List StoreStep
  pub course : IsPointCourse p steps to
  pub same : to.log ≡ p.log
  pub regions : to.core.regions ≡ p.core.regions
  pub right : LeavesRightAt s to F

module _ {V : Type 0} (means : Ghosts V) where
  abbrev pub FlushIsRight : Type 0
  FlushIsRight =
      (s : Start) (B : List (List Record)) (p : Point) (gs : List RegionState) (y : SystemState) (v : Vaulted V) → IsCoreAt means s B p gs y v
      → v.stopped ≡ false
      → IfSome (means.told v.store) (λ _. AllSpell (FlushLeaves means.may_leave y v) (IsRightWithin s p))
