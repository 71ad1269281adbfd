-- What a crash inside a step of a client leaves.
--     Extends s z log          the log of the core z is this one and more
--     IsRightIn s p gs F       the files F restart right at a point to which steps lead from p, with the regions gs in memory; its log is that of p
--     IsRightInStep s p gs z F     so they do, or its log is one that the core z extends
--     StepLeavesRight ..       from each run that has come here, each disk that a crash at any moment of the step leaves spells such files, with the
--                              regions in memory as they were before the step
--     IsRightUpTo s p gs z F   the files F restart right at a point to which steps lead from p, with the regions gs in memory, and whose log the core z extends
--     TurnLeavesRight ..       from each run that has come here, each disk that a crash at any moment of the step leaves spells such files
--     LeavesHere s p gs c      the disk c spells files that restart right, with the log of p
--     HaltLeavesRight ..       from each run that has come here, each disk that a crash at any moment leaves spells such files
use Rattle.std.specs.Prelude.{◌≡◌, ◌⊎◌, ◌++◌, ℕ, Bool, List, Option}
use Rattle.dali_record.specs.declared.records.Record.{Record}
use Rattle.dali_record.specs.Files.{Files}
use Rattle.dali_region.specs.State.{RegionState}
use Rattle.dali_store.specs.Store.{Files as Disk}
use Rattle.dali_store.specs.declared.store.Store.{Ghosts}
use Rattle.dali_runs.specs.State.{SystemState, log_after}
use Rattle.dali_crash.specs.Checkpoints.{Point, StoreStep, IsPointCourse}
use Rattle.dali_crash.specs.Traces.{Start}
use Rattle.dali_crash.specs.Disks.Disks.{Spells}
use Rattle.dali_crash.specs.Disks.Bridges.{LeavesRightAt}
use Rattle.dali_core.specs.Vault.Vaulted.{Vaulted}
use Rattle.dali_core.specs.Moments.{Within}
use Rattle.dali_transcripts.specs.World.{World}
use Rattle.dali_transcripts.specs.Rounds.{Standing}
use Rattle.dali_turns.specs.declared.client.Client.{Client}
use Rattle.dali_turns.specs.declared.client.State.{State}
use Rattle.dali_turns.specs.Stood.{Stood}
use Rattle.dali_turns.specs.Fits.{rest_of, IsOf, Fits}

abbrev pub Extends : Start → SystemState → List Record → Type 0
Extends s z log = (rest : List Record) × (log ++ rest ≡ log_after s.log z)

pub record IsRightIn (s : Start) (p : Point) (gs : List RegionState) (F : Files) : Type 0 where
  pub to : Point
  pub steps : List StoreStep
  pub course : IsPointCourse p steps to
  pub same : to.log ≡ p.log
  pub regions : to.core.regions ≡ gs
  pub right : LeavesRightAt s to F

pub record IsRightInStep (s : Start) (p : Point) (gs : List RegionState) (z : SystemState) (F : Files) : Type 0 where
  pub to : Point
  pub steps : List StoreStep
  pub course : IsPointCourse p steps to
  pub log : (to.log ≡ p.log) ⊎ Extends s z to.log
  pub regions : to.core.regions ≡ gs
  pub right : LeavesRightAt s to F

pub record IsRightUpTo (s : Start) (p : Point) (gs : List RegionState) (z : SystemState) (F : Files) : Type 0 where
  pub to : Point
  pub steps : List StoreStep
  pub course : IsPointCourse p steps to
  pub log : Extends s z to.log
  pub regions : to.core.regions ≡ gs
  pub right : LeavesRightAt s to F

abbrev pub LeavesInStep : Start → Point → List RegionState → SystemState → Disk → Type 0
LeavesInStep s p gs z c = (F : Files) × Spells c F × IsRightInStep s p gs z F

abbrev pub LeavesUpTo : Start → Point → List RegionState → SystemState → Disk → Type 0
LeavesUpTo s p gs z c = (F : Files) × Spells c F × IsRightUpTo s p gs z F

abbrev pub LeavesHere : Start → Point → List RegionState → Disk → Type 0
LeavesHere s p gs c = (F : Files) × Spells c F × IsRightIn s p gs F

module _ {V : Type 0} (means : Ghosts V) where
  abbrev pub StepLeavesRight : State → Client → List RegionState → SystemState → Vaulted V → SystemState → Vaulted V → Type 0
  StepLeavesRight state k gs y v z u =
      (precheck : Bool) (s : Start) (B : List (List Record)) (p : Point) (w : World) (a : Standing)
      → Stood means s B p w precheck gs y v → IsOf w a k → Fits means s B p w gs y v a (rest_of k) state
      → Within means.told means.moment means.left_since v u (LeavesInStep s p gs z)

  abbrev pub TurnLeavesRight : Bool → Client → List RegionState → SystemState → Vaulted V → SystemState → Vaulted V → Type 0
  TurnLeavesRight precheck k gs y v z u =
      (s : Start) (B : List (List Record)) (p : Point) (w : World) (a : Standing)
      → Stood means s B p w precheck gs y v → IsOf w a k → Fits means s B p w gs y v a (rest_of k) k.state
      → Within means.told means.moment means.left_since v u (LeavesUpTo s p gs z)

  abbrev pub HaltLeavesRight : List RegionState → SystemState → Vaulted V → Vaulted V → Type 0
  HaltLeavesRight gs y v u =
      (precheck : Bool) (s : Start) (B : List (List Record)) (p : Point) (w : World)
      → Stood means s B p w precheck gs y v → Within means.told means.moment means.left_since v u (LeavesHere s p gs)
