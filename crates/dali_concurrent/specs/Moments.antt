-- What a crash at any moment of a round in threads leaves.
--     IsRightBetween s p q F   the files F restart right at a point to which steps lead from one between p and q, with the regions that are in memory at that
--                              one; no record of its log lacks in that of q
--     LeavesBetween s p q c    the disk c spells such files
--     EndsRight ..             steps lead from p to a point with this memory and this log, and each disk that a crash at any moment leaves spells such files
--     VaultMoments .. v0 v T   since the round began, with the vault v0, a crash at any moment left files that restart right at a point to which steps lead from
--                              one between the round's start and wherever the history has come
--     MomentsBegin             so it is where the round begins
--     MomentsGoOn              behind whatever entries come next, and so where a note meets them
--     MomentsMeet              or adds one
--     CallAdds                 a call of the vault's own leaves the like at its moments
--     FlushLeavesRight         so does a flush, whose frame was taken: other clients may log meanwhile
--     HistoryLeavesRight          once all is closed this is what a round leaves
use Rattle.std.specs.Prelude.{◌≡◌, ◌++◌, ℕ, false, List, [], Option}
use Rattle.dali_record.specs.declared.records.Record.{Record}
use Rattle.dali_record.specs.Files.{Files}
use Rattle.dali_region.specs.State.{RegionState}
use Rattle.dali_store.specs.Store.{Files as Disk}
use Rattle.dali_log.specs.Batch.{Framed}
use Rattle.dali_log.specs.Appending.{bodies_of, SomeAdded}
use Rattle.dali_store.specs.declared.store.Store.{Ghosts}
use Rattle.dali_runs.specs.State.{SystemState, log_after}
use Rattle.dali_crash.specs.Checkpoints.{StoreStep, Point, IsPointCourse}
use Rattle.dali_crash.specs.Traces.{Start, bases_of}
use Rattle.dali_crash.specs.Disks.Disks.{Spells}
use Rattle.dali_crash.specs.Disks.Bridges.{LeavesRightAt}
use Rattle.dali_core.specs.Vault.Vaulted.{Vaulted}
use Rattle.dali_core.specs.Steps.At.{IsAt}
use Rattle.dali_core.specs.Steps.Said.{IsFrameAt}
use Rattle.dali_core.specs.Cores.{IsNoShorter}
use Rattle.dali_core.specs.Moments.{Within}
use Rattle.dali_transactions.specs.Stands.{StandsAt}
use Rattle.dali_notes.specs.History.{IsSeen}
use Rattle.dali_concurrent.specs.Rules.{Outset}
use Rattle.dali_concurrent.specs.Told.{History}
use Rattle.dali_concurrent.specs.Landing.{BeginsAt, Stands}
use Rattle.dali_concurrent.specs.Stored.{HandedOut}

pub record IsRightBetween (s : Start) (p q : Point) (F : Files) : Type 0 where
  pub between : Point
  pub before : List StoreStep
  pub comes : IsPointCourse p before between
  pub behind : List StoreStep
  pub goes : IsPointCourse between behind q
  pub to : Point
  pub steps : List StoreStep
  pub course : IsPointCourse between steps to
  pub regions : to.core.regions ≡ between.core.regions
  pub rest : List Record
  pub log : to.log ++ rest ≡ q.log
  pub right : LeavesRightAt s to F

abbrev pub LeavesBetween : Start → Point → Point → Disk → Type 0
LeavesBetween s p q c = (F : Files) × Spells c F × IsRightBetween s p q F

pub record EndsRight {V : Type 0} (told : V → Option Disk) (moment : V → ℕ) (left_since : V → ℕ → Disk → Type 0) (s : Start) (p : Point) (v : Vaulted V) (hs : List RegionState) (z : SystemState) (u : Vaulted V) : Type 0 where
  pub to : Point
  pub steps : List StoreStep
  pub course : IsPointCourse p steps to
  pub regions : to.core.regions ≡ hs
  pub log : to.log ≡ log_after s.log z
  pub within : Within told moment left_since v u (LeavesBetween s p to)

module _ {V : Type 0} (means : Ghosts V) where
  pub record VaultMoments (s : Start) (p : Point) (o : Outset) (v0 v : Vaulted V) (T : History) : Type 0 where
    -- its files are no shorter than they were
    pub longer : IsNoShorter means.told v0 v
    pub each : (q : Point) → Stands (bases_of s) p o T q → Within means.told means.moment means.left_since v0 v (LeavesBetween s p q)

  abbrev pub MomentsBegin : Type 0
  MomentsBegin =
      (s : Start) (B : List (List Record)) (p : Point) (o : Outset) (gs : List RegionState) (y : SystemState) (v : Vaulted V)
      → ((c : Disk) → means.left_since v.store (means.moment v.store) c → means.may_leave v.store c) → StandsAt means s B p gs y v
      → VaultMoments s p o v v []

  abbrev pub MomentsGoOn : Type 0
  MomentsGoOn =
      (s : Start) (p : Point) (o : Outset) (S R : History) (v0 v : Vaulted V) → BeginsAt (bases_of s) p o → VaultMoments s p o v0 v S → VaultMoments s p o v0 v (S ++ R)

  abbrev pub MomentsMeet : Type 0
  MomentsMeet =
      (s : Start) (p : Point) (o : Outset) (k : ℕ) (seen new : History) (v0 v : Vaulted V) → BeginsAt (bases_of s) p o → IsSeen new k seen → VaultMoments s p o v0 v seen → VaultMoments s p o v0 v new

  -- a call that leads from v to w
  abbrev pub CallAdds : Type 0
  CallAdds =
      (s : Start) (p : Point) (o : Outset) (T : History) (v0 v w : Vaulted V) → VaultMoments s p o v0 v T → IsNoShorter means.told v0 w
      → ((q : Point) → Stands (bases_of s) p o T q → Within means.told means.moment means.left_since v w (LeavesBetween s q q))
      → VaultMoments s p o v0 w T

  -- what the vault's contract says of each moment of a flush
  abbrev pub FlushLeavesRight : Type 0
  FlushLeavesRight =
      (s : Start) (B : List (List Record)) (q : Point) (v w : Vaulted V) (f : Framed) → IsAt means s B q v → IsFrameAt q f → v.stopped ≡ false
      → Within means.told means.moment means.left_since v w (SomeAdded (means.may_leave v.store) v.end (bodies_of f.body))
      → Within means.told means.moment means.left_since v w (LeavesBetween s q q)

  abbrev pub HistoryLeavesRight : Type 0
  HistoryLeavesRight =
      (s : Start) (B : List (List Record)) (p : Point) (o : Outset) (T : History) (gs : List RegionState) (y : SystemState) (v0 u : Vaulted V)
      → HandedOut means s B p o T gs y u → VaultMoments s p o v0 u T → EndsRight means.told means.moment means.left_since s p v0 gs y u
