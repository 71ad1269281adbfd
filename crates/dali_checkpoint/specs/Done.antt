-- What the calls of a checkpoint do with the store, in the words of the vault's calls.
--     Reaches told side n v    the file of this side's image, where the store tells it, is long enough for the place of region n
--     CallsStore faults lets_pass n r v w     by the answer r, the store has let n calls pass where it is Ok, and its count of faults rose where it is Fault
--     Writes, FailsToWrite     all records are flushed and these bytes written to a file, or one of the two met a fault
--     HasStarted y v c w       a checkpoint c started
--     HasTurnedTo, FailsToTurn all records are flushed, the image is synced and the anchor moved, or one of the three met a fault
--     IsKept y v z w           what an audit that failed logged is flushed, or doesn't wait any more
--     IsLost y v z w e         or the vault was stopped before, or its flush met a fault, and e tells which
--     HasEnded y v z w         one of both
use Rattle.std.specs.Prelude.{◌≡◌, ℕ, ◌≤◌, true, false, ◌⊎◌, List, [], drop, length, Option, Some, None, IfSome, Result, OnOk, IsErrOf}
use Rattle.dali_region.specs.declared.Side.{Side}
use Rattle.dali_store.specs.declared.store.FileName.{FileName}
use Rattle.dali_store.specs.Store.{Files as Disk}
use Rattle.dali_store.specs.Calls.{fewer}
use Rattle.dali_store.specs.Faults.{Rose}
use Rattle.dali_store.specs.declared.store.Store.{Ghosts}
use Rattle.dali_runs.specs.State.{SystemState}
use Rattle.dali_runs.specs.Steps.{taken, store_stopped, in_checkpoint}
use Rattle.dali_crash.specs.Disks.Disks.{image_file, image_name, table_bytes}
use Rattle.dali_crash.specs.Disks.Places.{place_of}
use Rattle.dali_core.specs.Vault.Vaulted.{Vaulted}
use Rattle.dali_core.specs.Steps.Said.{HasWritten, WriteHasFailed, HasSynced, SyncHasFailed, HasTurned, TurnHasFailed}
use Rattle.dali_core.specs.Flushed.{FlushesFrame, FailsFrame}
use Rattle.dali_image.specs.Headers.{heading}
use Rattle.dali_image.specs.Rows.{rows_of}
use Rattle.dali_checkpoint.specs.Kept.{Checkpointed, side_in, header_at, cause_of}
use Rattle.dali_checkpoint.specs.declared.error.CheckpointError.{CheckpointError}
use Rattle.dali_checkpoint.specs.declared.error.CheckpointError.TheVariants.{Stopped, Fault}

abbrev pub Reaches : {V : Type 0} → (V → Option Disk) → Side → ℕ → Vaulted V → Type 0
Reaches told side n v = IfSome (told v.store) (λ fs. place_of n ≤ length (image_file side fs))

pub record CallsStore {V T : Type 0} (faults : V → ℕ) (lets_pass : V → Option ℕ) (n : ℕ) (r : Result T CheckpointError) (v w : V) : Type 0 where
  pub calls : OnOk r (lets_pass w ≡ fewer n (lets_pass v))
  pub rose : IsErrOf r Fault → Rose (faults v) (faults w)

module _ {V : Type 0} (means : Ghosts V) where
  -- ---- a flush and a write
  pub record Writes (y : SystemState) (v : Vaulted V) (f : FileName) (at : ℕ) (bytes : List ℕ) (w : Vaulted V) : Type 0 where
    pub mid : Vaulted V
    pub flushed : FlushesFrame means y v mid
    pub written : HasWritten means mid f at bytes w

  pub record WriteFails (y : SystemState) (v : Vaulted V) (f : FileName) (at n : ℕ) (w : Vaulted V) : Type 0 where
    pub mid : Vaulted V
    pub flushed : FlushesFrame means y v mid
    pub failed : WriteHasFailed means mid f at n w

  abbrev pub FailsToWrite : SystemState → Vaulted V → FileName → ℕ → ℕ → Vaulted V → Type 0
  FailsToWrite y v f at n w = FailsFrame means y v w ⊎ WriteFails y v f at n w

  -- the header is written to the file of the image that isn't the current one
  pub record HasStarted (y : SystemState) (v : Vaulted V) (c : Checkpointed) (w : Vaulted V) : Type 0 where
    pub header : c.header ≡ header_at y w (length c.table)
    pub table : c.table ≡ table_bytes (rows_of y.table)
    pub copied : c.copied ≡ 0
    pub settled : c.settled ≡ None
    pub faulted : c.faulted ≡ false
    pub writes : Writes y v (image_name (side_in c)) 0 (heading c.header) w

  -- ---- a flush, a sync and the anchor's move
  pub record HasTurnedTo (y : SystemState) (v : Vaulted V) (side : Side) (w : Vaulted V) : Type 0 where
    pub mid : Vaulted V
    pub flushed : FlushesFrame means y v mid
    pub late : Vaulted V
    pub synced : HasSynced means mid (image_name side) late
    pub turned : HasTurned means late w

  pub record SyncFails (y : SystemState) (v : Vaulted V) (w : Vaulted V) : Type 0 where
    pub mid : Vaulted V
    pub flushed : FlushesFrame means y v mid
    pub failed : SyncHasFailed means mid w

  pub record TurnFails (y : SystemState) (v : Vaulted V) (side : Side) (w : Vaulted V) : Type 0 where
    pub mid : Vaulted V
    pub flushed : FlushesFrame means y v mid
    pub late : Vaulted V
    pub synced : HasSynced means mid (image_name side) late
    pub failed : TurnHasFailed means late w

  abbrev pub FailsToTurn : SystemState → Vaulted V → Side → Vaulted V → Type 0
  FailsToTurn y v side w = FailsFrame means y v w ⊎ (SyncFails y v w ⊎ TurnFails y v side w)

  -- ---- a flush behind an audit that failed
  -- what it logged was taken by another, or is flushed now
  abbrev pub IsKept : SystemState → Vaulted V → SystemState → Vaulted V → Type 0
  IsKept y v z w =
      ((drop y.taken y.since ≡ []) × (w ≡ v) × (z ≡ in_checkpoint y false))
      ⊎ ((v.stopped ≡ false) × FlushesFrame means y v w × (z ≡ in_checkpoint (taken y) false))

  -- or the vault was stopped before, or its flush met a fault
  abbrev pub IsLost : SystemState → Vaulted V → SystemState → Vaulted V → CheckpointError → Type 0
  IsLost y v z w (Stopped cause) = (cause_of y v ≡ Some cause) × (v.stopped ≡ true) × (w ≡ v) × (z ≡ in_checkpoint y false)
  IsLost y v z w Fault = (v.stopped ≡ false) × FailsFrame means y v w × (z ≡ in_checkpoint (store_stopped (taken y)) false)
  IsLost y v z w e = ⊥

  abbrev pub HasEnded : SystemState → Vaulted V → SystemState → Vaulted V → Type 0
  HasEnded y v z w = IsKept y v z w ⊎ ((e : CheckpointError) × IsLost y v z w e)
