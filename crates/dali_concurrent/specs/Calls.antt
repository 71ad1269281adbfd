-- What the vault's calls of a checkpoint leave of the vault, while others go on.
--     IsReady o T h b end      the image is whole, synced, and passed by the audit from record b, whose end is flushed
--     next_image v             the file of the next image
--     IsImageIn q st v         what is read of the next image, and held, at the stage st of a checkpoint
--     VaultAt .. v T           wherever the history has come, the vault is at that point, and while it runs the next image is as far as the checkpoint's
--                              stage tells
--     FilesHold                so while it runs the image files have the place of each region whose flag is clear
--     is_still x, AreStill R   the step x calls no store;  nor does one of these entries
--     AtMeets                  such entries leave it so
--     FlushHolds, FaultHolds   and so does a flush of the vault's own, with one batch more, and a fault in one
--     HeaderHolds, TableHolds, SyncHolds, TurnHolds    a call of a checkpoint leaves it so behind its entry
--     HeadFaultHolds, SyncFaultHolds, TurnFaultHolds   and its fault behind that, with the stop
--     VaultBut .. r ws v T     regions from r on were copied, and their words wait to be written: so the vault is but for that write
--     is_calm x, AreCalm R     no step of these entries calls the store, nor passes a region over
--     RunBegins, RunMeets, RunCopies       so it is before the first copy, behind entries of others, and behind the copy of the next region
--     RunEnds, RunFaultHolds   behind the write of just these words the vault is there, with as many regions copied; so it is behind its fault
use Rattle.std.specs.Prelude.{◌≡◌, ℕ, ◌+◌, ◌<◌, true, false, Bool, List, [], ◌∷◌, ◌++◌, Some, IfSome, length, flat_map, slice_get}
use Rattle.dali_record.specs.declared.records.Record.{Record}
use Rattle.dali_record.specs.Spelling.{words_bytes}
use Rattle.dali_region.specs.State.{RegionState}
use Rattle.dali_store.specs.declared.store.FileName.{FileName}
use Rattle.dali_store.specs.declared.store.Store.{Ghosts}
use Rattle.dali_log.specs.Batch.{Framed}
use Rattle.dali_runs.specs.State.{SystemState, VaultState, stable}
use Rattle.dali_runs.specs.Flushes.{frame_of, with_batch}
use Rattle.dali_runs.specs.Courses.{Flushes, Faults, ReadFails, Stops}
use Rattle.dali_crash.specs.Checkpoints.{Head, StoreStep, Does, Starts, Keeps, Copies, Skips, WritesHead, Syncs, Turns, HeadFails, SyncFails, TurnFails, Finishes, Point, side_of}
use Rattle.dali_crash.specs.Traces.{Start, bases_of}
use Rattle.dali_crash.specs.Disks.Disks.{header_bytes, table_bytes, image_name}
use Rattle.dali_crash.specs.Disks.Places.{place_of}
use Rattle.dali_transcripts.specs.Words.{StoreFailed}
use Rattle.dali_transcripts.specs.World.{Meets}
use Rattle.dali_core.specs.Vault.Vaulted.{Vaulted}
use Rattle.dali_core.specs.Steps.At.{IsAt}
use Rattle.dali_core.specs.Steps.Called.{IsUnderWayIn, IsWholeIn, IsHeldIn}
use Rattle.dali_core.specs.Steps.Said.{IsFrameAt, HasFlushed, FlushHasFailed, HasWritten, WriteHasFailed, HasSynced, SyncHasFailed, HasTurned, TurnHasFailed}
use Rattle.dali_core.specs.Cores.{HoldsPlaces}
use Rattle.dali_checkpoint.specs.CopiedOut.{IsAtBut, IsUnderWayBut}
use Rattle.dali_concurrent.specs.Entries.{Entry, Did}
use Rattle.dali_concurrent.specs.Rules.{Outset, log_by, count_of}
use Rattle.dali_concurrent.specs.Told.{Effect, OnVault, OnStop, Line, History, plain, core_told}
use Rattle.dali_concurrent.specs.Landing.{BeginsAt, Stands}
use Rattle.dali_concurrent.specs.Copying.{IsBegun, failed_with}
use Rattle.dali_concurrent.specs.Stages.{Image, Stage, HasKept, Copying, Settled, stage_by}

abbrev pub is_still : StoreStep → Bool
is_still (Does Flushes) = false
is_still (Does (Faults n)) = false
is_still (Does (ReadFails n)) = false
is_still (Does x) = true
is_still Starts = true
is_still Keeps = true
is_still (Skips r n) = true
is_still Finishes = true
is_still x = false

abbrev pub AreStill : History → Type 0
AreStill R = (i : ℕ) (e : Line) → slice_get R i ≡ Some e → (j : ℕ) (x : StoreStep) → slice_get e.1.2 j ≡ Some x → is_still x ≡ true

abbrev pub is_calm : StoreStep → Bool
is_calm (Skips r n) = false
is_calm x = is_still x

abbrev pub AreCalm : History → Type 0
AreCalm R = (i : ℕ) (e : Line) → slice_get R i ≡ Some e → (j : ℕ) (x : StoreStep) → slice_get e.1.2 j ≡ Some x → is_calm x ≡ true

-- the image is whole and held, and an audit that passed it is flushed
pub record IsReady (o : Outset) (T : History) (h : Head) (b end : ℕ) : Type 0 where
  pub image : Image
  pub stage : stage_by o T ≡ Settled h image
  pub header : image.header ≡ h
  pub head : image.head ≡ h
  pub synced : image.synced ≡ true
  pub clean : image.clean ≡ Some (b, end)
  pub flushed : end < stable (core_told o T)

-- the file of the next image
abbrev pub next_image : {V : Type 0} → Vaulted V → FileName
next_image v = image_name (side_of (v.current + 1))

module _ {V : Type 0} (means : Ghosts V) where
  -- header and table are of the head that was kept
  pub record IsWholeImage (q : Point) (i : Image) (v : V) : Type 0 where
    pub whole : IsWholeIn means q v
    pub held : i.synced ≡ true → IsHeldIn means q v

  abbrev pub IsImageIn : Point → Stage → V → Type 0
  IsImageIn q (Copying h g k) v = IsUnderWayIn means q g k v
  IsImageIn q (Settled h i) v = i.header ≡ h → i.head ≡ h → IsWholeImage q i v
  IsImageIn q st v = Unit {0}

  pub record VaultAt (s : Start) (B : List (List Record)) (p : Point) (o : Outset) (v : Vaulted V) (T : History) : Type 0 where
    pub at : (q : Point) → Stands (bases_of s) p o T q → IsAt means s B q v
    pub image : v.stopped ≡ false → (q : Point) → Stands (bases_of s) p o T q → IsImageIn q (stage_by o T) v.store

  abbrev pub FilesHold : Type 0
  FilesHold =
      (s : Start) (B : List (List Record)) (p : Point) (o : Outset) (v : Vaulted V) (T : History) → VaultAt s B p o v T → v.stopped ≡ false
      → (q : Point) → Stands (bases_of s) p o T q → IfSome (means.told v.store) (HoldsPlaces q.core.regions)

  -- ---- no call
  abbrev pub AtMeets : Type 0
  AtMeets =
      (s : Start) (B : List (List Record)) (p : Point) (o : Outset) (S R : History) (v : Vaulted V) → BeginsAt (bases_of s) p o → AreStill R
      → VaultAt s B p o v S → VaultAt s B p o v (S ++ R)

  -- ---- the calls, each with its own entry
  -- a flush of the frame that was taken, which leads the vault from v to w
  abbrev pub FlushHolds : Type 0
  FlushHolds =
      (s : Start) (B : List (List Record)) (p : Point) (o : Outset) (T : History) (ks : List ℕ) (e : Entry) (after : VaultState) (v w : Vaulted V) (f : Framed) → BeginsAt (bases_of s) p o
      → VaultAt s B p o v T → ((q : Point) → Stands (bases_of s) p o T q → IsFrameAt q f) → HasFlushed means v f w
      → VaultAt s (with_batch B (frame_of (log_by o (plain T)) (core_told o T))) p o w (T ++ (ks, (e, OnVault after, Does Flushes ∷ [])) ∷ [])

  -- or a fault in one, which stops the vault and the engine
  abbrev pub FaultHolds : Type 0
  FaultHolds =
      (s : Start) (B : List (List Record)) (p : Point) (o : Outset) (T : History) (ks : List ℕ) (c : ℕ) (x : VaultState) (y : SystemState) (v w : Vaulted V) (f : Framed) → BeginsAt (bases_of s) p o
      → VaultAt s B p o v T → ((q : Point) → Stands (bases_of s) p o T q → IsFrameAt q f) → FlushHasFailed means v f w
      → VaultAt s B p o w (T ++ (ks, (Did (Meets StoreFailed) c, OnStop x y, Does (Faults (means.faults w.store)) ∷ Does Stops ∷ [])) ∷ [])

  -- ---- a write, a sync and the anchor's move, each with its own entry
  abbrev pub HeaderHolds : Type 0
  HeaderHolds =
      (s : Start) (B : List (List Record)) (p : Point) (o : Outset) (T : History) (ks : List ℕ) (e : Entry) (f : Effect) (kept h : Head) (v w : Vaulted V) → BeginsAt (bases_of s) p o
      → VaultAt s B p o v T → stage_by o T ≡ HasKept kept
      → HasWritten means v (next_image v) 0 (header_bytes o.old.system.sizes h) w
      → VaultAt s B p o w (T ++ (ks, (e, f, WritesHead h ∷ [])) ∷ [])

  abbrev pub TableHolds : Type 0
  TableHolds =
      (s : Start) (B : List (List Record)) (p : Point) (o : Outset) (T : History) (ks : List ℕ) (e : Entry) (f : Effect) (kept g h : Head) (v w : Vaulted V) → BeginsAt (bases_of s) p o
      → VaultAt s B p o v T → stage_by o T ≡ Copying kept g (count_of o)
      → HasWritten means v (next_image v) (place_of (count_of o)) (table_bytes h.table) w
      → VaultAt s B p o w (T ++ (ks, (e, f, WritesHead h ∷ [])) ∷ [])

  abbrev pub SyncHolds : Type 0
  SyncHolds =
      (s : Start) (B : List (List Record)) (p : Point) (o : Outset) (T : History) (ks : List ℕ) (e : Entry) (f : Effect) (kept : Head) (i : Image) (v w : Vaulted V) → BeginsAt (bases_of s) p o
      → VaultAt s B p o v T → stage_by o T ≡ Settled kept i
      → HasSynced means v (next_image v) w
      → VaultAt s B p o w (T ++ (ks, (e, f, Syncs ∷ [])) ∷ [])

  abbrev pub TurnHolds : Type 0
  TurnHolds =
      (s : Start) (B : List (List Record)) (p : Point) (o : Outset) (T : History) (ks : List ℕ) (e : Entry) (f : Effect) (h : Head) (b end : ℕ) (v w : Vaulted V) → BeginsAt (bases_of s) p o
      → VaultAt s B p o v T → IsReady o T h b end → HasTurned means v w
      → VaultAt s B p o w (T ++ (ks, (e, f, Turns ∷ [])) ∷ [])

  -- ---- their faults
  abbrev pub HeadFaultHolds : Type 0
  HeadFaultHolds =
      (s : Start) (B : List (List Record)) (p : Point) (o : Outset) (T : History) (ks : List ℕ) (c at n : ℕ) (x : VaultState) (y : SystemState) (h : Head) (v w : Vaulted V) → BeginsAt (bases_of s) p o
      → VaultAt s B p o v T → IsBegun (bases_of s) p o T
      → WriteHasFailed means v (next_image v) at n w
      → VaultAt s B p o w (T ++ (ks, failed_with (HeadFails h (means.faults w.store)) x y (means.faults w.store) c) ∷ [])

  abbrev pub SyncFaultHolds : Type 0
  SyncFaultHolds =
      (s : Start) (B : List (List Record)) (p : Point) (o : Outset) (T : History) (ks : List ℕ) (c : ℕ) (x : VaultState) (y : SystemState) (v w : Vaulted V) → BeginsAt (bases_of s) p o
      → VaultAt s B p o v T → IsBegun (bases_of s) p o T → SyncHasFailed means v w
      → VaultAt s B p o w (T ++ (ks, failed_with (SyncFails (means.faults w.store)) x y (means.faults w.store) c) ∷ [])

  abbrev pub TurnFaultHolds : Type 0
  TurnFaultHolds =
      (s : Start) (B : List (List Record)) (p : Point) (o : Outset) (T : History) (ks : List ℕ) (c : ℕ) (x : VaultState) (y : SystemState) (h : Head) (b end : ℕ) (v w : Vaulted V) → BeginsAt (bases_of s) p o
      → VaultAt s B p o v T → IsReady o T h b end → TurnHasFailed means v w
      → VaultAt s B p o w (T ++ (ks, failed_with (TurnFails (means.faults w.store)) x y (means.faults w.store) c) ∷ [])

  -- ---- a run of copies
  abbrev pub IsImageBut : Point → Stage → ℕ → List (List ℕ) → V → Type 0
  IsImageBut q (Copying h g k) r ws v = k ≡ r + length ws → IsUnderWayBut means q g k r ws v
  IsImageBut q st r ws v = Unit {0}

  pub record VaultBut (s : Start) (B : List (List Record)) (p : Point) (o : Outset) (r : ℕ) (ws : List (List ℕ)) (v : Vaulted V) (T : History) : Type 0 where
    pub at : (q : Point) → Stands (bases_of s) p o T q → IsAtBut means s B q r ws v
    pub image : (q : Point) → Stands (bases_of s) p o T q → IsImageBut q (stage_by o T) r ws v.store

  abbrev pub RunBegins : Type 0
  RunBegins = (s : Start) (B : List (List Record)) (p : Point) (o : Outset) (r : ℕ) (v : Vaulted V) (T : History) → VaultAt s B p o v T → v.stopped ≡ false → VaultBut s B p o r [] v T

  abbrev pub RunMeets : Type 0
  RunMeets =
      (s : Start) (B : List (List Record)) (p : Point) (o : Outset) (r : ℕ) (ws : List (List ℕ)) (S R : History) (v : Vaulted V) → BeginsAt (bases_of s) p o → AreCalm R
      → VaultBut s B p o r ws v S → VaultBut s B p o r ws v (S ++ R)

  -- the next region's words, without the updates of an open operation
  abbrev pub RunCopies : Type 0
  RunCopies =
      (s : Start) (B : List (List Record)) (p : Point) (o : Outset) (r : ℕ) (ws : List (List ℕ)) (T : History) (ks : List ℕ) (n : ℕ) (e : Entry) (f : Effect) (g : RegionState) (v : Vaulted V) → BeginsAt (bases_of s) p o
      → VaultBut s B p o r ws v T → slice_get (core_told o T).regions (r + length ws) ≡ Some g
      → VaultBut s B p o r (ws ++ g.back ∷ []) v (T ++ (ks, (e, f, Copies (r + length ws) n ∷ [])) ∷ [])

  abbrev pub RunEnds : Type 0
  RunEnds =
      (s : Start) (B : List (List Record)) (p : Point) (o : Outset) (r : ℕ) (ws : List (List ℕ)) (kept g : Head) (v w : Vaulted V) (T : History)
      → VaultBut s B p o r ws v T → stage_by o T ≡ Copying kept g (r + length ws)
      → HasWritten means v (next_image v) (place_of r) (flat_map words_bytes ws) w
      → VaultAt s B p o w T

  abbrev pub RunFaultHolds : Type 0
  RunFaultHolds =
      (s : Start) (B : List (List Record)) (p : Point) (o : Outset) (r : ℕ) (ws : List (List ℕ)) (T : History) (ks : List ℕ) (c at n : ℕ) (x : VaultState) (y : SystemState) (h : Head) (v w : Vaulted V) → BeginsAt (bases_of s) p o
      → VaultBut s B p o r ws v T → IsBegun (bases_of s) p o T
      → WriteHasFailed means v (next_image v) at n w
      → VaultAt s B p o w (T ++ (ks, failed_with (HeadFails h (means.faults w.store)) x y (means.faults w.store) c) ∷ [])
