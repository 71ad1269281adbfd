-- The calls of a vault as steps of a run.
--     FlushGoes, FlushFaults   a flush of what was taken, and a fault in one
--     FlushIsRight             each disk that a crash inside one leaves spells files that restart right
--     CopyGoes, CopyFaults     an image's write of a region, without the updates of an open operation
--     SkipGoes                 a region whose flag is clear is skipped, and the file has its place
--     HeadGoes, HeadFaults     its write of header or table
--     WriteIsRight             each disk that a crash inside one of these writes leaves spells files that restart right
--     SyncGoes, SyncFaults, TurnGoes, TurnFaults      its sync, and the anchor's move
--     TurnIsRight              each disk that a crash inside the anchor's move leaves; inside a sync it leaves what it left before (CrashIsRight)
--     ReadStays, ReadFaults    a read of the log is no step, and one that fails is
--     QuietGoes                a step that leaves the vault, and what a crash may leave
--     RunBegins                where a core is made a run begins
--     CrashIsRight, AcknowledgedStands         each disk that a crash may leave restarts right, and has what was acknowledged
--     PlacesAreSmall           the log's end and the number of the current image are below 2^62
--     PlacesStand              where a region's flag for a side is clear, the file of that side has its place, where the store tells it
--     IsUnderWayIn, IsWholeIn  what is read of the next image, where the store tells it
--     IsHeldIn                 and each disk that a crash may leave holds it
--     KeepsImage               all this goes on
use Rattle.std.specs.Prelude.{◌≡◌, ℕ, ◌+◌, ◌≤◌, ◌<◌, ◌^◌, true, false, List, [], Some, Option, IfSome, length, is_some, slice_get, Contains}
use Rattle.dali_geometry.specs.Places.{regions}
use Rattle.dali_record.specs.declared.records.Record.{Record}
use Rattle.dali_record.specs.Log.{committed}
use Rattle.dali_record.specs.Spelling.{words_bytes}
use Rattle.dali_record.specs.Files.{Files}
use Rattle.dali_region.specs.declared.Side.{Side}
use Rattle.dali_region.specs.State.{RegionState}
use Rattle.dali_region.specs.Answers.{is_dirty}
use Rattle.dali_store.specs.Store.{Files as Disk, file_of}
use Rattle.dali_store.specs.declared.store.Store.{Ghosts}
use Rattle.dali_log.specs.Batch.{Framed}
use Rattle.dali_log.specs.Appending.{bodies_of, SomeAdded}
use Rattle.dali_runs.specs.Run.{log_in}
use Rattle.dali_runs.specs.Crashes.{IsAcknowledged}
use Rattle.dali_runs.specs.Courses.{Flushes, Faults, ReadFails}
use Rattle.dali_crash.specs.Checkpoints.{Head, StoreStep, Does, Copies, Skips, CopyFails, WritesHead, HeadFails, Syncs, SyncFails, Turns, TurnFails, Point, target, image_in, IsUntouched, MayTurn, Came, IsPointStep}
use Rattle.dali_crash.specs.Traces.{Start, StartsAt, start_point}
use Rattle.dali_crash.specs.Disks.Disks.{header_bytes, table_bytes, image_name, CanBeImage, AllSpell}
use Rattle.dali_crash.specs.Disks.Places.{place_of}
use Rattle.dali_crash.specs.Disks.Bridges.{LeavesRightAt, HoldsNext, batches_on, is_image_write}
use Rattle.dali_log.specs.Anchors.{MayHaveMoved}
use Rattle.dali_crash.specs.Disks.NewFiles.{IsUnderWay, IsWholeFile}
use Rattle.dali_core.specs.Vault.Vaulted.{Vaulted}
use Rattle.dali_core.specs.Steps.At.{IsVault, IsAt, Goes}
use Rattle.dali_core.specs.Steps.Said.{IsFrameAt, HasFlushed, FlushHasFailed, TornFrom, HasWritten, WriteHasFailed, HasSynced, SyncHasFailed, HasTurned, TurnHasFailed, HasRead, ReadHasFailed}

-- the region's words are copied to the next image, or stand there, and no block on it stands from record n on
pub record MayCopy (p : Point) (r n : ℕ) (g : RegionState) : Type 0 where
  pub at : slice_get p.core.regions r ≡ Some g
  pub under_way : is_some p.begun ≡ true
  pub dirty : is_dirty g (target p) ≡ true
  pub untouched : IsUntouched p.log r n

pub record MaySkip (p : Point) (r n : ℕ) (g : RegionState) : Type 0 where
  pub at : slice_get p.core.regions r ≡ Some g
  pub under_way : is_some p.begun ≡ true
  pub clear : is_dirty g (target p) ≡ false
  pub untouched : IsUntouched p.log r n

module _ {V : Type 0} (means : Ghosts V) where
  -- ---- what is read of the next image, and held
  abbrev pub IsUnderWayIn : Point → Head → ℕ → V → Type 0
  IsUnderWayIn p h k v = IfSome (means.told v) (IsUnderWay p h k)

  abbrev pub IsWholeIn : Point → V → Type 0
  IsWholeIn p v = IfSome (means.told v) (IsWholeFile p)

  abbrev pub IsHeldIn : Point → V → Type 0
  IsHeldIn p v = IfSome (means.told v) (λ _. (c : Disk) → means.may_leave v c → HoldsNext p c)

  pub record KeepsImage (p q : Point) (v w : V) : Type 0 where
    pub under_way : (h : Head) (k : ℕ) → IsUnderWayIn p h k v → IsUnderWayIn q h k w
    pub whole : IsWholeIn p v → IsWholeIn q w
    pub held : IsHeldIn p v → IsHeldIn q w

  -- ---- a flush
  pub record Flushed (s : Start) (B : List (List Record)) (p : Point) (v w : Vaulted V) : Type 0 where
    pub goes : Goes means s p (Does Flushes) (batches_on B p) w
    pub keeps : KeepsImage p goes.to v.store w.store

  abbrev pub FlushGoes : Type 0
  FlushGoes =
      (s : Start) (B : List (List Record)) (p : Point) (v w : Vaulted V) (f : Framed) → IsAt means s B p v → IsFrameAt p f
      → HasFlushed means v f w
      → Flushed s B p v w

  abbrev pub FlushFaults : Type 0
  FlushFaults =
      (s : Start) (B : List (List Record)) (p : Point) (v w : Vaulted V) (f : Framed) → IsAt means s B p v → IsFrameAt p f
      → FlushHasFailed means v f w
      → Goes means s p (Does (Faults (means.faults w.store))) B w

  abbrev pub FlushIsRight : Type 0
  FlushIsRight =
      (s : Start) (B : List (List Record)) (p : Point) (v : Vaulted V) (f : Framed) → IsAt means s B p v → IsFrameAt p f
      → v.stopped ≡ false
      → IfSome (means.told v.store) (λ _. AllSpell (SomeAdded (means.may_leave v.store) v.end (bodies_of f.body)) (LeavesRightAt s p))

  -- ---- a copy
  pub record Copied (s : Start) (B : List (List Record)) (p : Point) (r n : ℕ) (v w : Vaulted V) : Type 0 where
    pub goes : Goes means s p (Copies r n) B w
    pub further : (h : Head) (k : ℕ) → IsUnderWayIn p h k v.store → r ≤ k → IsUnderWayIn goes.to h (r + 1) w.store
    pub still : (h : Head) (k : ℕ) → IsUnderWayIn p h k v.store → r ≤ k → IsUnderWayIn goes.to h k w.store

  abbrev pub CopyGoes : Type 0
  CopyGoes =
      (s : Start) (B : List (List Record)) (p : Point) (v w : Vaulted V) (r n : ℕ) (g : RegionState) → IsAt means s B p v
      → MayCopy p r n g
      → HasWritten means v (image_name (target p)) (place_of r) (words_bytes g.back) w
      → Copied s B p r n v w

  -- the vault isn't called
  pub record Skipped (s : Start) (B : List (List Record)) (p : Point) (r n : ℕ) (v : Vaulted V) : Type 0 where
    pub goes : Goes means s p (Skips r n) B v
    pub further : v.stopped ≡ false → (h : Head) (k : ℕ) → IsUnderWayIn p h k v.store → r ≤ k → IsUnderWayIn goes.to h (r + 1) v.store
    pub still : (h : Head) (k : ℕ) → IsUnderWayIn p h k v.store → IsUnderWayIn goes.to h k v.store

  abbrev pub SkipGoes : Type 0
  SkipGoes = (s : Start) (B : List (List Record)) (p : Point) (v : Vaulted V) (r n : ℕ) (g : RegionState) → IsAt means s B p v → MaySkip p r n g → Skipped s B p r n v

  abbrev pub CopyFaults : Type 0
  CopyFaults =
      (s : Start) (B : List (List Record)) (p : Point) (v w : Vaulted V) (r n : ℕ) (g : RegionState) → IsAt means s B p v
      → MayCopy p r n g
      → WriteHasFailed means v (image_name (target p)) (place_of r) (length (words_bytes g.back)) w
      → Goes means s p (CopyFails r [] (means.faults w.store)) B w

  -- ---- header and table
  pub record HeaderWritten (s : Start) (B : List (List Record)) (p : Point) (h : Head) (v w : Vaulted V) : Type 0 where
    pub goes : Goes means s p (WritesHead h) B w
    pub begins : IsUnderWayIn goes.to h 0 w.store

  abbrev pub HeaderGoes : Type 0
  HeaderGoes =
      (s : Start) (B : List (List Record)) (p : Point) (v w : Vaulted V) (h : Head) → IsAt means s B p v
      → is_some p.begun ≡ true
      → HasWritten means v (image_name (target p)) 0 (header_bytes p.core.system.sizes h) w
      → HeaderWritten s B p h v w

  pub record TableWritten (s : Start) (B : List (List Record)) (p : Point) (h : Head) (v w : Vaulted V) : Type 0 where
    pub goes : Goes means s p (WritesHead h) B w
    pub whole : IsUnderWayIn p h (regions p.core.system.sizes) v.store → IsWholeIn goes.to w.store

  abbrev pub TableGoes : Type 0
  TableGoes =
      (s : Start) (B : List (List Record)) (p : Point) (v w : Vaulted V) (h : Head) → IsAt means s B p v
      → is_some p.begun ≡ true
      → HasWritten means v (image_name (target p)) (place_of (regions p.core.system.sizes)) (table_bytes h.table) w
      → TableWritten s B p h v w

  abbrev pub HeadFaults : Type 0
  HeadFaults =
      (s : Start) (B : List (List Record)) (p : Point) (v w : Vaulted V) (h : Head) (at n : ℕ) → IsAt means s B p v
      → is_some p.begun ≡ true
      → WriteHasFailed means v (image_name (target p)) at n w
      → Goes means s p (HeadFails h (means.faults w.store)) B w

  -- a crash inside a write leaves the file of the next image torn in the written range
  abbrev pub WriteIsRight : Type 0
  WriteIsRight =
      (s : Start) (B : List (List Record)) (p : Point) (v : Vaulted V) (at n : ℕ) → IsAt means s B p v → v.stopped ≡ false
      → IfSome (means.told v.store) (λ _. AllSpell (TornFrom (means.may_leave v.store) (image_name (target p)) at n) (LeavesRightAt s p))

  -- ---- a sync
  pub record IsSynced (s : Start) (B : List (List Record)) (p : Point) (v w : Vaulted V) : Type 0 where
    pub goes : Goes means s p Syncs B w
    pub held : CanBeImage p.core.system.sizes (p.heads (target p)) (image_in p.core.system.sizes p.told (target p))
        → IsWholeIn p v.store → IsHeldIn goes.to w.store

  abbrev pub SyncGoes : Type 0
  SyncGoes =
      (s : Start) (B : List (List Record)) (p : Point) (v w : Vaulted V) → IsAt means s B p v → is_some p.begun ≡ true
      → HasSynced means v (image_name (target p)) w
      → IsSynced s B p v w

  abbrev pub SyncFaults : Type 0
  SyncFaults =
      (s : Start) (B : List (List Record)) (p : Point) (v w : Vaulted V) → IsAt means s B p v → is_some p.begun ≡ true
      → SyncHasFailed means v w
      → Goes means s p (SyncFails (means.faults w.store)) B w

  -- ---- the anchor
  abbrev pub TurnIsRight : Type 0
  TurnIsRight =
      (s : Start) (B : List (List Record)) (p : Point) (v : Vaulted V) (h : Head) (b k : ℕ) → IsAt means s B p v → v.stopped ≡ false
      → is_some p.begun ≡ true → MayTurn p h b k → IsHeldIn p v.store
      → IfSome (means.told v.store) (λ _. AllSpell (MayHaveMoved (means.may_leave v.store) v.current) (LeavesRightAt s p))

  abbrev pub TurnGoes : Type 0
  TurnGoes =
      (s : Start) (B : List (List Record)) (p : Point) (v w : Vaulted V) (h : Head) (b k : ℕ) → IsAt means s B p v
      → is_some p.begun ≡ true → MayTurn p h b k → IsHeldIn p v.store
      → HasTurned means v w
      → Goes means s p Turns B w

  abbrev pub TurnFaults : Type 0
  TurnFaults =
      (s : Start) (B : List (List Record)) (p : Point) (v w : Vaulted V) (h : Head) (b k : ℕ) → IsAt means s B p v
      → is_some p.begun ≡ true → MayTurn p h b k → IsHeldIn p v.store
      → TurnHasFailed means v w
      → Goes means s p (TurnFails (means.faults w.store)) B w

  -- ---- what is no call that writes
  abbrev pub ReadStays : Type 0
  ReadStays =
      (s : Start) (B : List (List Record)) (p : Point) (v w : Vaulted V) → IsAt means s B p v
      → HasRead means v w
      → IsAt means s B p w × KeepsImage p p v.store w.store

  pub record ReadFailed (s : Start) (B : List (List Record)) (p : Point) (v w : Vaulted V) : Type 0 where
    pub goes : Goes means s p (Does (ReadFails (means.faults w.store))) B w
    pub keeps : KeepsImage p goes.to v.store w.store

  abbrev pub ReadFaults : Type 0
  ReadFaults =
      (s : Start) (B : List (List Record)) (p : Point) (v w : Vaulted V) → IsAt means s B p v
      → ReadHasFailed means v w
      → ReadFailed s B p v w

  abbrev pub QuietGoes : Type 0
  QuietGoes =
      (s : Start) (B : List (List Record)) (p q : Point) (x : StoreStep) (v : Vaulted V) → IsAt means s B p v
      → IsPointStep p x q → is_image_write x ≡ false → ((F : Files) → Came p x F F) → q.core.vault ≡ p.core.vault
      → IsAt means s B q v

  abbrev pub QuietKeeps : Type 0
  QuietKeeps = (p q : Point) (x : StoreStep) (v : V) → IsPointStep p x q → is_image_write x ≡ false → q.core.vault ≡ p.core.vault → KeepsImage p q v v

  -- ---- where a run begins, and what holds of it
  abbrev pub RunBegins : Type 0
  RunBegins =
      (s : Start) (B : List (List Record)) (v : Vaulted V) (D : Files) → StartsAt s D → IsVault means.faults v s.vault
      → IfSome (means.told v.store) (λ _. AllSpell (means.may_leave v.store) (λ F. StartsAt s F × (F.batches ≡ B)))
      → IsAt means s B (start_point s) v

  abbrev pub CrashIsRight : Type 0
  CrashIsRight = (s : Start) (B : List (List Record)) (p : Point) (v : Vaulted V) → IsAt means s B p v → IfSome (means.told v.store) (λ _. AllSpell (means.may_leave v.store) (LeavesRightAt s p))

  -- what was acknowledged is committed in each crash image
  abbrev pub HasAcknowledged : Start → Point → Files → Type 0
  HasAcknowledged s p F = (t : ℕ) → IsAcknowledged s.log p.core t → Contains (committed (log_in F)) t

  abbrev pub AcknowledgedStands : Type 0
  AcknowledgedStands = (s : Start) (B : List (List Record)) (p : Point) (v : Vaulted V) → IsAt means s B p v → IfSome (means.told v.store) (λ _. AllSpell (means.may_leave v.store) (HasAcknowledged s p))

  -- what a flush and the anchor's move ask of their places
  abbrev pub PlacesAreSmall : Type 0
  PlacesAreSmall = (s : Start) (B : List (List Record)) (p : Point) (v : Vaulted V) → IsAt means s B p v → (v.end < 2 ^ 62) × (v.current < 2 ^ 62)

  -- what a copy asks of a region that is skipped
  abbrev pub PlacesStand : Type 0
  PlacesStand =
      (s : Start) (B : List (List Record)) (p : Point) (v : Vaulted V) → IsAt means s B p v → v.stopped ≡ false
      → (side : Side) (r : ℕ) (g : RegionState) → slice_get p.core.regions r ≡ Some g → is_dirty g side ≡ false
      → IfSome (means.told v.store) (λ fs. place_of (r + 1) ≤ length (file_of (image_name side) fs))
