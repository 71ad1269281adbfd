-- What the calls of a vault say, as the laws ask for it: each is what the contract of the call promises.
--     HasFlushed v f w         a flush of the frame f led from v to w
--     HasFailed v w            a call met a fault, and the vault stopped; its store is as `leaves` says
--     HasWritten v name at bytes w     these bytes were written to an image
--     HasSynced v name w       an image was synced
--     HasTurned v w            the anchor was moved
--     HasRead v w              the log was read
--     ReadHasFailed v w        a read of it failed
--     IsFrameAt p f            the frame has the records that were taken at p
--     TornFrom old name at n   a disk of these, whose file has what a write of n bytes leaves at any moment
use Rattle.std.specs.Prelude.{◌≡◌, ℕ, ◌+◌, ◌≤◌, false, List, length, Option, IfSome, is_some}
use Rattle.dali_store.specs.declared.store.FileName.{FileName}
use Rattle.dali_store.specs.declared.store.FileName.TheVariants.{Log, Anchor}
use Rattle.dali_store.specs.Store.{Files as Disk, file_of, HoldsIn, TornIn, TornTold, Follows}
use Rattle.dali_store.specs.Faults.{Rose}
use Rattle.dali_store.specs.declared.store.Store.{Ghosts}
use Rattle.dali_log.specs.Batch.{Framed}
use Rattle.dali_log.specs.Appending.{bodies_of, SomeAdded, AllAdded}
use Rattle.dali_runs.specs.Flushes.{frame_of}
use Rattle.dali_crash.specs.Checkpoints.{Point}
use Rattle.dali_log.specs.Anchors.{HasMoved, MayHaveMoved}
use Rattle.dali_crash.specs.Disks.Bridges.{body_at}
use Rattle.dali_core.specs.Vault.Vaulted.{Vaulted, grown, moved, faulted, with_store}

pub record IsFrameAt (p : Point) (f : Framed) : Type 0 where
  pub body : f.body ≡ body_at p
  pub records : f.records ≡ length (frame_of p.log p.core)

-- one of these disks, with these n bytes of a file written in part or in full
abbrev pub TornFrom : (Disk → Type 0) → FileName → ℕ → ℕ → Disk → Type 0
TornFrom old name at n c = (d : Disk) × old d × TornIn name at n d c

module _ {V : Type 0} (means : Ghosts V) where
  -- the count of faults stayed, and the store tells as before
  pub record IsOk (v w : Vaulted V) : Type 0 where
    pub runs : w.stopped ≡ false
    pub kept : means.faults w.store ≡ means.faults v.store
    pub tells : is_some (means.told w.store) ≡ is_some (means.told v.store)

  -- the count rose
  pub record HasFailed (v w : Vaulted V) (leaves : Disk → Type 0) : Type 0 where
    pub ran : v.stopped ≡ false
    pub vault : w ≡ faulted v w.store
    pub rose : Rose (means.faults v.store) (means.faults w.store)
    pub tells : is_some (means.told w.store) ≡ is_some (means.told v.store)
    pub crash : IfSome (means.told v.store) (λ _. (c : Disk) → means.may_leave w.store c → leaves c)

  -- ---- a flush
  pub record HasFlushed (v : Vaulted V) (f : Framed) (w : Vaulted V) : Type 0 where
    pub ok : IsOk v w
    pub vault : w ≡ grown v w.store f
    pub torn : TornTold Log v.end (length f.body + 6) (means.told v.store) (means.told w.store)
    pub added : IfSome (means.told v.store) (λ _. (c : Disk) → means.may_leave w.store c → AllAdded (means.may_leave v.store) v.end (bodies_of f.body) c)

  abbrev pub FlushHasFailed : Vaulted V → Framed → Vaulted V → Type 0
  FlushHasFailed v f w = HasFailed v w (SomeAdded (means.may_leave v.store) v.end (bodies_of f.body))

  -- ---- an image
  pub record HasWritten (v : Vaulted V) (name : FileName) (at : ℕ) (bytes : List ℕ) (w : Vaulted V) : Type 0 where
    pub ok : IsOk v w
    pub vault : w ≡ with_store v w.store
    pub inside : IfSome (means.told v.store) (λ fs. at ≤ length (file_of name fs))
    pub written : HoldsIn name at bytes (means.told v.store) (means.told w.store)
    pub crash : Follows (TornIn name at (length bytes)) (means.may_leave v.store) (means.may_leave w.store)

  abbrev pub WriteHasFailed : Vaulted V → FileName → ℕ → ℕ → Vaulted V → Type 0
  WriteHasFailed v name at n w = HasFailed v w (TornFrom (means.may_leave v.store) name at n)

  pub record HasSynced (v : Vaulted V) (name : FileName) (w : Vaulted V) : Type 0 where
    pub ok : IsOk v w
    pub vault : w ≡ with_store v w.store
    pub same : means.told w.store ≡ means.told v.store
    pub crash : (c : Disk) → means.may_leave w.store c → means.may_leave v.store c
    pub durable : IfSome (means.told v.store) (λ fs. (c : Disk) → means.may_leave w.store c → file_of name c ≡ file_of name fs)

  abbrev pub SyncHasFailed : Vaulted V → Vaulted V → Type 0
  SyncHasFailed v w = HasFailed v w (means.may_leave v.store)

  -- ---- the anchor
  pub record HasTurned (v w : Vaulted V) : Type 0 where
    pub ok : IsOk v w
    pub vault : w ≡ moved v w.store
    pub torn : TornTold Anchor v.current 2 (means.told v.store) (means.told w.store)
    pub moved : IfSome (means.told v.store) (λ _. (c : Disk) → means.may_leave w.store c → HasMoved (means.may_leave v.store) v.current c)

  abbrev pub TurnHasFailed : Vaulted V → Vaulted V → Type 0
  TurnHasFailed v w = HasFailed v w (MayHaveMoved (means.may_leave v.store) v.current)

  -- ---- a read
  pub record OnlyRead (v w : Vaulted V) : Type 0 where
    pub vault : w ≡ with_store v w.store
    pub same : means.told w.store ≡ means.told v.store
    pub crash : (c : Disk) → means.may_leave w.store c → means.may_leave v.store c

  abbrev pub HasRead : Vaulted V → Vaulted V → Type 0
  HasRead v w = OnlyRead v w × (means.faults w.store ≡ means.faults v.store)

  abbrev pub ReadHasFailed : Vaulted V → Vaulted V → Type 0
  ReadHasFailed v w = OnlyRead v w × Rose (means.faults v.store) (means.faults w.store)
