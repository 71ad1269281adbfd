-- A checkpoint at a point of a run, from call to call.
--     AreCopied p h n k        each region below k was brought up to date since the start, and before record n
--     IsIdle ..                no checkpoint is under way
--     IsCopying .. c h         the checkpoint c is under way, which kept h, and has copied as many regions as it says
--     IsSettled .. c h n       it has settled at record n: the whole image is read
--     PassesTell p b           the copy of each region that the audit from record b passed, and found nothing in, is passed
--     IsCertifiedAt p n b      an audit that began at b, behind record n, has ended clean, and each copy is passed
use Rattle.std.specs.Prelude.{◌≡◌, ℕ, ◌<◌, ◌≤◌, true, false, List, Option, Some, None, length, slice_get}
use Rattle.dali_geometry.specs.Places.{regions}
use Rattle.dali_record.specs.declared.records.Record.{Record}
use Rattle.dali_record.specs.declared.records.Record.TheVariants.{AuditClean}
use Rattle.dali_region.specs.State.{RegionState}
use Rattle.dali_store.specs.Store.{Files as Disk}
use Rattle.dali_store.specs.declared.store.Store.{Ghosts}
use Rattle.dali_runs.specs.State.{SystemState}
use Rattle.dali_runs.specs.Passes.{has_passed, has_found}
use Rattle.dali_crash.specs.Checkpoints.{Head, Copy, Point, target}
use Rattle.dali_crash.specs.Traces.{Start}
use Rattle.dali_crash.specs.Disks.Disks.{table_bytes}
use Rattle.dali_core.specs.Vault.Vaulted.{Vaulted}
use Rattle.dali_core.specs.Steps.Called.{IsUnderWayIn, IsWholeIn}
use Rattle.dali_core.specs.Cores.{IsCoreAt}
use Rattle.dali_image.specs.Laws.{header_of}
use Rattle.dali_checkpoint.specs.Kept.{Checkpointed}

-- ---- the copies
pub record IsCopiedAt (p : Point) (h : Head) (n r : ℕ) : Type 0 where
  pub copy : Copy
  pub there : p.copies (target p) r ≡ Some copy
  pub since : h.first ≤ copy.at
  pub until : copy.at ≤ n

abbrev pub AreCopied : Point → Head → ℕ → ℕ → Type 0
AreCopied p h n k = (r : ℕ) → r < k → IsCopiedAt p h n r

-- what the checkpoint has, it kept at its start
pub record IsOf (p : Point) (c : Checkpointed) (h : Head) : Type 0 where
  pub begun : p.begun ≡ Some h
  pub header : c.header ≡ header_of p.core.system.sizes h
  pub table : c.table ≡ table_bytes h.table

-- ---- the audit
pub record IsPassedAt (p : Point) (r : ℕ) : Type 0 where
  pub copy : Copy
  pub there : p.copies (target p) r ≡ Some copy
  pub passed : copy.passed ≡ true

abbrev pub PassesTell : Point → ℕ → Type 0
PassesTell p b = (r : ℕ) → r < regions p.core.system.sizes → has_passed (p.audits b) r ≡ true → has_found (p.audits b) r ≡ false → IsPassedAt p r

pub record IsCertifiedAt (p : Point) (n b : ℕ) : Type 0 where
  pub behind : n ≤ b
  pub end : ℕ
  pub clean : slice_get p.log end ≡ Some (AuditClean b)
  pub ends : b ≤ end
  pub passed : (r : ℕ) → r < regions p.core.system.sizes → IsPassedAt p r

module _ {V : Type 0} (means : Ghosts V) where
  pub record IsIdle (s : Start) (B : List (List Record)) (p : Point) (gs : List RegionState) (y : SystemState) (v : Vaulted V) : Type 0 where
    pub at : IsCoreAt means s B p gs y v
    pub flag : y.checking ≡ false
    pub begun : p.begun ≡ None

  pub record IsCopying (s : Start) (B : List (List Record)) (p : Point) (gs : List RegionState) (y : SystemState) (v : Vaulted V) (c : Checkpointed) (h : Head) : Type 0 where
    pub at : IsCoreAt means s B p gs y v
    pub flag : y.checking ≡ true
    pub is : IsOf p c h
    pub copies : AreCopied p h (length p.log) c.copied
    pub under_way : IsUnderWayIn means p h c.copied v.store

  pub record IsSettled (s : Start) (B : List (List Record)) (p : Point) (gs : List RegionState) (y : SystemState) (v : Vaulted V) (c : Checkpointed) (h : Head) (n : ℕ) : Type 0 where
    pub at : IsCoreAt means s B p gs y v
    pub flag : y.checking ≡ true
    pub is : IsOf p c h
    pub settled : c.settled ≡ Some n
    pub within : n ≤ length p.log
    pub copies : AreCopied p h n (regions p.core.system.sizes)
    pub head : p.heads (target p) ≡ h
    pub whole : IsWholeIn means p v.store
