-- What a crash at any moment of a call of a checkpoint leaves.
--     WriteLeaves y v f at n c     all records are flushed and n bytes written to a file: the disk c is left at a moment of one of the two
--     TurnLeaves y v side c        all records are flushed, the image is synced and the anchor moved: so it is of one of the three
--     StartIsRight, CopyIsRight, SettleIsRight, CertifyIsRight     each disk that a crash inside the call leaves spells files that restart right
--     FailureIsRight               so does each that one inside a certification by an audit that failed leaves
use Rattle.std.specs.Prelude.{◌≡◌, ℕ, ◌+◌, ◌⊎◌, false, List, Option, IfSome}
use Rattle.dali_record.specs.declared.records.Record.{Record}
use Rattle.dali_region.specs.declared.Side.{Side}
use Rattle.dali_region.specs.State.{RegionState}
use Rattle.dali_store.specs.declared.store.FileName.{FileName}
use Rattle.dali_store.specs.Store.{Files as Disk}
use Rattle.dali_store.specs.declared.store.Store.{Ghosts}
use Rattle.dali_runs.specs.State.{SystemState}
use Rattle.dali_crash.specs.Checkpoints.{Head, Point, side_of}
use Rattle.dali_crash.specs.Traces.{Start}
use Rattle.dali_crash.specs.Disks.Disks.{AllSpell, image_name}
use Rattle.dali_log.specs.Anchors.{MayHaveMoved}
use Rattle.dali_core.specs.Vault.Vaulted.{Vaulted}
use Rattle.dali_core.specs.Steps.Said.{TornFrom, HasSynced}
use Rattle.dali_core.specs.Cores.{IsCoreAt}
use Rattle.dali_core.specs.Flushed.{FlushesFrame}
use Rattle.dali_core.specs.Moments.{FlushLeaves, IsRightWithin}
use Rattle.dali_checkpoint.specs.Kept.{Checkpointed, side_in}
use Rattle.dali_checkpoint.specs.Running.{IsIdle, IsCopying, IsSettled, IsCertifiedAt}

module _ {V : Type 0} (means : Ghosts V) where
  -- ---- a flush and a write
  pub record WriteLeft (y : SystemState) (v : Vaulted V) (f : FileName) (at n : ℕ) (c : Disk) : Type 0 where
    pub mid : Vaulted V
    pub flushed : FlushesFrame means y v mid
    pub torn : TornFrom (means.may_leave mid.store) f at n c

  abbrev pub WriteLeaves : SystemState → Vaulted V → FileName → ℕ → ℕ → Disk → Type 0
  WriteLeaves y v f at n c = FlushLeaves means.may_leave y v c ⊎ WriteLeft y v f at n c

  -- ---- a flush, a sync and the anchor's move
  pub record SyncLeft (y : SystemState) (v : Vaulted V) (c : Disk) : Type 0 where
    pub mid : Vaulted V
    pub flushed : FlushesFrame means y v mid
    pub left : means.may_leave mid.store c

  pub record TurnLeft (y : SystemState) (v : Vaulted V) (side : Side) (c : Disk) : Type 0 where
    pub mid : Vaulted V
    pub flushed : FlushesFrame means y v mid
    pub late : Vaulted V
    pub synced : HasSynced means mid (image_name side) late
    pub moved : MayHaveMoved (means.may_leave late.store) late.current c

  abbrev pub TurnLeaves : SystemState → Vaulted V → Side → Disk → Type 0
  TurnLeaves y v side c = FlushLeaves means.may_leave y v c ⊎ (SyncLeft y v c ⊎ TurnLeft y v side c)

  -- ---- each restarts right
  abbrev pub StartIsRight : Type 0
  StartIsRight =
      (s : Start) (B : List (List Record)) (p : Point) (gs : List RegionState) (y : SystemState) (v : Vaulted V) → IsIdle means s B p gs y v → v.stopped ≡ false
      → IfSome (means.told v.store) (λ _. AllSpell (WriteLeaves y v (image_name (side_of (v.current + 1))) 0 64) (IsRightWithin s p))

  abbrev pub CopyIsRight : Type 0
  CopyIsRight =
      (s : Start) (B : List (List Record)) (p : Point) (gs : List RegionState) (y : SystemState) (v : Vaulted V) (c : Checkpointed) (h : Head) (at n : ℕ)
      → IsCopying means s B p gs y v c h → v.stopped ≡ false
      → IfSome (means.told v.store) (λ _. AllSpell (TornFrom (means.may_leave v.store) (image_name (side_in c)) at n) (IsRightWithin s p))

  abbrev pub SettleIsRight : Type 0
  SettleIsRight =
      (s : Start) (B : List (List Record)) (p : Point) (gs : List RegionState) (y : SystemState) (v : Vaulted V) (c : Checkpointed) (h : Head) (at n : ℕ)
      → IsCopying means s B p gs y v c h → v.stopped ≡ false
      → IfSome (means.told v.store) (λ _. AllSpell (WriteLeaves y v (image_name (side_in c)) at n) (IsRightWithin s p))

  abbrev pub CertifyIsRight : Type 0
  CertifyIsRight =
      (s : Start) (B : List (List Record)) (p : Point) (gs : List RegionState) (y : SystemState) (v : Vaulted V) (c : Checkpointed) (h : Head) (n b : ℕ)
      → IsSettled means s B p gs y v c h n → IsCertifiedAt p n b → v.stopped ≡ false
      → IfSome (means.told v.store) (λ _. AllSpell (TurnLeaves y v (side_in c)) (IsRightWithin s p))

  abbrev pub FailureIsRight : Type 0
  FailureIsRight =
      (s : Start) (B : List (List Record)) (p : Point) (gs : List RegionState) (y : SystemState) (v : Vaulted V) → IsCoreAt means s B p gs y v → v.stopped ≡ false
      → IfSome (means.told v.store) (λ _. AllSpell (FlushLeaves means.may_leave y v) (IsRightWithin s p))
