-- What two or three calls of a vault did, one after another.
use Rattle.std.proofs.Common.{◌≡◌, ℕ, Bool, List, Option, ap, sym, ◌∙◌, inl, inr, ⊎_elim}
use Rattle.dali_region.specs.declared.Side.{Side}
use Rattle.dali_store.specs.declared.store.FileName.{FileName}
use Rattle.dali_store.specs.Store.{Files as Disk}
use Rattle.dali_store.specs.declared.store.Store.{Ghosts}
use Rattle.dali_runs.specs.State.{SystemState}
use Rattle.dali_runs.specs.Steps.{taken, in_checkpoint}
use Rattle.dali_crash.specs.Disks.Disks.{image_name}
use Rattle.dali_core.specs.Vault.Vaulted.{Vaulted, with_store}
use Rattle.dali_core.specs.Steps.Said.{HasWritten, WriteHasFailed, HasSynced, SyncHasFailed, HasTurned, TurnHasFailed}
use Rattle.dali_core.specs.Flushed.{FlushesFrame}
use Rattle.dali_checkpoint.specs.Kept.{Checkpointed, header_at}
use Rattle.dali_checkpoint.specs.Done.{Writes, FailsToWrite, HasStarted, HasTurnedTo, FailsToTurn}

module _ {V : Type 0} (means : Ghosts V) where
  pub writes : (y : SystemState) (v mid w : Vaulted V) (f : FileName) (at : ℕ) (bytes : List ℕ) → FlushesFrame means y v mid → HasWritten means mid f at bytes w
      → Writes means y v f at bytes w
  writes y v mid w f at bytes a b = record { mid = mid; flushed = a; written = b }

  pub write_fails : (y : SystemState) (v mid w : Vaulted V) (f : FileName) (at n : ℕ) → FlushesFrame means y v mid → WriteHasFailed means mid f at n w
      → FailsToWrite means y v f at n w
  write_fails y v mid w f at n a b = inr (record { mid = mid; flushed = a; failed = b })

  pub turns : (y : SystemState) (v mid late w : Vaulted V) (side : Side) → FlushesFrame means y v mid → HasSynced means mid (image_name side) late → HasTurned means late w
      → HasTurnedTo means y v side w
  turns y v mid late w side a b d = record { mid = mid; flushed = a; late = late; synced = b; turned = d }

  pub sync_fails : (y : SystemState) (v mid w : Vaulted V) (side : Side) → FlushesFrame means y v mid → SyncHasFailed means mid w → FailsToTurn means y v side w
  sync_fails y v mid w side a b = inr (inl (record { mid = mid; flushed = a; failed = b }))

  pub turn_fails : (y : SystemState) (v mid late w : Vaulted V) (side : Side) → FlushesFrame means y v mid → HasSynced means mid (image_name side) late → TurnHasFailed means late w
      → FailsToTurn means y v side w
  turn_fails y v mid late w side a b d = inr (inr (record { mid = mid; flushed = a; late = late; synced = b; failed = d }))

  -- the flag of a checkpoint is none of what a flush looks at
  pub flushes_over : (y : SystemState) (b : Bool) (v w : Vaulted V) → FlushesFrame means (in_checkpoint y b) v w → FlushesFrame means y v w
  flushes_over y b v w said = (said.0, record { body = said.1.body; records = said.1.records }, said.2)

  pub started_over : (y : SystemState) (b : Bool) (v w : Vaulted V) (c : Checkpointed) → HasStarted means (in_checkpoint y b) v c w → HasStarted means y v c w
  started_over y b v w c is = record {
    header = is.header;
    table = is.table;
    copied = is.copied;
    settled = is.settled;
    faulted = is.faulted;
    writes = record { mid = is.writes.mid; flushed = flushes_over y b v is.writes.mid is.writes.flushed; written = is.writes.written };
  }

  pub fails_over : (y : SystemState) (b : Bool) (v w : Vaulted V) (f : FileName) (at n : ℕ) → FailsToWrite means (in_checkpoint y b) v f at n w → FailsToWrite means y v f at n w
  fails_over y b v w f at n said = ⊎_elim
      (λ a. inl (a.0, record { body = a.1.body; records = a.1.records }, a.2))
      (λ a. inr (record { mid = a.mid; flushed = flushes_over y b v a.mid a.flushed; failed = a.failed }))
      said

  -- the header, as it is made behind the flush and before the write
  pub header_now : (y x : SystemState) (mid w : Vaulted V) (n : ℕ) → x ≡ taken y → w ≡ with_store mid w.store → header_at x mid n ≡ header_at y w n
  header_now y x mid w n e f = ap (λ z. header_at z mid n) e ∙ sym (ap (λ v. header_at y v n) f)
