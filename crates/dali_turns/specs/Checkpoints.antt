-- Where a client stands in a checkpoint.
--     IsMaking p w a rest own  it makes one, which is the one under way; these are its deeds so far
--     FitsCopying c next       it has copied the regions below next
--     FitsCertifying c audit next      its image is settled, and the audit behind it has passed the regions below next
use Rattle.std.specs.Prelude.{◌≡◌, ℕ, ◌≤◌, true, false, List, [], ◌∷◌, Option, Some, length}
use Rattle.dali_record.specs.declared.records.Record.{Record}
use Rattle.dali_record.specs.declared.records.Record.TheVariants.{AuditBegin}
use Rattle.dali_region.specs.State.{RegionState}
use Rattle.dali_store.specs.Store.{Files as Disk}
use Rattle.dali_store.specs.declared.store.Store.{Ghosts}
use Rattle.dali_runs.specs.State.{SystemState}
use Rattle.dali_crash.specs.Checkpoints.{Head, Point}
use Rattle.dali_crash.specs.Traces.{Start}
use Rattle.dali_core.specs.Vault.Vaulted.{Vaulted}
use Rattle.dali_audit.specs.Findings.{Audited}
use Rattle.dali_checkpoint.specs.Kept.{Checkpointed}
use Rattle.dali_checkpoint.specs.Running.{PassesTell, IsCopying, IsSettled}
use Rattle.dali_transcripts.specs.Words.{Act, Checkpoints}
use Rattle.dali_transcripts.specs.World.{World, Logs, StartsCheckpoint, under_way}
use Rattle.dali_transcripts.specs.Moves.{Receipt, Outside, at}
use Rattle.dali_transcripts.specs.Rounds.{Standing, IsPlaced}
use Rattle.dali_turns.specs.Audits.{IsPassing}

pub record IsMaking (p : Point) (w : World) (a : Standing) (rest : List Act) (own : List Receipt) : Type 0 where
  pub more : List Act
  pub makes : rest ≡ Checkpoints ∷ more
  pub spot : a.spot ≡ at (Outside false) rest
  pub since : ℕ
  pub pending : a.pending ≡ (since, StartsCheckpoint) ∷ own
  pub placed : IsPlaced false rest
  pub flag : p.core.system.checking ≡ true
  pub under : under_way w.happened ≡ Some a.client

module _ {V : Type 0} (means : Ghosts V) where
  -- what it knows of its image holds while the vault runs; once it has stopped the checkpoint is given up
  pub record FitsCopying (s : Start) (B : List (List Record)) (p : Point) (w : World) (gs : List RegionState) (y : SystemState) (v : Vaulted V) (a : Standing) (rest : List Act)
      (c : Checkpointed) (next : ℕ) : Type 0 where
    pub making : IsMaking p w a rest []
    pub head : Head
    pub copying : v.stopped ≡ false → IsCopying means s B p gs y v c head
    pub copied : c.copied ≡ next
    pub upto : next ≤ length gs
    pub sound : c.faulted ≡ false

  pub record FitsCertifying (s : Start) (B : List (List Record)) (p : Point) (w : World) (gs : List RegionState) (y : SystemState) (v : Vaulted V) (a : Standing) (rest : List Act)
      (c : Checkpointed) (audit : Audited) (next : ℕ) : Type 0 where
    pub making : IsMaking p w a rest ((audit.begin, Logs AuditBegin) ∷ [])
    pub head : Head
    pub number : ℕ
    pub settled : v.stopped ≡ false → IsSettled means s B p gs y v c head number
    pub passes : v.stopped ≡ false → PassesTell p audit.begin
    pub settled_at : c.settled ≡ Some number
    pub behind : number ≤ audit.begin
    pub sound : c.faulted ≡ false
    pub passing : IsPassing p w audit next
