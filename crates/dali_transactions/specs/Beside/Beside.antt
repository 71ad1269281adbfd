-- A call of one client fails while another's checkpoint is under way: that one may be given up.
--     EndsBeside               the checkpoint that was under way at the point p may be given up where the core stands now
--     FlushEnds, CommitEnds    so it is behind a flush of all records that the store failed, and behind a commit
use Rattle.std.specs.Prelude.{◌≡◌, ℕ, Bool, true, List, Option}
use Rattle.dali_record.specs.declared.records.Record.{Record}
use Rattle.dali_region.specs.State.{RegionState}
use Rattle.dali_store.specs.Store.{Files as Disk}
use Rattle.dali_store.specs.declared.store.Store.{Ghosts}
use Rattle.dali_runs.specs.State.{SystemState}
use Rattle.dali_runs.specs.Steps.{taken, store_stopped}
use Rattle.dali_crash.specs.Checkpoints.{Head, Point}
use Rattle.dali_crash.specs.Traces.{Start}
use Rattle.dali_core.specs.Vault.Vaulted.{Vaulted}
use Rattle.dali_core.specs.Flushed.{FlushFails}
use Rattle.dali_checkpoint.specs.Kept.{Checkpointed, given_up}
use Rattle.dali_checkpoint.specs.Running.{IsCopying, IsSettled}
use Rattle.dali_checkpoint.specs.Laws.{Ends}
use Rattle.dali_transactions.specs.Committed.{HasFailed}

module _ {V : Type 0} (means : Ghosts V) where
  -- whether the checkpoint's own copy has failed or not
  pub record EndsBeside (s : Start) (B : List (List Record)) (p : Point) (gs : List RegionState) (y : SystemState) (v : Vaulted V) (z : SystemState) (w : Vaulted V) : Type 0 where
    pub copying : (c : Checkpointed) (h : Head) → IsCopying means s B p gs y v c h → (failed : Bool) → Ends means s p gs (given_up failed z) w
    pub settled : (c : Checkpointed) (h : Head) (n : ℕ) → IsSettled means s B p gs y v c h n → (failed : Bool) → Ends means s p gs (given_up failed z) w

  abbrev pub FlushEnds : Type 0
  FlushEnds =
      (s : Start) (B : List (List Record)) (p : Point) (gs : List RegionState) (y : SystemState) (v w : Vaulted V) → FlushFails means gs y v (store_stopped (taken y)) w → w.stopped ≡ true
      → EndsBeside s B p gs y v (store_stopped (taken y)) w

  abbrev pub CommitEnds : Type 0
  CommitEnds =
      (s : Start) (B : List (List Record)) (p : Point) (gs : List RegionState) (y z : SystemState) (v w : Vaulted V) (t : ℕ) → HasFailed means s B p gs y v t z w → w.stopped ≡ true
      → EndsBeside s B p gs y v z w
