-- What a crash may leave of a core.
--     NoneEscapes e c          no damage escapes a stop that leaves e as the last epoch of the log
--     IsAcknowledged before c t       the Commit of t is among the flushed records: only then a commit answers Ok
use Rattle.std.specs.Prelude.{◌≡◌, ℕ, ◌<◌, true, false, List, Some, take, slice_get, Contains}
use Rattle.dali_record.specs.declared.records.Record.{Record}
use Rattle.dali_record.specs.Log.{committed}
use Rattle.dali_record.specs.Epochs.{Epoch, failing}
use Rattle.dali_record.specs.Damage.{has}
use Rattle.dali_region.specs.State.{RegionState}
use Rattle.dali_runs.specs.State.{CoreState, stable, log_after}
use Rattle.dali_runs.specs.Run.{blocks_on}

-- no stray write was missed, and each region with more blocks in this epoch than are sound is a failing one
pub record NoneEscapes (e : Epoch) (c : CoreState) : Type 0 where
  pub seen : (r : ℕ) (g : RegionState) → slice_get c.regions r ≡ Some g → g.missed ≡ false
  pub named : (r : ℕ) (g : RegionState) → slice_get c.regions r ≡ Some g → g.sound < blocks_on r e.records → has (failing e) r ≡ true

abbrev pub IsAcknowledged : List Record → CoreState → ℕ → Type 0
IsAcknowledged before c t = Contains (committed (take (stable c) (log_after before c.system))) t
