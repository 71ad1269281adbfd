-- Where a core stands between two steps of its clients.
--     StandsAt s B p gs y v    a run from the start s has come to the point p with this core, which is whole, and no hold of it is live
--     IsUp gs y v              there is such a run
--     IsBetween gs y v t       and the rules of its log have t between two calls
use Rattle.std.specs.Prelude.{ℕ, List, Option}
use Rattle.dali_record.specs.declared.records.Record.{Record}
use Rattle.dali_region.specs.State.{RegionState}
use Rattle.dali_store.specs.Store.{Files as Disk}
use Rattle.dali_store.specs.declared.store.Store.{Ghosts}
use Rattle.dali_runs.specs.State.{SystemState}
use Rattle.dali_runs.specs.Wholes.{IsWhole}
use Rattle.dali_crash.specs.Checkpoints.{Point}
use Rattle.dali_crash.specs.Traces.{Start}
use Rattle.dali_core.specs.Vault.Vaulted.{Vaulted}
use Rattle.dali_calls.specs.Single.Single.{MayCall}
use Rattle.dali_clean.specs.Cleaned.{AreDead}
use Rattle.dali_core.specs.Cores.{IsCoreAt}

module _ {V : Type 0} (means : Ghosts V) where
  pub record StandsAt (s : Start) (B : List (List Record)) (p : Point) (gs : List RegionState) (y : SystemState) (v : Vaulted V) : Type 0 where
    pub at : IsCoreAt means s B p gs y v
    pub whole : IsWhole p.core
    pub dead : AreDead gs

  pub record IsUp (gs : List RegionState) (y : SystemState) (v : Vaulted V) : Type 0 where
    pub start : Start
    pub batches : List (List Record)
    pub point : Point
    pub stands : StandsAt start batches point gs y v

  pub record IsBetween (gs : List RegionState) (y : SystemState) (v : Vaulted V) (t : ℕ) : Type 0 where
    pub up : IsUp gs y v
    pub may : MayCall up.point.log up.point.core t
