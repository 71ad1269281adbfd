-- Where the core of a round stands between two steps of its clients.
--     HadRow w t               the transaction has a row, or has ended
--     IsQuiet y                no transaction is claimed
--     Stood s B p w precheck gs y v    a run from the start s has come to the point p with this core, of which the world w tells
use Rattle.std.specs.Prelude.{◌≡◌, ◌⊎◌, ℕ, Bool, true, false, List, Option, IfSome, IsSome, length, ◌≤◌}
use Rattle.dali_record.specs.declared.records.Record.{Record}
use Rattle.dali_record.specs.declared.records.Record.TheVariants.{Ended}
use Rattle.dali_region.specs.State.{RegionState}
use Rattle.dali_store.specs.Store.{Files as Disk}
use Rattle.dali_store.specs.declared.store.Store.{Ghosts}
use Rattle.dali_runs.specs.State.{SystemState, state_of}
use Rattle.dali_crash.specs.Checkpoints.{Point}
use Rattle.dali_crash.specs.StoreRuns.{FlagTells}
use Rattle.dali_crash.specs.Traces.{Start}
use Rattle.dali_core.specs.Vault.Vaulted.{Vaulted}
use Rattle.dali_core.specs.Cores.{HoldsPlaces}
use Rattle.dali_transactions.specs.Stands.{StandsAt}
use Rattle.dali_transcripts.specs.World.{World, IsLogged, is_claimed_in}
use Rattle.dali_transcripts.specs.Rounds.{IsBetween}
use Rattle.dali_transcripts.specs.Telling.Tells.{Tells}

abbrev pub HadRow : World → ℕ → Type 0
HadRow w t = IsSome (state_of w.core.system t) ⊎ ((n : ℕ) × IsLogged w n (Ended t))

pub record IsQuiet (y : SystemState) : Type 0 where
  pub unclaimed : (t : ℕ) → is_claimed_in (state_of y t) ≡ false

module _ {V : Type 0} (means : Ghosts V) where
  pub record Stood (s : Start) (B : List (List Record)) (p : Point) (w : World) (precheck : Bool) (gs : List RegionState) (y : SystemState) (v : Vaulted V) : Type 0 where
    pub stands : StandsAt means s B p gs y v
    pub files : IfSome (means.told v.store) (HoldsPlaces gs)
    pub quiet : IsQuiet y
    -- a store that failed has stopped the engine
    pub stops : v.stopped ≡ true → IsSome y.stop
    pub tells : Tells w p
    pub precheck_is : w.precheck ≡ precheck
    pub began : IsBetween w.old
    -- the round began behind the log from which the run goes
    pub since : length s.log ≤ length w.before
    -- the flag tells whether a checkpoint keeps something
    pub keeps : FlagTells p
