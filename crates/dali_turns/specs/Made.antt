-- What each step of a client keeps to.
--     MakesStep .. state k .. r j ..   from this state, client and core to those behind it, with this result: the step goes as StepGoes says, places stay
--                              so, a crash inside it leaves what restarts right, and what is refused is refused now
use Rattle.std.specs.Prelude.{ℕ, Bool, List, Option, Result, is_ok}
use Rattle.dali_bytes.specs.declared.error.OutOfMemory.{OutOfMemory as NoMemory}
use Rattle.dali_region.specs.State.{RegionState}
use Rattle.dali_store.specs.Store.{Files as Disk}
use Rattle.dali_store.specs.declared.store.Store.{Ghosts}
use Rattle.dali_runs.specs.State.{SystemState}
use Rattle.dali_core.specs.Vault.Vaulted.{Vaulted}
use Rattle.dali_turns.specs.declared.client.Client.{Client}
use Rattle.dali_turns.specs.declared.client.State.{State}
use Rattle.dali_turns.specs.Goes.{StepGoes}
use Rattle.dali_turns.specs.Places.{PlacesGo}
use Rattle.dali_turns.specs.Moments.{StepLeavesRight}
use Rattle.dali_turns.specs.Refuses.{Refuses}

module _ {V : Type 0} (means : Ghosts V) where
  -- state: where the client stands before the step
  pub record MakesStep (precheck : Bool) (state : State) (k : Client) (gs : List RegionState) (y : SystemState) (v : Vaulted V)
      (r : Result Bool NoMemory) (j : Client) (hs : List RegionState) (z : SystemState) (u : Vaulted V) : Type 0 where
    pub goes : StepGoes means precheck state k gs y v (is_ok r) j hs z u
    pub places : PlacesGo means.told state gs v j.state hs u
    pub any_moment : StepLeavesRight means state k gs y v z u
    pub refuses : Refuses precheck state k gs y v.flushed r j u.stopped
