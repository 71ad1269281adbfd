-- Why a client makes no step.
--     Waits y state            it must wait for a lock that a younger transaction holds whose client hasn't died, or for the end of a holder
--     MakesNone y state none   it is done; or the engine runs, and it waits
--     StaysPut y k j           it made no step for such a reason
use Rattle.std.specs.Prelude.{◌≡◌, ◌⊎◌, ◌==◌, Bool, true, None, length}
use Rattle.dali_record.specs.declared.records.Call.{Call}
use Rattle.dali_runs.specs.State.{SystemState}
use Rattle.dali_turns.specs.declared.client.Client.{Client}
use Rattle.dali_turns.specs.declared.client.State.{State}
use Rattle.dali_turns.specs.declared.client.State.TheVariants.{Within, Waiting}
use Rattle.dali_turns.specs.Calls.{MustWait}
use Rattle.dali_turns.specs.Clients.{is_over, Stays}
use Rattle.dali_turns.specs.Outside.{HasGone}

abbrev pub Waits : SystemState → State → Type 0
Waits y (Within x) = (call : Call) × MustWait y x.txn call
Waits y (Waiting tries holder) = HasGone y holder → ⊥
Waits y state = ⊥

abbrev pub MakesNone : SystemState → State → Bool → Type 0
MakesNone y state none = (is_over state none ≡ true) ⊎ ((y.stop ≡ None) × Waits y state)

-- state: where the client stands before the step, which its caller has taken out of it
pub record StaysPut (y : SystemState) (state : State) (k j : Client) : Type 0 where
  pub stays : Stays k state j
  pub reason : MakesNone y state (length k.rest.now == 0)
