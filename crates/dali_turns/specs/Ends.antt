-- What the ends of a transaction leave of the core, and the lines that tell it.
--     IsTakenBack, IsHalfBack  all undos of t were performed, and its end logged; or some were, and it stands as it did
--     IsCleanedUp, IsLeftDead  a dead transaction was cleaned up; or it was refused, and is dead again
--     ClearsWay t x state ..   the dead transaction t in the way of a call of x was cleaned up, and the client stands in this state; or the engine is stopped,
--                              and the call is refused. Where memory is wanting t is dead again, and the client is as it was, or has said nothing
--     abort_line, end_line     the lines, by the cause of the stop, if the engine is stopped
--     SaysAlso k rest state lines j    the client goes on with these commands, stands in this state, and has said these lines
--     GoesSilent k j           it has said nothing
use Rattle.std.specs.Prelude.{◌≡◌, ◌⊎◌, ℕ, Bool, List, [], ◌∷◌, Option, Some, None, Result, Ok, Err}
use Rattle.dali_bytes.specs.declared.error.OutOfMemory.{OutOfMemory as NoMemory}
use Rattle.dali_record.specs.declared.records.Record.TheVariants.{Ended}
use Rattle.dali_region.specs.State.{RegionState}
use Rattle.dali_att.specs.declared.state.State.TheVariants.{Dead}
use Rattle.dali_store.specs.Store.{Files as Disk}
use Rattle.dali_store.specs.declared.store.Store.{Ghosts}
use Rattle.dali_runs.specs.declared.causes.Cause.{Cause}
use Rattle.dali_runs.specs.State.{SystemState, state_of}
use Rattle.dali_core.specs.Vault.Vaulted.{Vaulted}
use Rattle.dali_calls.specs.Others.{IsGone}
use Rattle.dali_calls.specs.Single.Ending.{IsBackOf}
use Rattle.dali_clean.specs.Cleaned.{AreDead, Ends, GivesBack, MayClean, IsDead}
use Rattle.dali_clean.specs.Others.{OthersStay}
use Rattle.dali_transactions.specs.Ended.{Comes}
use Rattle.dali_transcripts.specs.declared.clients.command.Command.{Command}
use Rattle.dali_transcripts.specs.declared.clients.command.Command.TheVariants.{Abort}
use Rattle.dali_transcripts.specs.declared.clients.line.Line.{Line}
use Rattle.dali_transcripts.specs.declared.clients.line.Line.TheVariants.{AbortOk, Aborted, LeftOpen, Refused}
use Rattle.dali_transcripts.specs.declared.clients.line.Why.TheVariants.{Stopped}
use Rattle.dali_transcripts.specs.Clients.Said.{said}
use Rattle.dali_turns.specs.declared.client.Client.{Client}
use Rattle.dali_turns.specs.declared.client.State.{State}
use Rattle.dali_turns.specs.declared.client.State.TheVariants.{Within}
use Rattle.dali_turns.specs.declared.client.Transaction.{Transaction}
use Rattle.dali_turns.specs.Clients.{Passes, RefusesCall, Stays}

module _ {V : Type 0} (means : Ghosts V) where
  pub record IsTakenBack (t : ℕ) (gs : List RegionState) (y : SystemState) (v : Vaulted V) (hs : List RegionState) (z : SystemState) : Type 0 where
    pub comes : Comes means t (IsBackOf t) (Ended t ∷ []) gs y v hs z
    pub gone : IsGone z t
    pub others : OthersStay gs y t hs z

  pub record IsHalfBack (t : ℕ) (gs : List RegionState) (y : SystemState) (v : Vaulted V) (hs : List RegionState) (z : SystemState) : Type 0 where
    pub comes : Comes means t (IsBackOf t) [] gs y v hs z
    pub lives : state_of z t ≡ state_of y t
    pub others : OthersStay gs y t hs z

pub record IsCleanedUp (t : ℕ) (gs : List RegionState) (y : SystemState) (hs : List RegionState) (z : SystemState) : Type 0 where
  pub ends : Ends gs y t hs z
  pub gone : IsGone z t
  pub dead : AreDead gs → AreDead hs
  pub others : OthersStay gs y t hs z

pub record IsLeftDead (t : ℕ) (gs : List RegionState) (y : SystemState) (hs : List RegionState) (z : SystemState) : Type 0 where
  pub left : GivesBack gs y t hs z
  pub again : state_of z t ≡ Some (Dead None)
  pub dead : AreDead gs → AreDead hs
  pub others : OthersStay gs y t hs z

abbrev pub ClearsWay : ℕ → Transaction → State → Client → List RegionState → SystemState → Result Bool NoMemory → Client → List RegionState → SystemState → Type 0
ClearsWay t x state k gs y (Ok went) j hs z =
    ((y.stop ≡ None) × IsCleanedUp t gs y hs z × Stays k state j)
    ⊎ ((cause : Cause) × (y.stop ≡ Some cause) × (MayClean gs y t → IsLeftDead t gs y hs z) × RefusesCall k x (Stopped cause) j)
ClearsWay t x state k gs y (Err e) j hs z =
    ((MayClean gs y t → IsDead (state_of y t) → (y.stop ≡ None) × IsLeftDead t gs y hs z) × (j ≡ k))
    ⊎ ((cause : Cause) × (y.stop ≡ Some cause) × (MayClean gs y t → IsLeftDead t gs y hs z) × Passes k (Within x) j)

abbrev pub abort_line : Option Cause → Line
abort_line None = AbortOk
abort_line (Some cause) = Refused Abort (Stopped cause)

abbrev pub end_line : Option Cause → Line
end_line None = Aborted
end_line (Some cause) = LeftOpen

pub record SaysAlso (k : Client) (rest : List Command) (state : State) (lines : List Line) (j : Client) : Type 0 where
  pub rest_is : j.rest.now ≡ rest
  pub stands : j.state ≡ state
  pub transcript : j.transcript ≡ said k.transcript lines

pub record GoesSilent (k j : Client) : Type 0 where
  pub transcript : j.transcript ≡ k.transcript
