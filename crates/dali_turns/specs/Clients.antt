-- What the small steps of a client leave of it.
--     next_of k                its next command, if it has one
--     next_point points        the number of the next operation for the gate, of which it was told so many
--     Passes k state j         it goes on behind the command that is under way, and stands in this state
--     Finishes k state line j  and it has said this line
--     RefusesCall k x why j    the line is that its call is refused, and it stands in the transaction x
--     Stays k state j          it goes on with no command, and stands in this state
--     left_behind command      where it stands behind a command that was left out
--     is_over state none       it is done, where it has no command left, or has died
use Rattle.std.specs.Prelude.{◌≡◌, ℕ, ◌+◌, ◌-◌, ◌^◌, min, Bool, true, false, if◌then◌else◌, [], ◌∷◌, Option, Some, drop, slice_get}
use Rattle.dali_transcripts.specs.declared.clients.command.Command.{Command}
use Rattle.dali_transcripts.specs.declared.clients.line.Line.{Line}
use Rattle.dali_transcripts.specs.declared.clients.line.Line.TheVariants.{Refused}
use Rattle.dali_transcripts.specs.declared.clients.line.Why.{Why}
use Rattle.dali_transcripts.specs.Clients.Said.{said}
use Rattle.dali_transcripts.specs.Clients.Told.{act_of}
use Rattle.dali_transcripts.specs.Words.{closes}
use Rattle.dali_turns.specs.declared.client.Client.{Client}
use Rattle.dali_turns.specs.declared.client.State.{State}
use Rattle.dali_turns.specs.declared.client.State.TheVariants.{Outside, LeftOut, Within, Gone}
use Rattle.dali_turns.specs.declared.client.Transaction.{Transaction}

abbrev pub next_of : Client → Option Command
next_of k = slice_get k.rest.now 0

abbrev pub next_point : ℕ → ℕ
next_point points = min (points + 1) (2 ^ 32 - 1)

pub record Passes (k : Client) (state : State) (j : Client) : Type 0 where
  pub rest : j.rest.now ≡ drop 1 k.rest.now
  pub stands : j.state ≡ state
  pub points : j.points ≡ k.points
  pub transcript : j.transcript ≡ k.transcript

pub record Finishes (k : Client) (state : State) (line : Line) (j : Client) : Type 0 where
  pub rest : j.rest.now ≡ drop 1 k.rest.now
  pub stands : j.state ≡ state
  pub points : j.points ≡ k.points
  pub transcript : j.transcript ≡ said k.transcript (line ∷ [])

abbrev pub RefusesCall : Client → Transaction → Why → Client → Type 0
RefusesCall k x why j = (command : Command) → next_of k ≡ Some command → Finishes k (Within x) (Refused command why) j

pub record Stays (k : Client) (state : State) (j : Client) : Type 0 where
  pub rest : j.rest.now ≡ k.rest.now
  pub stands : j.state ≡ state
  pub points : j.points ≡ k.points
  pub transcript : j.transcript ≡ k.transcript

abbrev pub left_behind : Command → State
left_behind command = if closes (act_of command) then Outside else LeftOut

abbrev pub is_over : State → Bool → Bool
is_over Gone none = true
is_over Outside none = none
is_over LeftOut none = none
is_over state none = false
