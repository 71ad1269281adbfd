-- What the lines of a round acknowledge, and what its log has of it.
--     Transaction              a transaction as its client was told of it: its number, and its calls with their answers
--     oks_in o lines           those that these lines of a client commit: of each line `commit ok` the one that the last line `begin` before it names, with the
--                              answers that stand between. o is the one under way before these lines, if there is one
--     oks_of lines             those of all clients of a round
--     StandsIn L n x           the record n of the log L is the Commit of x; and the log has just these calls of x before it, with these answers
--     OksStand                 each transaction that a round's lines acknowledge stands so in the round's log, where it is legal; and its Commit is flushed
use Rattle.std.specs.Prelude.{◌≡◌, ◌<◌, ℕ, Bool, true, List, [], ◌∷◌, ◌++◌, Option, Some, None, Contains, flat_map, option_to_list, slice_get, take}
use Rattle.dali_geometry.specs.Sizes.{Sizes}
use Rattle.dali_record.specs.declared.records.Call.{Call}
use Rattle.dali_record.specs.declared.records.Answer.{Answer}
use Rattle.dali_record.specs.declared.records.Record.{Record}
use Rattle.dali_record.specs.declared.records.Record.TheVariants.{Commit}
use Rattle.dali_record.specs.Legal.{IsLegalFor}
use Rattle.dali_record.specs.Log.{calls_of}
use Rattle.dali_runs.specs.State.{CoreState, stable}
use Rattle.dali_transcripts.specs.Words.{Said, Begun, Answered, CommitOk}
use Rattle.dali_transcripts.specs.World.{log_of}
use Rattle.dali_transcripts.specs.Transcripts.{Told}
use Rattle.dali_transcripts.specs.Rounds.{IsRound}

pub record Transaction : Type 0 where
  pub number : ℕ
  pub calls : List (Call × Answer)

-- ---- the lines
abbrev pub begun : ℕ → Transaction
begun t = record { number = t; calls = [] }

abbrev pub with_call : Transaction → Call → Answer → Transaction
with_call x call a = record { number = x.number; calls = x.calls ++ (call, a) ∷ [] }

abbrev pub answered : Option Transaction → Call → Answer → Option Transaction
answered None call a = None
answered (Some x) call a = Some (with_call x call a)

abbrev pub oks_in : Option Transaction → List Said → List Transaction
oks_in o [] = []
oks_in o (Begun t ∷ lines) = oks_in (Some (begun t)) lines
oks_in o (Answered call a ∷ lines) = oks_in (answered o call a) lines
oks_in o (CommitOk ∷ lines) = option_to_list o ++ oks_in None lines
oks_in o (line ∷ lines) = oks_in o lines

abbrev pub oks_of : List (List Said) → List Transaction
oks_of lines = flat_map (oks_in None) lines

-- ---- the log
pub record StandsIn (L : List Record) (n : ℕ) (x : Transaction) : Type 0 where
  pub commit : slice_get L n ≡ Some (Commit x.number)
  pub calls : calls_of x.number (take n L) ≡ x.calls

abbrev pub OksStand : Type 0
OksStand =
    (precheck : Bool) (before : List Record) (old new : CoreState) (blocks : List Told) (lines : List (List Said)) (receipts : List (List ℕ)) (s : Sizes)
    → (round : IsRound precheck true before old new blocks lines receipts) → IsLegalFor s (log_of round.world)
    → (x : Transaction) → Contains (oks_of lines) x
    → (n : ℕ) × (n < stable new) × StandsIn (log_of round.world) n x
