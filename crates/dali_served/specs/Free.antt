-- A round of whole transactions that nothing hinders, and which has room for what its clients insert.
--     fits_log line            it doesn't say that the log is full
--     AllFit lines             so are all lines of the clients
--     HasNoRows old            the round began with no transaction
--     inserts_in css           how many inserts a client is told
--     told_inserts calls bs    all clients of these blocks
--     RoundsAreServed          each line of such a round says that all went well
use Rattle.std.specs.Prelude.{◌≡◌, ℕ, ◌*◌, ◌<◌, Bool, true, false, List, [], ◌∷◌, None, filter, flat_map, length, sum_by}
use Rattle.std.specs.List.{list_all, AllByRecursion}
use Rattle.dali_record.specs.declared.records.Call.{Call}
use Rattle.dali_record.specs.declared.records.Record.{Record}
use Rattle.dali_record.specs.declared.records.Record.TheVariants.{Format}
use Rattle.dali_history.specs.History.{IsHistory}
use Rattle.dali_history.specs.Room.Room.{is_insert}
use Rattle.dali_runs.specs.State.{CoreState, row_of}
use Rattle.dali_transcripts.specs.Words.{Said, Refused, Full}
use Rattle.dali_transcripts.specs.World.{log_of}
use Rattle.dali_transcripts.specs.Transcripts.{Told}
use Rattle.dali_transcripts.specs.Rounds.{IsRound}
use Rattle.dali_served.specs.Served.{AllServed, AreTold}
use Rattle.dali_served.specs.Apart.{AreAtHome}

abbrev pub fits_log : Said → Bool
fits_log (Refused act (Full end limit)) = false
fits_log line = true

abbrev pub AllFit : List (List Said) → Type 0
AllFit lines = AllByRecursion (λ said. list_all fits_log said ≡ true) lines

abbrev pub HasNoRows : CoreState → Type 0
HasNoRows old = (t : ℕ) → row_of old.system t ≡ None

abbrev pub inserts_in : List (List Call) → ℕ
inserts_in css = length (filter is_insert (flat_map (λ cs. cs) css))

abbrev pub told_inserts : (ℕ → List (List Call)) → List Told → ℕ
told_inserts calls blocks = sum_by (λ (b : Told). inserts_in (calls b.client)) blocks

abbrev pub RoundsAreServed : Type 0
RoundsAreServed =
    (before : List Record) (old new : CoreState) (blocks : List Told) (lines : List (List Said)) (receipts : List (List ℕ)) (calls : ℕ → List (List Call)) (home : ℕ → ℕ) (i h : ℕ)
    → (round : IsRound false true before old new blocks lines receipts) → round.world.before ≡ Format i h ∷ [] → HasNoRows old → IsHistory (log_of round.world)
    → AreTold calls blocks → AreAtHome home calls → told_inserts calls blocks < 7 * h → told_inserts calls blocks < 21 * i
    → new.system.stop ≡ None → AllFit lines → AllServed lines
