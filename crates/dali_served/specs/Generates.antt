-- A generated round of which each line says that all went well.
--     calls_told clients size number c     the transactions that a client is told
--     GeneratedAreServed   behind such a round that nothing stopped, and for which the log had room, each line says so
--     SummariesFollow      the summary of what such a round leaves, on a restart of a front of its log, follows from the three numbers alone
use Rattle.std.specs.Prelude.{◌≡◌, ℕ, ◌%◌, ◌^◌, false, true, List, [], ◌∷◌, Some, None, length, map, sum_by}
use Rattle.std.specs.List.{range_with_len}
use Rattle.dali_generator.specs.Generated.{AreWithin, index_regions, heap_regions}
use Rattle.dali_generator.specs.Left.{calls_at, transactions_of}
use Rattle.dali_generator.specs.Summary.{summary_of, summary_left}
use Rattle.dali_geometry.specs.Sizes.{Sizes}
use Rattle.dali_history.specs.History.{IsHistory}
use Rattle.dali_history.specs.Images.{HasRecords}
use Rattle.dali_history.specs.Serial.{Map, expected}
use Rattle.dali_listing.specs.declared.Listed.{Listed}
use Rattle.dali_listing.specs.Listing.{IsListing}
use Rattle.dali_record.specs.declared.records.Call.{Call}
use Rattle.dali_record.specs.declared.records.Record.{Record}
use Rattle.dali_record.specs.declared.records.Record.TheVariants.{Format}
use Rattle.dali_runs.specs.State.{CoreState}
use Rattle.dali_transcripts.specs.Words.{Said}
use Rattle.dali_transcripts.specs.World.{log_of}
use Rattle.dali_transcripts.specs.Transcripts.{Told}
use Rattle.dali_transcripts.specs.Rounds.{IsRound}
use Rattle.dali_served.specs.Served.{AllServed, AreTold, HasServed}
use Rattle.dali_served.specs.Free.{AllFit, HasNoRows}

abbrev pub calls_told : (clients size number client : ℕ) → List (List Call)
calls_told clients size number client = map (calls_at number client) (range_with_len 0 (transactions_of clients size client))

abbrev pub GeneratedAreServed : Type 0
GeneratedAreServed =
    (clients size number : ℕ) (before : List Record) (old new : CoreState) (blocks : List Told) (lines : List (List Said)) (receipts : List (List ℕ))
    → AreWithin clients size → (round : IsRound false true before old new blocks lines receipts)
    → round.world.before ≡ Format (index_regions clients size) (heap_regions clients size) ∷ [] → HasNoRows old → IsHistory (log_of round.world)
    → AreTold (calls_told clients size number) blocks → length blocks ≡ clients → new.system.stop ≡ None → AllFit lines → AllServed lines

abbrev pub SummariesFollow : Type 0
SummariesFollow =
    (clients size number : ℕ) (K : List Record) (m : Map) (s : Sizes) (image : List (List ℕ)) (rows : List Listed)
    → AreWithin clients size → HasServed (calls_told clients size number) K → expected K ≡ Some m → HasRecords s image m → IsListing s image rows
    → summary_of clients size (length rows) (sum_by (λ row. row.key) rows % 2 ^ 64) ≡ summary_left clients size number
