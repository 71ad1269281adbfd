-- A round of whole transactions in which no two clients call one key.
--     AreAtHome home calls     each key that a client calls is one of that client's, as `home` says
--     NoneGivesWay             no request gives way in such a round, which began with no dead transaction
use Rattle.std.specs.Prelude.{◌≡◌, ℕ, Bool, true, List, Some, slice_get}
use Rattle.std.specs.List.{AllByRecursion}
use Rattle.dali_record.specs.declared.records.Call.{Call}
use Rattle.dali_record.specs.declared.records.Record.{Record}
use Rattle.dali_runs.specs.declared.refusals.Refusal.{Refusal}
use Rattle.dali_runs.specs.State.{CoreState}
use Rattle.dali_transcripts.specs.Words.{Said, key_of}
use Rattle.dali_transcripts.specs.World.{WasDead, Yields}
use Rattle.dali_transcripts.specs.Transcripts.{Told}
use Rattle.dali_transcripts.specs.Rounds.{IsRound}
use Rattle.dali_served.specs.Served.{AreTold}

abbrev pub AreAtHome : (home : ℕ → ℕ) → (calls : ℕ → List (List Call)) → Type 0
AreAtHome home calls = (c : ℕ) → AllByRecursion (λ (css : List Call). AllByRecursion (λ (call : Call). home (key_of call) ≡ c) css) (calls c)

abbrev pub NoneGivesWay : Type 0
NoneGivesWay =
    (precheck : Bool) (before : List Record) (old new : CoreState) (blocks : List Told) (lines : List (List Said)) (receipts : List (List ℕ)) (calls : ℕ → List (List Call)) (home : ℕ → ℕ)
    → (round : IsRound precheck true before old new blocks lines receipts) → ((t : ℕ) → WasDead round.world t → ⊥) → AreTold calls blocks → AreAtHome home calls
    → (i c : ℕ) (f : Refusal) → slice_get round.world.happened i ≡ Some (Yields f, c) → ⊥
