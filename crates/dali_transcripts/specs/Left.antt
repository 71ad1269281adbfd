-- Who has a row behind a round.
--     HasDiedIn w t ..         the client of t died in the round, and said so
--     LeftHaveDied             where the engine runs behind a round that ended with Done, each transaction that has a row was dead before the round, or its
--                              client died in it, and said so
use Rattle.std.specs.Prelude.{◌≡◌, ◌⊎◌, ℕ, Bool, true, List, Some, None, Contains, IsSome, slice_get}
use Rattle.dali_record.specs.declared.records.Record.{Record}
use Rattle.dali_runs.specs.State.{CoreState, row_of}
use Rattle.dali_transcripts.specs.Words.{Said, Died}
use Rattle.dali_transcripts.specs.World.{DiesOn, World, HasDone, WasDead}
use Rattle.dali_transcripts.specs.Transcripts.{Told}
use Rattle.dali_transcripts.specs.Rounds.{IsBetween, IsRound}

pub record HasDiedIn (w : World) (t : ℕ) (blocks : List Told) (lines : List (List Said)) : Type 0 where
  pub client : ℕ
  pub region : ℕ
  pub number : ℕ
  pub done : HasDone w client number (DiesOn t region)
  -- the place of its block
  pub place : ℕ
  pub block : Told
  pub there : slice_get blocks place ≡ Some block
  pub own : block.client ≡ client
  pub said : List Said
  pub lines_are : slice_get lines place ≡ Some said
  pub tells : Contains said Died

abbrev pub LeftHaveDied : Type 0
LeftHaveDied =
    (precheck : Bool) (before : List Record) (old new : CoreState) (blocks : List Told) (lines : List (List Said)) (receipts : List (List ℕ))
    → (round : IsRound precheck true before old new blocks lines receipts) → IsBetween old → new.system.stop ≡ None
    → (t : ℕ) → IsSome (row_of new.system t) → WasDead round.world t ⊎ HasDiedIn round.world t blocks lines
