-- The clause of a round, of one in threads that is closed.
--     AllDone ss               each client is done
--     AllCut w ss              or the step of each is under way
--     IsRoundWith receipts ..  this is what a round is to promise, of the core at this point, and of these numbers that its clients were handed
--     IsRoundThere ..          so it is of all their numbers
--     RoundIsDone              so it is where all are done
--     RoundIsCut               and where the round was cut
use Rattle.std.specs.Prelude.{◌≡◌, ℕ, Bool, true, false, List, [], Some, map, slice_get}
use Rattle.dali_region.specs.State.{RegionState}
use Rattle.dali_runs.specs.State.{SystemState}
use Rattle.dali_runs.specs.Run.{Bases}
use Rattle.dali_crash.specs.Checkpoints.{Point}
use Rattle.dali_transcripts.specs.World.{World}
use Rattle.dali_transcripts.specs.Transcripts.{IsUnderWay, receipts_of}
use Rattle.dali_transcripts.specs.Rounds.{Standing, IsDone, told_of, lines_in, IsRound}
use Rattle.dali_concurrent.specs.Rules.{Outset}
use Rattle.dali_concurrent.specs.Told.{History, world_told}
use Rattle.dali_concurrent.specs.Landing.{BeginsAt, Stands}
use Rattle.dali_concurrent.specs.Closed.{Closed, ValuesTold, ClientsTold}

abbrev pub AllDone : List Standing → Type 0
AllDone ss = (i : ℕ) (s : Standing) → slice_get ss i ≡ Some s → IsDone s

abbrev pub AllCut : World → List Standing → Type 0
AllCut w ss = (i : ℕ) (s : Standing) → slice_get ss i ≡ Some s → IsUnderWay w s.client s.spot s.pending []

abbrev pub IsRoundWith : List (List ℕ) → Bool → Outset → List Standing → Point → Type 0
IsRoundWith receipts whole o ss to = IsRound o.precheck whole o.made o.old to.core (map told_of ss) (map lines_in ss) receipts

abbrev pub IsRoundThere : Bool → Outset → History → List Standing → Point → Type 0
IsRoundThere whole o T ss to = IsRoundWith (receipts_of (world_told o T) (map told_of ss)) whole o ss to

-- ends: what is so of the clients
abbrev pub WhereClosed : Bool → (World → List Standing → Type 0) → Type 0
WhereClosed whole ends =
    (bases : Bases) (p : Point) (o : Outset) (T : History) (closed : Closed bases p o T) (gs : List RegionState) (y : SystemState) (ss : List Standing)
    → ValuesTold bases p o T closed gs y → ClientsTold bases p o T closed ss → BeginsAt bases p o → ends (world_told o T) ss
    → (to : Point) → Stands bases p o T to → IsRoundThere whole o T ss to

abbrev pub RoundIsDone : Type 0
RoundIsDone = WhereClosed true (λ w ss. AllDone ss)

abbrev pub RoundIsCut : Type 0
RoundIsCut = WhereClosed false AllCut
