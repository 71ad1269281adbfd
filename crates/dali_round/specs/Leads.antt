-- What a round promises of its core.
--     BeginsAt s B p gs y v    a run from the start s has come to the point p, where the core stands with its image files, and a round may begin
--     RoundLeads ..            the run goes on from p, by just what the round's deeds tell, to a point where the core stands
--     RoundGoes ..             so it does from each such point
use Rattle.std.specs.Prelude.{ℕ, Bool, true, false, List, Option, IfSome, map}
use Rattle.dali_record.specs.declared.records.Record.{Record}
use Rattle.dali_region.specs.State.{RegionState}
use Rattle.dali_store.specs.Store.{Files as Disk}
use Rattle.dali_store.specs.declared.store.Store.{Ghosts}
use Rattle.dali_runs.specs.State.{SystemState}
use Rattle.dali_crash.specs.Checkpoints.{StoreStep, Point, IsPointCourse}
use Rattle.dali_crash.specs.StoreRuns.{FlagTells}
use Rattle.dali_crash.specs.Traces.{Start}
use Rattle.dali_core.specs.Vault.Vaulted.{Vaulted}
use Rattle.dali_core.specs.Cores.{HoldsPlaces}
use Rattle.dali_transactions.specs.Stands.{StandsAt}
use Rattle.dali_transcripts.specs.Words.{Said}
use Rattle.dali_transcripts.specs.Transcripts.{Told}
use Rattle.dali_transcripts.specs.Rounds.{IsBetween, IsRound}
use Rattle.dali_transcripts.specs.declared.clients.command.Block.{Block}
use Rattle.dali_transcripts.specs.Clients.Said.{Transcribed}
use Rattle.dali_transcripts.specs.Clients.Told.{said_of, told_of}
use Rattle.dali_round.specs.declared.rounds.RoundEnd.{RoundEnd}
use Rattle.dali_round.specs.declared.rounds.RoundEnd.TheVariants.{Done, OutOfMemory}

abbrev pub is_done : RoundEnd → Bool
is_done Done = true
is_done OutOfMemory = false

abbrev pub lines_in : Transcribed → List Said
lines_in t = map said_of t.lines

module _ {V : Type 0} (means : Ghosts V) where
  pub record BeginsAt (s : Start) (B : List (List Record)) (p : Point) (gs : List RegionState) (y : SystemState) (v : Vaulted V) : Type 0 where
    pub stands : StandsAt means s B p gs y v
    pub files : IfSome (means.told v.store) (HoldsPlaces gs)
    pub keeps : FlagTells p
    pub between : IsBetween p.core

  pub record RoundLeads (precheck whole : Bool) (s : Start) (p : Point) (blocks : List Told) (lines : List (List Said)) (receipts : List (List ℕ))
      (hs : List RegionState) (z : SystemState) (u : Vaulted V) : Type 0 where
    pub to : Point
    pub batches : List (List Record)
    pub steps : List StoreStep
    pub course : IsPointCourse p steps to
    pub stands : StandsAt means s batches to hs z u
    pub files : IfSome (means.told u.store) (HoldsPlaces hs)
    pub keeps : FlagTells to
    pub round : IsRound precheck whole s.log p.core to.core blocks lines receipts

  abbrev pub RoundGoes : Bool → List Block → List RegionState → SystemState → Vaulted V → RoundEnd → List Transcribed → List RegionState → SystemState → Vaulted V → Type 0
  RoundGoes precheck blocks gs y v end transcripts hs z u =
      (s : Start) (B : List (List Record)) (p : Point) → BeginsAt s B p gs y v
      → RoundLeads precheck (is_done end) s p (map told_of blocks) (map lines_in transcripts) (map (λ t. t.receipts) transcripts) hs z u
