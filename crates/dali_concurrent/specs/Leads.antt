-- What a round in threads promises, and what its caller holds where it ends.
--     MayBegin s B p gs y v    a run from the start s has come to the point p, where the core stands, and a round may begin
--     FromEach gs y v P        so it is of each start and point with which it may have begun
--     outset_of precheck s p   the outset there
--     OutsetBegins             from there a history may begin
--     may_follow_from ..       the rule of the round's history: so may each entry be added, wherever the round began
--     Saw notes k P            the note with the number k is among these, and so it is of what it has seen
--     HasEnded whole w s       the client is done; or its step is under way, where the round was cut
--     IsHanded whole all given     it was handed these numbers of records; where the round was cut, the first of them
--     ClientEnds ..            the client stands where it has come, and has ended
--     VaultEnds ..             the vault is where the history has come to, with no frame in hand, and each crash left files that restart right
--     RoundEnds ..             the values that the caller holds are as told by what their notes have seen
--     RoundLeads ..            the run goes on from p, by just what the round's deeds tell, to a point where the core stands, and what a crash at any
--                              moment leaves is right
--     RoundIsLed               so it does where the notes are finished, wherever the round began
use Rattle.std.specs.Prelude.{◌≡◌, ◌++◌, ◌<◌, ◌==◌, ℕ, Bool, true, false, List, [], Some, IfSome, length, map, slice_get}
use Rattle.dali_record.specs.declared.records.Record.{Record}
use Rattle.dali_region.specs.State.{RegionState}
use Rattle.dali_store.specs.declared.store.Store.{Ghosts}
use Rattle.dali_runs.specs.State.{SystemState}
use Rattle.dali_crash.specs.Checkpoints.{StoreStep, Point, IsPointCourse}
use Rattle.dali_crash.specs.StoreRuns.{FlagTells}
use Rattle.dali_crash.specs.Traces.{Start, bases_of}
use Rattle.dali_transcripts.specs.Words.{Said}
use Rattle.dali_transcripts.specs.World.{World}
use Rattle.dali_transcripts.specs.Transcripts.{Told, IsUnderWay, deeds_of as deeds_of_client, numbers_of}
use Rattle.dali_transcripts.specs.Rounds.{Standing, IsDone, IsBetween, IsRound, told_of, lines_in}
use Rattle.dali_core.specs.Vault.Vaulted.{Vaulted}
use Rattle.dali_core.specs.Cores.{HoldsPlaces}
use Rattle.dali_transactions.specs.Stands.{StandsAt}
use Rattle.dali_notes.specs.History.{In, Sight, AllMay, IsWhole}
use Rattle.dali_concurrent.specs.Entries.{system_note, vault_note, region_note, client_note, done_by}
use Rattle.dali_concurrent.specs.Rules.{Outset, count_of}
use Rattle.dali_concurrent.specs.Told.{Item, Line, History, plain, world_told}
use Rattle.dali_concurrent.specs.Landing.{BeginsAt}
use Rattle.dali_concurrent.specs.Kept.{Follows, SystemTold, RegionTold}
use Rattle.dali_concurrent.specs.Clients.{ClientTold}
use Rattle.dali_concurrent.specs.Calls.{VaultAt}
use Rattle.dali_concurrent.specs.Stored.{NoneInHand}
use Rattle.dali_concurrent.specs.Moments.{EndsRight, VaultMoments}

abbrev pub outset_of : Bool → Start → Point → Outset
outset_of precheck s p = record { old = p.core; made = s.log; precheck = precheck }

-- ---- what a note saw
pub record Saw (notes : List (Sight Item)) (k : ℕ) (P : History → Type 0) : Type 0 where
  pub note : Sight Item
  pub there : In notes note
  pub number : note.number ≡ k
  pub so : P note.seen

-- ---- a client
abbrev pub HasEnded : Bool → World → Standing → Type 0
HasEnded true w s = IsDone s
HasEnded false w s = IsUnderWay w s.client s.spot s.pending []

abbrev pub IsHanded : Bool → (all given : List ℕ) → Type 0
IsHanded true all given = given ≡ all
IsHanded false all given = (lacking : List ℕ) × (all ≡ given ++ lacking)

pub record ClientEnds (whole : Bool) (o : Outset) (s : Standing) (given : List ℕ) (T : History) : Type 0 where
  pub stands : ClientTold o s T
  pub ended : HasEnded whole (world_told o T) s
  pub handed : IsHanded whole (numbers_of (deeds_of_client (world_told o T) s.client)) given

module _ {V : Type 0} (means : Ghosts V) where
  -- ---- where a round begins
  pub record MayBegin (s : Start) (B : List (List Record)) (p : Point) (gs : List RegionState) (y : SystemState) (v : Vaulted V) : Type 0 where
    pub stands : StandsAt means s B p gs y v
    pub keeps : FlagTells p
    pub between : IsBetween p.core

  abbrev pub FromEach : List RegionState → SystemState → Vaulted V → (Start → Point → Type 0) → Type 0
  FromEach gs y v P = (s : Start) (B : List (List Record)) (p : Point) → MayBegin s B p gs y v → P s p

  abbrev pub OutsetBegins : Type 0
  OutsetBegins = (precheck : Bool) (gs : List RegionState) (y : SystemState) (v : Vaulted V) → FromEach gs y v (λ s p. BeginsAt (bases_of s) p (outset_of precheck s p))

  abbrev pub may_follow_from : Bool → List RegionState → SystemState → Vaulted V → List Line → Line → Type 0
  may_follow_from precheck gs y v T e = FromEach gs y v (λ s p. Follows (bases_of s) p (outset_of precheck s p) T e)

  -- ---- where it ends
  -- v: the vault where it began
  pub record VaultEnds (s : Start) (p : Point) (o : Outset) (v u : Vaulted V) (T : History) : Type 0 where
    pub batches : List (List Record)
    pub held : VaultAt means s batches p o u T
    pub flushed : NoneInHand means o u T
    pub moments : VaultMoments means s p o v u T

  -- the notes; the regions, the system and the vault; and the clients, each with the numbers that it was handed
  pub record RoundEnds (whole : Bool) (s : Start) (p : Point) (o : Outset) (v : Vaulted V) (notes : List (Sight Item)) (hs : List RegionState) (z : SystemState) (u : Vaulted V)
      (ss : List Standing) (givens : List (List ℕ)) : Type 0 where
    pub system : Saw notes system_note (SystemTold o z)
    pub vault : Saw notes vault_note (VaultEnds s p o v u)
    pub all : length hs ≡ length o.old.regions
    pub regions : (r : ℕ) (g : RegionState) → slice_get hs r ≡ Some g → Saw notes (region_note r) (RegionTold o r g)
    pub each : length givens ≡ length ss
    pub clients : (i : ℕ) (x : Standing) (given : List ℕ) → slice_get ss i ≡ Some x → slice_get givens i ≡ Some given
        → Saw notes (client_note (count_of o) x.client) (ClientEnds whole o x given)
    -- a note that is left is of a client that did nothing
    pub others : (d : ℕ) → client_note (count_of o) d < length notes → ((i : ℕ) (x : Standing) → slice_get ss i ≡ Some x → (x.client == d) ≡ false)
        → Saw notes (client_note (count_of o) d) (λ T. done_by d (plain T) ≡ [])

  pub record RoundLeads (precheck whole : Bool) (s : Start) (p : Point) (blocks : List Told) (lines : List (List Said)) (receipts : List (List ℕ)) (v : Vaulted V)
      (hs : List RegionState) (z : SystemState) (u : Vaulted V) : Type 0 where
    pub to : Point
    pub batches : List (List Record)
    pub steps : List StoreStep
    pub course : IsPointCourse p steps to
    pub stands : StandsAt means s batches to hs z u
    pub files : u.stopped ≡ false → IfSome (means.told u.store) (HoldsPlaces hs)
    pub keeps : FlagTells to
    pub round : IsRound precheck whole s.log p.core to.core blocks lines receipts
    pub right : EndsRight means.told means.moment means.left_since s p v hs z u

  -- H: the history that the notes leave
  abbrev pub RoundIsLed : Type 0
  RoundIsLed =
      (precheck whole : Bool) (gs : List RegionState) (y : SystemState) (v : Vaulted V) (H : History) (notes : List (Sight Item)) (hs : List RegionState) (z : SystemState) (u : Vaulted V)
      (ss : List Standing) (givens : List (List ℕ))
      → IsWhole H notes → AllMay (may_follow_from precheck gs y v) H
      → FromEach gs y v (λ s p. RoundEnds whole s p (outset_of precheck s p) v notes hs z u ss givens)
      → FromEach gs y v (λ s p. RoundLeads precheck whole s p (map told_of ss) (map lines_in ss) givens v hs z u)
