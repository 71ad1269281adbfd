-- A history that is closed: every note has seen all of its own entries.
--     Closed .. T              so it is
--     ValuesTold .. gs y       the regions and the system are as told by what their notes have seen
--     StandsThere .. gs y      a run went on to a point where these regions and this system stand, all holds together, each deed is right, and it is whole
--     RoundStands              so it did, where these values are as told
--     ClientsTold .. ss        so are the clients, which have come so far; other clients' notes have no entries
--     NoneHolds                then no client that is alive has latched a region
use Rattle.std.specs.Prelude.{◌≡◌, ℕ, ◌<◌, ◌==◌, true, false, List, [], Some, length, slice_get}
use Rattle.dali_region.specs.State.{RegionState}
use Rattle.dali_runs.specs.State.{SystemState}
use Rattle.dali_runs.specs.Run.{Bases}
use Rattle.dali_runs.specs.Wholes.{IsWhole}
use Rattle.dali_crash.specs.Checkpoints.{Point}
use Rattle.dali_crash.specs.StoreRuns.{FlagTells}
use Rattle.dali_clean.specs.Cleaned.{AreDead}
use Rattle.dali_transcripts.specs.Rounds.{Standing}
use Rattle.dali_notes.specs.History.{In, signs, IsSeen}
use Rattle.dali_concurrent.specs.Entries.{system_note, vault_note, region_note, client_note, done_by}
use Rattle.dali_concurrent.specs.Rules.{Outset, count_of}
use Rattle.dali_concurrent.specs.Told.{Line, History, plain}
use Rattle.dali_concurrent.specs.Landing.{BeginsAt, Stands}
use Rattle.dali_concurrent.specs.Kept.{AllFollow, SystemTold, RegionTold}
use Rattle.dali_concurrent.specs.Clients.{ClientTold}

pub record Closed (bases : Bases) (p : Point) (o : Outset) (T : History) : Type 0 where
  -- there are so many notes, and each entry is of some of them
  pub count : ℕ
  pub numbered : (e : Line) → In T e → (n : ℕ) → signs n e.0 ≡ true → n < count
  pub seen : ℕ → History
  pub is : (k : ℕ) → k < count → IsSeen T k (seen k)
  pub all : AllFollow bases p o T

pub record ValuesTold (bases : Bases) (p : Point) (o : Outset) (T : History) (closed : Closed bases p o T) (gs : List RegionState) (y : SystemState) : Type 0 where
  pub enough : (r : ℕ) → r < length o.old.regions → region_note r < closed.count
  pub both : vault_note < closed.count
  pub whole : length gs ≡ length o.old.regions
  pub system : SystemTold o y (closed.seen system_note)
  pub regions : (r : ℕ) (g : RegionState) → slice_get gs r ≡ Some g → RegionTold o r g (closed.seen (region_note r))

pub record StandsThere (bases : Bases) (p : Point) (o : Outset) (T : History) (gs : List RegionState) (y : SystemState) : Type 0 where
  pub to : Point
  pub stands : Stands bases p o T to
  pub regions : to.core.regions ≡ gs
  pub system : to.core.system ≡ y
  pub whole : IsWhole to.core
  pub keeps : FlagTells to

abbrev pub RoundStands : Type 0
RoundStands =
    (bases : Bases) (p : Point) (o : Outset) (T : History) (closed : Closed bases p o T) (gs : List RegionState) (y : SystemState)
    → ValuesTold bases p o T closed gs y → BeginsAt bases p o
    → StandsThere bases p o T gs y

-- ---- its clients
pub record ClientsTold (bases : Bases) (p : Point) (o : Outset) (T : History) (closed : Closed bases p o T) (ss : List Standing) : Type 0 where
  pub numbered : (i : ℕ) (s : Standing) → slice_get ss i ≡ Some s → client_note (count_of o) s.client < closed.count
  pub each : (i : ℕ) (s : Standing) → slice_get ss i ≡ Some s → ClientTold o s (closed.seen (client_note (count_of o) s.client))
  pub others : (d : ℕ) → client_note (count_of o) d < closed.count → ((i : ℕ) (s : Standing) → slice_get ss i ≡ Some s → (s.client == d) ≡ false)
      → done_by d (plain (closed.seen (client_note (count_of o) d))) ≡ []

abbrev pub NoneHolds : Type 0
NoneHolds =
    (bases : Bases) (p : Point) (o : Outset) (T : History) (closed : Closed bases p o T) (gs : List RegionState) (y : SystemState) (ss : List Standing)
    → ValuesTold bases p o T closed gs y → ClientsTold bases p o T closed ss → BeginsAt bases p o
    → AreDead gs
