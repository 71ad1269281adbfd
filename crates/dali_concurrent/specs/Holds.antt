-- What a step may rely on that changes other values than those in hand: holds, and transactions.
--     IsLed bases p o T        the history began at p, and each entry of it follows
--     HoldsAreTold             the hold of each region is as the entries tell it
--     HoldIsOfActor            who has latched a region for a transaction acts for it
--     NoneIsLive               one that isn't alive has no live hold
--     DeadIsNamed              a dead hold's transaction names its region
--     StatesAreTold            each transaction stands as the deeds tell
--     NextIsFresh              the next transaction's number has no row yet
--     NextMayBegin             so it may begin, by the system in hand
--     ActorStays               entries of others leave a transaction to who acts for it, while it is alive
--     LookStays                they leave a look, and so do those of the region's other holders
use Rattle.std.specs.Prelude.{◌≡◌, ℕ, ◌<◌, true, false, Some, None, slice_get}
use Rattle.dali_record.specs.declared.records.Record.TheVariants.{Begin}
use Rattle.dali_region.specs.State.{RegionState}
use Rattle.dali_runs.specs.State.{SystemState, state_of}
use Rattle.dali_runs.specs.Run.{Bases}
use Rattle.dali_runs.specs.Regions.{is_alive}
use Rattle.dali_runs.specs.Wholes.{latched_in}
use Rattle.dali_crash.specs.Checkpoints.{Point}
use Rattle.dali_transcripts.specs.World.{Logs}
use Rattle.dali_notes.specs.History.{IsSeen}
use Rattle.dali_concurrent.specs.Entries.{Entries, region_note, client_note, live_by, actor_by}
use Rattle.dali_concurrent.specs.Rules.{Outset, count_of, state_by, dead_by, NoneLive, TxnFits, LookFits, AllFit}
use Rattle.dali_concurrent.specs.Told.{History, plain, core_told}
use Rattle.dali_concurrent.specs.Landing.{BeginsAt}
use Rattle.dali_concurrent.specs.Kept.{AllFollow, HoldIs}

pub record IsLed (bases : Bases) (p : Point) (o : Outset) (T : History) : Type 0 where
  pub begins : BeginsAt bases p o
  pub all : AllFollow bases p o T

abbrev pub HoldsAreTold : Type 0
HoldsAreTold =
    (bases : Bases) (p : Point) (o : Outset) (T : History) → IsLed bases p o T
    → (r : ℕ) (g : RegionState) → slice_get (core_told o T).regions r ≡ Some g → (r < count_of o) × HoldIs o r g (plain T)

abbrev pub HoldIsOfActor : Type 0
HoldIsOfActor = (o : Outset) (P : Entries) (r t c : ℕ) → AllFit o P → live_by r P ≡ Some (t, c) → (r < count_of o) × (actor_by t P ≡ Some c)

abbrev pub NoneIsLive : Type 0
NoneIsLive =
    (bases : Bases) (p : Point) (o : Outset) (T : History) (t : ℕ) → IsLed bases p o T → is_alive (state_of (core_told o T).system t) ≡ false
    → NoneLive (plain T) t

abbrev pub DeadIsNamed : Type 0
DeadIsNamed =
    (bases : Bases) (p : Point) (o : Outset) (T : History) (r t : ℕ) → IsLed bases p o T → r < count_of o → dead_by o r (plain T) ≡ Some t
    → latched_in (state_of (core_told o T).system t) ≡ Some r

abbrev pub StatesAreTold : Type 0
StatesAreTold =
    (bases : Bases) (p : Point) (o : Outset) (T : History) (t : ℕ) → IsLed bases p o T
    → state_of (core_told o T).system t ≡ state_by o (plain T) t

abbrev pub NextIsFresh : Type 0
NextIsFresh =
    (bases : Bases) (p : Point) (o : Outset) (T : History) → IsLed bases p o T → state_of (core_told o T).system (core_told o T).system.next ≡ None

abbrev pub NextMayBegin : Type 0
NextMayBegin =
    (bases : Bases) (p : Point) (o : Outset) (T : History) (y : SystemState) → IsLed bases p o T → y ≡ (core_told o T).system
    → TxnFits o (plain T) (Logs (Begin y.next))

abbrev pub ActorStays : Type 0
ActorStays =
    (o : Outset) (t c : ℕ) (seen new : Entries) → AllFit o new → IsSeen new (client_note (count_of o) c) seen
    → actor_by t seen ≡ Some c → is_alive (state_by o seen t) ≡ true
    → (actor_by t new ≡ Some c) × (state_by o new t ≡ state_by o seen t)

abbrev pub LookStays : Type 0
LookStays =
    (o : Outset) (c r : ℕ) (seen new : Entries) → AllFit o new → IsSeen new (client_note (count_of o) c) seen → IsSeen new (region_note r) seen
    → LookFits o seen c r → LookFits o new c r
