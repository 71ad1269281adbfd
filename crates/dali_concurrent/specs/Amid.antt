-- What a client amid a call may rely on that has only its own note, and comes back to a lock.
--     OwnHoldIsSeen            a live hold of its own is from what it has seen
--     NoneLiveIsSeen           where it has seen no live hold of a transaction that it acts for, there is none
--     OwnHoldStays             its live hold stays
--     IsOfOthers x             the step x of a region is one of those that others may make under its hold
--     HeldRegionStays          so others only check that region, clear a flag of it, or write astray there
--     OthersLog                what others log concerns no transaction that it acts for, and leaves that one's undos
--     OthersLeaveBe            the core that they leave has that one's row, locks and place in the rules, and no hold of it that wasn't there: so what dali_calls says
--                              of steps between two of a call's is so of theirs
--     DeadIsSeen               a dead hold of a transaction that it acts for is from what it has seen
--     FreedStaysFree           behind its own `Freed` the region has no dead hold of that one, until it dies there again
use Rattle.std.specs.Prelude.{◌≡◌, ◌⊎◌, ℕ, true, false, List, ◌∷◌, ◌++◌, Some, slice_get}
use Rattle.dali_record.specs.declared.records.Record.{Record}
use Rattle.dali_record.specs.Legal.{concerns}
use Rattle.dali_record.specs.Log.{undos_of}
use Rattle.dali_region.specs.declared.Side.{Side}
use Rattle.dali_region.specs.State.{RegionState}
use Rattle.dali_runs.specs.Run.{Bases}
use Rattle.dali_runs.specs.Regions.{RegionStep, Poke, Check, Clean, is_alive}
use Rattle.dali_crash.specs.Checkpoints.{Point}
use Rattle.dali_calls.specs.Stepwise.Beside.{LeavesBe}
use Rattle.dali_transcripts.specs.World.{DiesOn}
use Rattle.dali_notes.specs.History.{IsSeen}
use Rattle.dali_concurrent.specs.Entries.{Did, Freed, Entries, At, client_note, live_by, actor_by}
use Rattle.dali_concurrent.specs.Rules.{Outset, count_of, log_by, state_by, dead_by, NoneLive, AllFit}
use Rattle.dali_concurrent.specs.Told.{History, plain, core_told}
use Rattle.dali_concurrent.specs.Sorts.{after_all}
use Rattle.dali_concurrent.specs.Holds.{IsLed}

-- ---- its holds
abbrev pub OwnHoldIsSeen : Type 0
OwnHoldIsSeen =
    (o : Outset) (r t c : ℕ) (seen new : Entries) → AllFit o new → IsSeen new (client_note (count_of o) c) seen
    → live_by r new ≡ Some (t, c) → live_by r seen ≡ Some (t, c)

abbrev pub NoneLiveIsSeen : Type 0
NoneLiveIsSeen =
    (o : Outset) (t c : ℕ) (seen new : Entries) → AllFit o new → IsSeen new (client_note (count_of o) c) seen
    → actor_by t seen ≡ Some c → is_alive (state_by o seen t) ≡ true
    → NoneLive seen t → NoneLive new t

abbrev pub OwnHoldStays : Type 0
OwnHoldStays =
    (o : Outset) (r t c : ℕ) (seen new : Entries) → AllFit o new → IsSeen new (client_note (count_of o) c) seen
    → live_by r seen ≡ Some (t, c) → live_by r new ≡ Some (t, c)

-- a stray write, a check, or a flag that is cleared
abbrev pub IsOfOthers : RegionStep → Type 0
IsOfOthers x = ((word mask : ℕ) × (x ≡ Poke word mask)) ⊎ ((x ≡ Check) ⊎ ((side : Side) × (x ≡ Clean side)))

abbrev pub HeldRegionStays : Type 0
HeldRegionStays =
    (bases : Bases) (p : Point) (o : Outset) (r t c : ℕ) (seen new : History) → IsLed bases p o new → IsSeen new (client_note (count_of o) c) seen
    → live_by r (plain seen) ≡ Some (t, c) → (g : RegionState) → slice_get (core_told o seen).regions r ≡ Some g
    → (xs : List RegionStep) × ((i : ℕ) (x : RegionStep) → slice_get xs i ≡ Some x → IsOfOthers x) × (slice_get (core_told o new).regions r ≡ Some (after_all xs g))

-- ---- what others log
abbrev pub OthersLog : Type 0
OthersLog =
    (bases : Bases) (p : Point) (o : Outset) (t c : ℕ) (seen new : History) → IsLed bases p o new → IsSeen new (client_note (count_of o) c) seen
    → actor_by t (plain seen) ≡ Some c → is_alive (state_by o (plain seen) t) ≡ true
    → (more : List Record) × (log_by o (plain new) ≡ log_by o (plain seen) ++ more)
    × ((i : ℕ) (x : Record) → slice_get more i ≡ Some x → concerns t x ≡ false)
    × (undos_of t (log_by o (plain new)) ≡ undos_of t (log_by o (plain seen)))

abbrev pub OthersLeaveBe : Type 0
OthersLeaveBe =
    (bases : Bases) (p : Point) (o : Outset) (t c : ℕ) (seen new : History) → IsLed bases p o new → IsSeen new (client_note (count_of o) c) seen
    → actor_by t (plain seen) ≡ Some c → is_alive (state_by o (plain seen) t) ≡ true
    → LeavesBe t (log_by o (plain seen)) (core_told o seen) (log_by o (plain new)) (core_told o new)

-- ---- dead holds
abbrev pub DeadIsSeen : Type 0
DeadIsSeen =
    (o : Outset) (r t c : ℕ) (seen new : Entries) → AllFit o new → IsSeen new (client_note (count_of o) c) seen
    → actor_by t seen ≡ Some c → is_alive (state_by o seen t) ≡ true
    → dead_by o r new ≡ Some t → dead_by o r seen ≡ Some t

abbrev pub FreedStaysFree : Type 0
FreedStaysFree =
    (o : Outset) (r t c : ℕ) (k : List ℕ) (A B new : Entries) → AllFit o new → IsSeen new (client_note (count_of o) c) (A ++ (k, Freed r c) ∷ B)
    → actor_by t (A ++ (k, Freed r c) ∷ B) ≡ Some c → is_alive (state_by o (A ++ (k, Freed r c) ∷ B) t) ≡ true
    → ((i : ℕ) (j : List ℕ) (d : ℕ) → At B i (j, Did (DiesOn t r) d) → ⊥)
    → dead_by o r new ≡ Some t → ⊥
