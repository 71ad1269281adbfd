-- What a client knows of the transactions that it began and claimed, whoever adds meanwhile; and what is right by that.
--     HasOnly o P c t k        of what the client c began just t is in the table, and of what it claimed just k is claimed still; or nothing
--     takes_one c e            the entry e is a begin or a claim of the client's
--     lets_one u e             it is the end of u, or gives the claim of u back
--     OnlyStarts               at the start it has nothing
--     OnlyBegins, OnlyEnds     behind its begin of u it has u;  and behind the end of u nothing
--     OnlyClaims, OnlyLets     behind its claim of u it has claimed u;  and behind the end of that claim nothing
--     OnlyStays                behind any entry that is no begin or claim of its own it has what it had
--     OnlySeen                 so it has behind entries of others
--     YieldsByOwn              what is right of Yields, by the system in hand and what its client has
--     RecoversByOwn            the operation of a dead hold is taken back, by the region in hand, where the deeds tell that its transaction is claimed
--     GivesBackRight           what is right of GivesBack, by the system in hand, where just the region that is named is told to have its dead hold
use Rattle.std.specs.Prelude.{◌≡◌, ℕ, ◌<◌, Bool, true, false, ◌==◌, List, [], ◌∷◌, ◌++◌, Option, Some, None, is_some, fold, slice_get}
use Rattle.dali_record.specs.declared.records.Record.TheVariants.{Begin, Ended}
use Rattle.dali_region.specs.declared.Hold.{Hold}
use Rattle.dali_region.specs.State.{RegionState, taken_back}
use Rattle.dali_locks.specs.declared.mode.Mode.{Mode}
use Rattle.dali_locks.specs.declared.mode.LockAnswer.TheVariants.{Busy}
use Rattle.dali_locks.specs.Locks.{IsAnswer}
use Rattle.dali_att.specs.declared.state.State.TheVariants.{Dead, Cleaning}
use Rattle.dali_runs.specs.State.{SystemState, state_of}
use Rattle.dali_runs.specs.Run.{Bases}
use Rattle.dali_runs.specs.Steps.{refused, in_state}
use Rattle.dali_runs.specs.Courses.{Recovers}
use Rattle.dali_crash.specs.Checkpoints.{Does, Point}
use Rattle.dali_transcripts.specs.World.{Logs, Claims, GivesBack, Yields, claimer_step, is_dead_in, is_claimed_in}
use Rattle.dali_transcripts.specs.Telling.Deeds.{refusal_at}
use Rattle.dali_notes.specs.History.{IsSeen}
use Rattle.dali_concurrent.specs.Entries.{Entry, Did, Entries, client_note, deeds_of, opener_by, actor_by}
use Rattle.dali_concurrent.specs.Rules.{Outset, count_of, state_by, dead_by}
use Rattle.dali_concurrent.specs.Told.{OnRegion, OnSystem, Line, History, plain, core_told, is_tie}
use Rattle.dali_concurrent.specs.Landing.{Lands}
use Rattle.dali_concurrent.specs.Sorts.{RightHere}
use Rattle.dali_concurrent.specs.Holds.{IsLed}

pub record HasOnly (o : Outset) (P : Entries) (c : ℕ) (t k : Option ℕ) : Type 0 where
  pub opened : (u : ℕ) → opener_by u P ≡ Some c → is_some (state_by o P u) ≡ true → t ≡ Some u
  pub claims : (u : ℕ) → fold (claimer_step u) None (deeds_of P) ≡ Some c → is_claimed_in (state_by o P u) ≡ true → k ≡ Some u

abbrev pub takes_one : ℕ → Entry → Bool
takes_one c (Did (Logs (Begin u)) d) = d == c
takes_one c (Did (Claims u) d) = d == c
takes_one c e = false

abbrev pub lets_one : ℕ → Entry → Bool
lets_one u (Did (Logs (Ended v)) d) = v == u
lets_one u (Did (GivesBack v latched) d) = v == u
lets_one u e = false

-- ---- its own entries
abbrev pub OnlyStarts : Type 0
OnlyStarts = (o : Outset) (c : ℕ) → HasOnly o [] c None None

abbrev pub OnlyBegins : Type 0
OnlyBegins = (o : Outset) (P : Entries) (ks : List ℕ) (c u : ℕ) (k : Option ℕ) → HasOnly o P c None k → HasOnly o (P ++ (ks, Did (Logs (Begin u)) c) ∷ []) c (Some u) k

abbrev pub OnlyEnds : Type 0
OnlyEnds = (o : Outset) (P : Entries) (ks : List ℕ) (c d u : ℕ) (k : Option ℕ) → HasOnly o P c (Some u) k → HasOnly o (P ++ (ks, Did (Logs (Ended u)) d) ∷ []) c None k

abbrev pub OnlyClaims : Type 0
OnlyClaims = (o : Outset) (P : Entries) (ks : List ℕ) (c u : ℕ) (t : Option ℕ) → HasOnly o P c t None → HasOnly o (P ++ (ks, Did (Claims u) c) ∷ []) c t (Some u)

abbrev pub OnlyLets : Type 0
OnlyLets =
    (o : Outset) (P : Entries) (ks : List ℕ) (e : Entry) (c u : ℕ) (t : Option ℕ) → lets_one u e ≡ true → HasOnly o P c t (Some u) → HasOnly o (P ++ (ks, e) ∷ []) c t None

-- ---- any others
abbrev pub OnlyStays : Type 0
OnlyStays =
    (bases : Bases) (p : Point) (o : Outset) (T : History) (e : Line) (c : ℕ) (t k : Option ℕ) → IsLed bases p o (T ++ e ∷ []) → takes_one c e.1.0 ≡ false
    → HasOnly o (plain T) c t k → HasOnly o (plain (T ++ e ∷ [])) c t k

abbrev pub OnlySeen : Type 0
OnlySeen =
    (bases : Bases) (p : Point) (o : Outset) (seen new : History) (c : ℕ) (t k : Option ℕ) → IsLed bases p o new → IsSeen new (client_note (count_of o) c) seen
    → HasOnly o (plain seen) c t k → HasOnly o (plain new) c t k

-- ---- what is right
-- the holder isn't the transaction that it cleans up
abbrev pub YieldsByOwn : Type 0
YieldsByOwn =
    (bases : Bases) (p : Point) (o : Outset) (T : History) (c t k h : ℕ) (m : Mode) (u : Option ℕ) (y : SystemState) → IsLed bases p o T → y ≡ (core_told o T).system
    → IsAnswer y.locks t k m (Busy h) → y.stop ≡ None → is_dead_in (state_of y h) ≡ false
    → HasOnly o (plain T) c (Some t) u → (u ≡ Some h → ⊥)
    → RightHere bases p o T (Did (Yields (refusal_at y t k m h)) c) (OnSystem (refused y t k m h))

abbrev pub GivesBackRight : Type 0
GivesBackRight =
    (bases : Bases) (p : Point) (o : Outset) (T : History) (c t : ℕ) (was latched : Option ℕ) (y : SystemState) → IsLed bases p o T → y ≡ (core_told o T).system
    → state_of y t ≡ Some (Cleaning was) → actor_by t (plain T) ≡ Some c
    → ((r : ℕ) → latched ≡ Some r → (r < count_of o) × (dead_by o r (plain T) ≡ Some t))
    → RightHere bases p o T (Did (GivesBack t latched) c) (OnSystem (in_state y t (Dead latched)))

-- ---- what lands
abbrev pub RecoversByOwn : Type 0
RecoversByOwn =
    (bases : Bases) (p : Point) (o : Outset) (T : History) (ks : List ℕ) (e : Entry) (r : ℕ) (g : RegionState) (h : Hold) → IsLed bases p o T → is_tie e ≡ true
    → slice_get (core_told o T).regions r ≡ Some g → g.hold ≡ Some h → h.dead ≡ true → is_claimed_in (state_by o (plain T) h.txn) ≡ true
    → Lands bases p o T (ks, (e, OnRegion r (taken_back g), Does (Recovers r) ∷ []))
