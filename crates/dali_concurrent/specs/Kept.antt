-- What is kept under a lock, of what the value's note has seen of the history.
--     is_silent x              the step x calls no store, and takes no frame
--     are_core_steps xs        none of these steps is a checkpoint's
--     ChecksFit o T e          who makes a step of a checkpoint is the client whose checkpoint is under way, or starts one
--     is_named x               an entry's name tells the step x: a pass, a grant, a frame, a flush, what a checkpoint keeps, copies, writes and syncs
--     is_step_on r x           the step x is one on the region r alone
--     StepsFit e xs            these steps are those that the name of the entry e tells: of a tie no others, of a deed no others that are named
--     is_pass x, is_grant x    in the step x an audit passes a region;  a lock is granted
--     wants r e                the entry e is done under the hold of the region r, or tells that it begins or ends
--     writes_to x              the region of which the step x changes the hold, or the words otherwise than by a stray write
--     WritesFit e xs           each of these steps of the entry e changes so only a region that it wants
--     HoldIs o r g P           the hold of the region r, which is g, is as the entries tell it
--     Follows bases p o T e    all that the entry e owes behind T
--     may_follow bases p o     the rule of the round's history: so may each entry be added
--     AllFollow bases p o T    so does each entry of the history
--     SystemTold, RegionTold   what is so of a system, and of a region; that of the vault is in Stored, that of a client in Clients
--     SystemMeets, RegionMeets     a value that entries of others leave is still as told
use Rattle.std.specs.Prelude.{◌≡◌, ◌&&◌, ◌==◌, ◌⊎◌, ℕ, ◌<◌, Bool, true, false, List, [], ◌∷◌, ◌++◌, Option, Some, None, slice_get, take, if◌then◌else◌}
use Rattle.std.specs.List.{list_all, list_any}
use Rattle.dali_region.specs.State.{RegionState}
use Rattle.dali_runs.specs.State.{SystemState}
use Rattle.dali_runs.specs.Run.{Bases}
use Rattle.dali_runs.specs.Courses.{Flushes, Faults, ReadFails, Takes, Passes, Locks, OnRegion, Recovers, Operates, TakesBack, Frees, Dies}
use Rattle.dali_crash.specs.Checkpoints.{Head, StoreStep, Does, Starts, Keeps, Copies, Skips, WritesHead, Syncs, Finishes, Point}
use Rattle.dali_runs.specs.Regions.{RegionStep, Poke, Check, Clean}
use Rattle.dali_transcripts.specs.World.{GetsLock, StartsCheckpoint, under_way}
use Rattle.dali_transcripts.specs.Rounds.{is_on}
use Rattle.dali_notes.specs.History.{signs, IsSeen}
use Rattle.dali_concurrent.specs.Entries.{Entry, Did, Latched, Updated, Freed, Passed, Took, Flushed, Kept, Copied, Wrote, Entries, client_note, deeds_of, system_note, vault_note, region_note, live_by}
use Rattle.dali_concurrent.specs.Rules.{Outset, count_of, live_in, dead_in, dead_by, Fits}
use Rattle.dali_concurrent.specs.Told.{Line, History, plain, plain_one, core_told, EffectFits}
use Rattle.dali_concurrent.specs.Landing.{Lands}

abbrev pub is_silent : StoreStep → Bool
is_silent (Does Flushes) = false
is_silent (Does (Faults n)) = false
is_silent (Does (ReadFails n)) = false
is_silent (Does Takes) = false
is_silent (Does x) = true
is_silent Starts = true
is_silent Finishes = true
is_silent x = false

-- ---- what its name tells
abbrev pub is_pass : StoreStep → Bool
is_pass (Does (Passes b r)) = true
is_pass x = false

abbrev pub is_grant : StoreStep → Bool
is_grant (Does (Locks t k m)) = true
is_grant x = false

abbrev pub is_named : StoreStep → Bool
is_named (Does (Passes b r)) = true
is_named (Does (Locks t k m)) = true
is_named (Does Takes) = true
is_named (Does Flushes) = true
is_named Keeps = true
is_named (Copies r n) = true
is_named (Skips r n) = true
is_named (WritesHead h) = true
is_named Syncs = true
is_named x = false

abbrev pub is_step_on : ℕ → StoreStep → Bool
is_step_on r (Does (OnRegion q x)) = q == r
is_step_on r x = false

abbrev pub StepsFit : Entry → List StoreStep → Type 0
StepsFit (Did (GetsLock t k m) c) xs = xs ≡ Does (Locks t k m) ∷ []
StepsFit (Did x c) xs = list_any is_named xs ≡ false
StepsFit (Latched r t c) xs = list_all (is_step_on r) xs ≡ true
StepsFit (Updated r c) xs = list_all (is_step_on r) xs ≡ true
StepsFit (Freed r c) xs = (list_all (is_step_on r) xs ≡ true) ⊎ (xs ≡ Does (Recovers r) ∷ [])
StepsFit (Passed r b right) xs = xs ≡ Does (Passes b r) ∷ []
StepsFit Took xs = xs ≡ Does Takes ∷ []
StepsFit Flushed xs = xs ≡ Does Flushes ∷ []
StepsFit Kept xs = xs ≡ Keeps ∷ []
StepsFit (Copied r) xs = (n : ℕ) × ((xs ≡ Copies r n ∷ []) ⊎ (xs ≡ Skips r n ∷ []))
-- head or table of the image, or its sync
StepsFit Wrote xs = (xs ≡ Syncs ∷ []) ⊎ ((h : Head) × (xs ≡ WritesHead h ∷ []))

abbrev pub wants : ℕ → Entry → Bool
wants r (Did x c) = is_on r x
wants r (Latched q t c) = q == r
wants r (Updated q c) = q == r
wants r (Freed q c) = q == r
wants r e = false

abbrev pub is_outside : RegionStep → Bool
is_outside (Poke word mask) = true
is_outside Check = true
is_outside (Clean side) = true
is_outside x = false

abbrev pub writes_to : StoreStep → Option ℕ
writes_to (Does (Operates t b)) = Some b.region
writes_to (Does (TakesBack t b)) = Some b.region
writes_to (Does (Frees t b)) = Some b.region
writes_to (Does (OnRegion r x)) = if is_outside x then None else Some r
writes_to (Does (Dies t latched)) = latched
writes_to (Does (Recovers r)) = Some r
writes_to x = None

abbrev pub is_wanted : Entry → Option ℕ → Bool
is_wanted e None = true
is_wanted e (Some r) = wants r e

abbrev pub WritesFit : Entry → List StoreStep → Type 0
WritesFit e xs = list_all (λ x. is_wanted e (writes_to x)) xs ≡ true

abbrev pub txn_in : Option (ℕ × ℕ) → Option ℕ
txn_in None = None
txn_in (Some w) = Some w.0

pub record HoldIs (o : Outset) (r : ℕ) (g : RegionState) (P : Entries) : Type 0 where
  pub live : live_in g.hold ≡ txn_in (live_by r P)
  pub dead : dead_in g.hold ≡ dead_by o r P

abbrev pub is_core_step : StoreStep → Bool
is_core_step (Does x) = true
is_core_step x = false

abbrev pub are_core_steps : List StoreStep → Bool
are_core_steps [] = true
are_core_steps (x ∷ xs) = is_core_step x && are_core_steps xs

abbrev pub ChecksFit : Outset → History → Line → Type 0
ChecksFit o T e =
    are_core_steps e.1.2 ≡ false
    → (c : ℕ) × (signs (client_note (count_of o) c) e.0 ≡ true) × ((e.1.0 ≡ Did StartsCheckpoint c) ⊎ (under_way (deeds_of (plain T)) ≡ Some c))

pub record Follows (bases : Bases) (p : Point) (o : Outset) (T : History) (e : Line) : Type 0 where
  -- it fits; its effect is on what the locks of its notes keep; from wherever the history has come its steps lead on
  pub fits : Fits o (plain T) (plain_one e)
  pub effect : EffectFits e.0 e.1.1
  pub lands : Lands bases p o T e
  -- who hasn't the vault's lock calls no store, and takes no frame
  pub silent : signs vault_note e.0 ≡ false → (i : ℕ) (x : StoreStep) → slice_get e.1.2 i ≡ Some x → is_silent x ≡ true
  -- it does what its name tells
  pub steps : StepsFit e.1.0 e.1.2
  -- a hold, and the words under it, are changed where that is told
  pub writes : WritesFit e.1.0 e.1.2
  -- who has a region's lock leaves its hold as told
  pub holds : (r : ℕ) (g : RegionState) → r < count_of o → signs (region_note r) e.0 ≡ true → slice_get (core_told o (T ++ e ∷ [])).regions r ≡ Some g
      → HoldIs o r g (plain (T ++ e ∷ []))
  -- a checkpoint is one client's
  pub checks : ChecksFit o T e

abbrev pub may_follow : Bases → Point → Outset → List Line → Line → Type 0
may_follow bases p o T e = Follows bases p o T e

abbrev pub AllFollow : Bases → Point → Outset → History → Type 0
AllFollow bases p o T = (i : ℕ) (e : Line) → slice_get T i ≡ Some e → Follows bases p o (take i T) e

-- ---- what is so of each value
abbrev pub SystemTold : Outset → SystemState → History → Type 0
SystemTold o y T = y ≡ (core_told o T).system

pub record RegionTold (o : Outset) (r : ℕ) (g : RegionState) (T : History) : Type 0 where
  pub is : slice_get (core_told o T).regions r ≡ Some g
  pub hold : HoldIs o r g (plain T)

abbrev pub SystemMeets : Type 0
SystemMeets =
    (bases : Bases) (p : Point) (o : Outset) (seen new : History) (y : SystemState) → IsSeen new system_note seen → AllFollow bases p o new
    → SystemTold o y seen → SystemTold o y new

abbrev pub RegionMeets : Type 0
RegionMeets =
    (bases : Bases) (p : Point) (o : Outset) (r : ℕ) (seen new : History) (g : RegionState) → IsSeen new (region_note r) seen → AllFollow bases p o new
    → RegionTold o r g seen → RegionTold o r g new
