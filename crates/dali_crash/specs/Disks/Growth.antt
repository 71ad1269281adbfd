-- What the anchor tells, also once the vault has stopped, and what a crash inside a step leaves.
--     IsNextOrNow n c          the number n is c or one more
--     AnchorTells              the open gates of each crash image are as many as the current number, or one more; just as many while the vault runs
--     AnchorTellsInside        so it is inside a step
--     fault_of x ws n          the step that is a fault in the step x, where x calls the store
--     calls_store x            whether the step x calls the store to write, to sync, or to move the anchor
--     EachCallMayFail          at each such step there is a fault in it, whatever the count that the store then has and the words that are read then
--     OthersNeverFail          and at no other one
--     InsideIsFault            inside a step a crash leaves what it left before, or what a fault in this step leaves
--     FaultIsInside            and what a fault leaves may be left inside the step
--     QuietInside              inside a step that doesn't call the store a crash leaves what it left before
use Rattle.std.specs.Prelude.{◌≡◌, ℕ, ◌+◌, Bool, true, false, ◌⊎◌, List, [], Option, Some, None}
use Rattle.dali_record.specs.Files.{Files}
use Rattle.dali_runs.specs.Run.{HasRisen}
use Rattle.dali_runs.specs.Flushes.{faulted}
use Rattle.dali_runs.specs.Courses.{Flushes, Faults}
use Rattle.dali_crash.specs.Checkpoints.{StoreStep, Does, Starts, Keeps, Copies, Skips, WritesHead, Syncs, Turns, Finishes, CopyFails, HeadFails, SyncFails, TurnFails, Came, Inside, IsPointStep, Point, Traced}
use Rattle.dali_crash.specs.Traces.{Start, StartsAt, start_point}

-- ---- the anchor
abbrev pub IsNextOrNow : ℕ → ℕ → Type 0
IsNextOrNow n c = (n ≡ c) ⊎ (n ≡ c + 1)

pub record IsAnchored (p : Point) (F : Files) : Type 0 where
  pub running : p.core.vault.stopped ≡ false → F.gates ≡ p.core.vault.current
  pub always : IsNextOrNow F.gates p.core.vault.current

abbrev pub AnchorTells : Type 0
AnchorTells =
    (s : Start) (D : Files) → StartsAt s D
    → (xs : List StoreStep) (p : Point) (F : Files) → Traced (start_point s) D xs p F
    → IsAnchored p F

abbrev pub AnchorTellsInside : Type 0
AnchorTellsInside =
    (s : Start) (D : Files) → StartsAt s D
    → (xs : List StoreStep) (p : Point) (E : Files) → Traced (start_point s) D xs p E
    → (x : StoreStep) (q : Point) (F : Files) → IsPointStep p x q → Inside p x E F
    → IsNextOrNow F.gates p.core.vault.current

-- ---- inside a step
-- the fault in a step, where the step calls the store
abbrev pub fault_of : StoreStep → List ℕ → ℕ → Option StoreStep
fault_of (Does Flushes) ws n = Some (Does (Faults n))
fault_of (Does (Faults k)) ws n = Some (Does (Faults n))
fault_of (Copies r m) ws n = Some (CopyFails r ws n)
fault_of (CopyFails r us k) ws n = Some (CopyFails r ws n)
fault_of (WritesHead h) ws n = Some (HeadFails h n)
fault_of (HeadFails h k) ws n = Some (HeadFails h n)
fault_of Syncs ws n = Some (SyncFails n)
fault_of (SyncFails k) ws n = Some (SyncFails n)
fault_of Turns ws n = Some (TurnFails n)
fault_of (TurnFails k) ws n = Some (TurnFails n)
fault_of _ ws n = None

abbrev pub calls_store : StoreStep → Bool
calls_store (Does Flushes) = true
calls_store (Does (Faults k)) = true
calls_store (Does x) = false
calls_store Starts = false
calls_store Keeps = false
calls_store (Skips r m) = false
calls_store Finishes = false
-- a checkpoint's other steps: a copy, the head, a sync, the anchor's move, and the fault in one of these
calls_store _ = true

pub record MayFail (p : Point) (x : StoreStep) (ws : List ℕ) (n : ℕ) : Type 0 where
  pub step : StoreStep
  pub is_fault : fault_of x ws n ≡ Some step
  pub behind : Point
  pub leads : IsPointStep p step behind
  pub vault : behind.core.vault ≡ faulted p.core.vault n

abbrev pub EachCallMayFail : Type 0
EachCallMayFail =
    (p q : Point) (x : StoreStep) (ws : List ℕ) (n : ℕ) → IsPointStep p x q → calls_store x ≡ true → HasRisen p.core.vault.faults n
    → MayFail p x ws n

abbrev pub OthersNeverFail : Type 0
OthersNeverFail = (x : StoreStep) (ws : List ℕ) (n : ℕ) → calls_store x ≡ false → fault_of x ws n ≡ None

-- what a fault in the step x at p makes of the crash image D
pub record IsLeftByFault (p : Point) (x : StoreStep) (D F : Files) : Type 0 where
  pub words : List ℕ
  pub faults : ℕ
  pub step : StoreStep
  pub is_fault : fault_of x words faults ≡ Some step
  pub behind : Point
  pub leads : IsPointStep p step behind
  pub came : Came p step D F

abbrev pub InsideIsFault : Type 0
InsideIsFault = (p q : Point) (x : StoreStep) (D F : Files) → IsPointStep p x q → Inside p x D F → (F ≡ D) ⊎ IsLeftByFault p x D F

abbrev pub FaultIsInside : Type 0
FaultIsInside =
    (p : Point) (x y : StoreStep) (ws : List ℕ) (n : ℕ) (D F : Files) → fault_of x ws n ≡ Some y
    → Came p y D F
    → Inside p x D F

abbrev pub QuietInside : Type 0
QuietInside = (p : Point) (x : StoreStep) (D F : Files) → fault_of x [] 0 ≡ None → Inside p x D F → F ≡ D
