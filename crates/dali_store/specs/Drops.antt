-- What is dropped of a log that a store keeps in segments.
-- Words: Dropped, DroppedIn, DroppedTold; IsIdle, IsSynced, After, LogStays.
use Rattle.std.specs.Prelude.{◌≡◌, ◌⊎◌, ⊤, ℕ, ◌≤◌, List, length, take, drop, slice_index, Option, Some, None}
use Rattle.dali_store.specs.Store.{Files, file_of, SameBut}
use Rattle.dali_store.specs.declared.store.FileName.{FileName}
use Rattle.dali_store.specs.declared.store.FileName.TheVariants.{Log}

-- new is old with some of the bytes from place 64 up to another one, that one left out, as 00
pub record Dropped (below : ℕ) (old new : List ℕ) : Type 0 where
  pub size : length new ≡ length old
  pub front : take 64 new ≡ take 64 old
  pub behind : drop below new ≡ drop below old
  pub each : (i : ℕ) → (slice_index new i ≡ slice_index old i) ⊎ (slice_index new i ≡ 0)

-- the same of the log among four files
pub record DroppedIn (below : ℕ) (old new : Files) : Type 0 where
  pub dropped : Dropped below old.log new.log
  pub same : SameBut Log old new

-- the same of what reads give, where it is told, and it is told as before
abbrev pub DroppedTold : ℕ → Option Files → Option Files → Type 0
DroppedTold below (Some old) (Some new) = DroppedIn below old new
DroppedTold below (Some old) None = ⊥
DroppedTold below None new = new ≡ None

-- reads give what they gave, and a crash leaves what it left
pub record IsIdle (old new : Option Files) (before now : Files → Type 0) : Type 0 where
  pub told : new ≡ old
  pub crash : (c : Files) → now c → before c

-- of this file a crash leaves what reads give, where that is told
abbrev pub IsSynced : FileName → Option Files → (Files → Type 0) → Type 0
IsSynced f (Some files) outcomes = (c : Files) → outcomes c → file_of f c ≡ file_of f files
IsSynced f None outcomes = ⊤

-- an outcome of a crash after a step
abbrev pub After : (Files → Files → Type 0) → (Files → Type 0) → Files → Type 0
After step old c = (d : Files) × old d × step d c

-- of a log of so many bytes as much can be dropped as before
abbrev pub LogStays : ℕ → (ℕ → ℕ) → (ℕ → ℕ) → Type 0
LogStays size before now = (place : ℕ) → place ≤ size → now place ≡ before place
