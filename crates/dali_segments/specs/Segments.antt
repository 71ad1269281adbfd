-- The log that segments are.
-- Words: mark, is_dropped, piece, log_of, store_of; told_of, Leaves, LeavesWhere; IsReady, IsHeld, IsSound, EndsIn, FullBelow; droppable_of, dropped_to_of.
use Rattle.std.specs.Prelude.{◌≡◌, ◌≢◌, ◌⊎◌, ◌≤◌, ◌<◌, ⊤, ℕ, ◌+◌, ◌*◌, ◌-◌, ◌/◌, Bool, false, not, nat_lt, ◌==◌, ◌&&◌, if◌then◌else◌, List, [], length, replicate, Option, Some, None, IfSome}
use Rattle.dali_store.specs.Store.{Files}
use Rattle.dali_files.specs.Files.{Contents}
use Rattle.dali_files.specs.declared.key.FileKey.{FileKey}
use Rattle.dali_files.specs.declared.key.FileKey.TheVariants.{ImageA, ImageB, Anchor, Segment}
use Rattle.dali_segments.specs.Pieces.{joined}

-- the file whose length is how many segments are dropped
abbrev pub mark : FileKey
mark = Segment 4095

abbrev pub is_dropped : ℕ → ℕ → Bool
is_dropped marked n = not (n == 0) && not (nat_lt marked n)

-- what a segment reads as, where so many are dropped
abbrev pub piece_by : ℕ → ℕ → (ℕ → List ℕ) → ℕ → List ℕ
piece_by size marked segments n = if is_dropped marked n then replicate size 0 else segments n

abbrev pub piece : ℕ → Contents → ℕ → List ℕ
piece size files n = piece_by size (length (files mark)) (λ k. files (Segment k)) n

abbrev pub log_of : ℕ → Contents → List ℕ
log_of size files = joined size (λ n. piece size files n) 0 4095

-- the four files of a store
abbrev pub store_of : ℕ → Contents → Files
store_of size files = record { log = log_of size files; a = files ImageA; b = files ImageB; anchor = files Anchor }

-- the same where it is told what reads give
abbrev pub told_of : ℕ → Option Contents → Option Files
told_of size (Some files) = Some (store_of size files)
told_of size None = None

-- four files that some of these contents are
abbrev pub Leaves : ℕ → (Contents → Type 0) → Files → Type 0
Leaves size outcomes c = (d : Contents) × outcomes d × (c ≡ store_of size d)

-- the same where it is told what reads give, and else any four files
abbrev pub LeavesWhere : ℕ → Option Contents → (Contents → Type 0) → Files → Type 0
LeavesWhere size (Some files) outcomes c = Leaves size outcomes c
LeavesWhere size None outcomes c = ⊤

-- Where no call on the log failed: each segment below the last one is full or dropped, and none stands above it; and of
-- each outcome of a crash, that the mark is the same, the segments below `settled` read the same, and none stands above
-- the last one.
pub record IsReady (size last dropped settled : ℕ) (outcomes : Contents → Type 0) (going : FileKey → Type 0) (files : Contents) : Type 0 where
  pub marked : length (files mark) ≡ dropped
  pub full : (n : ℕ) → n < last → length (piece size files n) ≡ size
  pub ends : length (piece size files last) ≤ size
  pub none : (n : ℕ) → last < n → n < 4095 → piece size files n ≡ []
  pub same_mark : (d : Contents) → outcomes d → length (d mark) ≡ dropped
  pub settled_same : (d : Contents) → outcomes d → (n : ℕ) → n < settled → piece size d n ≡ piece size files n
  pub none_left : (d : Contents) → outcomes d → (n : ℕ) → last < n → n < 4095 → piece size d n ≡ []
  pub stays : (n : ℕ) → dropped < n → n < 4096 → going (Segment n) → ⊥
  pub first : going (Segment 0) → ⊥

-- What is so of each outcome of a crash, also behind a fault: no segment is longer than it may be; no image and no mark
-- waits for a removal's sync, and a segment that does is dropped or stands above one that isn't full.
pub record IsHeld (size : ℕ) (outcomes : Contents → Type 0) (going : FileKey → Type 0) : Type 0 where
  pub images : (going ImageA → ⊥) × ((going ImageB → ⊥) × (going Anchor → ⊥))
  pub marked : going mark → ⊥
  pub small : (d : Contents) → outcomes d → (n : ℕ) → n < 4095 → length (piece size d n) ≤ size
  pub behind : (d : Contents) → outcomes d → (n : ℕ) → n < 4095 → going (Segment n) → is_dropped (length (d mark)) n ≡ false → ((m : ℕ) → m < n → length (piece size d m) ≡ size) → ⊥

-- What is so of all files that a crash may leave: always, and where no call on the log failed.
pub record IsSound (lost : Bool) (size last dropped settled : ℕ) (outcomes : Contents → Type 0) (going : FileKey → Type 0) (files : Contents) : Type 0 where
  pub no_longer : (d : Contents) → outcomes d → length (log_of size d) ≤ length (log_of size files)
  pub held : IsHeld size outcomes going
  pub ready : lost ≡ false → IsReady size last dropped settled outcomes going files

-- The log ends in this segment: all below it are full or dropped, and it isn't full, or none with bytes stands above it.
pub record EndsIn (size last dropped : ℕ) (files : Contents) : Type 0 where
  pub marked : length (files mark) ≡ dropped
  pub full : (n : ℕ) → n < last → length (piece size files n) ≡ size
  pub ends : length (piece size files last) ≤ size
  pub nothing_more : (length (piece size files last) ≢ size) ⊎ ((n : ℕ) → last < n → n < 4095 → piece size files n ≡ [])

-- each outcome of a crash has all segments below this one full, where it is told what reads give
abbrev pub FullBelow : ℕ → ℕ → Option Contents → (Contents → Type 0) → Type 0
FullBelow size l told outcomes = IfSome told (λ fs. (d : Contents) → outcomes d → (n : ℕ) → n < l → length (piece size d n) ≡ size)

-- the bytes of the segments that end at a place or before it and aren't dropped, but for the first one
abbrev pub droppable_of : ℕ → ℕ → ℕ → ℕ
droppable_of size dropped below = (below / size - 1 - dropped) * size

-- the end of the last segment that is dropped, or 0
abbrev pub dropped_to_of : ℕ → ℕ → ℕ
dropped_to_of size dropped = if dropped == 0 then 0 else (dropped + 1) * size
