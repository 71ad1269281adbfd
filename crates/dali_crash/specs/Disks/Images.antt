-- What reads give of the file of the next image, once all of it was written.
--     next_file p fs           the bytes of that file
--     ReadsWords p fs          each region's place in it reads the words that the point says
--     ReadsNextHead p fs       its header and its table read the head that the point says
--     HeadIsRead               header and table written in their places are read there, and each region's place as before
--     QuietIsRead              the point's words and its head are read behind every step that leaves the file and the current number, where they were before it
--     SyncHolds                behind a sync each disk holds the head and the words that reads give
--     HeldGoesOn               and goes on to hold them behind every other step that leaves the file in each disk
use Rattle.std.specs.Prelude.{◌≡◌, ℕ, ◌≤◌, ◌<◌, false, List, length}
use Rattle.dali_geometry.specs.Sizes.{Sizes}
use Rattle.dali_geometry.specs.Places.{regions}
use Rattle.dali_store.specs.Store.{Files as Disk, file_of, Holds}
use Rattle.dali_crash.specs.Checkpoints.{Head, StoreStep, target, image_in, IsPointStep, Point}
use Rattle.dali_crash.specs.Disks.Disks.{header_bytes, table_bytes, CanBeImage, image_file, image_name}
use Rattle.dali_crash.specs.Disks.Places.{place_of, ReadsPlaces, ReadsHead, SamePlace}
use Rattle.dali_crash.specs.Disks.Bridges.{is_image_write, HoldsNext}

abbrev pub next_file : Point → Disk → List ℕ
next_file p fs = image_file (target p) fs

abbrev pub ReadsWords : Point → Disk → Type 0
ReadsWords p fs = ReadsPlaces p.core.system.sizes (p.told (target p)) (next_file p fs)

abbrev pub ReadsNextHead : Point → Disk → Type 0
ReadsNextHead p fs = ReadsHead p.core.system.sizes (p.heads (target p)) (next_file p fs)

-- ---- the head's two writes
pub record HeadStands (s : Sizes) (h : Head) (old : List ℕ) (new : List ℕ) : Type 0 where
  pub places : (q : ℕ) → q < regions s → SamePlace q old new
  pub head : ReadsHead s h new

abbrev pub HeadIsRead : Type 0
HeadIsRead =
    (s : Sizes) (h : Head) (old mid new : List ℕ) → Holds old 0 (header_bytes s h) mid
    → place_of (regions s) ≤ length mid → Holds mid (place_of (regions s)) (table_bytes h.table) new
    → HeadStands s h old new

-- ---- other steps
pub record StaysSo (p q : Point) (old new : Disk) : Type 0 where
  pub words : ReadsWords p old → ReadsWords q new
  pub head : ReadsNextHead p old → ReadsNextHead q new

abbrev pub QuietIsRead : Type 0
QuietIsRead =
    (p q : Point) (x : StoreStep) (old new : Disk) → IsPointStep p x q → is_image_write x ≡ false
    → q.core.vault.current ≡ p.core.vault.current
    → next_file p new ≡ next_file p old
    → StaysSo p q old new

-- ---- what a sync of the file keeps
module _ (may : Disk → Type 0) where
  abbrev pub SyncHolds : Type 0
  SyncHolds =
      (p : Point) (fs : Disk) → ReadsWords p fs → ReadsNextHead p fs
      → CanBeImage p.core.system.sizes (p.heads (target p)) (image_in p.core.system.sizes p.told (target p))
      → ((c : Disk) → may c → file_of (image_name (target p)) c ≡ file_of (image_name (target p)) fs)
      → (c : Disk) → may c → HoldsNext p c

-- behind every other step, where each disk has that file from one before
module _ (old new : Disk → Type 0) where
  abbrev pub HeldGoesOn : Type 0
  HeldGoesOn =
      (p q : Point) (x : StoreStep) → IsPointStep p x q → is_image_write x ≡ false
      → q.core.vault.current ≡ p.core.vault.current
      → ((c : Disk) → new c → (d : Disk) × old d × (next_file p c ≡ next_file p d))
      → ((d : Disk) → old d → HoldsNext p d)
      → (c : Disk) → new c → HoldsNext q c
