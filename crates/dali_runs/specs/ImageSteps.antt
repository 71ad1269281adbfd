-- Steps and the images of a store.
--     writes_images x          a step that writes to the store, or tells that a copy was written
--     ImagesKeep               every other step leaves images and log as they fit
--     told_with told side r ws     the files once the words ws were written in the place of region r
--     CopyKeeps                a copy for a checkpoint, once it is written
--     FlushKeepsImages, FaultKeepsImages       a flush, and a fault in one
use Rattle.std.specs.Prelude.{◌≡◌, ℕ, Bool, true, false, ◌&&◌, ◌==◌, if◌then◌else◌, List, Some, slice_get}
use Rattle.dali_record.specs.declared.records.Record.{Record}
use Rattle.dali_record.specs.Files.{Files}
use Rattle.dali_region.specs.declared.Side.{Side}
use Rattle.dali_region.specs.declared.Side.TheVariants.{A, B}
use Rattle.dali_region.specs.State.{RegionState}
use Rattle.dali_region.specs.Answers.{cleaned}
use Rattle.dali_runs.specs.State.{CoreState}
use Rattle.dali_runs.specs.Run.{Bases, only}
use Rattle.dali_runs.specs.Regions.{RegionStep, Clean}
use Rattle.dali_runs.specs.Keeps.{with_region}
use Rattle.dali_runs.specs.Courses.{Step, OnRegion, Flushes, Faults, Moment, CameBy, IsStepAt, RunsAt}
use Rattle.dali_runs.specs.Images.{Told, ImageRun}

abbrev pub clears : RegionStep → Bool
clears (Clean side) = true
clears _ = false

abbrev pub writes_images : Step → Bool
writes_images Flushes = true
writes_images (Faults n) = true
writes_images (OnRegion r x) = clears x
writes_images _ = false

abbrev pub ImagesKeep : Type 0
ImagesKeep =
    (bases : Bases) (told : Told) (m n : Moment) (x : Step) (F : Files) → ImageRun bases (only F) told m.core
    → IsStepAt m x n → writes_images x ≡ false
    → ImageRun bases (only F) told n.core

abbrev pub same_side : Side → Side → Bool
same_side A A = true
same_side B B = true
same_side _ _ = false

abbrev pub told_with : Told → Side → ℕ → List ℕ → Told
told_with told side r ws s q = if same_side s side && (q == r) then ws else told s q

abbrev pub CopyKeeps : Type 0
CopyKeeps =
    (bases : Bases) (told : Told) (F : Files) (c : CoreState) (side : Side) (r : ℕ) (g : RegionState) → ImageRun bases (only F) told c
    → slice_get c.regions r ≡ Some g
    → ImageRun bases (only F) (told_with told side r g.back) (with_region c r (cleaned side g))

-- ---- a flush adds one batch, all of whose records stand in the last epoch
abbrev pub FlushKeepsImages : Type 0
FlushKeepsImages =
    (bases : Bases) (before : List Record) (told : Told) (m n : Moment) (D F : Files) → RunsAt bases before (only D) m → ImageRun bases (only D) told m.core
    → IsStepAt m Flushes n → CameBy m.log m.core Flushes D F
    → ImageRun bases (only F) told n.core

abbrev pub FaultKeepsImages : Type 0
FaultKeepsImages =
    (bases : Bases) (before : List Record) (told : Told) (m n : Moment) (D F : Files) (faults : ℕ) → RunsAt bases before (only D) m → ImageRun bases (only D) told m.core
    → IsStepAt m (Faults faults) n → CameBy m.log m.core (Faults faults) D F
    → ImageRun bases (only F) told n.core
