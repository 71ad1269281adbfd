-- The flags that tell what an image file lacks.
--     FlagStays g h            a flag that is clear behind a change of the region was clear before
--     FlagsStay gs hs          so it is of each region, and there are as many
use Rattle.std.specs.Prelude.{◌≡◌, ℕ, false, List, Some, length, slice_get}
use Rattle.dali_region.specs.declared.Side.{Side}
use Rattle.dali_region.specs.State.{RegionState}
use Rattle.dali_region.specs.Answers.{is_dirty}

abbrev pub FlagStays : RegionState → RegionState → Type 0
FlagStays g h = (side : Side) → is_dirty h side ≡ false → is_dirty g side ≡ false

pub record FlagsStay (gs hs : List RegionState) : Type 0 where
  pub count : length hs ≡ length gs
  pub each : (r : ℕ) (h : RegionState) → slice_get hs r ≡ Some h → (g : RegionState) × (slice_get gs r ≡ Some g) × FlagStays g h
