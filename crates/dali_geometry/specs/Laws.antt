-- Laws of the geometry.
--     IsOfFormattedRegions   each region of the formatted image has the formatted words of a region of its kind
use Rattle.std.specs.Prelude.{◌≡◌, ◌<◌, ℕ, [], slice_index_or}
use Rattle.dali_geometry.specs.Sizes.{Sizes}
use Rattle.dali_geometry.specs.Places.{regions, formatted, formatted_image}

abbrev pub IsOfFormattedRegions : Type 0
IsOfFormattedRegions = (s : Sizes) (r : ℕ) → r < regions s → slice_index_or (formatted_image s) r [] ≡ formatted s r
