use Rattle.std.proofs.Common.{◌≡◌, ◌≤◌, map, take}
use Rattle.dali_geometry.specs.Places.{formatted_image}
use Rattle.dali_region.specs.State.{loaded}
use Rattle.dali_restart.proofs.regions.formatted.Given as goal

abbrev pub invariant-loop-region : goal.invariant-loop-region
invariant-loop-region l = (l.regions.items ≡ take l.region (map loaded (formatted_image l.geometry))) × (l.region ≤ l.count)
