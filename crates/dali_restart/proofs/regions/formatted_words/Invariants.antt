use Rattle.std.proofs.Common.{◌≡◌, ◌≤◌, take}
use Rattle.dali_geometry.specs.Places.{formatted_image}
use Rattle.dali_restart.proofs.regions.formatted_words.Given as goal

abbrev pub invariant-loop-region : goal.invariant-loop-region
invariant-loop-region l = (l.words.items ≡ take l.region (formatted_image l.geometry)) × (l.region ≤ l.count)
