use Rattle.std.proofs.Common.{◌≡◌, ◌++◌, drop}
use Rattle.std.specs.Prelude.{map}
use Rattle.dali_region.specs.State.{loaded}
use Rattle.dali_restart.proofs.rise.regions.load_all.Given as goal

abbrev pub invariant-loop-region : goal.invariant-loop-region
invariant-loop-region l = l.regions.items ++ map loaded (drop l.region-index l.words) ≡ map loaded l.words
