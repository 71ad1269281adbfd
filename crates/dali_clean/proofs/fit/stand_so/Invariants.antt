use Rattle.std.proofs.Common.{◌≡◌, ℕ, ◌<◌, Some, slice_get}
use Rattle.dali_region.specs.State.{RegionState}
use Rattle.dali_clean.specs.Fit.{StandsSo}
use Rattle.dali_clean.proofs.fit.stand_so.Given as goal

abbrev pub invariant-loop-region : goal.invariant-loop-region
invariant-loop-region l = (r : ℕ) (g : RegionState) → r < l.region → slice_get l.regions r ≡ Some g → StandsSo l.latched l.txn r g.hold
