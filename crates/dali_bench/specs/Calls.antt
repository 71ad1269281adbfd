-- Calls that are timed.
--     MayServe rs y t          these are as many regions as the system y has, the client of t is alive, and its undos can be taken back
use Rattle.std.specs.Prelude.{◌≡◌, ℕ, List, Some, length}
use Rattle.dali_geometry.specs.Places.{regions}
use Rattle.dali_region.specs.State.{RegionState}
use Rattle.dali_runs.specs.State.{SystemState, state_of}
use Rattle.dali_att.specs.declared.state.State.TheVariants.{Live}
use Rattle.dali_calls.specs.Single.Single.{AreCovered}

pub record MayServe (rs : List RegionState) (y : SystemState) (t : ℕ) : Type 0 where
  pub whole : length rs ≡ regions y.sizes
  pub lives : state_of y t ≡ Some Live
  pub covered : AreCovered y t
