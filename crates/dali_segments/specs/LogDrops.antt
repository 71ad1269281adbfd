-- What a drop of the log does, also where it fails.
-- Words: DropsLog.
use Rattle.std.specs.Prelude.{◌≡◌, ◌≤◌, ℕ, max, Option}
use Rattle.dali_store.specs.Store.{Files, Follows, Elapses}
use Rattle.dali_store.specs.Drops.{DroppedIn, DroppedTold, IsIdle, After}
use Rattle.dali_segments.specs.Segments.{droppable_of, dropped_to_of}

-- so many segments were dropped before and are now, or were to be
pub record DropsLog (below size now_size dropped now_dropped : ℕ) (old new : Option Files) (before after : Files → Type 0) (moment now : ℕ) (past since : ℕ → Files → Type 0) : Type 0 where
  pub fewer : (place : ℕ) → droppable_of now_size now_dropped place ≤ droppable_of size dropped place
  pub further : dropped_to_of size dropped ≤ dropped_to_of now_size now_dropped
  pub within : dropped_to_of now_size now_dropped ≤ max (dropped_to_of size dropped) below
  pub idle : droppable_of size dropped below ≡ 0 → IsIdle old new before after
  pub dropped_below : DroppedTold below old new
  pub kept : DroppedTold (dropped_to_of now_size now_dropped) old new
  pub crash : Follows (DroppedIn below) before after
  pub time : Elapses moment now past since (After (DroppedIn below) before)
