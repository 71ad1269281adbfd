-- Calls that leave less of what a crash may leave.
-- Words: LeavesLess.
use Rattle.std.specs.Prelude.{◌≡◌, ℕ, Option, is_some}
use Rattle.dali_store.specs.Store.{Files, Elapses}

-- it is told as before whether reads give something, and a crash leaves no more than before
pub record LeavesLess (old new : Option Files) (before after : Files → Type 0) (moment now : ℕ) (past since : ℕ → Files → Type 0) : Type 0 where
  pub tells : is_some new ≡ is_some old
  pub crash : (c : Files) → after c → before c
  pub time : Elapses moment now past since after
