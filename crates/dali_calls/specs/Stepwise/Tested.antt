-- For the tests.
--     IsIdle p t y             the plan p is one of t over a database of these sizes, and has no operation open
use Rattle.std.specs.Prelude.{◌≡◌, ℕ, None}
use Rattle.dali_runs.specs.State.{SystemState}
use Rattle.dali_calls.specs.Plans.{Planned}

pub record IsIdle (p : Planned) (t : ℕ) (y : SystemState) : Type 0 where
  pub own : p.txn ≡ t
  pub sizes : p.geometry ≡ y.sizes
  pub closed : p.operation ≡ None
