-- One operation of a plan on its region.
--     Operated precheck p g y q h z    the plan p made its next operation on the region g, and its block was logged by the system y
--     IsLeftOf t g h           no operation was made: the region was latched for t and is as its steps left it, or wasn't
use Rattle.std.specs.Prelude.{◌≡◌, ◌⊎◌, ℕ, Bool, true, false, List, None}
use Rattle.dali_record.specs.declared.operations.Block.{Block}
use Rattle.dali_record.specs.declared.records.Record.TheVariants.{Forward}
use Rattle.dali_region.specs.State.{RegionState, touched}
use Rattle.dali_runs.specs.State.{SystemState}
use Rattle.dali_runs.specs.Steps.{op_logged, back_logged}
use Rattle.dali_runs.specs.Keeps.{HasRoom}
use Rattle.dali_runs.specs.Regions.{RegionStep, IsOpen}
use Rattle.dali_calls.specs.Steps.{call_key, IsBlockOf}
use Rattle.dali_calls.specs.Plans.{Planned, plan_next, is_back, went_back, GoesOn}
use Rattle.dali_calls.specs.Operating.{Goes, IsTakenBack}

pub record Operated (precheck : Bool) (p : Planned) (g : RegionState) (y : SystemState) (q : Planned) (h : RegionState) (z : SystemState) : Type 0 where
  pub block : Block
  pub of : IsBlockOf (plan_next p) (call_key p.call) block
  -- the region with the operation opened
  pub opened : RegionState
  pub steps : List RegionStep
  pub goes : Goes p.txn g steps opened
  pub is_open : IsOpen opened p.txn block
  pub region : h ≡ touched opened
  -- with precheck its codeword told no damage where it was latched
  pub checked : is_back p ≡ false → precheck ≡ true → g.stray ≡ 0
  pub onward : is_back p ≡ false → (z ≡ op_logged y p.txn block) × HasRoom y (Forward p.txn block) × GoesOn p block q
  pub back : is_back p ≡ true → (z ≡ back_logged y p.txn block) × (y.stop ≡ None) × (q ≡ went_back p)

abbrev pub IsLeftOf : ℕ → RegionState → RegionState → Type 0
IsLeftOf t g h = (h ≡ g) ⊎ IsTakenBack t g h
