-- One operation of a plan on its region: up to its last word, and its record.
--     IsOpened precheck p g b h        the latch of the region g lets the next operation of the plan p through; its block is b, made on the words of g, and h is
--                              the region with all words of it written, where it is open
--     Opens precheck p g q h   so it is, and q is the plan with it
--     record_on back t b       the record of the block b of t, by the way on which a plan goes
--     IsLogged back p b y q z  the system y takes this record, z is the system and q the plan behind it
--     DiesOn precheck p g h t  the next operation of p was opened on g, and its client, that of t, died in it: h is the region then
--     IsMade precheck p g y q h z      the next operation of p was opened on g, and logged: h is the region then
use Rattle.std.specs.Prelude.{◌≡◌, ◌&&◌, ℕ, Bool, true, false, not, List, Some, None, Ok}
use Rattle.dali_record.specs.declared.operations.Block.{Block}
use Rattle.dali_record.specs.declared.records.Record.{Record}
use Rattle.dali_record.specs.declared.records.Record.TheVariants.{Forward, Back}
use Rattle.dali_record.specs.Blocks.{IsSoundOn}
use Rattle.dali_region.specs.State.{RegionState, touched, dead}
use Rattle.dali_region.specs.Answers.{latch_answer}
use Rattle.dali_runs.specs.State.{SystemState}
use Rattle.dali_runs.specs.Steps.{op_logged, back_logged}
use Rattle.dali_runs.specs.Keeps.{HasRoom}
use Rattle.dali_runs.specs.Regions.{RegionStep, IsOpen}
use Rattle.dali_system.specs.declared.operation.Operation.{Operation}
use Rattle.dali_calls.specs.Steps.{call_key, IsBlockOf}
use Rattle.dali_calls.specs.Plans.{Planned, plan_next, is_back, went_back, with_operation, GoesOn}
use Rattle.dali_calls.specs.Operating.{Goes}

pub record IsOpened (precheck : Bool) (p : Planned) (g : RegionState) (b : Block) (h : RegionState) : Type 0 where
  pub latch : Ok tt ≡ latch_answer (not (is_back p) && precheck) g
  -- with precheck the codeword told no damage
  pub checked : is_back p ≡ false → precheck ≡ true → g.stray ≡ 0
  pub of : IsBlockOf (plan_next p) (call_key p.call) b
  pub sound : IsSoundOn g.words b
  pub steps : List RegionStep
  pub goes : Goes p.txn g steps h
  pub is_open : IsOpen h p.txn b

pub record Opens (precheck : Bool) (p : Planned) (g : RegionState) (q : Planned) (h : RegionState) : Type 0 where
  pub operation : Operation
  pub is : q ≡ with_operation p (Some operation)
  pub own : operation.txn ≡ p.txn
  pub opened : IsOpened precheck p g operation.block h

abbrev pub record_on : Bool → ℕ → Block → Record
record_on false t b = Forward t b
record_on true t b = Back t b

-- what takes back uses no room
abbrev pub IsLogged : Bool → Planned → Block → SystemState → Planned → SystemState → Type 0
IsLogged false p b y q z = (z ≡ op_logged y p.txn b) × HasRoom y (Forward p.txn b) × GoesOn p b q
IsLogged true p b y q z = (z ≡ back_logged y p.txn b) × (y.stop ≡ None) × (q ≡ went_back p)

pub record IsMade (precheck : Bool) (p : Planned) (g : RegionState) (y : SystemState) (q : Planned) (h : RegionState) (z : SystemState) : Type 0 where
  pub block : Block
  pub opened : RegionState
  pub is : IsOpened precheck p g block opened
  pub region : h ≡ touched opened
  pub logged : IsLogged (is_back p) p block y q z

pub record DiesOn (precheck : Bool) (p : Planned) (g h : RegionState) (t : ℕ) : Type 0 where
  pub own : t ≡ p.txn
  pub block : Block
  pub opened : RegionState
  pub is : IsOpened precheck p g block opened
  pub region : h ≡ dead opened
