-- What a plan keeps, in words of the log: whoever follows a plan's calls proves no rule of the log himself.
--     Follows s L p            the rules have come as far in the log L as the plan p has
--     HoldsCall y p            the plan's transaction holds the key of its call, exclusive unless the call is a get
--     PlanBegins, PlanIsRefused        a plan of a transaction at work, and one that turns back, follow the log
--     OnwardFollows, BackFollows, DoneFollows      the block of the next operation, and the answer, are allowed, and the plan follows the log
--     OthersFollow             so it does behind records of others
--     OnwardIsStep, BackIsStep, DoneIsStep         what the calls of a plan leave is a step of a core
--     RefusedRests             a plan that was refused and wants nothing leaves its transaction where the call began
use Rattle.std.specs.Prelude.{◌≡◌, ℕ, ◌||◌, Bool, true, false, not, List, [], ◌∷◌, ◌++◌, Some, None, IsSome, length, slice_get}
use Rattle.dali_geometry.specs.Sizes.{Sizes}
use Rattle.dali_record.specs.declared.operations.Block.{Block}
use Rattle.dali_record.specs.declared.operations.Pending.{Pending}
use Rattle.dali_record.specs.declared.records.Answer.{Answer}
use Rattle.dali_record.specs.declared.records.Call.{Call}
use Rattle.dali_record.specs.declared.records.Record.{Record}
use Rattle.dali_record.specs.declared.records.Record.TheVariants.{Forward, Done, Back}
use Rattle.dali_record.specs.Legal.{Working, txn_state, concerns, is_level, is_onward, is_unwinding}
use Rattle.dali_region.specs.State.{RegionState}
use Rattle.dali_att.specs.declared.state.State.TheVariants.{Live}
use Rattle.dali_runs.specs.State.{SystemState, CoreState, state_of, lock_of}
use Rattle.dali_runs.specs.Run.{covers}
use Rattle.dali_runs.specs.Steps.{op_logged, back_logged, done_logged}
use Rattle.dali_runs.specs.Regions.{IsOpen}
use Rattle.dali_runs.specs.Keeps.{HasRoom, with_system, with_touched}
use Rattle.dali_runs.specs.Courses.{Operates, TakesBack, Answers, IsStep}
use Rattle.dali_runs.specs.Facts.Plans.{AtWork}
use Rattle.dali_system.specs.declared.want.Want.TheVariants.{Done as AnswerIsNext, Nothing}
use Rattle.dali_system.specs.declared.operation.Operation.{Operation}
use Rattle.dali_calls.specs.declared.stage.Stage.TheVariants.{Fresh}
use Rattle.dali_calls.specs.declared.plan.Phase.TheVariants.{Calling}
use Rattle.dali_calls.specs.Steps.{call_key, progress_of, answer_of, is_fresh, is_get, IsBlockOf}
use Rattle.dali_calls.specs.Plans.{Planned, is_answered, is_back, goes_back, plan_next, want_of, went_back, refused, answered, GoesOn, IsWhole}

-- the call has a block, and no answer
abbrev pub is_amid : Planned → Bool
is_amid p = not (is_answered p.phase || is_fresh p.stage)

pub record Follows (s : Sizes) (L : List Record) (p : Planned) : Type 0 where
  pub working : Working
  pub at_work : AtWork s L p.txn working
  -- what the transaction had to take back when the call began
  pub before : List Pending
  pub undos : working.undos ≡ before ++ p.changes
  -- before its first block, and behind its answer, the transaction is between calls
  pub rests : is_amid p ≡ false → is_level working ≡ true
  pub progress : is_amid p ≡ true → working.progress ≡ progress_of p.call p.stage
  pub mark : is_amid p ≡ true → working.mark ≡ length before
  pub winds : is_amid p ≡ true → is_unwinding working.way ≡ false
  pub onward : is_amid p ≡ true → p.phase ≡ Calling → goes_back (answer_of p.geometry p.call p.stage) ≡ false → is_onward working.way ≡ true

abbrev pub PlanBegins : Type 0
PlanBegins =
    (s : Sizes) (L : List Record) (t : ℕ) (call : Call) (w : Working) → AtWork s L t w
    → is_level w ≡ true
    → Follows s L (record { geometry = s; txn = t; call = call; stage = Fresh; phase = Calling; changes = []; operation = None })

abbrev pub PlanIsRefused : Type 0
PlanIsRefused = (s : Sizes) (L : List Record) (p : Planned) → is_answered p.phase ≡ false → Follows s L p → Follows s L (refused p)

abbrev pub OnwardFollows : Type 0
OnwardFollows =
    (s : Sizes) (L : List Record) (p q : Planned) (b : Block) → p.geometry ≡ s → IsWhole p
    → Follows s L p → is_back p ≡ false
    → IsBlockOf (plan_next p) (call_key p.call) b → GoesOn p b q
    → Follows s (L ++ Forward p.txn b ∷ []) q

abbrev pub BackFollows : Type 0
BackFollows =
    (s : Sizes) (L : List Record) (p : Planned) (b : Block) → p.geometry ≡ s → IsWhole p
    → Follows s L p → is_back p ≡ true
    → IsBlockOf (plan_next p) (call_key p.call) b
    → Follows s (L ++ Back p.txn b ∷ []) (went_back p)

abbrev pub DoneFollows : Type 0
DoneFollows =
    (s : Sizes) (L : List Record) (p : Planned) (a : Answer) → p.geometry ≡ s → IsWhole p
    → Follows s L p → want_of p ≡ AnswerIsNext
    → answer_of p.geometry p.call p.stage ≡ Some a
    → Follows s (L ++ Done p.txn p.call a ∷ []) (answered p)

abbrev pub OthersFollow : Type 0
OthersFollow =
    (s : Sizes) (L : List Record) (p : Planned) (r : Record) → concerns p.txn r ≡ false → IsSome (txn_state s p.txn (L ++ r ∷ []))
    → Follows s L p → Follows s (L ++ r ∷ []) p

abbrev pub RefusedRests : Type 0
RefusedRests =
    (s : Sizes) (L : List Record) (p : Planned) → IsWhole p → Follows s L p → want_of p ≡ Nothing
    → (w : Working) × AtWork s L p.txn w × (is_level w ≡ true)

-- ---- the steps of a core
abbrev pub HoldsCall : SystemState → Planned → Type 0
HoldsCall y p = covers (lock_of y p.txn (call_key p.call)) (not (is_get p.call)) ≡ true

-- the plan's operation is open on the region in which it belongs
pub record IsReady (c : CoreState) (p : Planned) (o : Operation) (g : RegionState) : Type 0 where
  pub sizes : p.geometry ≡ c.system.sizes
  pub whole : IsWhole p
  -- its client is alive, and it has its lock
  pub lives : state_of c.system p.txn ≡ Some Live
  pub holds : HoldsCall c.system p
  pub is_open : p.operation ≡ Some o
  pub at : slice_get c.regions o.block.region ≡ Some g
  pub written : IsOpen g o.txn o.block

abbrev pub OnwardIsStep : Type 0
OnwardIsStep =
    (L : List Record) (c : CoreState) (p : Planned) (o : Operation) (g : RegionState) → IsReady c p o g
    → Follows c.system.sizes L p → is_back p ≡ false → HasRoom c.system (Forward p.txn o.block)
    → (q : Planned) → GoesOn p o.block q
    → IsStep L c (Operates p.txn o.block) (L ++ Forward p.txn o.block ∷ []) (with_touched c (op_logged c.system p.txn o.block) o.block.region g)

abbrev pub BackIsStep : Type 0
BackIsStep =
    (L : List Record) (c : CoreState) (p : Planned) (o : Operation) (g : RegionState) → IsReady c p o g
    → Follows c.system.sizes L p → is_back p ≡ true → c.system.stop ≡ None
    → IsStep L c (TakesBack p.txn o.block) (L ++ Back p.txn o.block ∷ []) (with_touched c (back_logged c.system p.txn o.block) o.block.region g)

abbrev pub DoneIsStep : Type 0
DoneIsStep =
    (L : List Record) (c : CoreState) (p : Planned) (a : Answer) → p.geometry ≡ c.system.sizes → IsWhole p
    → Follows c.system.sizes L p → want_of p ≡ AnswerIsNext → answer_of p.geometry p.call p.stage ≡ Some a
    → HasRoom c.system (Done p.txn p.call a) → state_of c.system p.txn ≡ Some Live
    → IsStep L c (Answers p.txn p.call a) (L ++ Done p.txn p.call a ∷ []) (with_system c (done_logged c.system p.txn p.call a))
