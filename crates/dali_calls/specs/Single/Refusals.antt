-- Why a step is refused: by the latch of its region, or by the system, which takes no record, where the latch lets the operation through.
--     IsAnswerTo o e           e is the refusal o, or want of memory where there is none
--     IsRefusedOn precheck p g y e     so the region g or the system y refuses the next operation of the plan p; the record is that of its block on
--                              the words of g; what takes back uses no room, and latches without precheck
--     IsUnanswered p y e       so the system refuses the answer of p
--     IsRefusal precheck p rs y e      one of both, by what p wants next of these regions
--     IsUnasked y e            so the system refuses the request for a lock
--     IsUnfreed g y e          so g or y refuses what takes an undo back, or frees what it would put back
--     IsStuck o rs y e         so it is of this undo, the next one, on its region, and of the transaction's end where none is left
--     IsLatched e              a latch is why
use Rattle.std.specs.Prelude.{◌≡◌, ◌&&◌, Bool, false, not, List, Option, Some, None, Ok, Err, IsSomeAnd, ⊤, slice_get}
use Rattle.dali_record.specs.declared.operations.Block.{Block}
use Rattle.dali_record.specs.declared.operations.Pending.{Pending}
use Rattle.dali_record.specs.declared.records.Record.TheVariants.{Forward, Done}
use Rattle.dali_record.specs.Blocks.{IsSoundOn}
use Rattle.dali_record.specs.Spelling.{record_length}
use Rattle.dali_region.specs.State.{RegionState}
use Rattle.dali_region.specs.Answers.{latch_answer}
use Rattle.dali_runs.specs.State.{SystemState}
use Rattle.dali_system.specs.Refused.{refusal, stop_refusal}
use Rattle.dali_system.specs.declared.error.SystemError.{SystemError}
use Rattle.dali_system.specs.declared.error.SystemError.TheVariants.{OutOfMemory as Memory}
use Rattle.dali_system.specs.declared.want.Want.{Want}
use Rattle.dali_system.specs.declared.want.Want.TheVariants.{Region, Done as AnswerIsNext, Nothing}
use Rattle.dali_calls.specs.Steps.{call_key, answer_of, IsBlockOf}
use Rattle.dali_calls.specs.Plans.{Planned, plan_next, want_of, is_back, commit_refusal}
use Rattle.dali_calls.specs.declared.single.error.StepError.{StepError}
use Rattle.dali_calls.specs.declared.single.error.StepError.TheVariants.{Latch, System}

abbrev pub IsAnswerTo : Option SystemError → SystemError → Type 0
IsAnswerTo None e = e ≡ Memory
IsAnswerTo (Some f) e = e ≡ f

-- ---- a plan
abbrev pub IsRefusedOn : Bool → Planned → RegionState → SystemState → StepError → Type 0
IsRefusedOn precheck p g y (Latch e) = Err e ≡ latch_answer (not (is_back p) && precheck) g
IsRefusedOn precheck p g y (System e) =
    (Ok tt ≡ latch_answer (not (is_back p) && precheck) g)
    × (b : Block) × IsBlockOf (plan_next p) (call_key p.call) b × IsSoundOn g.words b × IsAnswerTo (commit_refusal (is_back p) y (record_length (Forward p.txn b))) e

abbrev pub IsUnanswered : Planned → SystemState → StepError → Type 0
IsUnanswered p y (Latch e) = ⊥
IsUnanswered p y (System e) = IsSomeAnd (answer_of p.geometry p.call p.stage) (λ a. IsAnswerTo (refusal y (record_length (Done p.txn p.call a))) e)

abbrev pub IsRefusedIn : Want → Bool → Planned → List RegionState → SystemState → StepError → Type 0
IsRefusedIn (Region r) precheck p rs y e = IsSomeAnd (slice_get rs r) (λ g. IsRefusedOn precheck p g y e)
IsRefusedIn AnswerIsNext precheck p rs y e = IsUnanswered p y e
IsRefusedIn Nothing precheck p rs y e = ⊥

abbrev pub IsRefusal : Bool → Planned → List RegionState → SystemState → StepError → Type 0
IsRefusal precheck p rs y e = IsRefusedIn (want_of p) precheck p rs y e

abbrev pub IsUnasked : SystemState → StepError → Type 0
IsUnasked y (Latch e) = ⊥
IsUnasked y (System e) = IsAnswerTo (stop_refusal y) e

-- ---- what is taken back, freed or ended
abbrev pub IsUnfreed : RegionState → SystemState → StepError → Type 0
IsUnfreed g y (Latch e) = Err e ≡ latch_answer false g
IsUnfreed g y (System e) = (Ok tt ≡ latch_answer false g) × IsAnswerTo (stop_refusal y) e

abbrev pub IsStuck : Option Pending → List RegionState → SystemState → StepError → Type 0
IsStuck None rs y (Latch e) = ⊥
IsStuck None rs y (System e) = IsAnswerTo (stop_refusal y) e
IsStuck (Some u) rs y e = IsSomeAnd (slice_get rs u.region) (λ g. IsUnfreed g y e)

-- by the latch of a region, and not by the system
abbrev pub IsLatched : StepError → Type 0
IsLatched (Latch e) = ⊤
IsLatched (System e) = ⊥
