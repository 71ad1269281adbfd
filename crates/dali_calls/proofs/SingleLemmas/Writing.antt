-- The words of an operation are written, one after another, and the operation is logged.
use Rattle.std.proofs.Common.{inr, ◌≡◌, ℕ, Bool, true, false, List, [], ◌∷◌, ◌++◌, Option, Some, None, IsSomeAnd, IfSome, Result, Ok, Err, refl, sym, ap, subst, ◌∙◌}
use Rattle.std.specs.Prelude.{not, ◌&&◌}
use Rattle.dali_record.specs.declared.operations.Block.{Block}
use Rattle.dali_record.specs.declared.records.Record.TheVariants.{Forward}
use Rattle.dali_region.specs.State.{RegionState, latched, with_reads, touched, taken_back}
use Rattle.dali_runs.specs.State.{SystemState}
use Rattle.dali_runs.specs.Steps.{op_logged, back_logged}
use Rattle.dali_runs.specs.Keeps.{HasRoom}
use Rattle.dali_runs.specs.Regions.{RegionStep, TakeBack, IsOpen}
use Rattle.dali_system.specs.declared.operation.Operation.{Operation}
use Rattle.dali_region.specs.declared.Receipt.{Receipt}
use Rattle.dali_region.specs.Answers.{latch_answer}
use Rattle.dali_system.specs.declared.error.SystemError.{SystemError}
use Rattle.dali_system.specs.declared.error.SystemError.TheVariants.{OutOfMemory as Memory}
use Rattle.dali_system.specs.Served.{Served}
use Rattle.dali_system.specs.UnderWay.{IsUnderWay, OneIsUnderWay}
use Rattle.dali_system.proofs.UnderWays.{IsSameWay}
use Rattle.dali_calls.specs.Steps.{call_key, IsBlockOf}
use Rattle.dali_calls.specs.Plans.{Planned, plan_next, is_back, went_back, with_operation, commit_refusal, GoesOn}
use Rattle.dali_calls.specs.Operating.{IsHeldBy, AreWritten, Goes}
use Rattle.dali_calls.proofs.Operating.{goes_on, opened_by, held_open}
use Rattle.dali_record.specs.Blocks.{IsSoundOn}
use Rattle.dali_record.specs.Spelling.{record_length}
use Rattle.dali_calls.specs.declared.single.error.StepError.TheVariants.{System}
use Rattle.dali_calls.specs.Single.Refusals.{IsAnswerTo, IsRefusedOn}
use Rattle.dali_calls.specs.Single.Operated.{Operated, IsLeftOf}

-- ---- what stands when the block is logged, or isn't
-- the plan with its operation written, from its latch on
pub record Written (p : Planned) (g : RegionState) (q : Planned) (h : RegionState) : Type 0 where
  pub operation : Operation
  pub is : q ≡ with_operation p (Some operation)
  pub txn : operation.txn ≡ p.txn
  pub of : IsBlockOf (plan_next p) (call_key p.call) operation.block
  pub sound : IsSoundOn g.words operation.block
  pub steps : List RegionStep
  pub goes : Goes p.txn g steps h
  pub is_open : IsOpen h operation.txn operation.block

abbrev pub IsMade : Planned → RegionState → Option Operation → RegionState → Type 0
IsMade p g o g1 = IsSomeAnd o (λ o. (o.txn ≡ p.txn) × IsBlockOf (plan_next p) (call_key p.call) o.block × IsUnderWay o.txn o.block o.left o.taken g1 × (g1 ≡ with_reads o.block.read (latched p.txn g)))

pub written : (p p1 p2 : Planned) (g g1 g2 : RegionState) → g.hold ≡ None → IsMade p g p1.operation g1 → IsSomeAnd p1.operation (λ o. IsSoundOn g.words o.block) → p1 ≡ with_operation p p1.operation
    → IsSomeAnd p2.operation (λ o. IsOpen g2 o.txn o.block) → IsSameWay p1.operation p2.operation → p2 ≡ with_operation p1 p2.operation → AreWritten g1 g2
    → Written p g p2 g2
written p p1 p2 g g1 g2 free made sound one opened same two w = by_both p1.operation p2.operation refl refl made sound opened same
  where
    by_both : (a b : Option Operation) → p1.operation ≡ a → p2.operation ≡ b → IsMade p g a g1 → IsSomeAnd a (λ o. IsSoundOn g.words o.block) → IsSomeAnd b (λ o. IsOpen g2 o.txn o.block) → IsSameWay a b → Written p g p2 g2
    by_both None b i j m k o s = absurd m
    by_both (Some a) None i j m k o s = absurd o
    by_both (Some a) (Some b) i j m k o s =
        let goes = opened_by p.txn a.block g g1 g2 free m.1.spelled.read m.3 w in
        record {
          operation = b;
          is = two ∙ (ap (λ (x : Planned). with_operation x p2.operation) one ∙ ap (with_operation p) j);
          txn = s.0 ∙ m.0;
          of = subst (IsBlockOf (plan_next p) (call_key p.call)) (sym s.1) m.1;
          sound = subst (IsSoundOn g.words) (sym s.1) k;
          steps = goes.0;
          goes = goes.1;
          is_open = o;
        }

pub way_of : (p : Planned) (g : RegionState) (o : Option Operation) (g1 : RegionState) → IsMade p g o g1 → OneIsUnderWay o g1
way_of p g None g1 m = absurd m
way_of p g (Some o) g1 m = m.2

pub left_over : (p q : Planned) (g h k : RegionState) → Written p g q h → k ≡ taken_back h → IsLeftOf p.txn g k
left_over p q g h k w is =
    let held = held_open h w.operation.txn w.operation.block w.is_open in
    inr (w.steps ++ TakeBack ∷ [], goes_on p.txn g h k w.steps (TakeBack ∷ []) w.goes (held.1, subst (λ (n : ℕ). IsHeldBy n h) w.txn held.0, sym is), ap (λ (x : RegionState). x.hold) is)

pub as_before : (p q r : Planned) (g h : RegionState) → p.operation ≡ None → Written p g q h → r ≡ with_operation q None → r ≡ p
as_before p q r g h closed w is = is ∙ (ap (λ (x : Planned). with_operation x None) w.is ∙ ap (with_operation p) (sym closed))

pub error_is : (a b : SystemError) → (let r : Result Receipt SystemError = Err b in let q : Result Receipt SystemError = Err a in q ≡ r) → a ≡ b
error_is a b e = cc

pub refused_so : (precheck : Bool) (p q : Planned) (g h : RegionState) (y : SystemState) (cause : SystemError) → Written p g q h → Ok tt ≡ latch_answer (not (is_back p) && precheck) g
    → IfSome q.operation (λ o. IfSome (commit_refusal (is_back q) y (record_length (Forward q.txn o.block))) (λ e. let r : Result Receipt SystemError = Err e in let q : Result Receipt SystemError = Err cause in q ≡ r))
    → IfSome q.operation (λ o. commit_refusal (is_back q) y (record_length (Forward q.txn o.block)) ≡ None → cause ≡ Memory)
    → IsRefusedOn precheck p g y (System cause)
refused_so precheck p q g h y cause w latched refused memory =
    (latched, w.operation.block, w.of, w.sound, by_refusal (commit_refusal (is_back p) y (record_length (Forward p.txn w.operation.block))) refl)
  where
    given : IfSome (commit_refusal (is_back p) y (record_length (Forward p.txn w.operation.block))) (λ e. let r : Result Receipt SystemError = Err e in let q : Result Receipt SystemError = Err cause in q ≡ r)
    given = subst (λ (x : Planned). IfSome x.operation (λ o. IfSome (commit_refusal (is_back x) y (record_length (Forward x.txn o.block))) (λ e. let r : Result Receipt SystemError = Err e in let q : Result Receipt SystemError = Err cause in q ≡ r))) w.is refused

    else_memory : commit_refusal (is_back p) y (record_length (Forward p.txn w.operation.block)) ≡ None → cause ≡ Memory
    else_memory = subst (λ (x : Planned). IfSome x.operation (λ o. commit_refusal (is_back x) y (record_length (Forward x.txn o.block)) ≡ None → cause ≡ Memory)) w.is memory

    by_refusal : (o : Option SystemError) → commit_refusal (is_back p) y (record_length (Forward p.txn w.operation.block)) ≡ o → IsAnswerTo o cause
    by_refusal None i = else_memory i
    by_refusal (Some f) i = error_is cause f (subst (λ (o : Option SystemError). IfSome o (λ e. let r : Result Receipt SystemError = Err e in let q : Result Receipt SystemError = Err cause in q ≡ r)) i given)

pub refused_still : (precheck : Bool) (p q : Planned) (g h : RegionState) (y z : Served) (cause : SystemError) → Written p g q h → Ok tt ≡ latch_answer (not (is_back p) && precheck) g → z ≡ y
    → IfSome q.operation (λ o. IfSome (commit_refusal (is_back q) y.state (record_length (Forward q.txn o.block))) (λ e. let r : Result Receipt SystemError = Err e in let q : Result Receipt SystemError = Err cause in q ≡ r))
    → IfSome q.operation (λ o. commit_refusal (is_back q) y.state (record_length (Forward q.txn o.block)) ≡ None → cause ≡ Memory)
    → IsRefusedOn precheck p g z.state (System cause)
refused_still precheck p q g h y z cause w latched still refused memory = subst (λ (x : Served). IsRefusedOn precheck p g x.state (System cause)) (sym still) (refused_so precheck p q g h y.state cause w latched refused memory)

pub operated : (precheck : Bool) (p q r : Planned) (g h k : RegionState) (y z : Served) → Written p g q h → (is_back p ≡ false → precheck ≡ true → g.stray ≡ 0)
    → (is_back q ≡ false → IfSome q.operation (λ o. (z ≡ record y { state = op_logged y.state q.txn o.block }) × HasRoom y.state (Forward q.txn o.block) × GoesOn q o.block r))
    → (is_back q ≡ true → IfSome q.operation (λ o. (z ≡ record y { state = back_logged y.state q.txn o.block }) × (y.state.stop ≡ None) × (r ≡ went_back q)))
    → k ≡ touched h → Operated precheck p g y.state r k z.state
operated precheck p q r g h k y z w clean onward back is = record {
  block = w.operation.block;
  of = w.of;
  opened = h;
  steps = w.steps;
  goes = w.goes;
  is_open = subst (λ (t : ℕ). IsOpen h t w.operation.block) w.txn w.is_open;
  region = is;
  checked = clean;
  onward = λ e. went_on (subst (λ (x : Planned). is_back x ≡ false → IfSome x.operation (λ o. (z ≡ record y { state = op_logged y.state x.txn o.block }) × HasRoom y.state (Forward x.txn o.block) × GoesOn x o.block r)) w.is onward e);
  back = λ e. came_back (subst (λ (x : Planned). is_back x ≡ true → IfSome x.operation (λ o. (z ≡ record y { state = back_logged y.state x.txn o.block }) × (y.state.stop ≡ None) × (r ≡ went_back x))) w.is back e);
}
  where
    b : Block
    b = w.operation.block

    went_on : (z ≡ record y { state = op_logged y.state p.txn b }) × HasRoom y.state (Forward p.txn b) × GoesOn (with_operation p (Some w.operation)) b r
        → (z.state ≡ op_logged y.state p.txn b) × HasRoom y.state (Forward p.txn b) × GoesOn p b r
    went_on h = (ap (λ (x : Served). x.state) h.0, h.1, record { follows = h.2.follows; begun = h.2.begun; changes = h.2.changes; rest = h.2.rest })

    came_back : (z ≡ record y { state = back_logged y.state p.txn b }) × (y.state.stop ≡ None) × (r ≡ went_back p)
        → (z.state ≡ back_logged y.state p.txn b) × (y.state.stop ≡ None) × (r ≡ went_back p)
    came_back h = (ap (λ (x : Served). x.state) h.0, h.1, h.2)

pub promised_still : (p q r : Planned) (g h : RegionState) (y z : Served) → Written p g q h
    → (is_back q ≡ false → IfSome q.operation (λ o. (z ≡ record y { state = op_logged y.state q.txn o.block }) × HasRoom y.state (Forward q.txn o.block) × GoesOn q o.block r))
    → (is_back q ≡ true → IfSome q.operation (λ o. (z ≡ record y { state = back_logged y.state q.txn o.block }) × (y.state.stop ≡ None) × (r ≡ went_back q)))
    → z.promised ≡ y.promised
promised_still p q r g h y z w onward back = by_way (is_back p) refl
  where
    by_way : (b : Bool) → is_back p ≡ b → z.promised ≡ y.promised
    by_way false e = ap (λ (x : Served). x.promised) (subst (λ (x : Planned). is_back x ≡ false → IfSome x.operation (λ o. (z ≡ record y { state = op_logged y.state x.txn o.block }) × HasRoom y.state (Forward x.txn o.block) × GoesOn x o.block r)) w.is onward e).0
    by_way true e = ap (λ (x : Served). x.promised) (subst (λ (x : Planned). is_back x ≡ true → IfSome x.operation (λ o. (z ≡ record y { state = back_logged y.state x.txn o.block }) × (y.state.stop ≡ None) × (r ≡ went_back x))) w.is back e).0
