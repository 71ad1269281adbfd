-- Why a call is refused where no operation is.
use Rattle.std.proofs.Common.{inl, ◌≡◌, ℕ, Bool, true, false, List, Option, Some, None, IsSomeAnd, IfSome, Result, Err, refl, sym, ap, subst, ◌∙◌}
use Rattle.std.specs.Prelude.{if◌then◌else◌}
use Rattle.dali_geometry.specs.Sizes.{Sizes}
use Rattle.dali_geometry.specs.Places.{heap_start, is_place, region_at, cell_at}
use Rattle.dali_record.specs.declared.operations.Op.TheVariants.{Change, KillCell, Read}
use Rattle.dali_record.specs.declared.records.Answer.{Answer}
use Rattle.dali_record.specs.declared.records.Answer.TheVariants.{Exists, Missing, Odd}
use Rattle.dali_record.specs.declared.records.Call.{Call}
use Rattle.dali_record.specs.declared.records.Call.TheVariants.{Insert, Update, Delete, Get}
use Rattle.dali_record.specs.declared.records.Record.{Record}
use Rattle.dali_record.specs.declared.records.Record.TheVariants.{Done}
use Rattle.dali_record.specs.Spelling.{record_length}
use Rattle.dali_region.specs.declared.Receipt.{Receipt}
use Rattle.dali_region.specs.State.{RegionState}
use Rattle.dali_locks.specs.declared.mode.LockAnswer.{LockAnswer}
use Rattle.dali_runs.specs.State.{SystemState, VaultState}
use Rattle.dali_system.specs.declared.error.SystemError.{SystemError}
use Rattle.dali_system.specs.declared.error.SystemError.TheVariants.{OutOfMemory as Memory}
use Rattle.dali_system.specs.declared.want.Want.{Want}
use Rattle.dali_system.specs.Refused.{refusal, stop_refusal}
use Rattle.dali_system.specs.Served.{Served}
use Rattle.dali_calls.specs.declared.stage.Stage.{Stage}
use Rattle.dali_calls.specs.declared.stage.Stage.TheVariants.{Fresh, Walking, Nowhere, Somewhere, Storing, Adding, Removing, Finished}
use Rattle.dali_calls.specs.declared.plan.Phase.{Phase}
use Rattle.dali_calls.specs.declared.plan.Phase.TheVariants.{Calling}
use Rattle.dali_calls.specs.Steps.{next_op, cell_op, in_cell, put_of, answer_of, nowhere_of, somewhere_of, is_insert, IsAt}
use Rattle.dali_calls.specs.Plans.{Planned, plan_next, onward_next, is_back, is_back_in, IsWhole}
use Rattle.dali_calls.proofs.Wholes.{onward_of}
use Rattle.dali_calls.specs.Single.Stands.{core}
use Rattle.dali_calls.specs.declared.single.error.StepError.{StepError}
use Rattle.dali_calls.specs.declared.single.error.StepError.TheVariants.{System}
use Rattle.dali_calls.specs.declared.single.error.CallError.TheVariants.{Refused}
use Rattle.dali_calls.specs.Single.Refusals.{IsAnswerTo, IsRefusedIn, IsUnasked}
use Rattle.dali_calls.specs.Single.Single.{MayCall, Fails}
use Rattle.dali_calls.specs.Single.Advanced.{Advanced, Halts}
use Rattle.dali_calls.proofs.SingleLemmas.Reaching.{answers_next}

-- ---- an answer that isn't logged
somewhere_there : (s : Sizes) (call : Call) (place : ℕ) (b : Bool) → is_place s place ≡ b → cell_op s call place ≡ None → (a : Answer) × (somewhere_of s call place ≡ Some a)
somewhere_there s (Insert k v) place b i e = (Exists, refl)
somewhere_there s (Update k v) place true i e = absurd (let f : Some (region_at place, Change (cell_at place) v) ≡ None = sym (ap (λ (c : Bool). if c then in_cell (Update k v) (region_at place) (cell_at place) else None) i) ∙ e in cc)
somewhere_there s (Update k v) place false i e = (Odd place, ap (λ (c : Bool). if c then None else Some (Odd place)) i)
somewhere_there s (Delete k) place true i e = absurd (let f : Some (region_at place, KillCell (cell_at place)) ≡ None = sym (ap (λ (c : Bool). if c then in_cell (Delete k) (region_at place) (cell_at place) else None) i) ∙ e in cc)
somewhere_there s (Delete k) place false i e = (Odd place, ap (λ (c : Bool). if c then None else Some (Odd place)) i)
somewhere_there s (Get k) place true i e = absurd (let f : Some (region_at place, Read (cell_at place)) ≡ None = sym (ap (λ (c : Bool). if c then in_cell (Get k) (region_at place) (cell_at place) else None) i) ∙ e in cc)
somewhere_there s (Get k) place false i e = (Odd place, ap (λ (c : Bool). if c then None else Some (Odd place)) i)

nowhere_there : (s : Sizes) (t : ℕ) (call : Call) → put_of call (heap_start s t) ≡ None → (a : Answer) × (nowhere_of call ≡ Some a)
nowhere_there s t (Insert k v) e = absurd cc
nowhere_there s t (Update k v) e = (Missing, refl)
nowhere_there s t (Delete k) e = (Missing, refl)
nowhere_there s t (Get k) e = (Missing, refl)

storing_never : (s : Sizes) (call : Call) (region : ℕ) → is_insert call ≡ true → put_of call region ≡ None → ⊥
storing_never s (Insert k v) region i e = cc
storing_never s (Update k v) region i e = cc
storing_never s (Delete k) region i e = cc
storing_never s (Get k) region i e = cc

answer_there : (s : Sizes) (t : ℕ) (call : Call) (stage : Stage) → IsAt s call stage → next_op s t call stage ≡ None → (a : Answer) × (answer_of s call stage ≡ Some a)
answer_there s t call Fresh at e = absurd cc
answer_there s t call (Walking r n) at e = absurd cc
answer_there s t call Nowhere at e = nowhere_there s t call e
answer_there s t call (Somewhere r n p) at e = somewhere_there s call p (is_place s p) refl e
answer_there s t call (Storing r n) at e = absurd (storing_never s call r at.3 e)
answer_there s t call (Adding p r n) at e = absurd cc
answer_there s t call (Removing r n p) at e = absurd cc
answer_there s t call (Finished a) at e = (a, refl)

pub plan_answers : (p : Planned) → IsWhole p → p.phase ≡ Calling → plan_next p ≡ None → (a : Answer) × (answer_of p.geometry p.call p.stage ≡ Some a)
plan_answers p w calling none = by_answer (answer_of p.geometry p.call p.stage) refl
  where
    by_answer : (o : Option Answer) → answer_of p.geometry p.call p.stage ≡ o → (a : Answer) × (answer_of p.geometry p.call p.stage ≡ Some a)
    by_answer (Some a) i = (a, i)
    by_answer None i =
        let not_back : is_back p ≡ false = ap (λ (ph : Phase). is_back_in ph (answer_of p.geometry p.call p.stage) p.changes) calling ∙ ap (λ (o : Option Answer). is_back_in Calling o p.changes) i in
        let next : onward_next Calling (next_op p.geometry p.txn p.call p.stage) ≡ None = sym (onward_of p (is_back p) refl not_back ∙ ap (λ (ph : Phase). onward_next ph (next_op p.geometry p.txn p.call p.stage)) calling) ∙ none in
        answer_there p.geometry p.txn p.call p.stage w.at next

error_is : (a b : SystemError) → (let r : Result (Answer × Receipt) SystemError = Err b in let q : Result (Answer × Receipt) SystemError = Err a in q ≡ r) → a ≡ b
error_is a b e = cc

pub done_halts : (precheck : Bool) (rs0 rs : List RegionState) (y0 y z : SystemState) (p0 p q : Planned) (cause : SystemError) → Advanced precheck rs0 y0 p0 rs y p → IsWhole p → p.phase ≡ Calling → plan_next p ≡ None → z ≡ y → q ≡ p
    → IfSome (answer_of p.geometry p.call p.stage) (λ a. IfSome (refusal y (record_length (Done p.txn p.call a))) (λ e. let r : Result (Answer × Receipt) SystemError = Err e in let q : Result (Answer × Receipt) SystemError = Err cause in q ≡ r))
    → IfSome (answer_of p.geometry p.call p.stage) (λ a. refusal y (record_length (Done p.txn p.call a)) ≡ None → cause ≡ Memory)
    → Halts precheck rs0 y0 p0 rs z q (System cause)
done_halts precheck rs0 rs y0 y z p0 p q cause goes w calling none still same refused memory =
    subst (λ (x : Planned). Halts precheck rs0 y0 p0 rs z x (System cause)) (sym same)
    (subst (λ (x : SystemState). Halts precheck rs0 y0 p0 rs x p (System cause)) (sym still) (record {
      mid = rs;
      advanced = goes;
      whole = w;
      refused = subst (λ (n : Want). IsRefusedIn n precheck p rs y (System cause)) (sym (answers_next p calling none)) (subst (λ (o : Option Answer). IsSomeAnd o (λ a. IsAnswerTo (refusal y (record_length (Done p.txn p.call a))) cause)) (sym given.1) (by_refusal (refusal y n) refl));
      left = inl refl;
    }))
  where
    given : (a : Answer) × (answer_of p.geometry p.call p.stage ≡ Some a)
    given = plan_answers p w calling none

    n : ℕ
    n = record_length (Done p.txn p.call given.0)

    refused_here : IfSome (refusal y n) (λ e. let r : Result (Answer × Receipt) SystemError = Err e in let q : Result (Answer × Receipt) SystemError = Err cause in q ≡ r)
    refused_here = subst (λ (o : Option Answer). IfSome o (λ a. IfSome (refusal y (record_length (Done p.txn p.call a))) (λ e. let r : Result (Answer × Receipt) SystemError = Err e in let q : Result (Answer × Receipt) SystemError = Err cause in q ≡ r))) given.1 refused

    memory_here : refusal y n ≡ None → cause ≡ Memory
    memory_here = subst (λ (o : Option Answer). IfSome o (λ a. refusal y (record_length (Done p.txn p.call a)) ≡ None → cause ≡ Memory)) given.1 memory

    by_refusal : (o : Option SystemError) → refusal y n ≡ o → IsAnswerTo o cause
    by_refusal None i = memory_here i
    by_refusal (Some f) i = error_is cause f (subst (λ (o : Option SystemError). IfSome o (λ e. let r : Result (Answer × Receipt) SystemError = Err e in let q : Result (Answer × Receipt) SystemError = Err cause in q ≡ r)) i refused_here)

-- ---- a request that isn't answered
lock_error_is : (a b : SystemError) → (let r : Result LockAnswer SystemError = Err b in let q : Result LockAnswer SystemError = Err a in q ≡ r) → a ≡ b
lock_error_is a b e = cc

pub not_asked : (precheck : Bool) (rs : List RegionState) (y z : Served) (t : ℕ) (call : Call) (told : StepError) (cause : SystemError) → told ≡ System cause → z ≡ y
    → IfSome (stop_refusal y.state) (λ e. let r : Result LockAnswer SystemError = Err e in let q : Result LockAnswer SystemError = Err cause in q ≡ r) → (stop_refusal y.state ≡ None → cause ≡ Memory)
    → (L : List Record) (v : VaultState) → MayCall L (core rs y.state v) t → Fails precheck (Refused told) L (core rs y.state v) t call (core rs z.state v)
not_asked precheck rs y z t call told cause is still refused memory L v may =
    inl (subst (IsUnasked y.state) (sym is) (by_refusal (stop_refusal y.state) refl), ap (λ (x : Served). core rs x.state v) still)
  where
    by_refusal : (o : Option SystemError) → stop_refusal y.state ≡ o → IsAnswerTo o cause
    by_refusal None i = memory i
    by_refusal (Some f) i = lock_error_is cause f (subst (λ (o : Option SystemError). IfSome o (λ e. let r : Result LockAnswer SystemError = Err e in let q : Result LockAnswer SystemError = Err cause in q ≡ r)) i refused)
