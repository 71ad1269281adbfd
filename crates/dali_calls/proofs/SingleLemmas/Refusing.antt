-- What an operation was refused for, among all regions.
use Rattle.std.proofs.Common.{inr, ◌≡◌, ℕ, Bool, false, List, [], Option, Some, None, IsSomeAnd, IfSome, Result, Err, refl, sym, ap, subst, ◌∙◌, slice_get, slice_set}
use Rattle.dali_lists.proofs.Lists.{get_set}
use Rattle.dali_record.specs.declared.operations.Pending.{Pending}
use Rattle.dali_region.specs.declared.Hold.{Hold}
use Rattle.dali_region.specs.declared.Receipt.{Receipt}
use Rattle.dali_region.specs.Answers.{latch_answer}
use Rattle.dali_region.specs.State.{RegionState}
use Rattle.dali_att.specs.Table.{undos_at}
use Rattle.dali_runs.specs.State.{SystemState}
use Rattle.dali_system.specs.declared.error.SystemError.{SystemError}
use Rattle.dali_system.specs.declared.error.SystemError.TheVariants.{OutOfMemory as Memory}
use Rattle.dali_system.specs.declared.want.Want.{Want}
use Rattle.dali_system.specs.declared.want.Want.TheVariants.{Region}
use Rattle.dali_system.specs.Refused.{stop_refusal}
use Rattle.dali_system.specs.Served.{Served}
use Rattle.dali_system.specs.TakenBack.{next_undo, want_of as undo_wanted}
use Rattle.dali_calls.specs.Plans.{Planned, want_of, IsWhole}
use Rattle.dali_calls.proofs.Undoing.{wanted_undo}
use Rattle.dali_calls.specs.declared.single.error.StepError.{StepError}
use Rattle.dali_calls.specs.declared.single.error.StepError.TheVariants.{System}
use Rattle.dali_calls.specs.Single.Operated.{IsLeftOf}
use Rattle.dali_calls.specs.Single.Refusals.{IsAnswerTo, IsRefusedOn, IsRefusedIn, IsUnfreed, IsStuck}
use Rattle.dali_calls.specs.Single.Advanced.{Advanced, Halts}
use Rattle.dali_calls.proofs.SingleLemmas.Writing.{error_is}

-- ---- the plan that wanted the region
pub halts : (precheck : Bool) (rs0 rs : List RegionState) (y0 y z : SystemState) (p0 p q : Planned) (r : ℕ) (g h : RegionState) (e : StepError) → Advanced precheck rs0 y0 p0 rs y p → IsWhole p → Region r ≡ want_of p → slice_get rs r ≡ Some g
    → q ≡ p → z ≡ y → IsLeftOf p.txn g h → IsRefusedOn precheck p g z e → Halts precheck rs0 y0 p0 (slice_set rs r h) z q e
halts precheck rs0 rs y0 y z p0 p q r g h e goes whole want at same still left why =
    subst (λ (x : Planned). Halts precheck rs0 y0 p0 (slice_set rs r h) z x e) (sym same)
    (subst (λ (x : SystemState). Halts precheck rs0 y0 p0 (slice_set rs r h) x p e) (sym still) (record {
      mid = rs;
      advanced = goes;
      whole = whole;
      refused = subst (λ (w : Want). IsRefusedIn w precheck p rs y e) want (subst (λ (o : Option RegionState). IsSomeAnd o (λ g. IsRefusedOn precheck p g y e)) (sym at) (subst (λ (x : SystemState). IsRefusedOn precheck p g x e) still why));
      left = inr (r, g, h, at, left, refl);
    }))

-- ---- what is taken back, freed or ended

stops : (y : SystemState) (cause : SystemError) (o : Option SystemError) → stop_refusal y ≡ o
    → IfSome (stop_refusal y) (λ e. let r : Result Receipt SystemError = Err e in let q : Result Receipt SystemError = Err cause in q ≡ r) → (stop_refusal y ≡ None → cause ≡ Memory)
    → IsAnswerTo o cause
stops y cause None i refused memory = memory i
stops y cause (Some f) i refused memory = error_is cause f (subst (λ (o : Option SystemError). IfSome o (λ e. let r : Result Receipt SystemError = Err e in let q : Result Receipt SystemError = Err cause in q ≡ r)) i refused)

pub stop_only : (g : RegionState) (y z : Served) (cause : SystemError) → g.hold ≡ None → z ≡ y
    → IfSome (stop_refusal y.state) (λ e. let r : Result Receipt SystemError = Err e in let q : Result Receipt SystemError = Err cause in q ≡ r) → (stop_refusal y.state ≡ None → cause ≡ Memory)
    → IsUnfreed g z.state (System cause)
stop_only g y z cause free still refused memory = subst (λ (x : Served). IsUnfreed g x.state (System cause)) (sym still) (sym (ap (λ (o : Option Hold). latch_answer false (record g { hold = o })) free), stops y.state cause (stop_refusal y.state) refl refused memory)

pub stuck_there : (rs : List RegionState) (r : ℕ) (u : Pending) (g h : RegionState) (y : SystemState) (e : StepError) → u.region ≡ r → slice_get rs r ≡ Some g → IsUnfreed h y e → IsStuck (Some u) (slice_set rs r h) y e
stuck_there rs r u g h y e same at why = subst (λ (o : Option RegionState). IsSomeAnd o (λ g. IsUnfreed g y e)) (sym (ap (slice_get (slice_set rs r h)) same ∙ get_set rs r g h at)) why

pub undo_stuck : (rs : List RegionState) (s z : Served) (t r : ℕ) (next : Option Pending) (g h : RegionState) (e : StepError) → next ≡ next_undo (undos_at s.state.table t) 0 → Region r ≡ undo_wanted next → slice_get rs r ≡ Some g → z ≡ s
    → IsUnfreed h z.state e → IsStuck (next_undo (undos_at z.state.table t) 0) (slice_set rs r h) z.state e
undo_stuck rs s z t r next g h e is want at still why =
    let u = wanted_undo next r want in
    subst (λ (o : Option Pending). IsStuck o (slice_set rs r h) z.state e) (sym (ap (λ (x : Served). next_undo (undos_at x.state.table t) 0) still ∙ (sym is ∙ u.1))) (stuck_there rs r u.0 g h z.state e u.2 at why)

-- where none is left, its end is what is refused
pub end_stuck : (rs : List RegionState) (s z : Served) (cause : SystemError) (o : Option Pending) → o ≡ None → z ≡ s
    → IfSome (stop_refusal s.state) (λ e. let r : Result Receipt SystemError = Err e in let q : Result Receipt SystemError = Err cause in q ≡ r) → (stop_refusal s.state ≡ None → cause ≡ Memory)
    → IsStuck o rs z.state (System cause)
end_stuck rs s z cause o none still refused memory =
    subst (λ (p : Option Pending). IsStuck p rs z.state (System cause)) (sym none)
    (subst (λ (x : Served). IsAnswerTo (stop_refusal x.state) cause) (sym still) (stops s.state cause (stop_refusal s.state) refl refused memory))

pub none_next : (s z : Served) (t : ℕ) → undos_at s.state.table t ≡ [] → z ≡ s → next_undo (undos_at z.state.table t) 0 ≡ None
none_next s z t none still = ap (λ (x : Served). next_undo (undos_at x.state.table t) 0) still ∙ ap (λ (us : List Pending). next_undo us 0) none
