-- The region that a plan wants is there, and what it came to when it wants none.
use Rattle.std.proofs.Common.{◌≡◌, ℕ, ◌<◌, Bool, true, false, List, Option, Some, None, refl, sym, ap, subst, ◌∙◌, arith, length, slice_get, slice_set}
use Rattle.dali_geometry.specs.Places.{regions}
use Rattle.dali_record.specs.declared.operations.Op.{Op}
use Rattle.dali_record.specs.declared.operations.Pending.{Pending}
use Rattle.dali_record.specs.Operations.{undo_op}
use Rattle.dali_record.specs.Log.{last_of}
use Rattle.dali_record.proofs.EpochRules.{kind_in}
use Rattle.dali_region.specs.State.{RegionState}
use Rattle.dali_runs.specs.State.{SystemState}
use Rattle.dali_system.specs.declared.want.Want.TheVariants.{Region, Done as AnswerIsNext}
use Rattle.dali_calls.specs.declared.plan.Phase.{Phase}
use Rattle.dali_calls.specs.declared.plan.Phase.TheVariants.{Calling, Refused, Answered}
use Rattle.dali_calls.specs.Plans.{Planned, plan_next, want_of, want_in, undo_next, is_back, IsUndoOf, IsWhole}
use Rattle.dali_calls.proofs.Wholes.{back_next, onward_of}
use Rattle.dali_calls.proofs.OnKind.{next_kind}
use Rattle.dali_calls.proofs.Following.{last_all}
use Rattle.dali_calls.specs.Single.Stands.{IsAtRest}
use Rattle.dali_calls.specs.Single.Operated.{Operated, IsLeftOf}
use Rattle.dali_calls.specs.Single.Advanced.{Advanced}
use Rattle.dali_calls.proofs.SingleLemmas.Going.{one_operated, none_operated, goes_further}

-- ---- the next operation
pub wanted : (p : Planned) (r : ℕ) → Region r ≡ want_of p → (op : Op) × (plan_next p ≡ Some (r, op))
wanted p r e = by_next (plan_next p) refl (e)
  where
    nothing : (phase : Phase) → Region r ≡ want_in phase None → ⊥
    nothing Calling e = cc
    nothing Refused e = cc
    nothing Answered e = cc

    region_of : (a b : ℕ) → Region a ≡ Region b → a ≡ b
    region_of a b e = cc

    by_next : (o : Option (ℕ × Op)) → plan_next p ≡ o → Region r ≡ want_of p → (op : Op) × (plan_next p ≡ Some (r, op))
    by_next None i e = absurd (nothing p.phase (e ∙ ap (want_in p.phase) i))
    by_next (Some o) i e = (o.1, i ∙ ap (λ (n : ℕ). let s : Option (ℕ × Op) = Some (n, o.1) in s) (sym (region_of r o.0 (e ∙ ap (want_in p.phase) i))))

pub next_in : (p : Planned) (r : ℕ) (op : Op) → IsWhole p → plan_next p ≡ Some (r, op) → r < regions p.geometry
next_in p r op w next = by_way (is_back p) refl
  where
    same_pair : (a b : ℕ × Op) → (let o : Option (ℕ × Op) = Some b in Some a ≡ o) → (a.0 ≡ b.0) × (a.1 ≡ b.1)
    same_pair a b e = (cc, cc)

    by_last : (o : Option Pending) → last_of p.changes ≡ o → undo_next o ≡ Some (r, op) → r < regions p.geometry
    by_last None i e = absurd (never e)
      where
        never : (let n : Option (ℕ × Op) = None in n ≡ Some (r, op)) → ⊥
        never f = cc
    by_last (Some u) i e =
        let mine : IsUndoOf p.geometry p.call u = last_all (IsUndoOf p.geometry p.call) p.changes u w.undoes i in
        subst (λ (n : ℕ). n < regions p.geometry) (same_pair (u.region, undo_op u.undo) (r, op) e).0 (kind_in p.geometry u.region (undo_op u.undo) mine.kind)

    by_way : (b : Bool) → is_back p ≡ b → r < regions p.geometry
    by_way false e = kind_in p.geometry r op (next_kind p.geometry p.txn p.call p.stage p.phase r op w.sizes w.at (sym (onward_of p (is_back p) refl e) ∙ next)).0
    by_way true e = by_last (last_of p.changes) refl (sym (back_next p (is_back p) refl e) ∙ next)

-- ---- where it wants none
pub answers_next : (p : Planned) → p.phase ≡ Calling → plan_next p ≡ None → want_of p ≡ AnswerIsNext
answers_next p e n = ap (want_in p.phase) n ∙ ap (λ (phase : Phase). want_in phase None) e

-- ---- a plan at rest goes on
pub region_there : (rs : List RegionState) (y : SystemState) (p : Planned) (r : ℕ) → IsAtRest rs y p → IsWhole p → Region r ≡ want_of p → r < length rs
region_there rs y p r rest w e =
    let next = wanted p r e in
    let less = next_in p r next.0 w next.1 in
    let same : regions p.geometry ≡ regions y.sizes = ap regions rest.sizes in
    omega (arith, less, rest.whole, same)

pub one_further : (precheck : Bool) (rs0 rs : List RegionState) (y0 y z : SystemState) (p0 p q : Planned) (r : ℕ) (g h : RegionState) → Advanced precheck rs0 y0 p0 rs y p → IsWhole p → Region r ≡ want_of p → slice_get rs r ≡ Some g
    → Operated precheck p g y q h z → Advanced precheck rs0 y0 p0 (slice_set rs r h) z q
one_further precheck rs0 rs y0 y z p0 p q r g h a w e at o =
    let next = wanted p r e in
    goes_further precheck rs0 rs (slice_set rs r h) y0 y z p0 p q a (one_operated precheck rs y z p q r next.0 g h a.rest w next.1 at o)

pub none_further : (precheck : Bool) (rs0 rs : List RegionState) (y0 y z : SystemState) (p0 p q : Planned) (r : ℕ) (g h : RegionState) → Advanced precheck rs0 y0 p0 rs y p → slice_get rs r ≡ Some g
    → q ≡ p → z ≡ y → IsLeftOf p.txn g h → Advanced precheck rs0 y0 p0 (slice_set rs r h) z q
none_further precheck rs0 rs y0 y z p0 p q r g h a at same still left =
    subst (λ (x : Planned). Advanced precheck rs0 y0 p0 (slice_set rs r h) z x) (sym same)
    (subst (λ (x : SystemState). Advanced precheck rs0 y0 p0 (slice_set rs r h) x p) (sym still)
    (goes_further precheck rs0 rs (slice_set rs r h) y0 y y p0 p p a (none_operated precheck rs y p r g h a.rest at left)))
