-- A plan that is refused, and where it ends.
use Rattle.std.proofs.Common.{◌≡◌, ℕ, true, Option, Some, None, refl, sym, ap, ◌∙◌}
use Rattle.dali_record.specs.declared.operations.Op.{Op}
use Rattle.dali_system.specs.declared.want.Want.TheVariants.{Region, Nothing}
use Rattle.dali_calls.specs.declared.plan.Phase.{Phase}
use Rattle.dali_calls.specs.declared.plan.Phase.TheVariants.{Refused}
use Rattle.dali_calls.specs.Steps.{answer_of}
use Rattle.dali_calls.specs.Plans.{is_back, is_back_in, plan_next, want_in}
use Rattle.dali_calls.proofs.Wholes.{back_next}
use Rattle.dali_calls.proofs.Following.{nothing_left, refused_rests}
use Rattle.dali_calls.proofs.SingleLemmas.Calling.{plan_turns as turned_follows}
use Rattle.dali_calls.specs.Stepwise.Beside.{PlanTurns, TurnedEnds}

pub plan_turns : PlanTurns
plan_turns L c p e plan = record { follows = turned_follows c.system.sizes L p e plan.follows; holds = plan.holds; free = plan.free }

-- ---- where it wants nothing more
none_next : (o : Option (ℕ × Op)) → want_in Refused o ≡ Nothing → o ≡ None
none_next None e = refl
none_next (Some o) e = absurd (never o.0 e)
  where
    never : (r : ℕ) → Region r ≡ Nothing → ⊥
    never r f = cc

pub turned_ends : TurnedEnds
turned_ends L c p w phase wants plan =
    let back : is_back p ≡ true = ap (λ (ph : Phase). is_back_in ph (answer_of p.geometry p.call p.stage) p.changes) phase in
    let none : plan_next p ≡ None = none_next (plan_next p) (sym (ap (λ (ph : Phase). want_in ph (plan_next p)) phase) ∙ wants) in
    let now = refused_rests c.system.sizes L p w plan.follows wants in (
      record { working = now.0; at_work = now.1; level = now.2; free = plan.free },
      nothing_left p.changes (sym (back_next p (is_back p) refl back) ∙ none),
    )
