use Rattle.std.proofs.Common.{◌≡◌, ℕ, false, Option, Some, None, IsSome, IsSomeAnd, refl}
use Rattle.std.specs.Prelude.{is_some}
use Rattle.dali_record.specs.declared.operations.Op.{Op}
use Rattle.dali_region.specs.State.{RegionState, latched, with_reads}
use Rattle.dali_system.specs.declared.operation.Operation.{Operation}
use Rattle.dali_system.specs.declared.want.Want.TheVariants.{Region}
use Rattle.dali_system.specs.UnderWay.{IsUnderWay, OneIsUnderWay}
use Rattle.dali_calls.specs.declared.plan.Phase.{Phase}
use Rattle.dali_calls.specs.declared.plan.Phase.TheVariants.{Calling, Refused, Answered}
use Rattle.dali_calls.specs.Steps.{call_key, IsBlockOf}
use Rattle.dali_calls.specs.Plans.{Planned, want_in, plan_next}
use Rattle.dali_core_tests.proofs.tests.plans.advance.Goals as goal

none_is : {A : Type 0} (o : Option A) → is_some o ≡ false → o ≡ None
none_is None e = refl
none_is (Some x) e = absurd cc

next_is : (phase : Phase) (o : Option (ℕ × Op)) (r : ℕ) → want_in phase o ≡ Region r → IsSome o
next_is phase (Some x) r e = refl
next_is Calling None r e = absurd cc
next_is Refused None r e = absurd cc
next_is Answered None r e = absurd cc

way_of : (p : Planned) (g : RegionState) (o : Option Operation) (h : RegionState)
    → IsSomeAnd o (λ o. (o.txn ≡ p.txn) × IsBlockOf (plan_next p) (call_key p.call) o.block × IsUnderWay o.txn o.block o.left o.taken h × (h ≡ with_reads o.block.read (latched p.txn g)))
    → OneIsUnderWay o h
way_of p g None h m = absurd m
way_of p g (Some o) h m = m.2
