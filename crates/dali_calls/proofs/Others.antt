-- Holds that stay or are let go, what others are promised, and who has ended is gone.
use Rattle.std.proofs.Common.{inl, inr, ◌≡◌, ◌≢◌, ℕ, Bool, true, false, List, Some, None, refl, sym, ap, subst, ◌∙◌, slice_get, slice_set}
use Rattle.std.specs.Prelude.{◌==◌, if◌then◌else◌}
use Rattle.std.specs.FinMap.{get, remove}
use Rattle.std.proofs.lemmas.Bool.Decides.{Decides-eqb}
use Rattle.dali_lists.proofs.Lists.{get_set, get_set_other}
use Rattle.dali_region.specs.State.{RegionState}
use Rattle.dali_att.proofs.Changes.{get-ended}
use Rattle.dali_locks.proofs.Kept.{locks_without_at}
use Rattle.dali_runs.specs.State.{SystemState, hold_in}
use Rattle.dali_runs.specs.Steps.{ended_logged}
use Rattle.dali_system.specs.Served.{Served}
use Rattle.dali_system.specs.Promised.{Promised, promised_to}
use Rattle.dali_system.proofs.Totals.{others_stay}
use Rattle.dali_calls.specs.Others.{HoldStays, HoldsClear, PromisesStay, IsGone}

-- one region is held by nobody any more
pub holds_put : (rs : List RegionState) (q : ℕ) (g h : RegionState) → slice_get rs q ≡ Some g → h.hold ≡ None → HoldsClear rs (slice_set rs q h)
holds_put rs q g h at none r = by_place (q == r) refl
  where
    apart : (q == r) ≡ false → q ≢ r
    apart n e = let is : (q == r) ≡ true = (Decides-eqb q r).1 e in cc

    by_place : (b : Bool) → (q == r) ≡ b → HoldStays rs (slice_set rs q h) r
    by_place true e =
        let same : q ≡ r = (Decides-eqb q r).0 e in
        inr (subst (λ (n : ℕ). hold_in (slice_get (slice_set rs q h) n) ≡ None) same (ap hold_in (get_set rs q g h at) ∙ none))
    by_place false e = inl (ap hold_in (get_set_other rs q h r (apart e)))

hold_further : (rs rs' rs'' : List RegionState) (r : ℕ) → HoldStays rs rs' r → HoldStays rs' rs'' r → HoldStays rs rs'' r
hold_further rs rs' rs'' r first (inr none) = inr none
hold_further rs rs' rs'' r (inl same) (inl second) = inl (second ∙ same)
hold_further rs rs' rs'' r (inr none) (inl second) = inr (second ∙ none)

pub holds_further : (rs rs' rs'' : List RegionState) → HoldsClear rs rs' → HoldsClear rs' rs'' → HoldsClear rs rs''
holds_further rs rs' rs'' first second r = hold_further rs rs' rs'' r (first r) (second r)

pub promises_same : (s z : Served) (t : ℕ) → z.promised ≡ s.promised → PromisesStay s t z
promises_same s z t e u apart = ap (λ (m : Promised). promised_to m u) e

pub promises_further : (s m z : Served) (t : ℕ) → PromisesStay s t m → PromisesStay m t z → PromisesStay s t z
promises_further s m z t first second u apart = second u apart ∙ first u apart

pub promises_ended : (s z : Served) (t : ℕ) → z.promised ≡ remove s.promised t → PromisesStay s t z
promises_ended s z t e u apart = ap (λ (m : Promised). promised_to m u) e ∙ (others_stay s.promised t u 0 apart).2

pub ended_gone : (y z : SystemState) (t : ℕ) → z ≡ ended_logged y t → IsGone z t
ended_gone y z t is = subst (λ (x : SystemState). IsGone x t) (sym is) (
  get-ended y.table t t ∙ ap (λ (b : Bool). if b then None else get y.table t) self,
  λ k. locks_without_at y.locks t t k ∙ ap (λ (b : Bool). if b then None else get y.locks (t, k)) self,
)
  where
    self : (t == t) ≡ true
    self = (Decides-eqb t t).1 refl
