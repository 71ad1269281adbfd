-- What the first entry of a part of an ordered map under pairs tells.
use Rattle.std.proofs.Common.{◌≡◌, ℕ, ◌<◌, false, List, [], ◌∷◌, refl, sym, ◌∙◌, ap, subst}
use Rattle.std.specs.Prelude.{Option, Some, None, IsSome, IfSome, MatchOption, slice_get}
use Rattle.std.specs.declared.ops.Bound.{Bound}
use Rattle.std.specs.declared.ops.Bound.TheVariants.{Included, Excluded, Unbounded}
use Rattle.std.specs.declared.cmp.Ordering.TheVariants.{Less}
use Rattle.std.specs.Ordering.{is_gt}
use Rattle.std.specs.BTreeMap.{BTreeMap}
use Rattle.std.specs.BTreeMap.Range.{IsRangeOf, IsEntryInRange, IsLeBy}
use Rattle.dali_locks.specs.declared.mode.Mode.{Mode}
use Rattle.dali_locks.specs.Locks.{lock_cmp}
use Rattle.dali_locks.specs.Pairs.{Pairs, mode_at, IsLeast, HasNone}
use Rattle.dali_locks.proofs.Order.{below_both, above_same, le_same, le_first, lt_same, past, past_first}

abbrev Map : Type 0
Map = BTreeMap (ℕ × ℕ) Mode

-- an iterator that gave nothing had nothing left
pub nothing_left : {A B : Type 0} (s t : List B) (P : A → Type 0) (r : Option A) → MatchOption r ((s ≡ []) × (t ≡ [])) P → r ≡ None → s ≡ []
nothing_left s t P None h e = h.0
nothing_left s t P (Some x) h e = cc

none_unless : (o : Option Mode) → (IsSome o → ⊥) → o ≡ None
none_unless None h = refl
none_unless (Some m) h = absurd (h refl)

module _ (lo hi : Bound (ℕ × ℕ)) (m : Map) (r rest : Pairs) (p : ℕ × ℕ) (v : Mode) (range : IsRangeOf lock_cmp lo hi m r) (first : r ≡ (p, v) ∷ rest) where
  -- the first entry lies there
  first_in : IsEntryInRange lock_cmp lo hi m (p, v)
  first_in = subst (λ (es : Pairs). IfSome (slice_get es 0) (IsEntryInRange lock_cmp lo hi m)) first range.1

module _ (m : Map) (k t : ℕ) (r : Pairs) where
  module _ (range : IsRangeOf lock_cmp (Included (k, 0)) (Excluded (k, t)) m r) where
    pub below_some : (rest : Pairs) (p : ℕ × ℕ) (v : Mode) → r ≡ (p, v) ∷ rest → IsLeast (λ u. u < t) m.entries k p.1 v
    below_some rest p v first =
        let here = first_in (Included (k, 0)) (Excluded (k, t)) m r rest p v range first in
        let places = below_both k t p.0 p.1 here.0.0 here.0.1 in
        record {
          inside = places.1;
          holds = ap (λ a. mode_at m.entries a p.1) (sym places.0) ∙ here.1;
          least = λ u less present.
              let le : is_gt (lock_cmp p (k, u)) ≡ false = subst (λ (es : Pairs). IfSome (slice_get es 0) (λ e. IsLeBy lock_cmp e.0 (k, u))) first (range.2 (k, u) (le_first k u, lt_same k u t less) present) in
              le_same k p.1 u (subst (λ a. is_gt (lock_cmp (a, p.1) (k, u)) ≡ false) places.0 le);
        }

    pub below_none : r ≡ [] → HasNone (λ u. u < t) m.entries k
    below_none empty u less = range.5 empty (k, u) (le_first k u, lt_same k u t less)

  module _ (range : IsRangeOf lock_cmp (Excluded (k, t)) Unbounded m r) where
    pub above_some : (rest : Pairs) (p : ℕ × ℕ) (v : Mode) → r ≡ (p, v) ∷ rest → p.0 ≡ k → IsLeast (λ u. t < u) m.entries k p.1 v
    above_some rest p v first same =
        let here = first_in (Excluded (k, t)) Unbounded m r rest p v range first in
        record {
          inside = above_same k t p.1 (subst (λ a. lock_cmp (k, t) (a, p.1) ≡ Less) same here.0.0);
          holds = ap (λ a. mode_at m.entries a p.1) (sym same) ∙ here.1;
          least = λ u less present.
              let le : is_gt (lock_cmp p (k, u)) ≡ false = subst (λ (es : Pairs). IfSome (slice_get es 0) (λ e. IsLeBy lock_cmp e.0 (k, u))) first (range.2 (k, u) (lt_same k t u less, tt) present) in
              le_same k p.1 u (subst (λ a. is_gt (lock_cmp (a, p.1) (k, u)) ≡ false) same le);
        }

    pub above_past : (rest : Pairs) (p : ℕ × ℕ) (v : Mode) → r ≡ (p, v) ∷ rest → (p.0 ≡ k → ⊥) → HasNone (λ u. t < u) m.entries k
    above_past rest p v first apart u less = none_unless (mode_at m.entries k u) (λ present.
        let here = first_in (Excluded (k, t)) Unbounded m r rest p v range first in
        let le : is_gt (lock_cmp p (k, u)) ≡ false = subst (λ (es : Pairs). IfSome (slice_get es 0) (λ e. IsLeBy lock_cmp e.0 (k, u))) first (range.2 (k, u) (lt_same k t u less, tt) present) in
        past k t p.0 p.1 u here.0.0 apart le)

    pub above_none : r ≡ [] → HasNone (λ u. t < u) m.entries k
    above_none empty u less = range.5 empty (k, u) (lt_same k t u less, tt)

  module _ (range : IsRangeOf lock_cmp (Included (t, 0)) Unbounded m r) where
    pub first_past : (rest : Pairs) (p : ℕ × ℕ) (v : Mode) → r ≡ (p, v) ∷ rest → (p.0 ≡ t → ⊥) → (u : ℕ) → mode_at m.entries t u ≡ None
    first_past rest p v first apart u = none_unless (mode_at m.entries t u) (λ present.
        let here = first_in (Included (t, 0)) Unbounded m r rest p v range first in
        let le : is_gt (lock_cmp p (t, u)) ≡ false = subst (λ (es : Pairs). IfSome (slice_get es 0) (λ e. IsLeBy lock_cmp e.0 (t, u))) first (range.2 (t, u) (le_first t u, tt) present) in
        past_first t p.0 p.1 u here.0.0 apart le)

    pub first_none : r ≡ [] → (u : ℕ) → mode_at m.entries t u ≡ None
    first_none empty u = range.5 empty (t, u) (le_first t u, tt)
