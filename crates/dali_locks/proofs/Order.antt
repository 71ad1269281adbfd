-- The order of pairs of numbers.
use Rattle.std.proofs.Common.{◌≡◌, ℕ, ◌<◌, ◌≤◌, false, refl, ◌∙◌, ap, arith}
use Rattle.std.specs.Prelude.{◌&&◌, ◌==◌}
use Rattle.std.specs.declared.cmp.Ordering.{Ordering}
use Rattle.std.specs.declared.cmp.Ordering.TheVariants.{Less, Equal, Greater}
use Rattle.std.specs.Cmp.{IsTotalOrder, nat_cmp_total, on_total, then_total, unsigned_tied}
use Rattle.std.specs.Ordering.{nat_cmp, ordering_then, is_gt, is_eq, eq_by_cmp}
use Rattle.std.specs.FinMap.{IsAntisymmetric}
use Rattle.std.proofs.lemmas.Map.Lookups.{exact_pairs, exact_unsigned}
use Rattle.std.proofs.lemmas.Bool.Decides.{nat_tests}
use Rattle.dali_locks.specs.Locks.{lock_cmp}

pub total : IsTotalOrder lock_cmp
total = then_total (on_total (λ (p : ℕ × ℕ). p.0) nat_cmp_total) (on_total (λ (p : ℕ × ℕ). p.1) nat_cmp_total)

pub exact : IsAntisymmetric lock_cmp
exact = exact_pairs nat_cmp nat_cmp exact_unsigned exact_unsigned

then_eq : (r s : Ordering) → is_eq (ordering_then r s) ≡ (is_eq r && is_eq s)
then_eq Less s = refl
then_eq Equal s = refl
then_eq Greater s = refl

-- pairs tie where both their numbers do
pub tied : (a b c d : ℕ) → eq_by_cmp lock_cmp (a, b) (c, d) ≡ ((a == c) && (b == d))
tied a b c d = then_eq (nat_cmp a c) (nat_cmp b d) ∙ ap (λ s. s && is_eq (nat_cmp b d)) (unsigned_tied a c) ∙ ap (λ s. (a == c) && s) (unsigned_tied b d)

pub cmp_same : (a b d : ℕ) → lock_cmp (a, b) (a, d) ≡ nat_cmp b d
cmp_same a b d = grind (arith, nat_tests)

pub le_first : (a u : ℕ) → is_gt (lock_cmp (a, 0) (a, u)) ≡ false
le_first a u = grind (arith, nat_tests)

pub lt_same : (a b d : ℕ) → b < d → lock_cmp (a, b) (a, d) ≡ Less
lt_same a b d less = grind (arith, nat_tests)

pub below_both : (k t a h : ℕ) → is_gt (lock_cmp (k, 0) (a, h)) ≡ false → lock_cmp (a, h) (k, t) ≡ Less → (a ≡ k) × (h < t)
below_both k t a h low high = grind (arith, nat_tests)

pub above_same : (k t h : ℕ) → lock_cmp (k, t) (k, h) ≡ Less → t < h
above_same k t h above = grind (arith, nat_tests)

pub le_same : (k h u : ℕ) → is_gt (lock_cmp (k, h) (k, u)) ≡ false → h ≤ u
le_same k h u le = grind (arith, nat_tests)

-- a first key past those of k
pub past : (k t a h u : ℕ) → lock_cmp (k, t) (a, h) ≡ Less → (a ≡ k → ⊥) → is_gt (lock_cmp (a, h) (k, u)) ≡ false → ⊥
past k t a h u above apart le = grind (arith, nat_tests)

pub past_first : (k a h u : ℕ) → is_gt (lock_cmp (k, 0) (a, h)) ≡ false → (a ≡ k → ⊥) → is_gt (lock_cmp (a, h) (k, u)) ≡ false → ⊥
past_first k a h u above apart le = grind (arith, nat_tests)
