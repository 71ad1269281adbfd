-- Numbers, and the test whether two are equal. (That it says so: `eqb-true`, `eq-eqb`, `ne_eqb` of std.)
use Rattle.std.proofs.Common.{◌≡◌, ◌≢◌, ℕ, zero, suc, ◌+◌, ◌<◌, ◌≤◌, Bool, true, false, sym, refl, ap, subst, ◌∙◌, ⊎_elim, arith}
use Rattle.std.specs.Prelude.{◌==◌, T, max}
use Rattle.std.specs.Int.{bit_at}
use Rattle.std.specs.Cmp.{ranked}
use Rattle.std.specs.Ordering.{nat_cmp, is_lt}
use Rattle.std.specs.declared.cmp.Ordering.{Ordering}
use Rattle.std.specs.declared.cmp.Ordering.TheVariants.{Less, Equal, Greater}
use Rattle.std.proofs.lemmas.Bool.{cases_lt, false_from_ne_true}
use Rattle.std.proofs.lemmas.Bool.Decides.{Decides-eqb, eqb_tells, nat_tests}
use Rattle.std.proofs.lemmas.Nat.Bits.{bit_at-lt}

-- ---- the test
pub eqb-self : (n : ℕ) → (n == n) ≡ true
eqb-self n = (Decides-eqb n n).1 refl

pub eqb-suc : (m n : ℕ) → (suc m == suc n) ≡ (m == n)
eqb-suc m n = grind (arith, nat_tests)

pub eqb_turned : (m n : ℕ) → (m == n) ≡ false → (n == m) ≡ false
eqb_turned m n e = grind (arith, nat_tests)

pub eqb_carried : (m n k : ℕ) (b : Bool) → m ≡ n → (m == k) ≡ b → (n == k) ≡ b
eqb_carried m n k b e f = ap (λ x. x == k) (sym e) ∙ f

pub eqb_greater : (m n : ℕ) → n < m → (m == n) ≡ false
eqb_greater m n h = false_from_ne_true (m == n) (λ e. let same : m ≡ n = (Decides-eqb m n).0 e in omega (arith, h, same))

-- ---- small numbers
pub one_not_two : ◌≡◌ {A = ℕ} 1 2 → ⊥
one_not_two e = omega (arith, e)

pub one_of_two : (n : ℕ) → n < 2 → n ≢ 0 → n ≡ 1
one_of_two n h e = omega (arith, h, e)

pub suc-is_one_more : (n : ℕ) → suc n ≡ n + 1
suc-is_one_more n = omega arith

pub bit_none : (m i : ℕ) → (bit_at m i ≡ 1 → ⊥) → bit_at m i ≡ 0
bit_none m i h = let low = bit_at-lt m i in grind arith

-- ---- what holds of each number of a few
pub both_below_two : (P : ℕ → Type 0) → P 0 → P 1 → (n : ℕ) → n < 2 → P n
both_below_two P a b zero h = a
both_below_two P a b (suc zero) h = b
both_below_two P a b (suc (suc n)) h = absurd (omega (arith, h))

pub max_cases : (P : ℕ → Type 0) (a b : ℕ) → P a → P b → P (max a b)
max_cases P a b p q = ⊎_elim (λ h. let e : max a b ≡ b = omega (arith, h) in subst P (sym e) q) (λ h. let e : max a b ≡ a = omega (arith, h) in subst P (sym e) p) (cases_lt a b)

pub here_or_later : (P : ℕ → Type 0) (k d : ℕ) → P k → (k + 1 ≤ d → P d) → k ≤ d → P d
here_or_later P k d here later low = ⊎_elim (λ a. subst P (sym a.1) here) (λ a. later (omega (arith, a.1))) (eqb_tells d k)

-- ---- how two compare
pub cmp_less : (m n : ℕ) (o : Ordering) → o ≡ nat_cmp m n → T (is_lt o) → m < n
cmp_less m n Less e p = ranked m n Less e
cmp_less m n Equal e p = absurd p
cmp_less m n Greater e p = absurd p
