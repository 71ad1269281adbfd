-- Totals, and numbers below others.
use Rattle.std.proofs.Common.{◌≡◌, ◌≢◌, ℕ, zero, suc, ◌+◌, ◌≤◌, ◌<◌, ◌==◌, false, List, [], ◌∷◌, ◌++◌, length, set, refl, sym, ap, subst, ⊎_elim, arith}
use mathlib.Core.Option.{some, some-ne-none, some-injective}
use lib.ListN.{get_elem?}
use Rattle.std.proofs.lemmas.Bool.{eq-eqb, ne_eqb}
use Rattle.dali_lists.proofs.Numbers.{eqb-suc}
use Rattle.atomic_table.proofs.Lists.{at_set}
use Rattle.dali_claims.specs.Claims.{one_if, times, below, AllBelow, Drawn, AreFresh, AreOf, drawn_by, over_by}
use Rattle.atomic_table.specs.Seated.{TableId}
use Rattle.dali_claims.specs.Rule.{total}

pub below-is : (n c : ℕ) → 1 ≤ below n c → n < c
below-is zero zero h = absurd (omega arith)
below-is zero (suc c) h = omega arith
below-is (suc n) zero h = absurd (omega arith)
below-is (suc n) (suc c) h = let r : n < c = below-is n c h in omega arith

pub below_more : (x n : ℕ) → below x (suc n) ≡ below x n + one_if (n == x)
below_more zero zero = refl
below_more zero (suc n) = let off : one_if (suc n == 0) ≡ 0 = ap one_if (ne_eqb (suc n) 0 (λ e. omega arith)) in omega arith
below_more (suc x) zero = let off : one_if (0 == suc x) ≡ 0 = ap one_if (ne_eqb 0 (suc x) (λ e. omega arith)) in let z : below x 0 ≡ 0 = none x in omega arith
  where
    none : (x : ℕ) → below x 0 ≡ 0
    none zero = refl
    none (suc x) = refl
below_more (suc x) (suc n) = let t : one_if (suc n == suc x) ≡ one_if (n == x) = ap one_if (eqb-suc n x) in omega (arith, below_more x n)

pub times-append : (x : ℕ) (xs ys : List ℕ) → times x (xs ++ ys) ≡ times x xs + times x ys
times-append x [] ys = omega arith
times-append x (y ∷ xs) ys = omega (arith, times-append x xs ys)

pub all_below : (n : ℕ) (xs : List ℕ) → ((y : ℕ) → 1 ≤ times y xs → y < n) → AllBelow n xs
all_below n [] h = tt
all_below n (y ∷ ys) h = let one : one_if (y == y) ≡ 1 = ap one_if (eq-eqb y y refl) in (h y (omega arith), all_below n ys (λ z more. h z (omega arith)))

module _ {A : Type 0} where
  pub total_set : (f : A → ℕ) (l : List A) (i : ℕ) (v w : A) → get_elem? l i ≡ some v → total f (set l i w) + f v ≡ total f l + f w
  total_set f [] i v w e = absurd (some-ne-none v (sym e))
  total_set f (x ∷ xs) zero v w e = let is : f x ≡ f v = ap f (some-injective x v e) in omega arith
  total_set f (x ∷ xs) (suc i) v w e = omega (arith, total_set f xs i v w e)

  pub total_snoc : (f : A → ℕ) (l : List A) (x : A) → total f (l ++ x ∷ []) ≡ total f l + f x
  total_snoc f [] x = omega arith
  total_snoc f (y ∷ l) x = omega (arith, total_snoc f l x)

  pub total_one : (f : A → ℕ) (l : List A) (i : ℕ) (v : A) → get_elem? l i ≡ some v → f v ≤ total f l
  total_one f [] i v e = absurd (some-ne-none v (sym e))
  total_one f (x ∷ xs) zero v e = let is : f x ≡ f v = ap f (some-injective x v e) in omega arith
  total_one f (x ∷ xs) (suc i) v e = omega (arith, total_one f xs i v e)

  -- with one more at one place, a total of smaller ones stays smaller
  pub total_less : (f g : A → ℕ) (l : List A) → ((i : ℕ) (v : A) → get_elem? l i ≡ some v → f v ≤ g v) → total f l ≤ total g l
  total_less f g [] h = omega arith
  total_less f g (x ∷ xs) h = let a : f x ≤ g x = h 0 x refl in omega (arith, total_less f g xs (λ i v e. h (suc i) v e))

  pub total_strict : (f g : A → ℕ) (l : List A) (i : ℕ) (v : A) → ((j : ℕ) (u : A) → get_elem? l j ≡ some u → f u ≤ g u) → get_elem? l i ≡ some v → f v < g v → total f l < total g l
  total_strict f g [] i v h e less = absurd (some-ne-none v (sym e))
  total_strict f g (x ∷ xs) zero v h e less = let a : f x ≡ f v = ap f (some-injective x v e) in let b : g x ≡ g v = ap g (some-injective x v e) in omega (arith, total_less f g xs (λ i v e. h (suc i) v e))
  total_strict f g (x ∷ xs) (suc i) v h e less = let a : f x ≤ g x = h 0 x refl in omega (arith, total_strict f g xs i v (λ j u e. h (suc j) u e) e less)

  -- where one has the whole total of g, f of the others is 0
  pub alone : (f g : A → ℕ) (l : List A) (i : ℕ) (v : A) → ((j : ℕ) (u : A) → get_elem? l j ≡ some u → g u ≡ 0 → f u ≡ 0) → get_elem? l i ≡ some v → total g l ≡ g v → total f l ≡ f v
  alone f g [] i v h e whole = absurd (some-ne-none v (sym e))
  alone f g (x ∷ xs) zero v h e whole = let a : f x ≡ f v = ap f (some-injective x v e) in let b : g x ≡ g v = ap g (some-injective x v e) in
      omega (arith, none f g xs (λ j u e. h (suc j) u e) (omega arith))
    where
      none : (f g : A → ℕ) (l : List A) → ((j : ℕ) (u : A) → get_elem? l j ≡ some u → g u ≡ 0 → f u ≡ 0) → total g l ≡ 0 → total f l ≡ 0
      none f g [] h z = refl
      none f g (x ∷ xs) h z = let a : f x ≡ 0 = h 0 x refl (omega arith) in omega (arith, none f g xs (λ j u e. h (suc j) u e) (omega arith))
  alone f g (x ∷ xs) (suc i) v h e whole = let one = total_one g xs i v e in let a : f x ≡ 0 = h 0 x refl (omega arith) in omega (arith, alone f g xs i v (λ j u e. h (suc j) u e) e (omega arith))

  pub all_set : (P : A → Type 0) (l : List A) (i : ℕ) (w : A) → P w → ((j : ℕ) (u : A) → get_elem? l j ≡ some u → P u) → (j : ℕ) (u : A) → get_elem? (set l i w) j ≡ some u → P u
  all_set P l i w mine others j u e = ⊎_elim
      (λ (x : (j ≡ i) × (w ≡ u)). subst P x.1 mine)
      (λ (x : (j ≢ i) × (get_elem? l j ≡ some u)). others j u x.1)
      (at_set l i j w u e)

module _ (t : TableId) where
  pub fresh_more : (xs : List Drawn) (x : Drawn) → AreFresh t xs → x.table ≡ t → x.drawn ≡ [] → x.over ≡ false → AreFresh t (xs ++ x ∷ [])
  fresh_more [] x f a b c = ((a, b, c), tt)
  fresh_more (y ∷ ys) x f a b c = (f.0, fresh_more ys x f.1 a b c)

  pub of_front : (xs : List Drawn) (x : Drawn) → AreOf t (xs ++ x ∷ []) → AreOf t xs
  of_front [] x f = tt
  of_front (y ∷ ys) x f = (f.0, of_front ys x f.1)

  pub of_last : (xs : List Drawn) (x : Drawn) → AreOf t (xs ++ x ∷ []) → x.table ≡ t
  of_last [] x f = f.0
  of_last (y ∷ ys) x f = of_last ys x f.1

pub drawn_by-snoc : (n : ℕ) (xs : List Drawn) (x : Drawn) → drawn_by n (xs ++ x ∷ []) ≡ drawn_by n xs + times n x.drawn
drawn_by-snoc n [] x = omega arith
drawn_by-snoc n (y ∷ ys) x = omega (arith, drawn_by-snoc n ys x)

pub over_by-snoc : (xs : List Drawn) (x : Drawn) → over_by (xs ++ x ∷ []) ≡ over_by xs + one_if x.over
over_by-snoc [] x = omega arith
over_by-snoc (y ∷ ys) x = omega (arith, over_by-snoc ys x)

module _ {A : Type 0} where
  pub nothing : (xs : List A) → length xs ≡ 0 → xs ≡ []
  nothing [] h = refl
  nothing (x ∷ xs) h = absurd (omega arith)
