-- Histories, hands and totals.
use Rattle.std.proofs.Common.{◌≡◌, ◌≢◌, ◌⊎◌, ℕ, zero, suc, ◌+◌, ◌≤◌, ◌<◌, ◌==◌, ◌||◌, Bool, true, false, List, [], ◌∷◌, ◌++◌, length, Some, set, refl, sym, ap, ◌∙◌, subst, ⊎_elim, arith, append_assoc, inl, inr}
use Rattle.std.specs.Prelude.{slice_get, take}
use Rattle.std.proofs.lemmas.List.{append-nil}
use mathlib.Core.Option.{some, some-ne-none, some-injective}
use lib.ListN.{get_elem?}
use Rattle.std.proofs.lemmas.Bool.{eq-eqb, ne_eqb}
use native.Mathlib.Decide.{ℕ_discrete}
use Rattle.atomic_table.proofs.Lists.{at_set}
use Rattle.atomic_table.specs.Seated.{TableId}
use Rattle.dali_notes.specs.History.{In, one_if, below, signs, IsSeen, AllMay, Sight, AreFresh, AreOf}
use Rattle.dali_notes.specs.Kept.{total, hands_of, Fits, fresh_from, signers, with_seen, all_with}

pub below-low : (n c : ℕ) → n < c → below n c ≡ 1
below-low zero zero h = absurd (omega arith)
below-low zero (suc c) h = refl
below-low (suc n) zero h = absurd (omega arith)
below-low (suc n) (suc c) h = below-low n c (omega arith)

pub below-high : (n c : ℕ) → c ≤ n → below n c ≡ 0
below-high zero zero h = refl
below-high zero (suc c) h = absurd (omega arith)
below-high (suc n) zero h = refl
below-high (suc n) (suc c) h = below-high n c (omega arith)

pub below-is : (n c : ℕ) → 1 ≤ below n c → n < c
below-is zero zero h = absurd (omega arith)
below-is zero (suc c) h = omega arith
below-is (suc n) zero h = absurd (omega arith)
below-is (suc n) (suc c) h = let r : n < c = below-is n c h in omega arith

pub below-most : (n c : ℕ) → below n c ≤ 1
below-most zero zero = omega arith
below-most zero (suc c) = omega arith
below-most (suc n) zero = omega arith
below-most (suc n) (suc c) = below-most n c

pub false_if : (b : Bool) → (b ≡ true → ⊥) → b ≡ false
false_if true f = absurd (f refl)
false_if false f = refl

module _ {X : Type 0} where
  in_append : (xs ys : List X) (x : X) → In (xs ++ ys) x → In xs x ⊎ In ys x
  in_append [] ys x m = inr m
  in_append (y ∷ xs) ys x (zero, is) = inl (zero, is)
  in_append (y ∷ xs) ys x (suc i, is) = ⊎_elim (λ (m : In xs x). inl (suc m.0, m.1)) (λ (m : In ys x). inr m) (in_append xs ys x (i, is))

  -- what holds of each element of two lists
  pub all_append : (P : X → Type 0) (xs ys : List X) → ((x : X) → In xs x → P x) → ((x : X) → In ys x → P x) → (x : X) → In (xs ++ ys) x → P x
  all_append P xs ys f g x m = ⊎_elim (f x) (g x) (in_append xs ys x m)

  pub all_one : (P : X → Type 0) (y : X) → P y → (x : X) → In (y ∷ []) x → P x
  all_one P y p x (zero, is) = let same_one : y ≡ x = cc in subst P same_one p
  all_one P y p x (suc i, is) = absurd (cc)

  pub all_none : (P : X → Type 0) → (x : X) → In [] x → P x
  all_none P x (i, is) = absurd (cc)

module _ {E : Type 0} where
  pub seen_self : (n : ℕ) (xs : List (List ℕ × E)) → IsSeen xs n xs
  seen_self n xs = record { rest = []; all = sym (append-nil xs); none = all_none (λ (x : List ℕ × E). signs n x.0 ≡ false) }

  pub seen_grow : (n : ℕ) (s h ys : List (List ℕ × E)) → IsSeen h n s → ((x : List ℕ × E) → In ys x → signs n x.0 ≡ false) → IsSeen (h ++ ys) n s
  seen_grow n s h ys f none = record {
    rest = f.rest ++ ys;
    all = ap (λ w. w ++ ys) f.all ∙ append_assoc s f.rest ys;
    none = all_append (λ (x : List ℕ × E). signs n x.0 ≡ false) f.rest ys f.none none;
  }

  pub fits_grow : (h ys : List (List ℕ × E)) (v : List (ℕ × List (List ℕ × E))) → Fits h v → ((n : ℕ) → 1 ≤ hands_of n v → (x : List ℕ × E) → In ys x → signs n x.0 ≡ false) → Fits (h ++ ys) v
  fits_grow h ys [] f none = tt
  fits_grow h ys (x ∷ xs) f none =
      let one : one_if (x.0 == x.0) ≡ 1 = ap one_if (eq-eqb x.0 x.0 refl) in
      (seen_grow x.0 x.1 h ys f.0 (none x.0 (omega arith)), fits_grow h ys xs f.1 (λ n more. none n (omega arith)))

  pub hands-append : (n : ℕ) (v w : List (ℕ × List (List ℕ × E))) → hands_of n (v ++ w) ≡ hands_of n v + hands_of n w
  hands-append n [] w = omega arith
  hands-append n (x ∷ xs) w = omega (arith, hands-append n xs w)

  pub fits-append : (h : List (List ℕ × E)) (v w : List (ℕ × List (List ℕ × E))) → Fits h v → Fits h w → Fits h (v ++ w)
  fits-append h [] w f g = g
  fits-append h (x ∷ xs) w f g = (f.0, fits-append h xs w f.1 g)

  pub fits_with_seen : (h : List (List ℕ × E)) (v : List (ℕ × List (List ℕ × E))) → Fits h v → Fits h (with_seen h v)
  fits_with_seen h [] f = tt
  fits_with_seen h (x ∷ xs) f = (seen_self x.0 h, f.1)

  pub length-with_seen : (h : List (List ℕ × E)) (v : List (ℕ × List (List ℕ × E))) → length (with_seen h v) ≡ length v
  length-with_seen h [] = refl
  length-with_seen h (x ∷ xs) = refl

  pub hands-none : (n : ℕ) (v : List (ℕ × List (List ℕ × E))) → length v ≡ 0 → hands_of n v ≡ 0
  hands-none n [] h = refl
  hands-none n (x ∷ xs) h = absurd (omega arith)

  pub hands-with_seen : (n : ℕ) (h : List (List ℕ × E)) (v : List (ℕ × List (List ℕ × E))) → hands_of n (with_seen h v) ≡ hands_of n v
  hands-with_seen n h [] = refl
  hands-with_seen n h (x ∷ xs) = refl

  -- all hands have seen the whole history
  pub fits_all_with : (h : List (List ℕ × E)) (v : List (ℕ × List (List ℕ × E))) → Fits h (all_with h v)
  fits_all_with h [] = tt
  fits_all_with h (x ∷ xs) = (seen_self x.0 h, fits_all_with h xs)

  pub length-all_with : (h : List (List ℕ × E)) (v : List (ℕ × List (List ℕ × E))) → length (all_with h v) ≡ length v
  length-all_with h [] = refl
  length-all_with h (x ∷ xs) = ap suc (length-all_with h xs)

  pub hands-all_with : (n : ℕ) (h : List (List ℕ × E)) (v : List (ℕ × List (List ℕ × E))) → hands_of n (all_with h v) ≡ hands_of n v
  hands-all_with n h [] = refl
  hands-all_with n h (x ∷ xs) = ap (λ k. one_if (x.0 == n) + k) (hands-all_with n h xs)

  -- who signs has a hand
  pub hands-signs : (n : ℕ) (v : List (ℕ × List (List ℕ × E))) → signs n (signers v) ≡ true → 1 ≤ hands_of n v
  hands-signs n [] h = absurd (cc)
  hands-signs n (x ∷ xs) h = by (x.0 == n) refl h (hands-signs n xs)
    where
      by : (b : Bool) → b ≡ (x.0 == n) → ((x.0 == n) || signs n (signers xs)) ≡ true → (signs n (signers xs) ≡ true → 1 ≤ hands_of n xs) → 1 ≤ hands_of n (x ∷ xs)
      by true e h more = let one : one_if (x.0 == n) ≡ 1 = ap one_if (sym e) in omega arith
      by false e h more = let rest : signs n (signers xs) ≡ true = ap (λ b. b || signs n (signers xs)) e ∙ h in omega (arith, more rest)

module _ (E : Type 0) where
  pub fits_fresh : (k m : ℕ) → Fits [] (fresh_from {E = E} k m)
  fits_fresh k zero = tt
  fits_fresh k (suc m) = (seen_self k [], fits_fresh (suc k) m)

  pub fresh_low : (n k m : ℕ) → n < k → hands_of n (fresh_from {E = E} k m) ≡ 0
  fresh_low n k zero h = refl
  fresh_low n k (suc m) h = let no : one_if (k == n) ≡ 0 = ap one_if (ne_eqb k n (λ e. omega arith)) in omega (arith, fresh_low n (suc k) m (omega arith))

  fresh_case : (n k m : ℕ) → Dec (k ≡ n) → k ≤ n → (suc k ≤ n → hands_of n (fresh_from {E = E} (suc k) m) ≡ below n (suc k + m)) → hands_of n (fresh_from {E = E} k (suc m)) ≡ below n (k + suc m)
  fresh_case n k m (yes e) h more = let one : one_if (k == n) ≡ 1 = ap one_if (eq-eqb k n e) in
      let none : hands_of n (fresh_from {E = E} (suc k) m) ≡ 0 = fresh_low n (suc k) m (omega arith) in
      let there : below n (k + suc m) ≡ 1 = below-low n (k + suc m) (omega arith) in omega arith
  fresh_case n k m (no e) h more = let one : one_if (k == n) ≡ 0 = ap one_if (ne_eqb k n e) in
      let apart : suc k ≤ n = grind (arith, e) in
      let sum : below n (suc k + m) ≡ below n (k + suc m) = ap (below n) (omega arith) in omega (arith, more apart)

  pub fresh_each : (n k m : ℕ) → k ≤ n → hands_of n (fresh_from {E = E} k m) ≡ below n (k + m)
  fresh_each n k zero h = sym (below-high n (k + 0) (omega arith))
  fresh_each n k (suc m) h = fresh_case n k m (ℕ_discrete k n) h (fresh_each n (suc k) m)

  pub length-fresh : (k m : ℕ) → length (fresh_from {E = E} k m) ≡ m
  length-fresh k zero = refl
  length-fresh k (suc m) = ap suc (length-fresh (suc k) m)

module _ {A : Type 0} where
  pub total_set : (f : A → ℕ) (l : List A) (i : ℕ) (v w : A) → get_elem? l i ≡ some v → total f (set l i w) + f v ≡ total f l + f w
  total_set f [] i v w e = absurd (some-ne-none v (sym e))
  total_set f (x ∷ xs) zero v w e = let is : f x ≡ f v = ap f (some-injective x v e) in omega arith
  total_set f (x ∷ xs) (suc i) v w e = omega (arith, total_set f xs i v w e)

  pub total_snoc : (f : A → ℕ) (l : List A) (x : A) → total f (l ++ x ∷ []) ≡ total f l + f x
  total_snoc f [] x = omega arith
  total_snoc f (y ∷ l) x = omega (arith, total_snoc f l x)

  pub total_one : (f : A → ℕ) (l : List A) (i : ℕ) (v : A) → get_elem? l i ≡ some v → f v ≤ total f l
  total_one f [] i v e = absurd (some-ne-none v (sym e))
  total_one f (x ∷ xs) zero v e = let is : f x ≡ f v = ap f (some-injective x v e) in omega arith
  total_one f (x ∷ xs) (suc i) v e = omega (arith, total_one f xs i v e)

  pub total_two : (f : A → ℕ) (l : List A) (i j : ℕ) (v w : A) → j ≢ i → get_elem? l i ≡ some v → get_elem? l j ≡ some w → f v + f w ≤ total f l
  total_two f [] i j v w n a b = absurd (some-ne-none v (sym a))
  total_two f (x ∷ xs) zero zero v w n a b = absurd (n refl)
  total_two f (x ∷ xs) zero (suc j) v w n a b = let is : f x ≡ f v = ap f (some-injective x v a) in omega (arith, total_one f xs j w b)
  total_two f (x ∷ xs) (suc i) zero v w n a b = let is : f x ≡ f w = ap f (some-injective x w b) in omega (arith, total_one f xs i v a)
  total_two f (x ∷ xs) (suc i) (suc j) v w n a b = omega (arith, total_two f xs i j v w (λ e. n (ap suc e)) a b)

  -- where one has the whole total of g, f of the others is 0
  pub alone : (f g : A → ℕ) (l : List A) (i : ℕ) (v : A) → ((u : A) → g u ≡ 0 → f u ≡ 0) → get_elem? l i ≡ some v → total g l ≡ g v → total f l ≡ f v
  alone f g [] i v h e whole = absurd (some-ne-none v (sym e))
  alone f g (x ∷ xs) zero v h e whole = let a : f x ≡ f v = ap f (some-injective x v e) in let b : g x ≡ g v = ap g (some-injective x v e) in
      omega (arith, none f g xs h (omega arith))
    where
      none : (f g : A → ℕ) (l : List A) → ((u : A) → g u ≡ 0 → f u ≡ 0) → total g l ≡ 0 → total f l ≡ 0
      none f g [] h z = refl
      none f g (x ∷ xs) h z = let a : f x ≡ 0 = h x (omega arith) in omega (arith, none f g xs h (omega arith))
  alone f g (x ∷ xs) (suc i) v h e whole = let one = total_one g xs i v e in let a : f x ≡ 0 = h x (omega arith) in omega (arith, alone f g xs i v h e (omega arith))

  pub all_set : (P : A → Type 0) (l : List A) (i : ℕ) (w : A) → P w → ((j : ℕ) (u : A) → j ≢ i → get_elem? l j ≡ some u → P u) → (j : ℕ) (u : A) → get_elem? (set l i w) j ≡ some u → P u
  all_set P l i w mine others j u e = ⊎_elim
      (λ (x : (j ≡ i) × (w ≡ u)). subst P x.1 mine)
      (λ (x : (j ≢ i) × (get_elem? l j ≡ some u)). others j u x.0 x.1)
      (at_set l i j w u e)

module _ {E : Type 0} where
  pub fresh_more : (t : TableId) (k : ℕ) (xs : List (Sight E)) (x : Sight E) → AreFresh t k xs → x.table ≡ t → x.number ≡ k + length xs → x.seen ≡ [] → AreFresh t k (xs ++ x ∷ [])
  fresh_more t k [] x f a b c = ((a, b ∙ omega arith, c), tt)
  fresh_more t k (y ∷ ys) x f a b c = (f.0, fresh_more t (suc k) ys x f.1 a (b ∙ omega arith) c)

  pub of_front : (t : TableId) (xs : List (Sight E)) (x : Sight E) → AreOf t (xs ++ x ∷ []) → AreOf t xs
  of_front t [] x f = tt
  of_front t (y ∷ ys) x f = (f.0, of_front t ys x f.1)

  pub of_last : (t : TableId) (xs : List (Sight E)) (x : Sight E) → AreOf t (xs ++ x ∷ []) → x.table ≡ t
  of_last t [] x f = f.0
  of_last t (y ∷ ys) x f = of_last t ys x f.1

module _ {X : Type 0} where
  -- of a list with one more element: it stands before, or is the last
  pub sides : (xs : List X) (x : X) (i : ℕ) (y : X) → slice_get (xs ++ x ∷ []) i ≡ Some y
      → ((slice_get xs i ≡ Some y) × (take i (xs ++ x ∷ []) ≡ take i xs)) ⊎ ((x ≡ y) × (take i (xs ++ x ∷ []) ≡ xs))
  sides [] x zero y is = let same : x ≡ y = cc in inr (same, refl)
  sides [] x (suc i) y is = absurd (cc)
  sides (z ∷ xs) x zero y is = inl (is, refl)
  sides (z ∷ xs) x (suc i) y is = ⊎_elim (λ (old : (slice_get xs i ≡ Some y) × (take i (xs ++ x ∷ []) ≡ take i xs)). inl (old.0, ap (λ l. z ∷ l) old.1))
      (λ (new : (x ≡ y) × (take i (xs ++ x ∷ []) ≡ xs)). inr (new.0, ap (λ l. z ∷ l) new.1))
      (sides xs x i y is)

module _ {A : Type 0} where
  pub nothing : (xs : List A) → length xs ≡ 0 → xs ≡ []
  nothing [] h = refl
  nothing (x ∷ xs) h = absurd (omega arith)

module _ {E : Type 0} (may : List (List ℕ × E) → List ℕ × E → Type 0) where
  -- one entry more, which may be added
  pub may_more : (log : List (List ℕ × E)) (x : List ℕ × E) → AllMay may log → may log x → AllMay may (log ++ x ∷ [])
  may_more log x all next i y is = ⊎_elim
      (λ (old : (slice_get log i ≡ Some y) × (take i (log ++ x ∷ []) ≡ take i log)). subst (λ h. may h y) (sym old.1) (all i y old.0))
      (λ (new : (x ≡ y) × (take i (log ++ x ∷ []) ≡ log)). subst (may (take i (log ++ x ∷ []))) new.0 (subst (λ h. may h x) (sym new.1) next))
      (sides log x i y is)
