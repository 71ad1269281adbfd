-- Elements of lists, and how many a list has at least that contains each pair of a block of pairs.
use Rattle.std.proofs.Common.{◌≡◌, ℕ, zero, suc, ◌+◌, ◌*◌, ◌<◌, ◌≤◌, Bool, true, false, cond, not, List, [], ◌∷◌, length, Option, Some, None, refl, ap, sym, subst, ◌∙◌, ◌⊎◌, inl, inr, ⊎_elim, arith}
use Rattle.std.specs.Prelude.{◌==◌, Contains, filter, filter_map, sum_by}
use Rattle.std.specs.List.{cons_option}
use Rattle.std.proofs.lemmas.Bool.{eq-eqb, ne_eqb}
use Rattle.std.proofs.lemmas.List.Filters.{length-filter_both}
use Rattle.std.proofs.lemmas.List.Sums.{sum_by-cons}

module _ {X : Type 0} where
  -- one more at the front
  pub contains_more : (y : X) (xs : List X) (x : X) → Contains xs x → Contains (y ∷ xs) x
  contains_more y xs x h = let l = h.1 in (suc h.0, omega (arith, l), h.2)

  pub contains_first : (x : X) (xs : List X) → Contains (x ∷ xs) x
  contains_first x xs = (0, omega arith, refl)

  pub contains_none : (x : X) → Contains [] x → ⊥
  contains_none x h = let l = h.1 in omega (arith, l)

  pub contains_cases : (y : X) (xs : List X) (x : X) → Contains (y ∷ xs) x → (y ≡ x) ⊎ Contains xs x
  contains_cases y xs x (zero, l, e) = inl e
  contains_cases y xs x (suc k, l, e) = inr (k, omega (arith, l), e)

  pub some_long : (xs : List X) (x : X) → Contains xs x → 1 ≤ length xs
  some_long [] x h = absurd (contains_none x h)
  some_long (y ∷ xs) x h = omega arith

  -- one that passes
  pub in_filter : (f : X → Bool) (xs : List X) (x : X) → Contains xs x → f x ≡ true → Contains (filter f xs) x
  in_filter f [] x h e = absurd (contains_none x h)
  in_filter f (y ∷ xs) x h e = go (f y) refl (contains_cases y xs x h) (λ k. in_filter f xs x k e)
    where
      go : (b : Bool) → f y ≡ b → (y ≡ x) ⊎ Contains xs x → (Contains xs x → Contains (filter f xs) x) → Contains (cond b (y ∷ filter f xs) (filter f xs)) x
      go true g (inl same) ih = subst (λ z. Contains (z ∷ filter f xs) x) (sym same) (contains_first x (filter f xs))
      go true g (inr k) ih = contains_more y (filter f xs) x (ih k)
      go false g (inl same) ih = let no : true ≡ false = sym e ∙ (ap f (sym same) ∙ g) in absurd (cc (no))
      go false g (inr k) ih = ih k

-- ---- what is picked
pub in_filter_map : {X Y : Type 0} (h : X → Option Y) (xs : List X) (x : X) (y : Y) → Contains xs x → h x ≡ Some y → Contains (filter_map h xs) y
in_filter_map h [] x y c e = absurd (contains_none x c)
in_filter_map {X = X} {Y = Y} h (z ∷ xs) x y c e = go (h z) refl (contains_cases z xs x c) (λ k. in_filter_map h xs x y k e)
  where
    go : (o : Option Y) → h z ≡ o → (z ≡ x) ⊎ Contains xs x → (Contains xs x → Contains (filter_map h xs) y) → Contains (cons_option o (filter_map h xs)) y
    go None g (inl same) ih = let no : None ≡ Some y = sym g ∙ (ap h same ∙ e) in absurd (cc (no))
    go None g (inr k) ih = ih k
    go (Some v) g (inl same) ih = let at : Some v ≡ Some y = sym g ∙ (ap h same ∙ e) in let is : v ≡ y = cc (at) in subst (λ w. Contains (w ∷ filter_map h xs) y) (sym is) (contains_first y (filter_map h xs))
    go (Some v) g (inr k) ih = contains_more v (filter_map h xs) y (ih k)

pub from_filter_map : {X Y : Type 0} (h : X → Option Y) (xs : List X) (y : Y) → Contains (filter_map h xs) y → (x : X) × Contains xs x × (h x ≡ Some y)
from_filter_map h [] y c = absurd (contains_none y c)
from_filter_map {X = X} {Y = Y} h (z ∷ xs) y c = go (h z) refl c (λ k. from_filter_map h xs y k)
  where
    later : (x : X) × Contains xs x × (h x ≡ Some y) → (x : X) × Contains (z ∷ xs) x × (h x ≡ Some y)
    later w = (w.0, contains_more z xs w.0 w.1, w.2)

    go : (o : Option Y) → h z ≡ o → Contains (cons_option o (filter_map h xs)) y → (Contains (filter_map h xs) y → (x : X) × Contains xs x × (h x ≡ Some y)) → (x : X) × Contains (z ∷ xs) x × (h x ≡ Some y)
    go None g k ih = later (ih k)
    go (Some v) g k ih = ⊎_elim (λ same. (z, contains_first z xs, g ∙ ap (λ w. Some w) same)) (λ m. later (ih m)) (contains_cases v (filter_map h xs) y k)

-- ---- pairs
-- with each second coordinate of a row
row_of_pairs : (ps : List (ℕ × ℕ)) (r b m : ℕ) → ((i : ℕ) → i < m → Contains ps (r, b + i)) → m ≤ length ps
row_of_pairs ps r b zero h = omega arith
row_of_pairs ps r b (suc m) h =
    let here : 1 ≤ length (filter (λ p. p.1 == b + m) ps) = some_long (filter (λ p. p.1 == b + m) ps) (r, b + m) (in_filter (λ p. p.1 == b + m) ps (r, b + m) (h m (omega arith)) (eq-eqb (b + m) (b + m) refl)) in
    let others : m ≤ length (filter (λ p. not (p.1 == b + m)) ps) = row_of_pairs (filter (λ p. not (p.1 == b + m)) ps) r b m (λ i l. in_filter (λ p. not (p.1 == b + m)) ps (r, b + i) (h i (omega (arith, l))) (ap not (ne_eqb (b + i) (b + m) (λ e. omega (arith, l, e))))) in
    let both = length-filter_both (λ (p : ℕ × ℕ). p.1 == b + m) (λ p. not (p.1 == b + m)) (λ p. refl) ps in
    omega (arith, here, others, both)

-- with each pair of a block
pub block_of_pairs : (ps : List (ℕ × ℕ)) (low b m n : ℕ) → ((x i : ℕ) → x < n → i < m → Contains ps (low + x, b + i)) → m * n ≤ length ps
block_of_pairs ps low b m zero h = omega arith
block_of_pairs ps low b m (suc n) h =
    let here : m ≤ length (filter (λ p. p.0 == low + n) ps) = row_of_pairs (filter (λ p. p.0 == low + n) ps) (low + n) b m (λ i l. in_filter (λ p. p.0 == low + n) ps (low + n, b + i) (h n i (omega arith) l) (eq-eqb (low + n) (low + n) refl)) in
    let others : m * n ≤ length (filter (λ p. not (p.0 == low + n)) ps) = block_of_pairs (filter (λ p. not (p.0 == low + n)) ps) low b m n (λ x i l k. in_filter (λ p. not (p.0 == low + n)) ps (low + x, b + i) (h x i (omega (arith, l)) k) (ap not (ne_eqb (low + x) (low + n) (λ e. omega (arith, l, e))))) in
    let both = length-filter_both (λ (p : ℕ × ℕ). p.0 == low + n) (λ p. not (p.0 == low + n)) (λ p. refl) ps in
    sums m n (length (filter (λ p. p.0 == low + n) ps)) (length (filter (λ p. not (p.0 == low + n)) ps)) (length ps) here others both
  where
    sums : (m n x y z : ℕ) → m ≤ x → m * n ≤ y → x + y ≡ z → m * suc n ≤ z
    sums m n x y z f g e = omega (arith, f, g, e)

-- ---- sums
-- a part of a sum
pub sum_part : {X : Type 0} (f : X → ℕ) (xs : List X) (x : X) → Contains xs x → f x ≤ sum_by f xs
sum_part f [] x h = absurd (contains_none x h)
sum_part f (y ∷ xs) x h = ⊎_elim (λ e. omega (arith, sum_by-cons f y xs, ap f e)) (λ k. omega (arith, sum_by-cons f y xs, sum_part f xs x k)) (contains_cases y xs x h)

pub sum_both : {X : Type 0} (f g : X → ℕ) (xs : List X) → sum_by (λ x. f x + g x) xs ≡ sum_by f xs + sum_by g xs
sum_both f g [] = refl
sum_both f g (x ∷ xs) = omega (arith, sum_by-cons (λ z. f z + g z) x xs, sum_by-cons f x xs, sum_by-cons g x xs, sum_both f g xs)

pub sum_less : {X : Type 0} (f g : X → ℕ) (xs : List X) → ((x : X) → Contains xs x → f x ≤ g x) → sum_by f xs ≤ sum_by g xs
sum_less f g [] h = omega arith
sum_less f g (x ∷ xs) h = omega (arith, sum_by-cons f x xs, sum_by-cons g x xs, h x (contains_first x xs), sum_less f g xs (λ y k. h y (contains_more x xs y k)))
