-- Places of a list, its front and its end, and two lists element by element.
use Rattle.std.proofs.Common.{◌≡◌, ◌≢◌, ℕ, zero, suc, ◌+◌, ◌<◌, ◌≤◌, Bool, true, false, cond, List, [], ◌∷◌, ◌++◌, length, take, drop, get_or, filter, map, Some, ◌⊎◌, inl, inr, ⊎_elim, refl, ap, sym, subst, ◌∙◌, arith}
use Rattle.std.specs.Prelude.{slice_get, slice_set}
use Rattle.std.proofs.lemmas.List.{length-map}

-- ---- the element at a place
pub get_within : {X : Type 0} (xs : List X) (i : ℕ) → i < length xs → (x : X) × (slice_get xs i ≡ Some x)
get_within [] i h = absurd (omega (arith, h))
get_within (x ∷ xs) zero h = (x, refl)
get_within (x ∷ xs) (suc i) h = get_within xs i (omega (arith, h))

pub get_front : {X : Type 0} (xs ys : List X) (i : ℕ) (x : X) → slice_get xs i ≡ Some x → slice_get (xs ++ ys) i ≡ Some x
get_front [] ys i x e = absurd cc
get_front (z ∷ xs) ys zero x e = e
get_front (z ∷ xs) ys (suc i) x e = get_front xs ys i x e

pub get_append_cases : {X : Type 0} (xs ys : List X) (i : ℕ) (x : X) → slice_get (xs ++ ys) i ≡ Some x → (slice_get xs i ≡ Some x) ⊎ ((j : ℕ) × (slice_get ys j ≡ Some x))
get_append_cases [] ys i x e = inr (i, e)
get_append_cases (z ∷ xs) ys zero x e = inl e
get_append_cases (z ∷ xs) ys (suc i) x e = get_append_cases xs ys i x e

pub get_push : {X : Type 0} (xs : List X) (x : X) → slice_get (xs ++ x ∷ []) (length xs) ≡ Some x
get_push [] x = refl
get_push (y ∷ xs) x = get_push xs x

pub get_behind : {X : Type 0} (xs : List X) (x : X) (ys : List X) → slice_get (xs ++ x ∷ ys) (length xs) ≡ Some x
get_behind [] x ys = refl
get_behind (z ∷ xs) x ys = get_behind xs x ys

pub get_take : {X : Type 0} (n i : ℕ) (xs : List X) → i < n → slice_get (take n xs) i ≡ slice_get xs i
get_take zero i xs h = absurd (omega (arith, h))
get_take (suc n) i [] h = refl
get_take (suc n) zero (x ∷ xs) h = refl
get_take (suc n) (suc i) (x ∷ xs) h = get_take n i xs (omega (arith, h))

pub get_drop : {X : Type 0} (n i : ℕ) (xs : List X) → slice_get (drop n xs) i ≡ slice_get xs (n + i)
get_drop zero i xs = let same : i ≡ 0 + i = omega arith in ap (slice_get xs) same
get_drop (suc n) i [] = refl
get_drop (suc n) i (x ∷ xs) = let same : suc (n + i) ≡ suc n + i = omega arith in get_drop n i xs ∙ ap (slice_get (x ∷ xs)) same

pub past_is_zero : (xs : List ℕ) (i : ℕ) → length xs ≤ i → get_or xs i 0 ≡ 0
past_is_zero [] i h = refl
past_is_zero (x ∷ xs) zero h = absurd (omega (arith, h))
past_is_zero (x ∷ xs) (suc i) h = past_is_zero xs i (omega (arith, h))

-- ---- a list with one place set
pub set_same : {X : Type 0} (xs : List X) (i : ℕ) (x : X) → slice_get xs i ≡ Some x → slice_set xs i x ≡ xs
set_same [] i x e = refl
set_same (z ∷ xs) zero x e = let same : z ≡ x = cc in ap (λ y. y ∷ xs) (sym same)
set_same (z ∷ xs) (suc i) x e = ap (λ l. z ∷ l) (set_same xs i x e)

pub set_twice : {X : Type 0} (xs : List X) (i : ℕ) (x y : X) → slice_set (slice_set xs i x) i y ≡ slice_set xs i y
set_twice [] i x y = refl
set_twice (z ∷ xs) zero x y = refl
set_twice (z ∷ xs) (suc i) x y = ap (λ l. z ∷ l) (set_twice xs i x y)

pub get_set : {X : Type 0} (xs : List X) (i : ℕ) (x y : X) → slice_get xs i ≡ Some x → slice_get (slice_set xs i y) i ≡ Some y
get_set [] i x y e = absurd cc
get_set (z ∷ xs) zero x y e = refl
get_set (z ∷ xs) (suc i) x y e = get_set xs i x y e

pub get_set_other : {X : Type 0} (xs : List X) (i : ℕ) (x : X) (j : ℕ) → i ≢ j → slice_get (slice_set xs i x) j ≡ slice_get xs j
get_set_other [] i x j h = refl
get_set_other (z ∷ xs) zero x zero h = absurd (h refl)
get_set_other (z ∷ xs) zero x (suc j) h = refl
get_set_other (z ∷ xs) (suc i) x zero h = refl
get_set_other (z ∷ xs) (suc i) x (suc j) h = get_set_other xs i x j (λ same. h (ap suc same))

pub set_cases : {X : Type 0} (xs : List X) (i : ℕ) (y : X) (j : ℕ) (x : X) → slice_get (slice_set xs i y) j ≡ Some x → ((j ≡ i) × (x ≡ y)) ⊎ ((i ≢ j) × (slice_get xs j ≡ Some x))
set_cases [] i y j x e = absurd cc
set_cases (z ∷ xs) zero y zero x e = inl (refl, cc)
set_cases (z ∷ xs) zero y (suc j) x e = inr (λ f. absurd (omega (arith, f)), e)
set_cases (z ∷ xs) (suc i) y zero x e = inr (λ f. absurd (omega (arith, f)), e)
set_cases (z ∷ xs) (suc i) y (suc j) x e = ⊎_elim (λ p. inl (ap suc p.0, p.1)) (λ p. inr (λ f. p.0 (omega (arith, f)), p.1)) (set_cases xs i y j x e)

-- ---- element by element
-- each one of the second list has become of the one of the first at its place
abbrev pub EachFrom : {X : Type 0} → (X → X → Type 0) → List X → List X → Type 0
EachFrom {X} R xs ys = (i : ℕ) (y : X) → slice_get ys i ≡ Some y → (x : X) × (slice_get xs i ≡ Some x) × R x y

pub each_same : {X : Type 0} (R : X → X → Type 0) (xs : List X) → ((x : X) → R x x) → EachFrom R xs xs
each_same R xs same i y e = (y, e, same y)

pub each_set : {X : Type 0} (R : X → X → Type 0) (xs : List X) (i : ℕ) (x y : X) → ((z : X) → R z z) → slice_get xs i ≡ Some x → R x y → EachFrom R xs (slice_set xs i y)
each_set R xs i x y same at is j z e = ⊎_elim
    (λ here. (x, ap (slice_get xs) here.0 ∙ at, subst (R x) (sym here.1) is))
    (λ there. (z, there.1, same z))
    (set_cases xs i y j z e)

pub each_then : {X : Type 0} (R : X → X → Type 0) (xs ys zs : List X) → ((x y z : X) → R x y → R y z → R x z) → EachFrom R xs ys → EachFrom R ys zs → EachFrom R xs zs
each_then R xs ys zs join one two i z e =
    let y = two i z e in
    let x = one i y.0 y.1 in
    (x.0, x.1, join x.0 y.0 z x.2 y.2)

-- ---- front and end
pub push-not_nil : {X : Type 0} (xs : List X) (x : X) → xs ++ x ∷ [] ≡ [] → ⊥
push-not_nil [] x e = cc
push-not_nil (z ∷ xs) x e = cc

pub drop_front : {X : Type 0} (xs ys : List X) → drop (length xs) (xs ++ ys) ≡ ys
drop_front [] ys = refl
drop_front (x ∷ xs) ys = drop_front xs ys

pub length_take : {X : Type 0} (n : ℕ) (xs : List X) → length (take n xs) ≤ n
length_take zero xs = omega arith
length_take (suc n) [] = omega arith
length_take (suc n) (x ∷ xs) = omega (arith, length_take n xs)

pub take_further : {X : Type 0} (m n : ℕ) (xs ys : List X) → m ≤ n → (zs : List X) × (take n (xs ++ ys) ≡ take m xs ++ zs)
take_further zero n xs ys h = (take n (xs ++ ys), refl)
take_further (suc m) zero xs ys h = absurd (omega (arith, h))
take_further (suc m) (suc n) [] ys h = (take (suc n) ys, refl)
take_further (suc m) (suc n) (x ∷ xs) ys h = let w = take_further m n xs ys (omega (arith, h)) in (w.0, ap (λ l. x ∷ l) w.1)

pub length_take_least : {X : Type 0} (k m : ℕ) (xs : List X) → k ≤ m → k ≤ length xs → k ≤ length (take m xs)
length_take_least zero m xs h g = omega arith
length_take_least (suc k) zero xs h g = absurd (omega (arith, h))
length_take_least (suc k) (suc m) [] h g = absurd (omega (arith, g))
length_take_least (suc k) (suc m) (x ∷ xs) h g = let w = length_take_least k m xs (omega (arith, h)) (omega (arith, g)) in omega (arith, w)

pub length_filter : {X : Type 0} (p : X → Bool) (xs : List X) → length (filter p xs) ≤ length xs
length_filter p [] = omega arith
length_filter p (x ∷ xs) = by_test (p x) (length_filter p xs)
  where
    by_test : (c : Bool) → length (filter p xs) ≤ length xs → length (cond c (x ∷ filter p xs) (filter p xs)) ≤ suc (length xs)
    by_test true h = omega (arith, h)
    by_test false h = omega (arith, h)

pub length_of_halves : (f g : List ℕ → List ℕ) (n : ℕ) (xs : List (List ℕ)) → length (map f (take n xs) ++ map g (drop n xs)) ≡ length xs
length_of_halves f g zero xs = length-map xs g
length_of_halves f g (suc n) [] = refl
length_of_halves f g (suc n) (x ∷ xs) = ap suc (length_of_halves f g n xs)
