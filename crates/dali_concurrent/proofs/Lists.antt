-- Lists, their fronts, and what is picked of them.
use Rattle.std.proofs.Common.{◌≡◌, ℕ, zero, suc, ◌+◌, ◌<◌, ◌≤◌, List, [], ◌∷◌, ◌++◌, length, Option, Some, None, refl, ap, sym, subst, ◌∙◌, ◌⊎◌, inl, inr, arith}
use Rattle.std.specs.Prelude.{slice_get, take, filter_map, fold}
use Rattle.std.specs.List.{cons_option}
use Rattle.dali_lists.proofs.Lists.{get_within}

pub take_all : {X : Type 0} (xs : List X) → take (length xs) xs ≡ xs
take_all [] = refl
take_all (x ∷ xs) = ap (λ l. x ∷ l) (take_all xs)

pub take_length : {X : Type 0} (xs ys : List X) → take (length xs) (xs ++ ys) ≡ xs
take_length [] [] = refl
take_length [] (y ∷ ys) = refl
take_length (x ∷ xs) ys = ap (λ l. x ∷ l) (take_length xs ys)

pub take_more : {X : Type 0} (n : ℕ) (xs : List X) (x : X) → slice_get xs n ≡ Some x → take (suc n) xs ≡ take n xs ++ x ∷ []
take_more n [] x e = absurd (cc)
take_more zero (y ∷ xs) x e = let same : y ≡ x = some e in ap (λ z. z ∷ take zero xs) same ∙ ap (λ l. x ∷ l) (none xs)
  where
    some : {X : Type 0} {a b : X} → Some a ≡ Some b → a ≡ b
    some f = cc

    none : {X : Type 0} (zs : List X) → take zero zs ≡ []
    none [] = refl
    none (z ∷ zs) = refl
take_more (suc n) (y ∷ xs) x e = ap (λ l. y ∷ l) (take_more n xs x e)

-- an element of a front, and the front before it
pub get_taken : {X : Type 0} (n : ℕ) (xs : List X) (i : ℕ) (x : X) → slice_get (take n xs) i ≡ Some x → (slice_get xs i ≡ Some x) × (take i (take n xs) ≡ take i xs) × (i < n)
get_taken zero [] i x e = absurd (cc)
get_taken zero (y ∷ xs) i x e = absurd (cc)
get_taken (suc n) [] i x e = absurd (cc)
get_taken (suc n) (y ∷ xs) zero x e = (e, refl, omega arith)
get_taken (suc n) (y ∷ xs) (suc i) x e = let w = get_taken n xs i x e in (w.0, ap (λ l. y ∷ l) w.1, omega (arith, w.2))

-- of the front A
pub get_of_front : {X : Type 0} (A B : List X) (i : ℕ) (x : X) → slice_get A i ≡ Some x → (slice_get (A ++ B) i ≡ Some x) × (take i (A ++ B) ≡ take i A)
get_of_front [] B i x e = absurd (cc)
get_of_front (y ∷ A) B zero x e = (e, refl)
get_of_front (y ∷ A) B (suc i) x e = let w = get_of_front A B i x e in (w.0, ap (λ l. y ∷ l) w.1)

-- it stands in A, or behind it
pub get_sides : {X : Type 0} (A B : List X) (i : ℕ) (x : X) → slice_get (A ++ B) i ≡ Some x → (slice_get A i ≡ Some x) ⊎ ((j : ℕ) × (slice_get B j ≡ Some x) × (i ≡ length A + j))
get_sides [] B i x e = inr (i, e, omega arith)
get_sides (y ∷ A) B zero x e = inl e
get_sides (y ∷ A) B (suc i) x e = further y A B i x (get_sides A B i x e)
  where
    further : {X : Type 0} (y : X) (A B : List X) (i : ℕ) (x : X) → (slice_get A i ≡ Some x) ⊎ ((j : ℕ) × (slice_get B j ≡ Some x) × (i ≡ length A + j)) → (slice_get (y ∷ A) (suc i) ≡ Some x) ⊎ ((j : ℕ) × (slice_get B j ≡ Some x) × (suc i ≡ length (y ∷ A) + j))
    further y A B i x (inl h) = inl h
    further y A B i x (inr (j, h, k)) = inr (j, h, omega (arith, k))

pub get_back_of : {X : Type 0} (A B : List X) (j : ℕ) → slice_get (A ++ B) (length A + j) ≡ slice_get B j
get_back_of {X = X} [] B j = ap (slice_get B) (let h : length {0} {A = X} [] + j ≡ j = omega arith in h)
get_back_of (y ∷ A) B j = ap (slice_get (y ∷ (A ++ B))) (let h : length (y ∷ A) + j ≡ suc (length A + j) = omega arith in h) ∙ get_back_of A B j

-- ---- what is picked
pub filter_map-none : {X Y : Type 0} (f : X → Option Y) (xs : List X) → ((i : ℕ) (x : X) → slice_get xs i ≡ Some x → f x ≡ None) → filter_map f xs ≡ []
filter_map-none f [] h = refl
filter_map-none f (x ∷ xs) h = ap (λ o. cons_option o (filter_map f xs)) (h zero x refl) ∙ filter_map-none f xs (λ i y e. h (suc i) y e)

pub fold-same : {X S : Type 0} (f : S → X → S) (s : S) (xs : List X) → ((i : ℕ) (x : X) (t : S) → slice_get xs i ≡ Some x → f t x ≡ t) → fold f s xs ≡ s
fold-same f s [] h = refl
fold-same f s (x ∷ xs) h = ap (λ t. fold f t xs) (h zero x s refl) ∙ fold-same f s xs (λ i y t e. h (suc i) y t e)

-- ---- by induction on the fronts of a list
module _ {X : Type 0} (F : List X → X → Type 0) where
  abbrev pub EachOne : List X → Type 0
  EachOne T = (i : ℕ) (x : X) → slice_get T i ≡ Some x → F (take i T) x

  pub each_take : (n : ℕ) (T : List X) → EachOne T → EachOne (take n T)
  each_take n T all i x e = let w = get_taken n T i x e in subst (λ P. F P x) (sym w.1) (all i x w.0)

  pub each_front : (A B : List X) → EachOne (A ++ B) → EachOne A
  each_front A B all i x e = let w = get_of_front A B i x e in subst (λ P. F P x) w.1 (all i x w.0)

  module _ (Q : List X → Type 0) (first : Q []) (more : (A : List X) (x : X) → EachOne A → F A x → Q A → Q (A ++ x ∷ [])) where
    upto : (T : List X) → EachOne T → (n : ℕ) → n ≤ length T → Q (take n T)
    upto T all zero h = none T
      where
        none : (T : List X) → Q (take zero T)
        none [] = first
        none (x ∷ T) = first
    upto T all (suc n) h =
        let w = get_within T n (omega (arith, h)) in
        subst Q (sym (take_more n T w.0 w.1)) (more (take n T) w.0 (each_take n T all) (all n w.0 w.1) (upto T all n (omega (arith, h))))

    pub by_fronts : (T : List X) → EachOne T → Q T
    by_fronts T all = subst Q (take_all T) (upto T all (length T) (omega arith))
