-- Lists that are changed or read at one place.
use Rattle.std.proofs.Common.{◌≡◌, ℕ, zero, suc, ◌+◌, ◌<◌, Bool, true, List, [], ◌∷◌, ◌++◌, length, map, Some, refl, ap, sym, subst, ◌∙◌, ◌⊎◌, inl, inr, ⊎_elim, arith}
use Rattle.std.specs.Prelude.{slice_get, slice_set}
use Rattle.std.specs.List.{list_all}
use Rattle.std.proofs.lemmas.Bool.{and_from}
use Rattle.dali_runs.proofs.CountsLemmas.Lists.{some_same, and_left, and_right, set_cases}

-- what is below the next number is below this one, or is it
pub by_less : (a b : ℕ) → a < b + 1 → (a < b) ⊎ (a ≡ b)
by_less zero zero h = inr refl
by_less zero (suc b) h = inl (omega arith)
by_less (suc a) zero h = absurd (omega (arith, h))
by_less (suc a) (suc b) h = ⊎_elim (λ l. inl (omega (arith, l))) (λ e. inr (ap suc e)) (by_less a b (omega (arith, h)))

pub get_map : {X Y : Type 0} (f : X → Y) (xs : List X) (i : ℕ) (x : X) → slice_get xs i ≡ Some x → slice_get (map f xs) i ≡ Some (f x)
get_map f [] i x e = absurd (cc)
get_map f (y ∷ xs) zero x e = ap (λ z. Some (f z)) (some_same e)
get_map f (y ∷ xs) (suc i) x e = get_map f xs i x e

pub map_set : {X Y : Type 0} (f : X → Y) (xs : List X) (i : ℕ) (x y : X) → slice_get xs i ≡ Some x → f y ≡ f x → map f (slice_set xs i y) ≡ map f xs
map_set f [] i x y e same = absurd (cc)
map_set f (z ∷ xs) zero x y e same = ap (λ c. c ∷ map f xs) (same ∙ ap f (sym (some_same e)))
map_set f (z ∷ xs) (suc i) x y e same = ap (λ l. f z ∷ l) (map_set f xs i x y e same)

pub get_set_other : {X : Type 0} (xs : List X) (i j : ℕ) (x y : X) → (j ≡ i → ⊥) → slice_get xs j ≡ Some x → slice_get (slice_set xs i y) j ≡ Some x
get_set_other [] i j x y other e = absurd (cc)
get_set_other (z ∷ xs) zero zero x y other e = absurd (other refl)
get_set_other (z ∷ xs) zero (suc j) x y other e = e
get_set_other (z ∷ xs) (suc i) zero x y other e = e
get_set_other (z ∷ xs) (suc i) (suc j) x y other e = get_set_other xs i j x y (λ f. other (ap suc f)) e

-- what is so of each place of two lists stays so where both are set at one place
pub both_set : {X Y : Type 0} (P : ℕ → X → Y → Type 0) (xs : List X) (ys : List Y) (i : ℕ) (a : X) (b : Y) → P i a b
    → ((n : ℕ) (x : X) (y : Y) → slice_get xs n ≡ Some x → slice_get ys n ≡ Some y → (n ≡ i → ⊥) → P n x y)
    → (n : ℕ) (x : X) (y : Y) → slice_get (slice_set xs i a) n ≡ Some x → slice_get (slice_set ys i b) n ≡ Some y → P n x y
both_set P xs ys i a b set others n x y at_x at_y =
    ⊎_elim
    (λ here. ⊎_elim
    (λ also. subst (λ m. P n x m) (sym also.1) (subst (λ d. P n d b) (sym here.1) (subst (λ m. P m a b) (sym here.0) set)))
    (λ away. absurd (away.0 (sym here.0)))
    (set_cases ys i b n y at_y))
    (λ away. ⊎_elim
    (λ here. absurd (away.0 (sym here.0)))
    (λ also. others n x y away.1 also.1 (λ e. away.0 (sym e)))
    (set_cases ys i b n y at_y))
    (set_cases xs i a n x at_x)

-- lists of one length, of which one has an element where the other has one
pub with_length : {X Y : Type 0} (xs : List X) (ys : List Y) (i : ℕ) (y : Y) → length ys ≡ length xs → slice_get ys i ≡ Some y → (x : X) × (slice_get xs i ≡ Some x)
with_length [] [] i y e f = absurd (cc)
with_length [] (z ∷ ys) i y e f = absurd (omega (arith, e))
with_length (x ∷ xs) [] i y e f = absurd (cc)
with_length (x ∷ xs) (z ∷ ys) zero y e f = (x, refl)
with_length (x ∷ xs) (z ∷ ys) (suc i) y e f = with_length xs ys i y (omega (arith, e)) f

pub same_map : {X Y Z : Type 0} (f : X → Z) (g : Y → Z) (xs : List X) (ys : List Y) → length ys ≡ length xs → ((i : ℕ) (x : X) (y : Y) → slice_get xs i ≡ Some x → slice_get ys i ≡ Some y → g y ≡ f x) → map g ys ≡ map f xs
same_map f g [] [] e same = refl
same_map f g [] (y ∷ ys) e same = absurd (omega (arith, e))
same_map f g (x ∷ xs) [] e same = absurd (omega (arith, e))
same_map f g (x ∷ xs) (y ∷ ys) e same = ap (λ c. c ∷ map g ys) (same zero x y refl refl) ∙ ap (λ l. f x ∷ l) (same_map f g xs ys (omega (arith, e)) (λ i a b at_a at_b. same (suc i) a b at_a at_b))

pub all_append : {X : Type 0} (f : X → Bool) (xs ys : List X) → list_all f xs ≡ true → list_all f ys ≡ true → list_all f (xs ++ ys) ≡ true
all_append f [] ys e g = g
all_append f (x ∷ xs) ys e g = and_from (f x) (list_all f (xs ++ ys)) (and_left (f x) (list_all f xs) e) (all_append f xs ys (and_right (f x) (list_all f xs) e) g)
