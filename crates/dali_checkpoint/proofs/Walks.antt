-- A list of which one element after another is changed.
use Rattle.std.proofs.Common.{◌≡◌, ℕ, zero, suc, ◌+◌, ◌-◌, ◌<◌, List, [], ◌∷◌, Some, None, Option, length, map, take, replicate, refl, ap, sym, ◌∙◌, arith}
use Rattle.std.specs.Prelude.{slice_get, slice_set, slice_index_or, sum_by}
use Rattle.std.proofs.lemmas.List.Sums.{sum_by-cons}
use Rattle.dali_lists.proofs.Options.{some_same}
use Rattle.dali_store.specs.Calls.{fewer, one_less}

-- the first i are as f makes them, the others as g does
abbrev pub walk : {A B : Type 0} → (A → B) → (A → B) → ℕ → List A → List B
walk f g zero xs = map g xs
walk f g (suc i) [] = []
walk f g (suc i) (x ∷ xs) = f x ∷ walk f g i xs

pub walk_get : {A B : Type 0} (f g : A → B) (i : ℕ) (xs : List A) (x : A) → slice_get xs i ≡ Some x → slice_get (walk f g i xs) i ≡ Some (g x)
walk_get f g i [] x e = absurd (cc)
walk_get f g zero (y ∷ ys) x e = ap (λ z. Some (g z)) (some_same e)
walk_get f g (suc i) (y ∷ ys) x e = walk_get f g i ys x e

pub walk_set : {A B : Type 0} (f g : A → B) (i : ℕ) (xs : List A) (x : A) → slice_get xs i ≡ Some x → slice_set (walk f g i xs) i (f x) ≡ walk f g (suc i) xs
walk_set f g i [] x e = absurd (cc)
walk_set f g zero (y ∷ ys) x e = ap (λ z. f z ∷ map g ys) (sym (some_same e))
walk_set f g (suc i) (y ∷ ys) x e = ap (λ l. f y ∷ l) (walk_set f g i ys x e)

pub walk_all : {A B : Type 0} (f g : A → B) (xs : List A) → walk f g (length xs) xs ≡ map f xs
walk_all f g [] = refl
walk_all f g (x ∷ xs) = ap (λ l. f x ∷ l) (walk_all f g xs)

-- an element by its place, whatever its default
pub get_here : {A : Type 0} (xs : List A) (r : ℕ) (d : A) → r < length xs → slice_get xs r ≡ Some (slice_index_or xs r d)
get_here [] r d h = absurd (omega (arith, h))
get_here (x ∷ xs) zero d h = refl
get_here (x ∷ xs) (suc r) d h = get_here xs r d (omega (arith, h))

pub map_length : {A B : Type 0} (g : A → B) (xs : List A) → length (map g xs) ≡ length xs
map_length g [] = refl
map_length g (x ∷ xs) = ap suc (map_length g xs)

pub walk_length : {A B : Type 0} (f g : A → B) (i : ℕ) (xs : List A) → length (walk f g i xs) ≡ length xs
walk_length f g zero xs = map_length g xs
walk_length f g (suc i) [] = refl
walk_length f g (suc i) (x ∷ xs) = ap suc (walk_length f g i xs)

-- what neither changes
map_both : {A B C : Type 0} (g : A → B) (h : B → C) (k : A → C) → ((x : A) → h (g x) ≡ k x) → (xs : List A) → map h (map g xs) ≡ map k xs
map_both g h k e [] = refl
map_both g h k e (x ∷ xs) = ap (λ z. z ∷ map h (map g xs)) (e x) ∙ ap (λ l. k x ∷ l) (map_both g h k e xs)

pub walk_map : {A B C : Type 0} (f g : A → B) (h : B → C) (k : A → C) → ((x : A) → h (f x) ≡ k x) → ((x : A) → h (g x) ≡ k x) → (i : ℕ) (xs : List A) → map h (walk f g i xs) ≡ map k xs
walk_map f g h k ef eg zero xs = map_both g h k eg xs
walk_map f g h k ef eg (suc i) [] = refl
walk_map f g h k ef eg (suc i) (x ∷ xs) = ap (λ z. z ∷ map h (walk f g i xs)) (ef x) ∙ ap (λ l. k x ∷ l) (walk_map f g h k ef eg i xs)

pub map_same : {A C : Type 0} (f : A → A) (h : A → C) → ((x : A) → h (f x) ≡ h x) → (xs : List A) → map h (map f xs) ≡ map h xs
map_same f h e xs = map_both f h h e xs

pub take_all : {A : Type 0} (xs : List A) → take (length xs) xs ≡ xs
take_all [] = refl
take_all (x ∷ xs) = ap (λ l. x ∷ l) (take_all xs)

pub map_none : {A B : Type 0} (b : B) (xs : List A) → map (λ _. b) xs ≡ replicate (length xs) b
map_none b [] = refl
map_none b (x ∷ xs) = ap (λ l. b ∷ l) (map_none b xs)

pub same_length : {A C : Type 0} (h : A → C) (xs ys : List A) → map h ys ≡ map h xs → length ys ≡ length xs
same_length h xs ys e = sym (map_length h ys) ∙ (ap length e ∙ map_length h xs)

-- ---- a sum over the first ones
pub sum_next : {A : Type 0} (f : A → ℕ) (i : ℕ) (xs : List A) (x : A) → slice_get xs i ≡ Some x → sum_by f (take (suc i) xs) ≡ sum_by f (take i xs) + f x
sum_next f i [] x e = absurd (cc)
sum_next f zero (y ∷ ys) x e = ap (λ n. 0 + n) (ap f (some_same e))
sum_next f (suc i) (y ∷ ys) x e =
    let long = sum_by-cons f y (take (suc i) ys) in
    let short = sum_by-cons f y (take i ys) in
    let next = sum_next f i ys x e in
    omega (arith, long, short, next)

-- ---- calls of the store
pub no_calls : (o : Option ℕ) → o ≡ fewer 0 o
no_calls None = refl
no_calls (Some n) = let e : n ≡ n - 0 = omega arith in ap Some e

pub calls_then : (m n : ℕ) (o p q : Option ℕ) → p ≡ fewer m o → q ≡ fewer n p → q ≡ fewer (m + n) o
calls_then m n o p q a b = b ∙ (ap (fewer n) a ∙ both o)
  where
    both : (z : Option ℕ) → fewer n (fewer m z) ≡ fewer (m + n) z
    both None = refl
    both (Some k) = let e : (k - m) - n ≡ k - (m + n) = omega arith in ap Some e

pub one_call : (o : Option ℕ) → one_less o ≡ fewer 1 o
one_call None = refl
one_call (Some n) = refl
