-- Which numbers stand in a list.
use Rattle.std.proofs.Common.{◌≡◌, ℕ, Bool, true, false, List, [], ◌∷◌, ◌++◌, Some, refl, ap, sym, subst, ◌∙◌, ◌⊎◌, ⊎_elim}
use Rattle.std.specs.Prelude.{Contains, ◌==◌, ◌||◌, filter, fold}
use Rattle.std.proofs.lemmas.List.Folds.{list_any-append}
use Rattle.std.proofs.lemmas.Bool.Decides.{Decides-eqb}
use Rattle.std.proofs.lemmas.Bool.{or_cases, or_left, or_right, both_ways}
use Rattle.std.proofs.lemmas.Map.Keys.{any_passes_from_place}
use Rattle.dali_lists.proofs.Members.{contains_from_get}
use Rattle.dali_record.specs.Damage.{has}
use Rattle.dali_record.proofs.Chains.{any_get}
use Rattle.dali_history.proofs.Places.{get_from_Contains}

-- a number is in the one list or in the other
pub has_append : (xs ys : List ℕ) (t : ℕ) → has (xs ++ ys) t ≡ (has xs t || has ys t)
has_append xs ys t = list_any-append (λ x. x == t) xs ys

-- the elements that pass are among all
pub has-filter : (p : ℕ → Bool) (xs : List ℕ) (t : ℕ) → has (filter p xs) t ≡ true → (has xs t ≡ true) × (p t ≡ true)
has-filter p [] t h = absurd (both_ways false refl h)
has-filter p (x ∷ xs) t h = by_test (λ g. let r = has-filter p xs t g in (or_right (x == t) (has xs t) r.0, r.1)) (p x) refl
  where
    by_test : (has (filter p xs) t ≡ true → (has (x ∷ xs) t ≡ true) × (p t ≡ true)) → (b : Bool) → p x ≡ b → (has (x ∷ xs) t ≡ true) × (p t ≡ true)
    by_test later true e =
        let g : ((x == t) || has (filter p xs) t) ≡ true = rw e at h in
        ⊎_elim (λ k. (or_left (x == t) (has xs t) k, subst (λ y. p y ≡ true) ((Decides-eqb x t).0 k) e)) later (or_cases (x == t) (has (filter p xs) t) g)
    by_test later false e = later (rw e at h)

pub here_too : (x : ℕ) (xs : List ℕ) → has (x ∷ xs) x ≡ true
here_too x xs = or_left (x == x) (has xs x) ((Decides-eqb x x).1 refl)

-- steps that agree at each element lead to the same
pub fold_within : {X : Type 0} (f g : X → ℕ → X) (xs : List ℕ) → ((t : ℕ) → has xs t ≡ true → (x : X) → f x t ≡ g x t) → (x : X) → fold f x xs ≡ fold g x xs
fold_within f g [] agree x = refl
fold_within f g (t ∷ ts) agree x = ap (λ y. fold f y ts) (agree t (here_too t ts) x) ∙ fold_within f g ts (λ u h. agree u (or_right (t == u) (has ts u) h)) (g x t)

-- ---- what is contained
-- and an element passes the test exactly where the list contains it
pub Contains-from_has : (xs : List ℕ) (t : ℕ) → has xs t ≡ true → Contains xs t
Contains-from_has xs t h =
    let g = any_get (λ x. x == t) xs h in
    contains_from_get xs g.0 t (g.2 ∙ ap (λ x. Some x) ((Decides-eqb g.1 t).0 g.3))

-- what a list contains passes the test
pub has_from_Contains : (xs : List ℕ) (t : ℕ) → Contains xs t → has xs t ≡ true
has_from_Contains xs t c = let g = get_from_Contains xs t c in any_passes_from_place (λ x. x == t) xs g.0 t g.1 ((Decides-eqb t t).1 refl)

-- an element that passes stays
pub has-filter_from : (p : ℕ → Bool) (xs : List ℕ) (t : ℕ) → has xs t ≡ true → p t ≡ true → has (filter p xs) t ≡ true
has-filter_from p [] t h g = h
has-filter_from p (x ∷ xs) t h g = by_test (λ k. has-filter_from p xs t k g) (p x) refl (or_cases (x == t) (has xs t) h)
  where
    by_test : (has xs t ≡ true → has (filter p xs) t ≡ true) → (b : Bool) → p x ≡ b → ((x == t) ≡ true) ⊎ (has xs t ≡ true) → has (filter p (x ∷ xs)) t ≡ true
    by_test later true e c = rw e (⊎_elim (λ k. or_left (x == t) (has (filter p xs) t) k) (λ k. or_right (x == t) (has (filter p xs) t) (later k)) c)
    by_test later false e c =
        rw e (⊎_elim (λ k. let same : p x ≡ true = subst (λ y. p y ≡ true) (sym ((Decides-eqb x t).0 k)) g in absurd (both_ways (p x) e same)) later c)
