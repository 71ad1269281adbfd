-- Lists of numbers of which each stands once.
--     index_in us t        where t stands
--     owner_in ps t        whom t belongs to
--     owned_by c ps        what belongs to c
use Rattle.std.proofs.Common.{◌≡◌, ℕ, suc, ◌+◌, ◌==◌, Bool, true, false, cond, List, [], ◌∷◌, length, map, Some, refl, sym, ◌∙◌, ap, subst, arith, ⊎_elim}
use Rattle.std.specs.Prelude.{Contains, filter, if◌then◌else◌, slice_get}
use Rattle.std.specs.List.{range_with_len}
use Rattle.std.proofs.lemmas.Bool.{eqb-true, eq-eqb, ne_eqb}
use Rattle.dali_lists.proofs.Members.{contains_first, contains_more, contains_cases, contains_none}
use Rattle.dali_served.specs.Served.{Once}

-- ---- members

-- what stands once isn't what stands behind it
pub apart : (x k : ℕ) (xs : List ℕ) → (Contains xs x → ⊥) → Contains xs k → (x == k) ≡ false
apart x k xs none h = ne_eqb x k (λ e. none (subst (Contains xs) (sym e) h))

-- ---- the same on each member
pub map_same : (f g : ℕ → ℕ) (xs : List ℕ) → ((x : ℕ) → Contains xs x → f x ≡ g x) → map f xs ≡ map g xs
map_same f g [] same = refl
map_same f g (x ∷ xs) same =
    ap (λ y. y ∷ map f xs) (same x (contains_first x xs)) ∙ ap (λ l. g x ∷ l) (map_same f g xs (λ y h. same y (contains_more x y xs h)))

pub filter_same : (p q : ℕ → Bool) (xs : List ℕ) → ((x : ℕ) → Contains xs x → p x ≡ q x) → filter p xs ≡ filter q xs
filter_same p q [] same = refl
filter_same p q (x ∷ xs) same =
    ap (λ b. cond b (x ∷ filter p xs) (filter p xs)) (same x (contains_first x xs))
    ∙ ap (λ l. cond (q x) (x ∷ l) l) (filter_same p q xs (λ y h. same y (contains_more x y xs h)))

-- ---- where a number stands
abbrev pub index_in : List ℕ → ℕ → ℕ
index_in [] t = 0
index_in (u ∷ us) t = if u == t then 0 else suc (index_in us t)

pub numbered : (k : ℕ) (us : List ℕ) → Once us → map (λ t. k + index_in us t) us ≡ range_with_len k (length us)
numbered k [] once = refl
numbered k (u ∷ us) once =
    let here : k + index_in (u ∷ us) u ≡ k = let first = eq-eqb u u refl in rw first (omega arith) in
    let behind = map_same (λ t. k + index_in (u ∷ us) t) (λ t. k + 1 + index_in us t) us (λ t h. one_more t (apart u t us once.0 h)) in
    ap (λ y. y ∷ map (λ t. k + index_in (u ∷ us) t) us) here ∙ ap (λ l. k ∷ l) (behind ∙ numbered (k + 1) us once.1)
  where
    one_more : (t : ℕ) → (u == t) ≡ false → k + index_in (u ∷ us) t ≡ k + 1 + index_in us t
    one_more t e = rw e (omega arith)

pub all_numbered : (us : List ℕ) → Once us → map (index_in us) us ≡ range_with_len 0 (length us)
all_numbered us once = map_same (index_in us) (λ t. 0 + index_in us t) us (λ t h. omega arith) ∙ numbered 0 us once

pub indexed : (us : List ℕ) (t : ℕ) → Contains us t → slice_get us (index_in us t) ≡ Some t
indexed [] t h = absurd (contains_none t h)
indexed (u ∷ us) t h = ⊎_elim (λ e. let same = eq-eqb u t e in rw same (ap (λ (x : ℕ). Some x) e)) (λ g. by_test (u == t) refl (indexed us t g)) (contains_cases u t us h)
  where
    by_test : (b : Bool) → (u == t) ≡ b → slice_get us (index_in us t) ≡ Some t → slice_get (u ∷ us) (index_in (u ∷ us) t) ≡ Some t
    by_test true e g = let same : u ≡ t = eqb-true u t e in rw e (ap (λ (x : ℕ). Some x) same)
    by_test false e g = rw e g

-- ---- whose a number is
abbrev pub owner_in : List (ℕ × ℕ) → ℕ → ℕ
owner_in [] t = 0
owner_in (p ∷ ps) t = if p.0 == t then p.1 else owner_in ps t

abbrev pub firsts : List (ℕ × ℕ) → List ℕ
firsts ps = map (λ (p : ℕ × ℕ). p.0) ps

abbrev pub owned_by : ℕ → List (ℕ × ℕ) → List ℕ
owned_by c ps = firsts (filter (λ (p : ℕ × ℕ). p.1 == c) ps)

pub by_owner : (c : ℕ) (ps : List (ℕ × ℕ)) → Once (firsts ps) → filter (λ t. owner_in ps t == c) (firsts ps) ≡ owned_by c ps
by_owner c [] once = refl
by_owner c (p ∷ ps) once =
    let first : owner_in (p ∷ ps) p.0 ≡ p.1 = let same = eq-eqb p.0 p.0 refl in rw same refl in
    let behind = filter_same (λ t. owner_in (p ∷ ps) t == c) (λ t. owner_in ps t == c) (firsts ps) (λ t h. ap (λ o. o == c) (other t (apart p.0 t (firsts ps) once.0 h))) in
    ap (λ o. cond (o == c) (p.0 ∷ filter (λ t. owner_in (p ∷ ps) t == c) (firsts ps)) (filter (λ t. owner_in (p ∷ ps) t == c) (firsts ps))) first
    ∙ (ap (λ l. cond (p.1 == c) (p.0 ∷ l) l) (behind ∙ by_owner c ps once.1) ∙ chosen (p.1 == c))
  where
    other : (t : ℕ) → (p.0 == t) ≡ false → owner_in (p ∷ ps) t ≡ owner_in ps t
    other t e = rw e refl

    chosen : (b : Bool) → cond b (p.0 ∷ owned_by c ps) (owned_by c ps) ≡ firsts (cond b (p ∷ filter (λ (q : ℕ × ℕ). q.1 == c) ps) (filter (λ (q : ℕ × ℕ). q.1 == c) ps))
    chosen true = refl
    chosen false = refl

-- ---- members of a filter
pub filtered_in : (p : ℕ → Bool) (xs : List ℕ) (t : ℕ) → Contains xs t → p t ≡ true → Contains (filter p xs) t
filtered_in p [] t h e = absurd (contains_none t h)
filtered_in p (x ∷ xs) t h e = ⊎_elim (λ same. here (p x) (ap p same ∙ e) same) (λ g. behind (p x) (filtered_in p xs t g e)) (contains_cases x t xs h)
  where
    here : (b : Bool) → b ≡ true → x ≡ t → Contains (cond b (x ∷ filter p xs) (filter p xs)) t
    here true f same = subst (Contains (x ∷ filter p xs)) same (contains_first x (filter p xs))
    here false f same = absurd cc

    behind : (b : Bool) → Contains (filter p xs) t → Contains (cond b (x ∷ filter p xs) (filter p xs)) t
    behind true g = contains_more x t (filter p xs) g
    behind false g = g

pub in_filter : (p : ℕ → Bool) (xs : List ℕ) (t : ℕ) → Contains (filter p xs) t → (p t ≡ true) × Contains xs t
in_filter p [] t h = absurd (contains_none t h)
in_filter p (x ∷ xs) t h = by_test (λ g. in_filter p xs t g) (p x) refl h
  where
    later : (p t ≡ true) × Contains xs t → (p t ≡ true) × Contains (x ∷ xs) t
    later g = (g.0, contains_more x t xs g.1)

    by_test : (Contains (filter p xs) t → (p t ≡ true) × Contains xs t) → (b : Bool) → p x ≡ b → Contains (cond b (x ∷ filter p xs) (filter p xs)) t → (p t ≡ true) × Contains (x ∷ xs) t
    by_test ih true e h = ⊎_elim (λ same. (ap p (sym same) ∙ e, subst (Contains (x ∷ xs)) same (contains_first x xs))) (λ g. later (ih g)) (contains_cases x t (filter p xs) h)
    by_test ih false e h = later (ih h)

-- a part of what stands once stands once
pub once_filter : (p : ℕ → Bool) (xs : List ℕ) → Once xs → Once (filter p xs)
once_filter p [] once = tt
once_filter p (x ∷ xs) once = by_test (once_filter p xs once.1) (p x)
  where
    by_test : Once (filter p xs) → (b : Bool) → Once (cond b (x ∷ filter p xs) (filter p xs))
    by_test ih true = (λ h. once.0 (in_filter p xs x h).1, ih)
    by_test ih false = ih
