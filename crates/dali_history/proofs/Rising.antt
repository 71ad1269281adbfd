-- Numbers that rise, lists that rise and have the same ones, and the keys of a map.
--     Up xs                    each number of xs is below all later ones
use Rattle.std.proofs.Common.{◌≡◌, ℕ, suc, ◌<◌, ◌≤◌, Bool, true, false, cond, List, [], ◌∷◌, map, refl, ap, sym, subst, ◌∙◌, ⊎_elim, arith}
use Rattle.std.specs.Prelude.{◌==◌, ◌||◌, ⊤, T, is_some, filter}
use Rattle.std.specs.List.{AllByRecursion, AllPairs, list_any}
use Rattle.std.specs.List.Sorted.{IsStrictlyIncreasing}
use Rattle.std.proofs.Math.Path.{fun_ext}
use Rattle.std.specs.FinMap as finite
use Rattle.std.specs.FinMap.{FinMap}
use Rattle.std.specs.FinMap.Entries.{is_sorted, below_all}
use Rattle.std.specs.Ordering.{nat_cmp, eq_by_cmp}
use Rattle.std.specs.Cmp.{nat_cmp_total, eq_by_cmp_equiv, unsigned_tied}
use Rattle.std.proofs.lemmas.Bool.{or_cases, eqb-true, true≢false}
use Rattle.std.proofs.lemmas.List.Kept.{AllPairs-from_increasing}
use Rattle.dali_lists.proofs.Members.{all_greater}
use Rattle.dali_lists.proofs.Numbers.{cmp_less}
use Rattle.dali_lists.proofs.Tests.{T_left, T_right}
use Rattle.dali_record.specs.Damage.{has}
use Rattle.dali_history.proofs.Members.{here_too}

abbrev pub Up : List ℕ → Type 0
Up [] = ⊤
Up (x ∷ xs) = AllByRecursion (λ y. x < y) xs × Up xs

up_from_pairs : (xs : List ℕ) → AllPairs (λ x y. x < y) xs → Up xs
up_from_pairs [] h = tt
up_from_pairs (x ∷ xs) h = (all_greater x xs (λ j l. h 0 (suc j) 0 (omega arith) (omega (arith, l))), up_from_pairs xs (λ i j d a b. h (suc i) (suc j) d (omega (arith, a)) (omega (arith, b))))

pub up_from : (xs : List ℕ) → IsStrictlyIncreasing xs → Up xs
up_from xs h = up_from_pairs xs (AllPairs-from_increasing xs h)

pub above : (x : ℕ) (xs : List ℕ) (t : ℕ) → AllByRecursion (λ y. x < y) xs → has xs t ≡ true → x < t
above x [] t all h = absurd (cc)
above x (y ∷ ys) t all h = ⊎_elim (λ s. subst (λ (z : ℕ). x < z) (eqb-true y t s) all.0) (λ k. above x ys t all.1 k) (or_cases (y == t) (has ys t) h)

pub not_below : (x : ℕ) (xs : List ℕ) (t : ℕ) → AllByRecursion (λ y. x < y) xs → t ≤ x → has xs t ≡ false
not_below x xs t all low = by_test (has xs t) refl
  where
    by_test : (b : Bool) → has xs t ≡ b → has xs t ≡ false
    by_test false e = e
    by_test true e = let up : x < t = above x xs t all e in absurd (omega (arith, up, low))

-- ---- lists that rise and have the same numbers
same_head : (x : ℕ) (xs : List ℕ) (y : ℕ) (ys : List ℕ) → Up (x ∷ xs) → Up (y ∷ ys) → ((t : ℕ) → has (x ∷ xs) t ≡ has (y ∷ ys) t) → x ≡ y
same_head x xs y ys up vp same =
    ⊎_elim
    (λ e. sym (eqb-true y x e))
    (λ k. ⊎_elim (λ e. eqb-true x y e) (λ j. absurd (omega (arith, above y ys x vp.0 k, above x xs y up.0 j))) (or_cases (x == y) (has xs y) (same y ∙ here_too y ys)))
    (or_cases (y == x) (has ys x) (sym (same x) ∙ here_too x xs))

pub same_up : (xs ys : List ℕ) → Up xs → Up ys → ((t : ℕ) → has xs t ≡ has ys t) → xs ≡ ys
same_up [] [] up vp same = refl
same_up [] (y ∷ ys) up vp same = absurd (true≢false (sym (here_too y ys) ∙ sym (same y)))
same_up (x ∷ xs) [] up vp same = absurd (true≢false (sym (here_too x xs) ∙ same x))
same_up (x ∷ xs) (y ∷ ys) up vp same =
    let one : x ≡ y = same_head x xs y ys up vp same in
    ap (λ (z : ℕ). z ∷ xs) one ∙ ap (λ (l : List ℕ). y ∷ l) (same_up xs ys up.1 vp.1 (λ t. by_test one t (x == t) refl))
  where
    by_test : x ≡ y → (t : ℕ) (b : Bool) → (x == t) ≡ b → has xs t ≡ has ys t
    by_test one t true e =
        let at : x ≡ t = eqb-true x t e in
        ap (λ (z : ℕ). has xs z) (sym at) ∙ not_below x xs x up.0 (omega arith) ∙ sym (ap (λ (z : ℕ). has ys z) (sym at ∙ one) ∙ not_below y ys y vp.0 (omega arith))
    by_test one t false e =
        sym (ap (λ (b : Bool). b || has xs t) e) ∙ same t ∙ ap (λ (b : Bool). b || has ys t) (ap (λ (z : ℕ). z == t) (sym one) ∙ e)

-- ---- a part of a list that rises
pub all_filter : (x : ℕ) (p : ℕ → Bool) (xs : List ℕ) → AllByRecursion (λ z. x < z) xs → AllByRecursion (λ z. x < z) (filter p xs)
all_filter x p [] h = tt
all_filter x p (y ∷ ys) h = by_test (all_filter x p ys h.1) (p y)
  where
    by_test : AllByRecursion (λ z. x < z) (filter p ys) → (b : Bool) → AllByRecursion (λ z. x < z) (cond b (y ∷ filter p ys) (filter p ys))
    by_test rest true = (h.0, rest)
    by_test rest false = rest

pub up_filter : (p : ℕ → Bool) (xs : List ℕ) → Up xs → Up (filter p xs)
up_filter p [] up = tt
up_filter p (x ∷ xs) up = by_test (up_filter p xs up.1) (p x)
  where
    by_test : Up (filter p xs) → (b : Bool) → Up (cond b (x ∷ filter p xs) (filter p xs))
    by_test rest true = (all_filter x p xs up.0, rest)
    by_test rest false = rest

-- ---- the keys of a map rise
keys_above : {X : Type 0} (x : ℕ) (es : List (ℕ × X)) → T (below_all nat_cmp x es) → AllByRecursion (λ y. x < y) (map (λ e. e.0) es)
keys_above x [] p = tt
keys_above x (e ∷ es) p = (cmp_less x e.0 (nat_cmp x e.0) refl (T_left _ _ p), keys_above x es (T_right _ _ p))

entries_up : {X : Type 0} (es : List (ℕ × X)) → T (is_sorted nat_cmp es) → Up (map (λ e. e.0) es)
entries_up [] p = tt
entries_up (e ∷ es) p = (keys_above e.0 es (T_left _ _ p), entries_up es (T_right _ _ p))

pub keys_up : {X : Type 0} (m : FinMap nat_cmp X) → Up (finite.keys m)
keys_up m = entries_up (finite.entries m) (finite.entries_sorted m)

pub has_keys : {X : Type 0} (m : FinMap nat_cmp X) (t : ℕ) → has (finite.keys m) t ≡ is_some (finite.get m t)
has_keys m t =
    let tests : (λ (x : ℕ). x == t) ≡ eq_by_cmp nat_cmp t = fun_ext (λ x. sym ((eq_by_cmp_equiv nat_cmp_total).symm t x ∙ unsigned_tied x t)) in
    ap (λ (p : ℕ → Bool). list_any p (finite.keys m)) tests ∙ sym (finite.contains_key-keys m t)
