-- One number more in a row of numbers.
use Rattle.std.proofs.Common.{◌≡◌, ℕ, ◌+◌, ◌-◌, ◌≤◌, List, [], ◌∷◌, ◌++◌, refl, ap, sym, ◌∙◌, arith}
use Rattle.std.specs.List.{range_with_len}
use Rattle.std.proofs.lemmas.List.{append_assoc, map-id}
use Rattle.std.proofs.lemmas.List.FromFn.{map-range_with_len_more}

range_more : (a n : ℕ) → range_with_len a (n + 1) ≡ range_with_len a n ++ (a + n) ∷ []
range_more a n = sym (map-id (range_with_len a (n + 1))) ∙ map-range_with_len_more (λ x. x) a n (a + n) refl ∙ ap (λ xs. xs ++ (a + n) ∷ []) (map-id (range_with_len a n))

pub one_more : (xs ys zs : List ℕ) (a k : ℕ) → a ≤ k → ys ≡ xs ++ range_with_len a (k - a) → zs ≡ ys ++ k ∷ [] → zs ≡ xs ++ range_with_len a (k + 1 - a)
one_more xs ys zs a k within so more =
    let up : k + 1 - a ≡ (k - a) + 1 = omega (arith, within) in
    let at : a + (k - a) ≡ k = omega (arith, within) in
    more ∙ ap (λ v. v ++ k ∷ []) so ∙ append_assoc xs (range_with_len a (k - a)) (k ∷ [])
    ∙ ap (λ v. xs ++ v) (ap (λ j. range_with_len a (k - a) ++ j ∷ []) (sym at) ∙ sym (range_more a (k - a)) ∙ ap (range_with_len a) (sym up))
