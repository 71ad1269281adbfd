-- A vector that was lent as a slice, and marks in another order.
use Rattle.std.proofs.Common.{◌≡◌, ℕ, Bool, true, false, List, ◌++◌, take, drop, length, refl, ap, ◌∙◌, arith}
use Rattle.std.proofs.lemmas.Grind.{common_steps}
use Rattle.std.specs.Prelude.{◌||◌}

pub put_back : (n : ℕ) (xs ys : List ℕ) → n ≡ length ys → length xs ≡ length ys → take n (xs ++ drop (length xs) ys) ≡ xs
put_back n xs ys a b = grind (arith, common_steps)

pub other_way : (new here old c u : Bool) → new ≡ (here || c) → here ≡ (old || u) → new ≡ (old || (c || u))
other_way new here old c u e g = e ∙ (ap (λ z. z || c) g ∙ by_cases old c u)
  where
    by_cases : (a x y : Bool) → ((a || y) || x) ≡ (a || (x || y))
    by_cases true x y = refl
    by_cases false true true = refl
    by_cases false true false = refl
    by_cases false false true = refl
    by_cases false false false = refl
