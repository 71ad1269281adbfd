-- Lists over the numbers in a row.
use Rattle.std.proofs.Common.{◌≡◌, ℕ, zero, suc, ◌+◌, ◌<◌, List, ◌++◌, map, flat_map, Some, sym, ◌∙◌, ap, append_assoc, append-nil, arith}
use Rattle.std.specs.List.{slice_get, range_with_len}

-- the i-th
pub at : {X : Type 0} (f : ℕ → X) (n a i : ℕ) (x : X) → slice_get (map f (range_with_len a n)) i ≡ Some x → (i < n) × (x ≡ f (a + i))
at f zero a i x e = absurd cc
at f (suc n) a zero x e = let first : a ≡ a + 0 = omega arith in let same : x ≡ f a = cc in (omega arith, same ∙ ap f first)
at f (suc n) a (suc i) x e =
    let later = at f n (a + 1) i x e in
    let place : a + 1 + i ≡ a + suc i = omega arith in
    (omega (arith, later.0), later.1 ∙ ap f place)

-- one more
flat_suc : {X : Type 0} (f : ℕ → List X) (n a : ℕ) → flat_map f (range_with_len a (suc n)) ≡ flat_map f (range_with_len a n) ++ f (a + n)
flat_suc f zero a = let first : a ≡ a + 0 = omega arith in append-nil (f a) ∙ ap f first
flat_suc f (suc n) a =
    let place : a + 1 + n ≡ a + suc n = omega arith in
    ap (λ l. f a ++ l) (flat_suc f n (a + 1) ∙ ap (λ k. flat_map f (range_with_len (a + 1) n) ++ f k) place)
    ∙ sym (append_assoc (f a) (flat_map f (range_with_len (a + 1) n)) (f (a + suc n)))

pub flat_more : {X : Type 0} (f : ℕ → List X) (n : ℕ) → flat_map f (range_with_len 0 (n + 1)) ≡ flat_map f (range_with_len 0 n) ++ f n
flat_more f n =
    let next : n + 1 ≡ suc n = omega arith in
    let place : 0 + n ≡ n = omega arith in
    ap (λ k. flat_map f (range_with_len 0 k)) next ∙ flat_suc f n 0 ∙ ap (λ k. flat_map f (range_with_len 0 n) ++ f k) place
