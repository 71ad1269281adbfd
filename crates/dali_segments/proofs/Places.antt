-- Places of a log and numbers of segments.
use Rattle.std.specs.Prelude.{◌⊎◌, ◌*◌, ◌/◌, ◌%◌}
use Rattle.std.proofs.Common.{◌≡◌, inl, inr, ⊎_elim, ℕ, ◌+◌, ◌≤◌, ◌<◌, arith}
use Rattle.std.proofs.lemmas.Nat.{div-add-mod'}
use Rattle.std.proofs.Math.Nat.{suc-mul, mul-le-mul_right, mod-lt}

pub place_of : (at size : ℕ) → at / size * size + at % size ≡ at
place_of at size = div-add-mod' at size

pub place_in : (at size : ℕ) → 64 ≤ size → at % size < size
place_in at size large = mod-lt at (omega (arith, large))

pub mul_up : (a b size : ℕ) → a ≤ b → a * size ≤ b * size
mul_up a b size le = mul-le-mul_right size le

pub mul_next : (n size : ℕ) → (n + 1) * size ≡ n * size + size
mul_next n size = omega (arith, suc-mul n size)

-- a place below a segment's begin is in one below it
pub number_below : (n off m size : ℕ) → n * size + off < m * size → n < m
number_below n off m size lt = ⊎_elim (λ is. is) (λ le. absurd (omega (arith, lt, mul_up m n size le))) (place n m)
  where
    place : (n m : ℕ) → (n < m) ⊎ (m ≤ n)
    place n m = grind arith

-- a place in the log is in its last segment, or below it, or it is the end of a last segment that is full
pub number_at_end : (n off last size behind : ℕ) → behind ≤ size → n * size + off ≤ last * size + behind → 64 ≤ size → (n ≤ last) ⊎ ((n ≡ last + 1) × ((behind ≡ size) × (off ≡ 0)))
number_at_end n off last size behind le is large = by_place (place n last)
  where
    place : (n last : ℕ) → (n ≤ last) ⊎ (last + 1 ≤ n)
    place n last = grind arith

    same_or : (n last : ℕ) → last + 1 ≤ n → (n ≡ last + 1) ⊎ (last + 1 + 1 ≤ n)
    same_or n last le = grind arith

    by_place : (n ≤ last) ⊎ (last + 1 ≤ n) → (n ≤ last) ⊎ ((n ≡ last + 1) × ((behind ≡ size) × (off ≡ 0)))
    by_place (inl under) = inl under
    by_place (inr above) =
        let far : (last + 1) * size ≤ n * size = mul_up (last + 1) n size above in
        let next : (last + 1) * size ≡ last * size + size = mul_next last size in
        inr (
          ⊎_elim
              (λ same. same)
              (λ more. absurd (omega (arith, is, le, large, next, mul_next (last + 1) size, mul_up (last + 1 + 1) n size more)))
              (same_or n last above),
          (omega (arith, is, le, far, next), omega (arith, is, le, far, next)),
        )
