-- The lowest word of a set, and the others: what one update writes, and what is left to be written.
use Rattle.std.proofs.Common.{◌≡◌, ℕ, zero, suc, ◌+◌, ◌-◌, ◌*◌, ◌^◌, ◌<◌, ◌/◌, ◌%◌, max, List, [], ◌∷◌, length, refl, ap, sym, ◌∙◌, arith, set, count_ones}
use Rattle.std.specs.Prelude.{bit_and, bit_or}
use Rattle.std.specs.Int.Count.{count_trailing_zeros, under as place_under, ones_step}
use Rattle.std.specs.Int.Bits.{and_self, or_step, or_zero_l}
use Rattle.std.proofs.lemmas.Nat.{and_shr}
use Rattle.std.proofs.Math.Nat.{pow-suc}
use Rattle.dali_words.specs.Words.{write_under}
use Rattle.dali_words.proofs.Lowest.{even_left, no_first, some_first}

-- ---- halves

half_even : (m : ℕ) → 0 < m → m % 2 ≡ 0 → bit_and m (m - 1) / 2 ≡ bit_and (m / 2) (m / 2 - 1)
half_even m some e = and_shr m (m - 1) 1 ∙ ap (bit_and (m / 2)) (omega (arith, e, some))

half_odd : (m d : ℕ) → m % 2 ≡ suc d → bit_and m (m - 1) / 2 ≡ m / 2
half_odd m d e = and_shr m (m - 1) 1 ∙ ap (bit_and (m / 2)) (omega (arith, e)) ∙ and_self (m / 2)

-- ---- the set is its lowest word and the others
or_first : (m d t : ℕ) → 0 < m → m % 2 ≡ d → (0 < m / 2 → bit_or (2 ^ t) (bit_and (m / 2) (m / 2 - 1)) ≡ m / 2) → bit_or (2 ^ place_under d t) (bit_and m (m - 1)) ≡ m
or_first m zero t some e rest =
    or_step (2 ^ suc t) (bit_and m (m - 1))
    ∙ (ap (λ n. bit_or (2 ^ suc t / 2) n * 2 + max (2 ^ suc t % 2) (bit_and m (m - 1) % 2)) (half_even m some e)
    ∙ (ap (λ n. bit_or n (bit_and (m / 2) (m / 2 - 1)) * 2 + max (2 ^ suc t % 2) (bit_and m (m - 1) % 2)) (omega (arith, pow-suc 2 t))
    ∙ (ap (λ n. n * 2 + max (2 ^ suc t % 2) (bit_and m (m - 1) % 2)) (rest (omega (arith, e, some))) ∙ omega (arith, e, even_left m some, pow-suc 2 t))))
or_first m (suc d) t some e rest =
    or_step 1 (bit_and m (m - 1))
    ∙ (ap (λ n. bit_or 0 n * 2 + max 1 (bit_and m (m - 1) % 2)) (half_odd m d e) ∙ (ap (λ n. n * 2 + max 1 (bit_and m (m - 1) % 2)) (or_zero_l (m / 2)) ∙ omega (arith, e, even_left m some)))

pub lowest_or : (k m : ℕ) → 0 < m → m < 2 ^ k → bit_or (2 ^ count_trailing_zeros k m) (bit_and m (m - 1)) ≡ m
unfolding count_trailing_zeros
lowest_or zero m some fits = absurd (omega (arith, some, fits))
lowest_or (suc k) m some fits = or_first m (m % 2) (count_trailing_zeros k (m / 2)) some refl (λ more. lowest_or k (m / 2) more (omega (arith, fits, pow-suc 2 k)))

-- ---- it is one word fewer
ones_first : (m d : ℕ) → 0 < m → m % 2 ≡ d → (0 < m / 2 → count_ones (m / 2) ≡ count_ones (bit_and (m / 2) (m / 2 - 1)) + 1) → count_ones m ≡ count_ones (bit_and m (m - 1)) + 1
ones_first m zero some e rest =
    let b = bit_and m (m - 1) in
    let half : count_ones (b / 2) ≡ count_ones (bit_and (m / 2) (m / 2 - 1)) = ap count_ones (half_even m some e) in
    omega (arith, ones_step m, ones_step b, half, rest (omega (arith, e, some)), even_left m some, e)
ones_first m (suc d) some e rest =
    let b = bit_and m (m - 1) in
    let half : count_ones (b / 2) ≡ count_ones (m / 2) = ap count_ones (half_odd m d e) in
    omega (arith, ones_step m, ones_step b, half, even_left m some, e)

pub lowest_count : (k m : ℕ) → 0 < m → m < 2 ^ k → count_ones m ≡ count_ones (bit_and m (m - 1)) + 1
lowest_count zero m some fits = absurd (omega (arith, some, fits))
lowest_count (suc k) m some fits = ones_first m (m % 2) some refl (λ more. lowest_count k (m / 2) more (omega (arith, fits, pow-suc 2 k)))

-- ---- the first new word goes there
write_first : (m v w : ℕ) (vs ws : List ℕ) (d t : ℕ) → 0 < m → m % 2 ≡ d
    → (0 < m / 2 → write_under (m / 2) (v ∷ vs) ws ≡ write_under (bit_and (m / 2) (m / 2 - 1)) vs (set ws t v))
    → write_under m (v ∷ vs) (w ∷ ws) ≡ write_under (bit_and m (m - 1)) vs (set (w ∷ ws) (place_under d t) v)
write_first m v w vs ws zero t some e rest =
    rw (no_first m e, no_first (bit_and m (m - 1)) (even_left m some)) (ap (λ us. w ∷ us) (rest (omega (arith, e, some)) ∙ ap (λ n. write_under n vs (set ws t v)) (sym (half_even m some e))))
write_first m v w vs ws (suc d) t some e rest =
    rw (some_first m d e, no_first (bit_and m (m - 1)) (even_left m some)) (ap (λ n. v ∷ write_under n vs ws) (sym (half_odd m d e)))

pub lowest_write : (m v : ℕ) (vs ws : List ℕ) → 0 < m → m < 2 ^ length ws → write_under m (v ∷ vs) ws ≡ write_under (bit_and m (m - 1)) vs (set ws (count_trailing_zeros (length ws) m) v)
unfolding count_trailing_zeros
lowest_write m v vs [] some fits = absurd (omega (arith, some, fits))
lowest_write m v vs (w ∷ ws) some fits =
    write_first m v w vs ws (m % 2) (count_trailing_zeros (length ws) (m / 2)) some refl (λ more. lowest_write (m / 2) v vs ws more (omega (arith, fits, pow-suc 2 (length ws))))
