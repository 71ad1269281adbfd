-- The words of a set, from the lowest one on.
use Rattle.std.proofs.Common.{◌≡◌, ℕ, zero, suc, ◌-◌, ◌^◌, ◌<◌, ◌≤◌, ◌/◌, ◌%◌, Bool, cond, true, false, List, [], ◌∷◌, length, refl, ap, sym, ◌∙◌, arith, get_or}
use Rattle.std.specs.Prelude.{fold, bit_xor, bit_and, ◌==◌}
use Rattle.std.specs.Int.Count.{count_trailing_zeros, under as place_under}
use Rattle.std.specs.Int.Bits.{xor_assoc, xor_zero_l, xor_zero_r, and_self, and_step}
use Rattle.std.proofs.lemmas.Nat.{and_shr}
use Rattle.std.proofs.Math.Nat.{pow-suc}
use Rattle.dali_words.specs.Words.{has_first, under, xor_under, parity_of}

pub fold-xor : (a : ℕ) (ws : List ℕ) → fold bit_xor a ws ≡ bit_xor a (parity_of ws)
fold-xor a [] = sym (xor_zero_r a)
fold-xor a (w ∷ ws) = fold-xor (bit_xor a w) ws ∙ xor_assoc a w (parity_of ws) ∙ ap (bit_xor a) (sym (fold-xor w ws) ∙ ap (λ n. fold bit_xor n ws) (sym (xor_zero_l w)))

pub parity_of-cons : (w : ℕ) (ws : List ℕ) → parity_of (w ∷ ws) ≡ bit_xor w (parity_of ws)
parity_of-cons w ws = ap (λ n. fold bit_xor n ws) (xor_zero_l w) ∙ fold-xor w ws

pub nothing_under : (ws : List ℕ) → under 0 ws ≡ []
nothing_under [] = refl
nothing_under (w ∷ ws) = nothing_under ws

pub xor_under-nothing : (ws : List ℕ) → xor_under 0 ws ≡ 0
xor_under-nothing ws = ap parity_of (nothing_under ws)

-- ---- the lowest word, and the others
pub even_left : (m : ℕ) → 0 < m → bit_and m (m - 1) % 2 ≡ 0
even_left m some = omega (arith, and_step m (m - 1))

pub no_first : (m : ℕ) → m % 2 ≡ 0 → has_first m ≡ false
no_first m e = ap (λ d. d == 1) e

pub some_first : (m d : ℕ) → m % 2 ≡ suc d → has_first m ≡ true
some_first m d e = let one : m % 2 ≡ 1 = omega (arith, e) in ap (λ n. n == 1) one

at_first : (m : ℕ) (w : ℕ) (ws : List ℕ) (d t : ℕ) → 0 < m → m % 2 ≡ d
    → (0 < m / 2 → under (m / 2) ws ≡ get_or ws t 0 ∷ under (bit_and (m / 2) (m / 2 - 1)) ws)
    → under m (w ∷ ws) ≡ get_or (w ∷ ws) (place_under d t) 0 ∷ under (bit_and m (m - 1)) (w ∷ ws)
at_first m w ws zero t some e rest =
    let half : bit_and m (m - 1) / 2 ≡ bit_and (m / 2) (m / 2 - 1) = and_shr m (m - 1) 1 ∙ ap (bit_and (m / 2)) (omega (arith, e, some)) in
    rw (no_first m e, no_first (bit_and m (m - 1)) (even_left m some)) (rest (omega (arith, e, some)) ∙ ap (λ n. get_or ws t 0 ∷ under n ws) (sym half))
at_first m w ws (suc d) t some e rest =
    let half : bit_and m (m - 1) / 2 ≡ m / 2 = and_shr m (m - 1) 1 ∙ ap (bit_and (m / 2)) (omega (arith, e)) ∙ and_self (m / 2) in
    rw (some_first m d e, no_first (bit_and m (m - 1)) (even_left m some)) (ap (λ n. w ∷ under n ws) (sym half))

pub under-lowest : (m : ℕ) (ws : List ℕ) → 0 < m → m < 2 ^ length ws
    → under m ws ≡ get_or ws (count_trailing_zeros (length ws) m) 0 ∷ under (bit_and m (m - 1)) ws
unfolding count_trailing_zeros
under-lowest m [] some fits = absurd (omega (arith, some, fits))
under-lowest m (w ∷ ws) some fits =
    at_first m w ws (m % 2) (count_trailing_zeros (length ws) (m / 2)) some refl (λ more. under-lowest (m / 2) ws more (omega (arith, fits, pow-suc 2 (length ws))))

-- no more words are under a set than there are
pub under_few : (m : ℕ) (ws : List ℕ) → length (under m ws) ≤ length ws
under_few m [] = omega arith
under_few m (w ∷ ws) = by_test (has_first m) (under_few (m / 2) ws)
  where
    by_test : (c : Bool) → length (under (m / 2) ws) ≤ length ws → length (cond c (w ∷ under (m / 2) ws) (under (m / 2) ws)) ≤ suc (length ws)
    by_test true h = omega (arith, h)
    by_test false h = omega (arith, h)

pub xor_under-lowest : (m : ℕ) (ws : List ℕ) → 0 < m → m < 2 ^ length ws
    → xor_under m ws ≡ bit_xor (get_or ws (count_trailing_zeros (length ws) m) 0) (xor_under (bit_and m (m - 1)) ws)
xor_under-lowest m ws some fits =
    ap parity_of (under-lowest m ws some fits) ∙ parity_of-cons (get_or ws (count_trailing_zeros (length ws) m) 0) (under (bit_and m (m - 1)) ws)
