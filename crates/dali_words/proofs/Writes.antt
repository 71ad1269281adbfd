-- A sound block, written into the words that it was made from, leaves what its operation leaves.
use Rattle.std.proofs.Common.{◌≡◌, ℕ, zero, suc, ◌/◌, ◌%◌, ◌^◌, Bool, true, false, cond, sym, List, [], ◌∷◌, length, map, get_or, set, fold, refl, ap, ◌∙◌, ◌⊎◌, inl, inr, ◌≢◌, arith, get_or-set_other}
use Rattle.std.specs.Prelude.{◌==◌, bit_or}
use Rattle.std.specs.Int.{bit_at}
use Rattle.std.proofs.lemmas.Bool.Decides.{eqb_tells, Decides-eqb}
use Rattle.std.proofs.lemmas.Nat.Bits.{bit_at_lowest, bit_at-suc, bit_at_or, bit_at-pow_same, bit_at-lt}
use Rattle.dali_words.specs.Words.{has_first, first_or, rest_of, under, write_under, mask_of}
use Rattle.dali_words.specs.Effects.{write_all}
use Rattle.dali_words.proofs.Masks.{length-write_all}

-- the words under a mask, written back, give the list again where the others are the same
pub write_under-under : (m : ℕ) (xs ws : List ℕ) → length xs ≡ length ws → ((i : ℕ) → bit_at m i ≡ 0 → get_or xs i 0 ≡ get_or ws i 0) → write_under m (under m xs) ws ≡ xs
write_under-under m [] [] e h = refl
write_under-under m [] (w ∷ ws) e h = absurd (omega arith)
write_under-under m (x ∷ xs) [] e h = absurd (omega arith)
write_under-under m (x ∷ xs) (w ∷ ws) e h = by_first (eqb_tells (m % 2) 1) (write_under-under (m / 2) xs ws (omega arith) (λ i b. h (suc i) (bit_at-suc m i ∙ b)))
  where
    by_first : (((m % 2 == 1) ≡ true) × (m % 2 ≡ 1)) ⊎ (((m % 2 == 1) ≡ false) × (m % 2 ≢ 1)) → write_under (m / 2) (under (m / 2) xs) ws ≡ xs → write_under m (under m (x ∷ xs)) (w ∷ ws) ≡ x ∷ xs
    by_first (inl p) ih = rw (p.0) (ap (λ ys. x ∷ ys) ih)
    by_first (inr p) ih = rw (p.0) (let low : m % 2 ≡ 0 = omega (arith, p.1) in let same : x ≡ w = h 0 (bit_at_lowest m ∙ low) in cc (ih, same))

-- no word of the set is written
pub write_nothing : (news ws : List ℕ) → write_under 0 news ws ≡ ws
write_nothing news [] = refl
write_nothing news (w ∷ ws) = ap (λ xs. w ∷ xs) (write_nothing news ws)

-- bits of a set of words
mask_grows : (n : ℕ) (is : List ℕ) (i : ℕ) → bit_at n i ≡ 1 → bit_at (fold (λ m j. bit_or m (2 ^ j)) n is) i ≡ 1
mask_grows n [] i h = h
mask_grows n (j ∷ is) i h = mask_grows (bit_or n (2 ^ j)) is i (omega (arith, bit_at_or n (2 ^ j) i, bit_at-lt (2 ^ j) i))

-- what no pair names stays
pub other_words : (n : ℕ) (ws : List ℕ) (ps : List (ℕ × ℕ)) (i : ℕ) → bit_at (fold (λ m j. bit_or m (2 ^ j)) n (map (λ p. p.0) ps)) i ≡ 0 → get_or (write_all ws ps) i 0 ≡ get_or ws i 0
other_words n ws [] i h = refl
other_words n ws (p ∷ ps) i h = other_words (bit_or n (2 ^ p.0)) (set ws p.0 p.1) ps i h ∙ get_or-set_other ws p.0 i p.1 0 apart
  where
    apart : i ≢ p.0
    apart e =
        let bit : bit_at (2 ^ p.0) i ≡ 1 = ap (λ j. bit_at (2 ^ p.0) j) e ∙ bit_at-pow_same p.0 in
        let now : bit_at (bit_or n (2 ^ p.0)) i ≡ 1 = omega (arith, bit_at_or n (2 ^ p.0) i, bit_at-lt n i, bit) in
        let then : bit_at (fold (λ m j. bit_or m (2 ^ j)) (bit_or n (2 ^ p.0)) (map (λ q. q.0) ps)) i ≡ 1 = mask_grows (bit_or n (2 ^ p.0)) (map (λ q. q.0) ps) i now in
        omega (arith, h, then)

-- the written words, taken out and written back
pub written_back : (ws : List ℕ) (ps : List (ℕ × ℕ)) → write_under (mask_of (map (λ p. p.0) ps)) (under (mask_of (map (λ p. p.0) ps)) (write_all ws ps)) ws ≡ write_all ws ps
written_back ws ps = write_under-under (mask_of (map (λ p. p.0) ps)) (write_all ws ps) ws (length-write_all ws ps) (λ i h. other_words 0 ws ps i h)

-- ---- writing over a set of words
-- twice is once
pub write_twice : (m : ℕ) (news ws : List ℕ) → write_under m news (write_under m news ws) ≡ write_under m news ws
write_twice m news [] = refl
write_twice m news (w ∷ ws) = go (has_first m) news (write_twice (m / 2) (cond (has_first m) (rest_of news) news) ws)
  where
    firsts : (w : ℕ) (ns : List ℕ) → first_or (first_or w ns) ns ≡ first_or w ns
    firsts w [] = refl
    firsts w (n ∷ ns) = refl

    go : (b : Bool) (ns : List ℕ) → {xs ys : List ℕ} → xs ≡ ys → cond b (first_or (cond b (first_or w ns) w) ns) (cond b (first_or w ns) w) ∷ xs ≡ cond b (first_or w ns) w ∷ ys
    go true ns e = let h = firsts w ns in cc (h, e)
    go false ns e = cc (e)

-- a word in the set is the new one
pub write_under_in : (m : ℕ) (xs ws : List ℕ) (i : ℕ) → length xs ≡ length ws → bit_at m i ≡ 1 → get_or (write_under m (under m xs) ws) i 0 ≡ get_or xs i 0
write_under_in m [] [] i e h = refl
write_under_in m [] (w ∷ ws) i e h = absurd (omega arith)
write_under_in m (x ∷ xs) [] i e h = absurd (omega arith)
write_under_in m (x ∷ xs) (w ∷ ws) zero e h = let odd : (m % 2 == 1) ≡ true = (Decides-eqb (m % 2) 1).1 (sym (bit_at_lowest m) ∙ h) in rw odd refl
write_under_in m (x ∷ xs) (w ∷ ws) (suc i) e h = by_first (eqb_tells (m % 2) 1) (write_under_in (m / 2) xs ws i (omega arith) (sym (bit_at-suc m i) ∙ h))
  where
    by_first : (((m % 2 == 1) ≡ true) × (m % 2 ≡ 1)) ⊎ (((m % 2 == 1) ≡ false) × (m % 2 ≢ 1)) → get_or (write_under (m / 2) (under (m / 2) xs) ws) i 0 ≡ get_or xs i 0 → get_or (write_under m (under m (x ∷ xs)) (w ∷ ws)) (suc i) 0 ≡ get_or xs i 0
    by_first (inl p) ih = rw (p.0) ih
    by_first (inr p) ih = rw (p.0) ih
