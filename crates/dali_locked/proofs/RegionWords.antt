-- The word that an update has written is found by the region before and behind it.
use Rattle.std.proofs.Common.{◌≡◌, ◌≢◌, ℕ, zero, suc, ◌+◌, ◌<◌, ◌^◌, Bool, true, false, not, ◌&&◌, List, [], ◌∷◌, length, Option, Some, None, IsSomeAnd, refl, ap, sym, subst, ◌∙◌, ◌⊎◌, inl, inr, arith}
use Rattle.std.specs.Prelude.{◌==◌, if◌then◌else◌, nat_lt, IsBitSet, slice_index, slice_set, bit_and, bit_or, bit_xor}
use Rattle.std.proofs.lemmas.Bool.{eqb-true, and_parts}
use Rattle.std.proofs.lemmas.Bool.Decides.{Decides-ltb}
use Rattle.dali_lists.proofs.Numbers.{eqb-self}
use Rattle.dali_lists.proofs.Tests.{not_both_ways}
use Rattle.dali_region.specs.declared.Hold.{Hold}
use Rattle.dali_region.specs.State.{RegionState, HasRead, map_hold, writing, updated, written}
use Rattle.dali_region.proofs.Holds.{in_is_below}
use Rattle.dali_runs.specs.Regions.{Update, MayChange}
use Rattle.dali_locked.specs.Regions.{read_in}
use Rattle.dali_locked.specs.RegionWords.{same_list, is_update, found, word_of, value_of}

same_list_is : (xs ys : List ℕ) → same_list xs ys ≡ true → xs ≡ ys
same_list_is [] [] e = refl
same_list_is [] (y ∷ ys) e = absurd (cc)
same_list_is (x ∷ xs) [] e = absurd (cc)
same_list_is (x ∷ xs) (y ∷ ys) e =
    let w = and_parts (x == y) (same_list xs ys) e in
    ap (λ z. z ∷ xs) (eqb-true x y w.0) ∙ ap (λ l. y ∷ l) (same_list_is xs ys w.1)

same_list_self : (xs : List ℕ) → same_list xs xs ≡ true
same_list_self [] = refl
same_list_self (x ∷ xs) = ap (λ b. b && same_list xs xs) (eqb-self x) ∙ same_list_self xs

found_passes : (n : ℕ) (f : ℕ → Bool) (k : ℕ) → k < n → f k ≡ true → f (found n f) ≡ true
unfolding found
found_passes zero f k low e = absurd (omega (arith, low))
found_passes (suc n) f k low e = by_test (λ less. found_passes n f k less e) (f n) refl
  where
    by_test : (k < n → f (found n f) ≡ true) → (b : Bool) → f n ≡ b → f (if b then n else found n f) ≡ true
    by_test below true is = is
    by_test below false is = below (by_place (compared k n))
      where
        compared : (i j : ℕ) → (i < j) ⊎ ((i ≡ j) ⊎ (j < i))
        compared zero zero = inr (inl refl)
        compared zero (suc j) = inl (omega arith)
        compared (suc i) zero = inr (inr (omega arith))
        compared (suc i) (suc j) = further (compared i j)
          where
            further : (i < j) ⊎ ((i ≡ j) ⊎ (j < i)) → (suc i < suc j) ⊎ ((suc i ≡ suc j) ⊎ (suc j < suc i))
            further (inl h) = inl (omega (arith, h))
            further (inr (inl h)) = inr (inl (ap suc h))
            further (inr (inr h)) = inr (inr (omega (arith, h)))

        by_place : (k < n) ⊎ ((k ≡ n) ⊎ (n < k)) → k < n
        by_place (inl h) = h
        by_place (inr (inl h)) = absurd (not_both_ways (ap f (sym h) ∙ e) is)
        by_place (inr (inr h)) = omega (arith, h, low)

-- ---- what the test tells
index_set : (xs : List ℕ) (i v : ℕ) → i < length xs → slice_index (slice_set xs i v) i ≡ v
index_set [] i v low = absurd (omega (arith, low))
index_set (x ∷ xs) zero v low = refl
index_set (x ∷ xs) (suc i) v low = index_set xs i v (omega (arith, low))

written_more : (i : ℕ) (q : Option Hold) → IsSomeAnd q (λ h. h.dead ≡ false) → written (map_hold (writing i) q) ≡ bit_or (written q) (2 ^ i)
written_more i None live = absurd live
written_more i (Some h) live = refl

-- the hold is the one with so many words written
hold_is : (i j : ℕ) (q : Option Hold) → bit_or (written q) (2 ^ i) ≡ bit_or (written q) (2 ^ j) → map_hold (writing i) q ≡ map_hold (writing j) q
hold_is i j None e = refl
hold_is i j (Some h) e = ap (λ n. Some (record h { write = n })) e

read_set : (i : ℕ) (q : Option Hold) → IsSomeAnd q (λ h. (h.dead ≡ false) × IsBitSet h.read i) → (bit_and (read_in q) (2 ^ i) == 0) ≡ false
read_set i None w = absurd w
read_set i (Some h) w = by_test (bit_and h.read (2 ^ i) == 0) refl
  where
    by_test : (b : Bool) → (bit_and h.read (2 ^ i) == 0) ≡ b → b ≡ false
    by_test false e = refl
    by_test true e = absurd (w.1 (eqb-true (bit_and h.read (2 ^ i)) 0 e))

is_read : (i : ℕ) (q : Option Hold) → IsSomeAnd q (λ h. h.dead ≡ false) → (bit_and (read_in q) (2 ^ i) == 0) ≡ false → IsSomeAnd q (λ h. (h.dead ≡ false) × IsBitSet h.read i)
is_read i None live e = absurd live
is_read i (Some h) live e = (live, λ zero_is. not_both_ways (ap (λ n. n == 0) zero_is ∙ eqb-self 0) e)

live_of : (i : ℕ) (q : Option Hold) → IsSomeAnd q (λ h. (h.dead ≡ false) × IsBitSet h.read i) → IsSomeAnd q (λ h. h.dead ≡ false)
live_of i None w = w
live_of i (Some h) w = w.0

set_of : (i : ℕ) (q : Option Hold) → IsSomeAnd q (λ h. (h.dead ≡ false) × IsBitSet h.read i) → IsBitSet (read_in q) i
set_of i None w = absurd w
set_of i (Some h) w = w.1

pub record IsFound (g h : RegionState) : Type 0 where
  pub may : MayChange (Update (word_of g h) (value_of g h)) g
  pub is : h ≡ updated (word_of g h) (value_of g h) g

module _ (g h : RegionState) (word value : ℕ) (long : length g.words ≡ 64) (reads : read_in g.hold < 2 ^ 64) (may : MayChange (Update word value) g) (is : h ≡ updated word value g) where
  low : word < 64
  low = in_is_below (read_in g.hold) word reads (set_of word g.hold may.0)

  live : IsSomeAnd g.hold (λ k. k.dead ≡ false)
  live = live_of word g.hold may.0

  value_is : slice_index h.words word ≡ value
  value_is = ap (λ (z : RegionState). slice_index z.words word) is ∙ index_set g.words word value (omega (arith, long, low))

  words_pass : same_list (slice_set g.words word (slice_index h.words word)) h.words ≡ true
  words_pass = ap (λ v. same_list (slice_set g.words word v) h.words) value_is ∙ (ap (λ (z : RegionState). same_list (slice_set g.words word value) z.words) is ∙ same_list_self (slice_set g.words word value))

  codeword_passes : (bit_xor g.codeword (bit_xor (slice_index g.words word) (slice_index h.words word)) == h.codeword) ≡ true
  codeword_passes =
      ap (λ v. bit_xor g.codeword (bit_xor (slice_index g.words word) v) == h.codeword) value_is
      ∙ (ap (λ (z : RegionState). bit_xor g.codeword (bit_xor (slice_index g.words word) value) == z.codeword) is ∙ eqb-self (bit_xor g.codeword (bit_xor (slice_index g.words word) value)))

  hold_passes : (bit_or (written g.hold) (2 ^ word) == written h.hold) ≡ true
  hold_passes =
      ap (λ (z : RegionState). bit_or (written g.hold) (2 ^ word) == written z.hold) is
      ∙ (ap (λ n. bit_or (written g.hold) (2 ^ word) == n) (written_more word g.hold live) ∙ eqb-self (bit_or (written g.hold) (2 ^ word)))

  value_passes : nat_lt (slice_index h.words word) 18446744073709551616 ≡ true
  value_passes = (Decides-ltb (slice_index h.words word) 18446744073709551616).1 (subst (λ v. v < 18446744073709551616) (sym value_is) may.1)

  passes : is_update g h word ≡ true
  passes =
      ap (λ b. b && ((bit_xor g.codeword (bit_xor (slice_index g.words word) (slice_index h.words word)) == h.codeword) && ((bit_or (written g.hold) (2 ^ word) == written h.hold) && (not (bit_and (read_in g.hold) (2 ^ word) == 0) && nat_lt (slice_index h.words word) 18446744073709551616)))) words_pass
      ∙ (ap (λ b. b && ((bit_or (written g.hold) (2 ^ word) == written h.hold) && (not (bit_and (read_in g.hold) (2 ^ word) == 0) && nat_lt (slice_index h.words word) 18446744073709551616))) codeword_passes
      ∙ (ap (λ b. b && (not (bit_and (read_in g.hold) (2 ^ word) == 0) && nat_lt (slice_index h.words word) 18446744073709551616)) hold_passes
      ∙ (ap (λ b. not b && nat_lt (slice_index h.words word) 18446744073709551616) (read_set word g.hold may.0) ∙ value_passes)))

  here : is_update g h (word_of g h) ≡ true
  here = found_passes 64 (is_update g h) word low passes

  i : ℕ
  i = word_of g h

  pub found_word : IsFound g h
  found_word = told here
    where
      told : is_update g h (word_of g h) ≡ true → IsFound g h
      told e =
          let a = and_parts (same_list (slice_set g.words (word_of g h) (slice_index h.words (word_of g h))) h.words) _ e in
          let b = and_parts (bit_xor g.codeword (bit_xor (slice_index g.words (word_of g h)) (slice_index h.words (word_of g h))) == h.codeword) _ a.1 in
          let d = and_parts (bit_or (written g.hold) (2 ^ word_of g h) == written h.hold) _ b.1 in
          let f = and_parts (not (bit_and (read_in g.hold) (2 ^ word_of g h) == 0)) _ d.1 in
          let words : slice_set g.words (word_of g h) (value_of g h) ≡ h.words = same_list_is _ _ a.0 in
          let codeword : bit_xor g.codeword (bit_xor (slice_index g.words (word_of g h)) (value_of g h)) ≡ h.codeword = eqb-true _ _ b.0 in
          let writes : bit_or (written g.hold) (2 ^ word_of g h) ≡ bit_or (written g.hold) (2 ^ word) = eqb-true _ _ d.0 ∙ (ap (λ (z : RegionState). written z.hold) is ∙ written_more word g.hold live) in
          let hold : map_hold (writing (word_of g h)) g.hold ≡ h.hold = hold_is (word_of g h) word g.hold writes ∙ ap (λ (z : RegionState). z.hold) (sym is) in
          record {
            may = (is_read (word_of g h) g.hold live (by_not (bit_and (read_in g.hold) (2 ^ word_of g h) == 0) f.0), (Decides-ltb (value_of g h) 18446744073709551616).0 f.1);
            is = rest ∙ (λ j. record g { words = sym words j; codeword = sym codeword j; hold = sym hold j });
          }
        where
          by_not : (b : Bool) → not b ≡ true → b ≡ false
          by_not true n = absurd (cc)
          by_not false n = refl

          -- nothing else has changed
          rest : h ≡ record g { words = h.words; codeword = h.codeword; hold = h.hold }
          rest = subst (λ (z : RegionState). z ≡ record g { words = z.words; codeword = z.codeword; hold = z.hold }) (sym is) refl
