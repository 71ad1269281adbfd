-- The parity of changed words, and the exclusive-or of words in sets that are apart.
use Rattle.std.proofs.Common.{◌≡◌, ℕ, zero, suc, ◌+◌, ◌<◌, ◌/◌, ◌%◌, Bool, true, false, List, [], ◌∷◌, length, refl, ap, sym, ◌∙◌, ◌≢◌, ⊎_elim, arith, get_or, set}
use Rattle.std.specs.Prelude.{fold, bit_xor}
use Rattle.std.specs.Int.Bits.{xor_assoc, xor_self, xor_zero_l, xor_zero_r}
use Rattle.std.proofs.lemmas.Nat.{xor_comm}
use Rattle.std.specs.Int.{bit_at}
use Rattle.std.proofs.lemmas.Nat.Bits.{bit_at-suc, bit_at_lowest}
use Rattle.std.proofs.lemmas.Bool.Decides.{Decides-eqb, eqb_tells}
use Rattle.dali_words.specs.Words.{has_first, under, xor_under, parity_of}
use Rattle.dali_words.proofs.Lowest.{parity_of-cons}

-- a word's old value and new value change the parity by their exclusive-or
pub parity_of-set : (ws : List ℕ) (i v : ℕ) → i < length ws → parity_of (set ws i v) ≡ bit_xor (parity_of ws) (bit_xor (get_or ws i 0) v)
parity_of-set [] i v h = absurd (omega (arith, h))
parity_of-set (w ∷ ws) zero v h = parity_of-cons v ws ∙ swapped ∙ ap (λ n. bit_xor n (bit_xor w v)) (sym (parity_of-cons w ws))
  where
    swapped : bit_xor v (parity_of ws) ≡ bit_xor (bit_xor w (parity_of ws)) (bit_xor w v)
    swapped = grind (arith, xor_assoc, xor_comm, xor_self, xor_zero_l, xor_zero_r)
parity_of-set (w ∷ ws) (suc i) v h =
    let lt : i < length ws = omega (arith, h) in
    parity_of-cons w (set ws i v) ∙ ap (bit_xor w) (parity_of-set ws i v lt) ∙ sym (xor_assoc w (parity_of ws) (bit_xor (get_or ws i 0) v)) ∙ ap (λ n. bit_xor n (bit_xor (get_or ws i 0) v)) (sym (parity_of-cons w ws))

-- the same change on both sides is gone
pub twice : (a b c : ℕ) → bit_xor (bit_xor a c) (bit_xor b c) ≡ bit_xor a b
twice a b c = grind (arith, xor_assoc, xor_comm, xor_self, xor_zero_l, xor_zero_r)

-- a word that is changed by a mask changes what the codeword tells by the mask
pub damage : (a b w m : ℕ) → bit_xor a (bit_xor b (bit_xor w (bit_xor w m))) ≡ bit_xor (bit_xor a b) m
damage a b w m = ap (λ n. bit_xor a (bit_xor b n)) (sym (xor_assoc w w m) ∙ ap (λ n. bit_xor n m) (xor_self w) ∙ xor_zero_l m) ∙ sym (xor_assoc a b m)

-- ---- words in sets
one_first : (m : ℕ) → has_first m ≡ true → m % 2 ≡ 1
one_first m e = (Decides-eqb (m % 2) 1).0 e

none_first : (m : ℕ) → has_first m ≡ false → m % 2 ≡ 0
none_first m e = ⊎_elim (λ t. absurd (cc)) (λ t. lowest (m % 2) (omega arith) t.1) (eqb_tells (m % 2) 1)
  where
    lowest : (n : ℕ) → n < 2 → n ≢ 1 → n ≡ 0
    lowest n lt ne = omega arith

xor_to_second : (w a b : ℕ) → bit_xor w (bit_xor a b) ≡ bit_xor a (bit_xor w b)
xor_to_second w a b = grind (arith, xor_assoc, xor_comm, xor_self, xor_zero_l, xor_zero_r)

-- a set that is two sets apart has the exclusive-or of theirs
pub xor_under-apart : (a b c : ℕ) (ws : List ℕ) → ((i : ℕ) → i < length ws → bit_at c i ≡ bit_at a i + bit_at b i) → xor_under c ws ≡ bit_xor (xor_under a ws) (xor_under b ws)
xor_under-apart a b c [] split = refl
xor_under-apart a b c (w ∷ ws) split =
    by_tests
    (xor_under-apart (a / 2) (b / 2) (c / 2) ws (λ i lt. sym (bit_at-suc c i) ∙ split (suc i) (omega (arith, lt)) ∙ omega (arith, bit_at-suc a i, bit_at-suc b i)))
    (has_first a) (has_first b) (has_first c) refl refl refl
  where
    here : c % 2 ≡ a % 2 + b % 2
    here = sym (bit_at_lowest c) ∙ split 0 (omega arith) ∙ omega (arith, bit_at_lowest a, bit_at_lowest b)

    by_tests : xor_under (c / 2) ws ≡ bit_xor (xor_under (a / 2) ws) (xor_under (b / 2) ws) → (x y z : Bool) → has_first a ≡ x → has_first b ≡ y → has_first c ≡ z → xor_under c (w ∷ ws) ≡ bit_xor (xor_under a (w ∷ ws)) (xor_under b (w ∷ ws))
    by_tests rest true true z e f g = absurd (omega (arith, here, one_first a e, one_first b f))
    by_tests rest true false true e f g = rw (e, f, g) (parity_of-cons w (under (c / 2) ws) ∙ ap (bit_xor w) rest ∙ sym (xor_assoc w (xor_under (a / 2) ws) (xor_under (b / 2) ws)) ∙ ap (λ n. bit_xor n (xor_under (b / 2) ws)) (sym (parity_of-cons w (under (a / 2) ws))))
    by_tests rest true false false e f g = absurd (omega (arith, here, one_first a e, none_first b f, none_first c g))
    by_tests rest false true true e f g = rw (e, f, g) (parity_of-cons w (under (c / 2) ws) ∙ ap (bit_xor w) rest ∙ xor_to_second w (xor_under (a / 2) ws) (xor_under (b / 2) ws) ∙ ap (bit_xor (xor_under (a / 2) ws)) (sym (parity_of-cons w (under (b / 2) ws))))
    by_tests rest false true false e f g = absurd (omega (arith, here, none_first a e, one_first b f, none_first c g))
    by_tests rest false false true e f g = absurd (omega (arith, here, none_first a e, none_first b f, one_first c g))
    by_tests rest false false false e f g = rw (e, f, g) rest
