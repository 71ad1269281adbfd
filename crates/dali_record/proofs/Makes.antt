-- What an operation gives on 64 words can be spelled.
use Rattle.std.proofs.Common.{◌≡◌, ℕ, zero, suc, ◌-◌, ◌*◌, ◌/◌, ◌%◌, ◌^◌, ◌<◌, ◌≤◌, ◌≢◌, Bool, true, false, cond, List, [], ◌∷◌, ◌++◌, length, take, drop, get_or, set, replicate, refl, sym, ap, subst, ◌∙◌, arith, length-append, length-take}
use Rattle.std.specs.Prelude.{◌==◌, nat_le, fold, bit_and, bit_or, bit_xor, count_ones}
use Rattle.std.specs.Int.{bit_at}
use Rattle.std.specs.List.{AllByRecursion}
use Rattle.std.proofs.Math.Pow.{pow-lt}
use Rattle.std.proofs.lemmas.Nat.{or_lt, xor_lt, ones_le_self}
use Rattle.std.proofs.lemmas.Nat.Bits.{bit_at_and, bit_at-lt, same_from_bits}
use Rattle.std.proofs.lemmas.Bool.{and_parts, leb-true}
use Rattle.std.proofs.Math.Nat.{pow-suc}
use Rattle.std.proofs.lemmas.Bool.Decides.{Decides-eqb}
use Rattle.std.proofs.lemmas.List.Elements.{All-from_recursion, recursion_from_All}
use Rattle.std.proofs.lemmas.List.Concat.{flat_map-cons}
use lib.Count.{ones_step}
use Rattle.dali_lists.proofs.Members.{all_append}
use Rattle.dali_words.specs.Words.{has_first, under, mask_of}
use Rattle.dali_words.specs.Values.{is_size, IsValue, packed, number_after, bytes_of_word, bytes_of_words, unpacked}
use Rattle.dali_words.specs.Effects.{write_all}
use Rattle.dali_words.proofs.Masks.{IsIn, mask_of-in, in-mask_of}
use Rattle.dali_record.specs.Spelling.{Is64, is_within}

-- ---- words and sets of words
all_set : (P : ℕ → Type 0) (xs : List ℕ) (j v : ℕ) → P v → AllByRecursion P xs → AllByRecursion P (set xs j v)
all_set P [] j v p h = tt
all_set P (x ∷ xs) zero v p h = (p, h.1)
all_set P (x ∷ xs) (suc j) v p h = (h.0, all_set P xs j v p h.1)

pub all_get : (xs : List ℕ) (i : ℕ) → AllByRecursion Is64 xs → Is64 (get_or xs i 0)
all_get [] i h = omega arith
all_get (x ∷ xs) zero h = h.0
all_get (x ∷ xs) (suc i) h = all_get xs i h.1

pub all_drop : (P : ℕ → Type 0) (n : ℕ) (xs : List ℕ) → AllByRecursion P xs → AllByRecursion P (drop n xs)
all_drop P zero xs h = h
all_drop P (suc n) [] h = tt
all_drop P (suc n) (x ∷ xs) h = all_drop P n xs h.1

pub all_take : (P : ℕ → Type 0) (n : ℕ) (xs : List ℕ) → AllByRecursion P xs → AllByRecursion P (take n xs)
all_take P zero xs h = tt
all_take P (suc n) [] h = tt
all_take P (suc n) (x ∷ xs) h = (h.0, all_take P n xs h.1)

pub all_written : (ws : List ℕ) (ps : List (ℕ × ℕ)) → AllByRecursion Is64 ws → AllByRecursion (λ p. Is64 p.1) ps → AllByRecursion Is64 (write_all ws ps)
all_written ws [] h g = h
all_written ws (p ∷ ps) h g = all_written (set ws p.0 p.1) ps (all_set Is64 ws p.0 p.1 g.0 h) g.1

pub all_under : (m : ℕ) (ws : List ℕ) → AllByRecursion Is64 ws → AllByRecursion Is64 (under m ws)
all_under m [] h = tt
all_under m (w ∷ ws) h = by_test (all_under (m / 2) ws h.1) (has_first m)
  where
    by_test : AllByRecursion Is64 (under (m / 2) ws) → (c : Bool) → AllByRecursion Is64 (cond c (w ∷ under (m / 2) ws) (under (m / 2) ws))
    by_test rest true = (h.0, rest)
    by_test rest false = rest

pub xor_small : (ws : List ℕ) (a : ℕ) → a < 2 ^ 64 → AllByRecursion Is64 ws → fold bit_xor a ws < 2 ^ 64
xor_small [] a h g = h
xor_small (w ∷ ws) a h g = xor_small ws (bit_xor a w) (xor_lt 64 a w h g.0) g.1

pub mask_small : (is : List ℕ) (a : ℕ) → a < 2 ^ 64 → AllByRecursion (λ i. i < 64) is → fold (λ m i. bit_or m (2 ^ i)) a is < 2 ^ 64
mask_small [] a h g = h
mask_small (i ∷ is) a h g = mask_small is (bit_or a (2 ^ i)) (or_lt 64 a (2 ^ i) h (pow-lt g.0)) g.1

no_first : (c : Bool) → c ≡ true → c ≡ false → ⊥
no_first c e f = cc

no_ones : count_ones 0 ≡ 0
no_ones = omega (arith, ones_le_self 0)

-- as many words stand under a set as it has members
pub members : (m : ℕ) (ws : List ℕ) → m < 2 ^ length ws → length (under m ws) ≡ count_ones m
members m [] lt = let none : m ≡ 0 = omega (arith, lt) in rw none (sym no_ones)
members m (w ∷ ws) lt = by_test (members (m / 2) ws half) (has_first m) refl
  where
    half : m / 2 < 2 ^ length ws
    half = let double : 2 ^ suc (length ws) ≡ 2 ^ length ws * 2 = pow-suc 2 (length ws) in omega (arith, lt, double)

    by_test : length (under (m / 2) ws) ≡ count_ones (m / 2) → (c : Bool) → has_first m ≡ c → length (under m (w ∷ ws)) ≡ count_ones m
    by_test rest true e = let one : m % 2 ≡ 1 = (Decides-eqb (m % 2) 1).0 e in rw e (omega (arith, rest, ones_step m, one))
    by_test rest false e = let none : m % 2 ≢ 1 = λ h. no_first (m % 2 == 1) ((Decides-eqb (m % 2) 1).1 h) e in rw e (omega (arith, rest, ones_step m, none))

within_fact : (ws is : List ℕ) → ((i : ℕ) → IsIn ws i → IsIn is i) → bit_and (mask_of ws) (mask_of is) ≡ mask_of ws
within_fact ws is inside = same_from_bits (bit_and (mask_of ws) (mask_of is)) (mask_of ws) each
  where
    each : (i : ℕ) → bit_at (bit_and (mask_of ws) (mask_of is)) i ≡ bit_at (mask_of ws) i
    each i = by_bit (bit_at (mask_of ws) i) refl
      where
        by_bit : (b : ℕ) → bit_at (mask_of ws) i ≡ b → bit_at (bit_and (mask_of ws) (mask_of is)) i ≡ bit_at (mask_of ws) i
        by_bit zero e = omega (arith, bit_at_and (mask_of ws) (mask_of is) i, e)
        by_bit (suc zero) e = omega (arith, bit_at_and (mask_of ws) (mask_of is) i, e, mask_of-in is i (inside i (in-mask_of ws i e)))
        by_bit (suc (suc b)) e = absurd (omega (arith, e, bit_at-lt (mask_of ws) i))

pub within : (ws is : List ℕ) → ((i : ℕ) → IsIn ws i → IsIn is i) → is_within (mask_of ws) (mask_of is) ≡ true
within ws is inside = (Decides-eqb (bit_and (mask_of ws) (mask_of is)) (mask_of ws)).1 (within_fact ws is inside)

-- ---- values
-- a word of at most eight bytes
eight : (bs : List ℕ) → AllByRecursion (λ b. b < 256) bs → Is64 (number_after 0 (take 8 bs))
eight [] h = omega arith
eight (a ∷ []) h = omega (arith, h.0)
eight (a ∷ b ∷ []) h = omega (arith, h.0, h.1.0)
eight (a ∷ b ∷ c ∷ []) h = omega (arith, h.0, h.1.0, h.1.1.0)
eight (a ∷ b ∷ c ∷ d ∷ []) h = omega (arith, h.0, h.1.0, h.1.1.0, h.1.1.1.0)
eight (a ∷ b ∷ c ∷ d ∷ e ∷ []) h = omega (arith, h.0, h.1.0, h.1.1.0, h.1.1.1.0, h.1.1.1.1.0)
eight (a ∷ b ∷ c ∷ d ∷ e ∷ f ∷ []) h = omega (arith, h.0, h.1.0, h.1.1.0, h.1.1.1.0, h.1.1.1.1.0, h.1.1.1.1.1.0)
eight (a ∷ b ∷ c ∷ d ∷ e ∷ f ∷ g ∷ []) h = omega (arith, h.0, h.1.0, h.1.1.0, h.1.1.1.0, h.1.1.1.1.0, h.1.1.1.1.1.0, h.1.1.1.1.1.1.0)
eight (a ∷ b ∷ c ∷ d ∷ e ∷ f ∷ g ∷ i ∷ bs) h = omega (arith, h.0, h.1.0, h.1.1.0, h.1.1.1.0, h.1.1.1.1.0, h.1.1.1.1.1.0, h.1.1.1.1.1.1.0, h.1.1.1.1.1.1.1.0)

zeros : (n : ℕ) → AllByRecursion (λ b. b < 256) (replicate n 0)
zeros zero = tt
zeros (suc n) = (omega arith, zeros n)

pub packed_words : (v : List ℕ) → IsValue v → AllByRecursion Is64 (packed v)
packed_words v is =
    let bytes : AllByRecursion (λ b. b < 256) (v ++ replicate (40 - length v) 0) = all_append (λ b. b < 256) v (replicate (40 - length v) 0) (recursion_from_All (λ b. b < 256) v is.1) (zeros (40 - length v)) in
    let each = λ (i : ℕ). eight (drop (8 * i) (v ++ replicate (40 - length v) 0)) (all_drop (λ b. b < 256) (8 * i) (v ++ replicate (40 - length v) 0) bytes) in
    (each 0, (each 1, (each 2, (each 3, (each 4, tt)))))

bytes_below : (ws : List ℕ) → AllByRecursion (λ b. b < 256) (bytes_of_words ws)
bytes_below [] = tt
bytes_below (w ∷ ws) =
    let here : AllByRecursion (λ b. b < 256) (bytes_of_word w) = (omega arith, (omega arith, (omega arith, (omega arith, (omega arith, (omega arith, (omega arith, (omega arith, tt)))))))) in
    subst (AllByRecursion (λ b. b < 256)) (sym (flat_map-cons bytes_of_word w ws)) (all_append (λ b. b < 256) (bytes_of_word w) (bytes_of_words ws) here (bytes_below ws))

length-bytes : (ws : List ℕ) → length (bytes_of_words ws) ≡ 8 * length ws
length-bytes [] = refl
length-bytes (w ∷ ws) = ap length (flat_map-cons bytes_of_word w ws) ∙ omega (arith, length-append (bytes_of_word w) (bytes_of_words ws), length-bytes ws)

pub unpacked_is : (n : ℕ) (ws : List ℕ) → is_size n ≡ true → length ws ≡ 5 → IsValue (unpacked n ws)
unpacked_is n ws size five =
    let few : n ≤ 40 = leb-true n 40 (and_parts (nat_le 1 n) (nat_le n 40) size).1 in
    let long : length (take n (bytes_of_words ws)) ≡ n = omega (arith, length-take n (bytes_of_words ws), length-bytes ws, five, few) in
    (ap is_size long ∙ size, All-from_recursion (λ b. b < 256) (take n (bytes_of_words ws)) (all_take (λ b. b < 256) n (bytes_of_words ws) (bytes_below ws)))
