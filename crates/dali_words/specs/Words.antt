-- Words of a region, and sets of words. A set of words is a number in which bit i stands for word i.
--     parity_of ws               the exclusive-or of all words
--     xor_under m ws             the exclusive-or of the words in the set m
--     under m ws                 the words in the set m, ascending
--     write_under m news ws      ws with the words in the set m replaced by news, in order
--     mask_of is                 the set of the words with these numbers
--     row_of k n                 the numbers of n words in a row, from k on
--     AgreeUnder m ws us         as many words, with the same words in the set m
--     AreWords ws                the words of a region: 64 numbers of 64 bits
--     AllAreWords image          the regions of an image: each is the words of a region
use Rattle.std.specs.Prelude.{◌≡◌, ℕ, zero, suc, ◌+◌, ◌<◌, ◌^◌, ◌/◌, ◌%◌, Bool, List, [], ◌∷◌, if◌then◌else◌, ◌==◌, bit_xor, bit_or, fold, length, slice_index}
use Rattle.std.specs.List.{AllByRecursion}
use Rattle.std.specs.Int.{bit_at}

abbrev pub parity_of : List ℕ → ℕ
parity_of ws = fold bit_xor 0 ws

abbrev pub has_first : ℕ → Bool
has_first m = m % 2 == 1

abbrev pub under : ℕ → List ℕ → List ℕ
under m [] = []
under m (w ∷ ws) = let rest = under (m / 2) ws in if has_first m then w ∷ rest else rest

abbrev pub xor_under : ℕ → List ℕ → ℕ
xor_under m ws = parity_of (under m ws)

-- the first of these, or the word itself where there is none
abbrev pub first_or : ℕ → List ℕ → ℕ
first_or w [] = w
first_or w (n ∷ ns) = n

abbrev pub rest_of : List ℕ → List ℕ
rest_of [] = []
rest_of (n ∷ ns) = ns

abbrev pub write_under : ℕ → List ℕ → List ℕ → List ℕ
write_under m news [] = []
write_under m news (w ∷ ws) = (if has_first m then first_or w news else w) ∷ write_under (m / 2) (if has_first m then rest_of news else news) ws

abbrev pub mask_of : List ℕ → ℕ
mask_of is = fold (λ m i. bit_or m (2 ^ i)) 0 is

abbrev pub row_of : ℕ → ℕ → List ℕ
row_of k zero = []
row_of k (suc n) = k ∷ row_of (k + 1) n

pub record AgreeUnder (m : ℕ) (ws us : List ℕ) : Type 0 where
  pub count : length ws ≡ length us
  pub same : (i : ℕ) → bit_at m i ≡ 1 → slice_index ws i ≡ slice_index us i

abbrev pub AreWords : List ℕ → Type 0
AreWords ws = (length ws ≡ 64) × AllByRecursion (λ w. w < 2 ^ 64) ws

abbrev pub AllAreWords : List (List ℕ) → Type 0
AllAreWords image = AllByRecursion AreWords image
