-- Words of 64 bits.
use Rattle.std.proofs.Common.{◌≡◌, ℕ, zero, suc, ◌<◌, ◌^◌, List, [], ◌∷◌, length, ◌∙◌, arith, get_or, set}
use Rattle.std.specs.List.{AllByRecursion}
use Rattle.std.proofs.lemmas.List.{length-set}
use Rattle.dali_words.specs.Words.{AreWords}

word_at : (ws : List ℕ) (i : ℕ) → AllByRecursion (λ w. w < 2 ^ 64) ws → get_or ws i 0 < 2 ^ 64
word_at [] i h = omega arith
word_at (w ∷ ws) zero h = h.0
word_at (w ∷ ws) (suc i) h = word_at ws i h.1

pub each_word : (ws : List ℕ) → ((i : ℕ) → get_or ws i 0 < 2 ^ 64) → AllByRecursion (λ w. w < 2 ^ 64) ws
each_word [] h = tt
each_word (w ∷ ws) h = (h 0, each_word ws (λ i. h (suc i)))

set_word : (ws : List ℕ) (i v : ℕ) → v < 2 ^ 64 → AllByRecursion (λ w. w < 2 ^ 64) ws → AllByRecursion (λ w. w < 2 ^ 64) (set ws i v)
set_word [] i v small h = tt
set_word (w ∷ ws) zero v small h = (small, h.1)
set_word (w ∷ ws) (suc i) v small h = (h.0, set_word ws i v small h.1)

-- a word fits, also past the end, where it is told as 0
pub word_fits : (ws : List ℕ) (i : ℕ) → AreWords ws → get_or ws i 0 < 2 ^ 64
word_fits ws i are = word_at ws i are.1

pub are_words : (ws : List ℕ) → length ws ≡ 64 → ((i : ℕ) → get_or ws i 0 < 2 ^ 64) → AreWords ws
are_words ws long small = (long, each_word ws small)

pub are_words_with : (ws : List ℕ) (i v : ℕ) → v < 2 ^ 64 → AreWords ws → AreWords (set ws i v)
are_words_with ws i v small are = (length-set ws i v ∙ are.0, set_word ws i v small are.1)
