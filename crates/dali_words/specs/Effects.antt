-- The effect of an operation from the words that it reads, and those that it writes with their new values.
--     write_all ws ps            ws with each of these words set to its value, one after another
--     effect_of ws reads writes  the effect on ws of reading and writing these words
--     reading ws m               the effect of reading the words in the set m
--     writing ws m k news        the effect of reading the words in the set m, and writing news over the words from k on
--     carried e us               the same masks and new words, on the words us
--     IsWithin ws e              e writes words that it reads alone, and leaves all others of ws
--     AreApart e f               neither writes a word that the other reads
--     DependsOnReads f ws        on all words that agree with ws under the read mask, f does the same as on ws
--     AnswersByReads f ws        the same for f with an outcome
use Rattle.std.specs.Prelude.{◌≡◌, ℕ, List, [], ◌∷◌, map, slice_set, slice_index, length, zip}
use Rattle.std.specs.Int.{bit_at}
use Rattle.dali_words.specs.Words.{mask_of, row_of, under, write_under, AgreeUnder}
use Rattle.dali_words.specs.declared.Effect.{Effect}

abbrev pub write_all : List ℕ → List (ℕ × ℕ) → List ℕ
write_all ws [] = ws
write_all ws (p ∷ ps) = write_all (slice_set ws p.0 p.1) ps

abbrev pub effect_of : List ℕ → List ℕ → List (ℕ × ℕ) → Effect
effect_of ws reads writes = record { read = mask_of reads; write = mask_of (map (λ p. p.0) writes); after = write_all ws writes }

abbrev pub reading : List ℕ → ℕ → Effect
reading ws m = record { read = m; write = 0; after = ws }

abbrev pub writing : List ℕ → ℕ → ℕ → List ℕ → Effect
writing ws m k news = record { read = m; write = mask_of (row_of k (length news)); after = write_all ws (zip (row_of k (length news)) news) }

abbrev pub carried : Effect → List ℕ → Effect
carried e us = record { read = e.read; write = e.write; after = write_under e.write (under e.write e.after) us }

pub record IsWithin (ws : List ℕ) (e : Effect) : Type 0 where
  pub count : length e.after ≡ length ws
  pub inside : (i : ℕ) → bit_at e.write i ≡ 1 → bit_at e.read i ≡ 1
  pub others : (i : ℕ) → bit_at e.write i ≡ 0 → slice_index e.after i ≡ slice_index ws i

pub record AreApart (e f : Effect) : Type 0 where
  pub left : (i : ℕ) → bit_at e.write i ≡ 1 → bit_at f.read i ≡ 0
  pub right : (i : ℕ) → bit_at f.write i ≡ 1 → bit_at e.read i ≡ 0

abbrev pub DependsOnReads : (List ℕ → Effect) → List ℕ → Type 0
DependsOnReads f ws = (us : List ℕ) → AgreeUnder (f ws).read ws us → f us ≡ carried (f ws) us

abbrev pub AnswersByReads : {O : Type 0} → (List ℕ → Effect × O) → List ℕ → Type 0
AnswersByReads f ws = (us : List ℕ) → AgreeUnder (f ws).0.read ws us → f us ≡ (carried (f ws).0 us, (f ws).1)
