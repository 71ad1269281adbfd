-- The first word of a line.
use Rattle.std.proofs.Common.{◌≡◌, ℕ, ◌+◌, ◌<◌, not, false, suc, zero, List, [], ◌∷◌, length, take, drop, Some, None, cond, refl, ◌∙◌, ap, arith}
use Rattle.std.specs.Prelude.{position, filter}
use Rattle.std.proofs.lemmas.Bool.{ne_eqb}
use Rattle.dali_script.specs.Lines.{is_blank, is_empty, words_of}
use Rattle.dali_script.proofs.CutLines.{cut_at, cut_nowhere}

is_kept : (x : ℕ) (word : List ℕ) → is_empty (x ∷ word) ≡ false
is_kept x word = ne_eqb (length (x ∷ word)) 0 (λ z. omega arith)

pub behind_a_blank : (text : List ℕ) → position is_blank text ≡ Some 0 → words_of text ≡ words_of (drop 1 text)
behind_a_blank text e = ap (filter (λ word. not (is_empty word))) (cut_at is_blank text 0 e)

pub word_first : (text : List ℕ) (end : ℕ) → position is_blank text ≡ Some end → 0 < end → words_of text ≡ take end text ∷ words_of (drop (end + 1) text)
word_first [] end e some = absurd (cc)
word_first (x ∷ xs) zero e some = absurd (omega arith)
word_first (x ∷ xs) (suc n) e some =
    ap (filter (λ word. not (is_empty word))) (cut_at is_blank (x ∷ xs) (suc n) e)
    ∙ ap (λ b. cond (not b) (take (suc n) (x ∷ xs) ∷ words_of (drop (suc n + 1) (x ∷ xs))) (words_of (drop (suc n + 1) (x ∷ xs)))) (is_kept x (take n xs))

pub one_word : (text : List ℕ) → position is_blank text ≡ None → (length text ≡ 0 → ⊥) → words_of text ≡ text ∷ []
one_word [] e some = absurd (some refl)
one_word (x ∷ xs) e some =
    ap (filter (λ word. not (is_empty word))) (cut_nowhere is_blank (x ∷ xs) e) ∙ ap (λ b. cond (not b) ((x ∷ xs) ∷ []) []) (is_kept x xs)
