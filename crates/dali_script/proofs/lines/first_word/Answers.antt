use Rattle.std.proofs.Common.{◌≡◌, ◌<◌, ◌+◌, ◌∷◌, length, take, sym, ◌∙◌, ap, arith, None, position}
use Rattle.std.proofs.lemmas.Bool.Decides.{nat_tests}
use Rattle.std.proofs.lemmas.List.{take_rest}
use Rattle.dali_script.specs.Lines.{is_blank, words_of}
use Rattle.dali_script.proofs.FirstWords.{word_first, one_word}
use Rattle.dali_script.proofs.lines.first_word.Goals as goal

pub returns-then-end-gt0-clause-some : goal.returns-then-end-gt0-clause-some
returns-then-end-gt0-clause-some c =
    let text = c.loop-end.text.now in
    let end = c.in-Some.end in
    let some : 0 < end = grind (arith, nat_tests, c.if-end-gt0.true) in
    sym c.loop-end.invariant.words ∙ word_first text end (sym c.in-Some.ensures) some ∙ ap (λ rest. take end text ∷ words_of rest) (sym (take_rest text (end + 1)))

pub returns-else-is_empty-clause-some : goal.returns-else-is_empty-clause-some
returns-else-is_empty-clause-some c =
    let text = c.loop-end.text.now in
    let none : position is_blank text ≡ None = sym c.end_of_word.ensures ∙ c.in_default.is in
    let some : length text ≡ 0 → ⊥ = λ z. grind (arith, nat_tests, z, c.if-is_empty.ensures {u = tt}) in
    sym c.loop-end.invariant.words ∙ one_word text none some
