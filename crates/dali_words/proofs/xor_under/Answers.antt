use Rattle.std.proofs.Common.{rules, ◌≡◌, ◌∙◌, ap, sym, arith, subst, ◌<◌, ◌^◌, ◌-◌, length, get_or}
use Rattle.std.specs.Prelude.{bit_xor, bit_and}
use Rattle.std.specs.Int.Bits.{xor_assoc, xor_zero_r}
use Rattle.std.specs.Int.Count.{count_trailing_zeros}
use Rattle.dali_words.specs.Words.{xor_under}
use Rattle.dali_words.proofs.Lowest.{xor_under-lowest, xor_under-nothing}
use Rattle.dali_words.proofs.xor_under.Goals as goal

pub loop-left-preserved : goal.loop-left-preserved
loop-left-preserved c =
    let left = c.loop-left.left in
    let words = c.args.words.now in
    let others = xor_under (bit_and left (left - 1)) words in
    let some : 0 < left = grind (arith, c.loop-left-test.true) in
    let below : left < 2 ^ 64 = search rules in
    let fits : left < 2 ^ length words = subst (λ n. left < 2 ^ n) (sym c.told-words) below in
    let lowest : xor_under left words ≡ bit_xor (get_or words (count_trailing_zeros 64 left) 0) others =
    xor_under-lowest left words some fits ∙ ap (λ n. bit_xor (get_or words (count_trailing_zeros n left) 0) others) c.told-words in
    xor_assoc c.loop-left.all (get_or words (count_trailing_zeros 64 left) 0) others ∙ ap (bit_xor c.loop-left.all) (sym lowest) ∙ c.loop-left.invariant

pub returns : goal.returns
returns c =
    let none : c.loop-left.left ≡ 0 = grind (arith, c.loop-left-test.false) in
    sym (xor_zero_r c.loop-left.all) ∙ ap (bit_xor c.loop-left.all) (sym (xor_under-nothing c.args.words.now) ∙ ap (λ n. xor_under n c.args.words.now) (sym none)) ∙ c.loop-left.invariant
