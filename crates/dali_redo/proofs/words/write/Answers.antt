use Rattle.std.proofs.Common.{rules, ◌≡◌, ◌∙◌, ap, sym, arith, subst, ◌<◌, ◌^◌, ◌+◌, ◌-◌, length, drop, get_or, set}
use Rattle.std.specs.Prelude.{bit_and}
use Rattle.std.specs.Int.Count.{count_trailing_zeros}
use Rattle.dali_words.specs.Words.{write_under}
use Rattle.dali_system.proofs.Lowest.{lowest_write}
use Rattle.dali_words.proofs.Writes.{write_nothing}
use Rattle.dali_redo.proofs.Writes.{write_none, next_one, none_left}
use Rattle.dali_redo.proofs.words.write.Goals as goal

pub loop-new-preserved : goal.loop-new-preserved
loop-new-preserved c =
    let left = c.loop-new.left in
    let i = c.loop-new.new-index in
    let news = c.args.news.now in
    let ws = c.loop-new.words in
    let some : 0 < left = grind (arith, c.if-left-eq0.false) in
    let below : left < 2 ^ 64 = search rules in
    let size : length ws ≡ 64 = search rules in
    let fits : left < 2 ^ length ws = subst (λ n. left < 2 ^ n) (sym size) below in
    let within : i < length news = search rules in
    let lowest = lowest_write left (get_or news i 0) (drop (i + 1) news) ws some fits in
    let count : count_trailing_zeros (length ws) left ≡ count_trailing_zeros 64 left = ap (λ n. count_trailing_zeros n left) size in
    sym (lowest ∙ ap (λ n. write_under (bit_and left (left - 1)) (drop (i + 1) news) (set ws n (get_or news i 0))) count) ∙ ap (λ ns. write_under left ns ws) (sym (next_one news i within)) ∙ c.loop-new.invariant

pub returns-then-left-eq0 : goal.returns-then-left-eq0
returns-then-left-eq0 c = sym (write_nothing (drop c.loop-new.new-index c.args.news.now) c.loop-new.words) ∙ ap (λ m. write_under m (drop c.loop-new.new-index c.args.news.now) c.loop-new.words) (sym c.if-left-eq0.true) ∙ c.loop-new.invariant

pub returns : goal.returns
returns c = sym (write_none c.loop-new.left c.loop-new.words) ∙ ap (λ ns. write_under c.loop-new.left ns c.loop-new.words) (sym (none_left c.args.news.now c.loop-new.new-index c.loop-new-test.false)) ∙ c.loop-new.invariant
