use Rattle.std.proofs.Common.{rules, ◌≡◌, ◌∙◌, ap, sym, subst, arith, ◌<◌, ◌^◌, ◌++◌, [], length}
use Rattle.std.proofs.lemmas.List.{append-nil}
use Rattle.dali_words.specs.Words.{under}
use Rattle.dali_words.proofs.Lowest.{nothing_under}
use Rattle.dali_record.proofs.Loops.{lowest_chosen, room_for_lowest}
use Rattle.dali_record.proofs.lists.Words.fill_under.Goals as goal

pub push-requires : goal.push-requires
push-requires c =
    let some : 0 < c.loop-left.left = grind (arith, c.loop-left-test.true) in
    let below : c.loop-left.left < 2 ^ 64 = search rules in
    let fits : c.loop-left.left < 2 ^ length c.args.words.now = subst (λ n. c.loop-left.left < 2 ^ n) (sym c.told-words) below in
    let few : length c.loop-left.self < length c.args.words.now = room_for_lowest c.loop-left.left c.args.mask c.loop-left.self c.args.words.now some fits c.loop-left.invariant in
    omega (arith, few, c.told-words)

pub loop-left-preserved : goal.loop-left-preserved
loop-left-preserved c =
    let some : 0 < c.loop-left.left = grind (arith, c.loop-left-test.true) in
    let below : c.loop-left.left < 2 ^ 64 = search rules in
    let fits : c.loop-left.left < 2 ^ length c.args.words.now = subst (λ n. c.loop-left.left < 2 ^ n) (sym c.told-words) below in
    lowest_chosen c.loop-left.left c.loop-left.self _ c.args.words.now (under c.args.mask c.args.words.now) some fits (rw c.told-words c.push.ensures) c.loop-left.invariant

pub returns : goal.returns
returns c =
    let none : c.loop-left.left ≡ 0 = grind (arith, c.loop-left-test.false) in
    let rest : under c.loop-left.left c.args.words.now ≡ [] = ap (λ n. under n c.args.words.now) none ∙ nothing_under c.args.words.now in
    sym (append-nil c.loop-left.self) ∙ ap (λ ws. c.loop-left.self ++ ws) (sym rest) ∙ c.loop-left.invariant
