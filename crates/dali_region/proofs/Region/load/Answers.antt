use Rattle.std.proofs.Common.{◌≡◌, ◌<◌, ◌^◌, ℕ, List, rules, ap, get_or, length}
use Rattle.dali_words.proofs.Widths.{are_words}
use Rattle.dali_region.specs.State.{loaded}
use Rattle.dali_region.proofs.Holds.{loaded_keeps, to_same}
use Rattle.dali_region.proofs.Olds.{restored_nothing}
use Rattle.dali_region.proofs.Region.load.Goals as goal

pub returns-clause-value : goal.returns-clause-value
returns-clause-value c = rw (c.new.ensures, c.parity.ensures) (ap (λ (bs : List ℕ). record (loaded c.args.words) { back = bs }) (restored_nothing c.args.words c.args.words))

pub returns-clause-protected : goal.returns-clause-protected
returns-clause-protected c =
    let long : length c.args.words ≡ 64 = search rules in
    let fits : (i : ℕ) → get_or c.args.words i 0 < 2 ^ 64 = search rules in
    to_same _ _ (returns-clause-value c) (loaded_keeps c.args.words (are_words c.args.words long fits))

pub invariant_of-result : goal.invariant_of-result
invariant_of-result c = returns-clause-protected c
