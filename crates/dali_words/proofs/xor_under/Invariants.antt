use Rattle.std.proofs.Common.{◌≡◌}
use Rattle.std.specs.Prelude.{bit_xor}
use Rattle.dali_words.specs.Words.{xor_under}
use Rattle.dali_words.proofs.xor_under.Given as goal

abbrev pub invariant-loop-left : goal.invariant-loop-left
invariant-loop-left l = bit_xor l.all (xor_under l.left l.words) ≡ xor_under l.mask l.words

abbrev pub decreases-loop-left : goal.decreases-loop-left
decreases-loop-left l = l.left
