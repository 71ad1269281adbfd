use Rattle.std.proofs.Common.{◌≡◌, ◌++◌}
use Rattle.dali_words.specs.Words.{under}
use Rattle.dali_record.proofs.lists.Words.fill_under.Given as goal

abbrev pub invariant-loop-left : goal.invariant-loop-left
invariant-loop-left l = l.self ++ under l.left l.words ≡ under l.mask l.words

abbrev pub decreases-loop-left : goal.decreases-loop-left
decreases-loop-left l = l.left
