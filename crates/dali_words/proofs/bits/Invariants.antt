use Rattle.std.proofs.Common.{◌≡◌, ◌-◌}
use Rattle.dali_words.specs.Words.{mask_of, row_of}
use Rattle.dali_words.proofs.bits.Given as goal

abbrev pub invariant-loop-word : goal.invariant-loop-word
invariant-loop-word l = l.set ≡ mask_of (row_of l.first (l.word - l.first))
