use Rattle.std.proofs.Common.{◌≡◌, drop}
use Rattle.dali_words.specs.Words.{write_under}
use Rattle.dali_redo.proofs.words.write.Given as goal

abbrev pub invariant-loop-new : goal.invariant-loop-new
invariant-loop-new l = write_under l.left (drop l.new-index l.news) l.words ≡ write_under l.mask l.news l.initial.words
