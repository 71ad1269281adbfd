use Rattle.std.proofs.Common.{◌≡◌, ◌++◌, drop}
use Rattle.dali_record.specs.Spelling.{words_bytes}
use Rattle.dali_image.proofs.table.put_words.Given as goal

abbrev pub invariant-loop-word : goal.invariant-loop-word
invariant-loop-word l = l.into.items ++ words_bytes (drop l.word-index l.words) ≡ l.initial.into.items ++ words_bytes l.words
