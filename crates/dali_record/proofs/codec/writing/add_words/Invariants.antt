use Rattle.std.proofs.Common.{◌≡◌, ◌≤◌, ◌+◌, ◌++◌, drop, length}
use Rattle.std.specs.Prelude.{vec_len, vec_capacity}
use Rattle.dali_record.specs.Spelling.{words_bytes}
use Rattle.dali_record.proofs.codec.writing.add_words.Given as goal

abbrev pub invariant-loop-word : goal.invariant-loop-word
invariant-loop-word l = record {
  added : l.into.items ++ words_bytes (drop l.word-index l.words) ≡ l.initial.into.items ++ words_bytes l.words;
  room : vec_len l.into + length (words_bytes (drop l.word-index l.words)) ≤ vec_capacity l.into;
  capacity : vec_capacity l.initial.into ≤ vec_capacity l.into;
}
