use Rattle.std.proofs.Common.{◌≡◌, take, drop, map}
use Rattle.dali_words.specs.Words.{mask_of}
use Rattle.dali_access.specs.Index.Entries.{entries, state_word}
use Rattle.dali_access.specs.Index.Rows.{add, add_among}
use Rattle.dali_access.proofs.index.add.Given as goal

abbrev pub invariant-loop-entry : goal.invariant-loop-entry
invariant-loop-entry l = record {
  seen : l.read ≡ mask_of (map state_word (take l.entry entries));
  rest : add_among l.words l.key l.place (map state_word (take l.entry entries)) (drop l.entry entries) ≡ add l.words l.key l.place;
}
