use Rattle.std.proofs.Common.{◌≡◌, take, drop}
use Rattle.std.specs.Prelude.{flat_map}
use Rattle.dali_words.specs.Words.{mask_of}
use Rattle.dali_access.specs.Index.Entries.{entries}
use Rattle.dali_access.specs.Index.Rows.{look, look_among, passed}
use Rattle.dali_access.proofs.index.look.Given as goal

abbrev pub invariant-loop-entry : goal.invariant-loop-entry
invariant-loop-entry l = record {
  seen : l.read ≡ mask_of (flat_map (passed l.words) (take l.entry entries));
  rest : look_among l.words l.key (flat_map (passed l.words) (take l.entry entries)) (drop l.entry entries) ≡ look l.words l.key;
}
