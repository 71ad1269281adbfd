use Rattle.std.proofs.Common.{◌≡◌, ◌≤◌, ◌+◌, ◌*◌, ◌++◌, length, drop}
use Rattle.std.specs.Prelude.{flat_map, vec_len, vec_capacity}
use Rattle.dali_record.specs.Spelling.{words_bytes}
use Rattle.dali_image.proofs.region.regions_bytes.Given as goal

abbrev pub invariant-loop-words : goal.invariant-loop-words
invariant-loop-words l = record {
  added : l.into.items ++ flat_map words_bytes (drop l.words-index l.regions) ≡ l.initial.into.items ++ flat_map words_bytes l.regions;
  room : vec_len l.into + 512 * length (drop l.words-index l.regions) ≤ vec_capacity l.into;
  capacity : vec_capacity l.initial.into ≤ vec_capacity l.into;
}
