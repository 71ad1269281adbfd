use Rattle.std.proofs.Common.{◌≡◌, ◌≤◌, ◌+◌, ◌++◌, drop, length}
use Rattle.std.specs.Prelude.{vec_len, vec_capacity, flat_map}
use Rattle.dali_bytes.specs.Fields.{number32}
use Rattle.dali_record.proofs.codec.writing.add_regions.Given as goal

abbrev pub invariant-loop-region : goal.invariant-loop-region
invariant-loop-region l = record {
  added : l.into.items ++ flat_map number32 (drop l.region-index l.regions) ≡ l.initial.into.items ++ flat_map number32 l.regions;
  room : vec_len l.into + length (flat_map number32 (drop l.region-index l.regions)) ≤ vec_capacity l.into;
  capacity : vec_capacity l.initial.into ≤ vec_capacity l.into;
}
