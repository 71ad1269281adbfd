use Rattle.std.proofs.Common.{◌≡◌, ◌*◌, ◌<◌, ℕ, [], length, take, get_or}
use Rattle.std.specs.Prelude.{flat_map}
use Rattle.dali_record.specs.Spelling.{words_bytes}
use Rattle.dali_image.proofs.reading.words_of.Given as goal

abbrev pub invariant-loop-region : goal.invariant-loop-region
invariant-loop-region l = record {
  size : length l.into ≡ length l.initial.into;
  each : (i : ℕ) → i < length l.into → length (get_or l.into i []) ≡ 64;
  so_far : take (512 * l.region) l.bytes ≡ flat_map words_bytes (take l.region l.into);
}
