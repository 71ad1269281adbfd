use Rattle.std.proofs.Common.{◌≡◌, ◌≤◌, ◌-◌, ◌*◌, length, vec_capacity}
use Rattle.dali_checkpoint.specs.Runs.{bytes_between}
use Rattle.dali_checkpoint.proofs.parts.gather.Given as goal

abbrev pub invariant-loop-number : goal.invariant-loop-number
invariant-loop-number l = record {
  bytes : l.buffer.items ≡ bytes_between l.from (l.number - l.from) l.regions;
  size : length l.buffer.items ≡ 512 * (l.number - l.from);
  room : 65536 ≤ vec_capacity l.buffer;
}
