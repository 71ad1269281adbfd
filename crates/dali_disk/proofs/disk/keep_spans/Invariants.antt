use Rattle.std.proofs.Common.{◌≡◌, ◌≤◌, length, drop}
use Rattle.std.specs.Prelude.{vec_capacity}
use Rattle.dali_disk.specs.State.{Agree}
use Rattle.dali_disk.proofs.disk.keep_spans.Given as goal

abbrev pub invariant-loop-number : goal.invariant-loop-number
invariant-loop-number l = record { size : length l.synced.items ≡ length l.seen; agree : Agree l.old (drop l.number l.spans) l.synced.items l.seen; capacity : vec_capacity l.fn.synced ≤ vec_capacity l.synced }
