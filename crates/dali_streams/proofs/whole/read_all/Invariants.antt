use Rattle.std.proofs.Common.{◌≡◌, ◌≤◌, ◌+◌, ◌-◌, length}
use Rattle.dali_streams.proofs.Steps.{SoFar}
use Rattle.dali_streams.proofs.whole.read_all.Given as goal

abbrev pub invariant-loop-buffer : goal.invariant-loop-buffer
invariant-loop-buffer g l = record {
  so_far : SoFar (g.S.Source.left l.fn.source) l.bytes.items (g.S.Source.left l.source);
  short : length l.bytes.items ≤ l.limit + 1;
  kept : g.S.Source.faults l.source ≡ g.S.Source.faults l.fn.source;
}

abbrev pub decreases-loop-buffer : goal.decreases-loop-buffer
decreases-loop-buffer g l = l.limit + 1 - length l.bytes.items
