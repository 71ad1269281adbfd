use Rattle.std.proofs.Common.{◌≡◌, ◌≤◌}
use Rattle.dali_inspect.specs.Counts.{live_cell, sum_below}
use Rattle.dali_inspect.proofs.counting.live_cells.Given as goal

abbrev pub invariant-loop-number : goal.invariant-loop-number
invariant-loop-number l = record {
  count : l.count ≡ sum_below (live_cell l.words) l.number;
  few : l.count ≤ l.number;
}
