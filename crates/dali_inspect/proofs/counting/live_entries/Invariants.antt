use Rattle.std.proofs.Common.{◌≡◌, ◌≤◌}
use Rattle.dali_inspect.specs.Counts.{live_entry, sum_below}
use Rattle.dali_inspect.proofs.counting.live_entries.Given as goal

abbrev pub invariant-loop-entry : goal.invariant-loop-entry
invariant-loop-entry l = record {
  count : l.count ≡ sum_below (live_entry l.words) l.entry;
  few : l.count ≤ l.entry;
}
