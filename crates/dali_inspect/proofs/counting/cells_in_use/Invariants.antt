use Rattle.std.proofs.Common.{◌≡◌, ◌≤◌, ◌+◌, ◌*◌, ℕ}
use Rattle.dali_access.specs.Index.Records.{words_of}
use Rattle.dali_listing.specs.Listing.{in_memory}
use Rattle.dali_inspect.specs.Counts.{live_cells, sum_below}
use Rattle.dali_inspect.proofs.counting.cells_in_use.Given as goal

abbrev pub invariant-loop-number : goal.invariant-loop-number
invariant-loop-number l = record {
  count : l.count ≡ sum_below (λ (n : ℕ). live_cells (words_of (in_memory l.regions) (l.geometry.index + n))) l.number;
  few : l.count ≤ 7 * l.number;
}
