use Rattle.std.proofs.Common.{◌≡◌, ◌≤◌, ◌*◌, ℕ}
use Rattle.dali_access.specs.Index.Records.{words_of}
use Rattle.dali_listing.specs.Listing.{in_memory}
use Rattle.dali_inspect.specs.Counts.{live_entries, sum_below}
use Rattle.dali_inspect.proofs.counting.entries_in_use.Given as goal

abbrev pub invariant-loop-region : goal.invariant-loop-region
invariant-loop-region l = record {
  count : l.count ≡ sum_below (λ (r : ℕ). live_entries (words_of (in_memory l.regions) r)) l.region;
  few : l.count ≤ 21 * l.region;
}
