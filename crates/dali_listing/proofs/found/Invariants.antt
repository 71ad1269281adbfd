use Rattle.std.proofs.Common.{◌≡◌}
use Rattle.std.specs.Prelude.{flat_map, filter_map}
use Rattle.dali_access.specs.Index.Entries.{entries}
use Rattle.dali_access.specs.Index.Records.{stored, below}
use Rattle.dali_listing.specs.Listing.{in_memory, pairs_of}
use Rattle.dali_listing.proofs.found.Given as goal

abbrev pub invariant-loop-region : goal.invariant-loop-region
invariant-loop-region l = pairs_of l.rows.items ≡ flat_map (λ r. filter_map (stored l.geometry (in_memory l.regions) r) entries) (below l.region)
