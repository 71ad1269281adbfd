use Rattle.std.proofs.Common.{◌≡◌, ◌++◌}
use Rattle.std.specs.Prelude.{filter_map}
use Rattle.dali_words.specs.Words.{row_of}
use Rattle.dali_access.specs.Index.Records.{stored}
use Rattle.dali_listing.specs.Listing.{in_memory, pairs_of}
use Rattle.dali_listing.proofs.add_region.Given as goal

abbrev pub invariant-loop-entry : goal.invariant-loop-entry
invariant-loop-entry l = pairs_of l.rows.items ≡ pairs_of l.initial.rows.items ++ filter_map (stored l.geometry (in_memory l.regions) l.region) (row_of 0 l.entry)
