use Rattle.std.proofs.Common.{◌≡◌, map}
use Rattle.std.specs.Map.Iter.{deref_pair}
use Rattle.dali_listing.specs.Listing.{pairs_of}
use Rattle.dali_verify.proofs.comparing.listed.Given as goal

abbrev pub invariant-loop-key : goal.invariant-loop-key
invariant-loop-key l = pairs_of l.rows.items ≡ map deref_pair l.yielded
