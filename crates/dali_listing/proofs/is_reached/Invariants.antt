use Rattle.std.proofs.Common.{◌≡◌, ◌<◌, ◌-◌}
use Rattle.dali_access.specs.Index.Records.{is_reached, reaches}
use Rattle.dali_listing.specs.Listing.{in_memory}
use Rattle.dali_listing.proofs.is_reached.Given as goal

abbrev pub invariant-loop : goal.invariant-loop
invariant-loop l = record {
  within : l.here < l.geometry.index;
  rest : reaches l.geometry (in_memory l.regions) (l.end - l.counter) l.here l.region ≡ is_reached l.geometry (in_memory l.regions) l.key l.region;
}
