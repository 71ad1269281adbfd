use Rattle.std.proofs.lemmas.List.Filters.{dedup_is}
use Rattle.dali_listing.specs.contracts.ListedEq.TheImpl.Laws.{laws-law}
use Rattle.dali_listing.specs.contracts.ListedOrd.TheImpl.Laws.{matches_eq-law}
use Rattle.dali_listing.proofs.Sorted.{alike_is_one, listing}
use Rattle.dali_listing.proofs.records.Goals as goal

pub returns : goal.returns
returns c = rw (dedup_is _ _ _ c.dedup.ensures.filtered) (listing _ laws-law matches_eq-law alike_is_one _ _ _ _ c.in_ok-rows.ensures c.sort_unstable.ensures.permutation c.sort_unstable.ensures.sorted)
