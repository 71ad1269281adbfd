use Rattle.std.proofs.Common.{◌∙◌, ℕ, refl, ap, arith}
use Rattle.dali_access.specs.Index.Records.{words_of}
use Rattle.dali_listing.specs.Listing.{in_memory}
use Rattle.dali_inspect.specs.Counts.{live_entries}
use Rattle.dali_inspect.proofs.Sums.{none_yet, one_more}
use Rattle.dali_inspect.proofs.counting.entries_in_use.Goals as goal

pub loop-region-init : goal.loop-region-init
loop-region-init c = record { count = none_yet _; few = omega arith }

pub loop-region-preserved : goal.loop-region-preserved
loop-region-preserved c = record {
  count = one_more (λ (r : ℕ). live_entries (words_of (in_memory c.args.regions.now) r)) c.loop-region.region c.loop-region.count c.live_entries-count.result _
      c.loop-region.invariant.count (c.live_entries-count.ensures.count ∙ ap live_entries c.words_at.ensures) refl;
  few = omega (arith, c.loop-region.invariant.few, c.live_entries-count.ensures.few);
}
