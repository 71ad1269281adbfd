use Rattle.std.proofs.Common.{◌≤◌, ◌∙◌, refl, arith}
use Rattle.dali_inspect.specs.Counts.{live_entry}
use Rattle.dali_inspect.proofs.Sums.{none_yet, one_more, at_most_one, as_one}
use Rattle.dali_inspect.proofs.counting.live_entries.Goals as goal

pub loop-entry-init : goal.loop-entry-init
loop-entry-init c = record { count = none_yet (live_entry c.args.words.now); few = omega arith }

pub loop-entry-preserved : goal.loop-entry-preserved
loop-entry-preserved c = record {
  count = one_more (live_entry c.args.words.now) c.loop-entry.entry c.loop-entry.count c.from-count.result _ c.loop-entry.invariant.count (c.from-count.ensures ∙ as_one _) refl;
  few = let bit : c.from-count.result ≤ 1 = at_most_one _ c.from-count.result (c.from-count.ensures ∙ as_one _) in omega (arith, c.loop-entry.invariant.few, bit);
}
