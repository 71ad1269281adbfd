use Rattle.std.proofs.Common.{◌≤◌, ◌∙◌, refl, arith}
use Rattle.dali_inspect.specs.Counts.{live_cell}
use Rattle.dali_inspect.proofs.Sums.{none_yet, one_more, at_most_one, as_one}
use Rattle.dali_inspect.proofs.counting.live_cells.Goals as goal

pub loop-number-init : goal.loop-number-init
loop-number-init c = record { count = none_yet (live_cell c.args.words.now); few = omega arith }

pub loop-number-preserved : goal.loop-number-preserved
loop-number-preserved c = record {
  count = one_more (live_cell c.args.words.now) c.loop-number.number c.loop-number.count c.from-count.result _ c.loop-number.invariant.count (c.from-count.ensures ∙ as_one _) refl;
  few = let bit : c.from-count.result ≤ 1 = at_most_one _ c.from-count.result (c.from-count.ensures ∙ as_one _) in omega (arith, c.loop-number.invariant.few, bit);
}
