use Rattle.std.proofs.Common.{◌≡◌, ◌∙◌, ◌+◌, ℕ, refl, ap, arith}
use Rattle.dali_access.specs.Index.Records.{words_of}
use Rattle.dali_listing.specs.Listing.{in_memory}
use Rattle.dali_inspect.specs.Counts.{live_cells}
use Rattle.dali_inspect.proofs.Sums.{none_yet, one_more}
use Rattle.dali_inspect.proofs.counting.cells_in_use.Goals as goal

pub loop-number-init : goal.loop-number-init
loop-number-init c = record { count = none_yet _; few = omega arith }

pub loop-number-preserved : goal.loop-number-preserved
loop-number-preserved c =
    let here : c.words_at.result.now ≡ words_of (in_memory c.args.regions.now) (c.args.geometry.now.index + c.loop-number.number) =
    c.words_at.ensures ∙ ap (λ (n : ℕ). words_of (in_memory c.args.regions.now) (n + c.loop-number.number)) c.index.ensures.count in
    record {
      count = one_more (λ (n : ℕ). live_cells (words_of (in_memory c.args.regions.now) (c.args.geometry.now.index + n))) c.loop-number.number c.loop-number.count c.live_cells-count.result _
          c.loop-number.invariant.count (c.live_cells-count.ensures.count ∙ ap live_cells here) refl;
      few = omega (arith, c.loop-number.invariant.few, c.live_cells-count.ensures.few);
    }
