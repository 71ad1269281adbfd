use Rattle.std.proofs.Common.{ℕ, List, ◌<◌, [], ◌∷◌, ◌++◌, ap, ◌∙◌, arith}
use Rattle.dali_geometry.specs.Places.{regions}
use Rattle.dali_restart.proofs.Formatted.{one_words}
use Rattle.dali_restart.proofs.regions.formatted_words.Goals as goal

pub loop-region-preserved : goal.loop-region-preserved
loop-region-preserved c =
    let lt : c.loop-region.region < regions c.args.geometry.now = omega (arith, c.loop-region-test.true, c.regions-count.ensures.count) in (
      one_words c.args.geometry.now c.loop-region.region c.loop-region.words.items c.push.new.self.items lt c.loop-region.invariant.0
          (c.in_ok-push.ensures.items ∙ ap (λ (ws : List ℕ). c.loop-region.words.items ++ ws ∷ []) c.formatted.ensures),
      omega (arith, c.loop-region-test.true),
    )
