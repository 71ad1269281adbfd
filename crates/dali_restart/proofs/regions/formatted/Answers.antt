use Rattle.std.proofs.Common.{◌<◌, [], ◌∷◌, ◌++◌, ap, ◌∙◌, arith}
use Rattle.dali_geometry.specs.Places.{regions}
use Rattle.dali_region.specs.State.{RegionState, loaded}
use Rattle.dali_restart.proofs.Formatted.{one_region}
use Rattle.dali_restart.proofs.regions.formatted.Goals as goal

pub loop-region-preserved : goal.loop-region-preserved
loop-region-preserved c =
    let lt : c.loop-region.region < regions c.args.geometry.now = omega (arith, c.loop-region-test.true, c.regions-count.ensures.count) in (
      one_region c.args.geometry.now c.loop-region.region c.loop-region.regions.items c.push.new.self.items lt c.loop-region.invariant.0
          (c.in_ok-push.ensures.items ∙ ap (λ (g : RegionState). c.loop-region.regions.items ++ g ∷ []) (c.load.ensures.value ∙ ap loaded c.formatted.ensures)),
      omega (arith, c.loop-region-test.true),
    )
