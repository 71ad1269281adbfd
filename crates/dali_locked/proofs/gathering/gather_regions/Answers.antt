use Rattle.std.proofs.Common.{◌≡◌, ◌+◌, List, [], ◌∷◌, ◌++◌, length, vec_len, sym, subst, ◌∙◌, arith}
use Rattle.dali_region.specs.State.{RegionState}
use Rattle.dali_notes.specs.History.{AreOf, Sight}
use Rattle.dali_concurrent.specs.Told.{Item}
use Rattle.dali_locked.specs.Begun.{homed}
use Rattle.dali_locked.specs.Endings.{RegionsAreTold}
use Rattle.dali_locked.proofs.Freshness.{one_shorter}
use Rattle.dali_locked.proofs.RoundLeft.{of_more, regions_more}
use Rattle.dali_locked.proofs.gathering.gather_regions.Goals as goal

pub loop-lock-preserved : goal.loop-lock-preserved
loop-lock-preserved g c =
    let b = (homed g.H.Home.table g.B.Beginning.begun) in
    let s = c.number.inside in
    let k = c.number.invariant in
    let i = c.loop-lock.invariant in
    let regions = c.push_reserved.ensures.items in
    let notes = c.push_reserved-in-Some.ensures.items in
    let longer = one_shorter c.push_reserved.new.self.items c.loop-lock.regions.items s.region regions in
    let one_more = one_shorter c.push_reserved-in-Some.new.self.items c.loop-lock.notes.items s.note notes in
    let place : s.number ≡ length c.loop-lock.regions.items = omega arith in
    let gone : vec_len c.pop.new.self + 1 ≡ vec_len c.loop-lock.locks = c.in-Some.ensures.cases in
    record {
      places = omega (arith, longer, gone, i.places);
      many = omega (arith, longer, one_more, i.many);
      told = subst (λ (gs : List RegionState). RegionsAreTold b gs c.push_reserved-in-Some.new.self.items) (sym regions)
          (subst (λ (ns : List (Sight Item)). RegionsAreTold b (c.loop-lock.regions.items ++ s.region ∷ []) ns) (sym notes)
          (regions_more b c.loop-lock.regions.items c.loop-lock.notes.items s.region s.note s.number place k.numbered k.told i.told));
      tables = subst (AreOf g.H.Home.table) (sym notes) (of_more g.H.Home.table c.loop-lock.notes.items s.note i.tables k.home);
      spare = (c.push_reserved.ensures.capacity ∙ i.spare.0, c.push_reserved-in-Some.ensures.capacity ∙ i.spare.1);
    }
