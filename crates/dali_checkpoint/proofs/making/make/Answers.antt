use Rattle.std.proofs.Common.{◌≡◌, List, IfOk, IfErr, length, sym, subst, rules}
use Rattle.dali_region.specs.State.{RegionState}
use Rattle.dali_core.proofs.CleanedUp.{put_back}
use Rattle.dali_checkpoint.specs.Making.{HasMade, HasEndedBy}
use Rattle.dali_checkpoint.proofs.making.make.Goals as goal

pub returns-clause-ok : goal.returns-clause-ok
returns-clause-ok g c =
    let size : length c.make_apart.new.regions ≡ c.args.core.now.regions.len = search rules in
    subst (λ (rs : List RegionState). IfOk c.make_apart.result (λ number. HasMade g.V.Store c.args.core.now.regions.items c.args.core.now.system.state c.args.core.now.vault number rs c.make_apart.new.system.state c.make_apart.new.vault))
    (sym (put_back c.args.core.now.regions.len c.make_apart.new.regions c.args.core.now.regions.items size))
    (subst (λ (rs : List RegionState). IfOk c.make_apart.result (λ number. HasMade g.V.Store rs c.args.core.now.system.state c.args.core.now.vault number c.make_apart.new.regions c.make_apart.new.system.state c.make_apart.new.vault))
    c.deref_mut.ensures.value c.make_apart.ensures.ok)

pub returns-clause-err : goal.returns-clause-err
returns-clause-err g c =
    let size : length c.make_apart.new.regions ≡ c.args.core.now.regions.len = search rules in
    subst (λ (rs : List RegionState). IfErr c.make_apart.result (λ error. HasEndedBy g.V.Store c.args.core.now.regions.items c.args.core.now.system.state c.args.core.now.vault error rs c.make_apart.new.system.state c.make_apart.new.vault))
    (sym (put_back c.args.core.now.regions.len c.make_apart.new.regions c.args.core.now.regions.items size))
    (subst (λ (rs : List RegionState). IfErr c.make_apart.result (λ error. HasEndedBy g.V.Store rs c.args.core.now.system.state c.args.core.now.vault error c.make_apart.new.regions c.make_apart.new.system.state c.make_apart.new.vault))
    c.deref_mut.ensures.value c.make_apart.ensures.err)
