use Rattle.std.proofs.Common.{◌≡◌, ◌≤◌, ◌+◌, ◌-◌, List, IfSome, length, sym, subst, ◌∙◌, arith}
use Rattle.dali_region.specs.State.{RegionState}
use Rattle.dali_crash.specs.Disks.Disks.{image_file}
use Rattle.dali_crash.specs.Disks.Places.{place_of}
use Rattle.dali_core.specs.Cores.{HoldsPlaces}
use Rattle.dali_checkpoint.proofs.Lengths.{run_places, clear_reaches}
use Rattle.dali_checkpoint.proofs.Pieces.{flag_first, clean_run_same}
use Rattle.dali_checkpoint.proofs.parts.next_run.Goals as goal

pub returns-in_ok-write_run-clause-places : goal.returns-in_ok-write_run-clause-places
returns-in_ok-write_run-clause-places g c =
    subst (λ (rs : List RegionState). IfSome (g.V.Store.told c.write_run.new.vault.store) (HoldsPlaces rs)) (sym c.in_ok-write_run.ensures.ok)
    (run_places (g.V.Store.told c.args.vault.now.store) (g.V.Store.told c.write_run.new.vault.store) c.args.regions.now c.args.from (c.run_end-until.result - c.args.from) c.args.side c.in_ok-write_run.ensures.files
    (subst (λ n. IfSome (g.V.Store.told c.write_run.new.vault.store) (λ fs. place_of n ≤ length (image_file c.args.side fs)))
    (let e : c.run_end-until.result ≡ c.args.from + (c.run_end-until.result - c.args.from) = omega (arith, c.run_end-until.ensures.further) in e) c.in_ok-write_run.ensures.reaches)
    c.requires.places)

pub returns-else-dirty-clause-ok : goal.returns-else-dirty-clause-ok
returns-else-dirty-clause-ok g c =
    sym (clean_run_same c.args.side c.args.from c.args.regions.now (flag_first c.args.side c.args.from c.args.regions.now c.index-regions-from.result c.requires.within ∙ (sym c.dirty.ensures.value ∙ c.if-dirty.false)))

pub returns-else-dirty-clause-reaches : goal.returns-else-dirty-clause-reaches
returns-else-dirty-clause-reaches g c =
    subst (λ n. IfSome (g.V.Store.told c.args.vault.now.store) (λ fs. place_of n ≤ length (image_file c.args.side fs))) (sym c.run_end-until.ensures.end)
    (clear_reaches (g.V.Store.told c.args.vault.now.store) c.args.regions.now c.args.from c.args.side c.requires.within
    (flag_first c.args.side c.args.from c.args.regions.now c.index-regions-from.result c.requires.within ∙ (sym c.dirty.ensures.value ∙ c.if-dirty.false)) c.requires.places)
