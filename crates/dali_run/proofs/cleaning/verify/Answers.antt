use Rattle.std.proofs.Common.{Option, sym, subst}
use Rattle.std.specs.Prelude.{IfSome}
use Rattle.dali_store.specs.Store.{Files}
use Rattle.dali_core.specs.Cores.{HoldsPlaces}
use Rattle.dali_run.specs.Program.{HoldsImages, told_in}
use Rattle.dali_run.proofs.cleaning.verify.Goals as goal
use Rattle.dali_core.proofs.Lengths.{flags_hold}

pub returns-in-Up-clause-images : goal.returns-in-Up-clause-images
returns-in-Up-clause-images g c =
    let here = subst (HoldsImages g.V.Store) c.in-Up.is c.requires.images in
    let stays = flags_hold (told_in g.V.Store c.in-Up.core.vault.store) c.in-Up.core.regions.items c.verify_of-printed.new.core.regions.items c.verify_of-printed.ensures.flags here in
    subst (λ (o : Option Files). IfSome o (HoldsPlaces c.verify_of-printed.new.core.regions.items)) (sym c.verify_of-printed.ensures.told) stays
