-- A fuse that is set anew.
use Rattle.std.proofs.Common.{◌≡◌, List, sym, subst}
use Rattle.std.specs.Prelude.{IfSome}
use Rattle.dali_fuse.specs.Fuse.{inner}
use Rattle.dali_fuse.specs.declared.fuse.Fuse.{Fuse}
use Rattle.dali_region.specs.State.{RegionState}
use Rattle.dali_store.specs.declared.store.Store.{Ghosts}
use Rattle.dali_core.specs.Cores.{HoldsPlaces}
use Rattle.dali_run.specs.Program.{told_in}

pub places_over : {V : Type 0} (g : Ghosts V) (gs : List RegionState) (f h : Fuse V) → inner h ≡ inner f → IfSome (told_in g f) (HoldsPlaces gs)
    → IfSome (told_in g h) (HoldsPlaces gs)
places_over {V = V} g gs f h same holds = subst (λ (s : V). IfSome (g.told s) (HoldsPlaces gs)) (sym same) holds
