-- The image files of a core, whatever log it has.
--     ReachesNext state v      a checkpoint that the client makes reaches to the region that it copies next
--     HasPlaces state gs v     and where a region's flag is clear the image file has its place, where the store tells it
--     KeepsRegions state gs hs a commit of which nothing is freed left the regions where they were
--     PlacesGo ..              no image file becomes shorter in a step, and what is so of places stays so
use Rattle.std.specs.Prelude.{◌≡◌, List, Option, IfSome}
use Rattle.dali_region.specs.State.{RegionState}
use Rattle.dali_store.specs.Store.{Files as Disk}
use Rattle.dali_core.specs.Vault.Vaulted.{Vaulted}
use Rattle.dali_core.specs.Cores.{HoldsPlaces, IsNoShorter}
use Rattle.dali_checkpoint.specs.Done.{Reaches}
use Rattle.dali_checkpoint.specs.Kept.{side_in}
use Rattle.dali_turns.specs.declared.client.State.{State}
use Rattle.dali_turns.specs.declared.client.State.TheVariants.{Committing, Copying}

-- state: where the client stands behind the step
abbrev pub KeepsRegions : State → List RegionState → List RegionState → Type 0
KeepsRegions (Committing x number removals next) gs hs = next ≡ 0 → hs ≡ gs
KeepsRegions state gs hs = Unit {0}

module _ {V : Type 0} (told : V → Option Disk) where
  abbrev pub ReachesNext : State → Vaulted V → Type 0
  ReachesNext (Copying c next) v = Reaches told (side_in c) next v
  ReachesNext state v = Unit {0}

  pub record HasPlaces (state : State) (gs : List RegionState) (v : Vaulted V) : Type 0 where
    pub files : IfSome (told v.store) (HoldsPlaces gs)
    pub next : ReachesNext state v

  pub record PlacesGo (state : State) (gs : List RegionState) (v : Vaulted V) (state' : State) (hs : List RegionState) (u : Vaulted V) : Type 0 where
    pub longer : IsNoShorter told v u
    pub places : HasPlaces state gs v → HasPlaces state' hs u
    pub regions : KeepsRegions state' gs hs
