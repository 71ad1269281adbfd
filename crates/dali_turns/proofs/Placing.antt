-- What a step leaves of the image files' places, by what it did with the regions and with the vault.
use Rattle.std.proofs.Common.{◌≡◌, ℕ, ◌+◌, Bool, false, List, Option, Some, IfSome, IsErrOf, Err, true, refl, ap, sym, subst, ◌∙◌, inl, inr}
use Rattle.std.specs.Prelude.{slice_get, slice_set}
use Rattle.std.proofs.lemmas.Option.{IfSome_then}
use Rattle.dali_region.specs.declared.Side.{Side}
use Rattle.dali_region.specs.State.{RegionState, checked}
use Rattle.dali_region.specs.Answers.{is_dirty, cleaned}
use Rattle.dali_store.specs.Store.{Files as Disk}
use Rattle.dali_core.specs.declared.vault.error.VaultError.{VaultError}
use Rattle.dali_core.specs.declared.vault.error.VaultError.TheVariants.{Fault as VaultFault, Stopped as VaultStopped}
use Rattle.dali_core.specs.Vault.Vaulted.{Vaulted}
use Rattle.dali_core.specs.Cores.{HoldsPlaces, IsNoShorter}
use Rattle.dali_checkpoint.specs.Kept.{Checkpointed, side_in}
use Rattle.dali_checkpoint.specs.Done.{Reaches}
use Rattle.dali_checkpoint.proofs.Lengths.{same_length, places_stay, copied_places}
use Rattle.dali_turns.specs.declared.client.Client.{Client}
use Rattle.dali_turns.specs.declared.client.State.{State}
use Rattle.dali_turns.specs.declared.client.State.TheVariants.{Outside, Copying}
use Rattle.dali_turns.specs.Endings.{SaysEnd, Unsaid}
use Rattle.dali_turns.specs.Places.{ReachesNext, KeepsRegions, PlacesGo}
use Rattle.dali_turns.proofs.Placed.{keeps_same}
use Rattle.dali_checkpoint.specs.declared.error.CheckpointError.{CheckpointError}
use Rattle.std.specs.Prelude.{Result}
use Rattle.dali_lists.proofs.Lists.{set_same}
use Rattle.dali_turns.proofs.Passing.{places_checked}

-- ---- where the client stands
pub ends_outside : (k j : Client) (made : Result ℕ CheckpointError) → SaysEnd k made j → j.state ≡ Outside
ends_outside k j made (line, given, f) = f.stands

pub unsaid_outside : (k j : Client) (made : Result ℕ CheckpointError) → k.state ≡ Outside → Unsaid k made j → j.state ≡ Outside
unsaid_outside k j made stands (inl (none, same)) = ap (λ (x : Client). x.state) same ∙ stands
unsaid_outside k j made stands (inr (line, given, f)) = f.stands

pub same_vault : {V : Type 0} (told : V → Option Disk) (v u : Vaulted V) → u ≡ v → IsNoShorter told v u
same_vault {V} told v u is = same_length (told v.store) (told u.store) (ap (λ (x : Vaulted V). told x.store) is)

pub longer_vault : {V : Type 0} (told : V → Option Disk) (v u t : Vaulted V) → t ≡ u → IsNoShorter told v u → IsNoShorter told v t
longer_vault {V} told v u t is longer = subst (λ (x : Vaulted V). IsNoShorter told v x) (sym is) longer

-- the place of a region whose flag is clear
pub place_held : {V : Type 0} (told : V → Option Disk) (gs : List RegionState) (v : Vaulted V) (r : ℕ) (g : RegionState) (side : Side) → slice_get gs r ≡ Some g → IfSome (told v.store) (HoldsPlaces gs) → is_dirty g side ≡ false → Reaches told side (r + 1) v
place_held told gs v r g side at places clean = IfSome_then (told v.store) places (λ fs held. held side r g at clean)

module _ {V : Type 0} (told : V → Option Disk) (state state' : State) (gs : List RegionState) (v : Vaulted V) where
  pub stays_long : IsNoShorter told v v
  stays_long = same_length (told v.store) (told v.store) refl

  -- ---- it stands outside, or where nothing is to be reached
  module _ (hs : List RegionState) (u : Vaulted V) (longer : IsNoShorter told v u) (places : IfSome (told v.store) (HoldsPlaces gs) → IfSome (told u.store) (HoldsPlaces hs)) where
    pub places_go : (ReachesNext told state v → ReachesNext told state' u) → KeepsRegions state' gs hs → PlacesGo told state gs v state' hs u
    places_go next regions = record { longer = longer; places = λ has. record { files = places has.files; next = next has.next }; regions = regions }

    pub go_outside : state' ≡ Outside → PlacesGo told state gs v state' hs u
    go_outside is = places_go (λ reaches. subst (λ (x : State). ReachesNext told x u) (sym is) tt) (subst (λ (x : State). KeepsRegions x gs hs) (sym is) tt)

  -- nothing was written
  pub still_outside : state' ≡ Outside → PlacesGo told state gs v state' gs v
  still_outside is = go_outside gs v stays_long (λ places. places) is

  pub still : ReachesNext told state' v → PlacesGo told state gs v state' gs v
  still reaches = places_go gs v stays_long (λ places. places) (λ before. reaches) (keeps_same state' gs gs refl)

  -- no region was written
  pub longer_outside : (hs : List RegionState) (u : Vaulted V) → hs ≡ gs → IsNoShorter told v u → state' ≡ Outside → PlacesGo told state gs v state' hs u
  longer_outside hs u same longer is = go_outside hs u longer
      (λ places. subst (λ (l : List RegionState). IfSome (told u.store) (HoldsPlaces l)) (sym same) (places_stay (told v.store) (told u.store) gs longer places)) is

  pub longer_go : (u : Vaulted V) → IsNoShorter told v u → ReachesNext told state' u → PlacesGo told state gs v state' gs u
  longer_go u longer reaches = places_go gs u longer (places_stay (told v.store) (told u.store) gs longer) (λ before. reaches) (keeps_same state' gs gs refl)

  -- a region was checked
  pub checked_go : (r : ℕ) (g h : RegionState) → slice_get gs r ≡ Some g → h ≡ checked g → ReachesNext told state' v → KeepsRegions state' gs (slice_set gs r h) → PlacesGo told state gs v state' (slice_set gs r h) v
  checked_go r g h at is reaches keeps = places_go (slice_set gs r h) v stays_long
      (λ places. subst (λ (x : RegionState). IfSome (told v.store) (HoldsPlaces (slice_set gs r x))) (sym is) (IfSome_then (told v.store) places (λ fs held. places_checked gs r g fs at held)))
      (λ before. reaches) keeps

-- a region was to be copied, and wasn't
pub gave_up_outside : {V : Type 0} (told : V → Option Disk) (state state' : State) (gs : List RegionState) (v : Vaulted V) (r : ℕ) (g h : RegionState) (hs : List RegionState) (u t : Vaulted V) → hs ≡ slice_set gs r h → t ≡ u → slice_get gs r ≡ Some g → h ≡ g
    → IsNoShorter told v u → state' ≡ Outside → PlacesGo told state gs v state' hs t
gave_up_outside told state state' gs v r g h hs u t left same at is longer outside =
    longer_outside told state state' gs v hs t (left ∙ (ap (slice_set gs r) is ∙ set_same gs r g at)) (longer_vault told v u t same longer) outside

-- a region was copied
pub copied_go : {V : Type 0} (told : V → Option Disk) (state : State) (c d : Checkpointed) (gs : List RegionState) (r : ℕ) (g h : RegionState) (v u : Vaulted V) → slice_get gs r ≡ Some g → h ≡ cleaned (side_in c) g → d ≡ record c { copied = r + 1 }
    → IsNoShorter told v u → Reaches told (side_in c) (r + 1) u → PlacesGo told state gs v (Copying d (r + 1)) (slice_set gs r h) u
copied_go told state c d gs r g h v u at cleans is longer reaches = places_go told state (Copying d (r + 1)) gs v (slice_set gs r h) u longer
    (λ places. subst (λ (x : RegionState). IfSome (told u.store) (HoldsPlaces (slice_set gs r x))) (sym cleans) (copied_places (told v.store) (told u.store) gs r (side_in c) g at longer reaches places))
    (λ before. subst (λ (x : Checkpointed). Reaches told (side_in x) (r + 1) u) (sym is) reaches) tt

-- a flush that fails writes no region
pub flush_keeps : {T : Type 0} (e : VaultError) (b : Bool) (hs gs : List RegionState) → (IsErrOf {T = T} (Err e) VaultStopped → b ≡ true) → (b ≡ true → hs ≡ gs) → (IsErrOf {T = T} (Err e) VaultFault → hs ≡ gs) → hs ≡ gs
flush_keeps VaultFault b hs gs runs stopped fault = fault refl
flush_keeps VaultStopped b hs gs runs stopped fault = stopped (runs refl)
