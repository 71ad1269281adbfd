-- A step of one client leaves the image files as the steps of the others ask for, and none shorter, whatever log there is.
use Rattle.std.proofs.Common.{◌≡◌, ℕ, ◌<◌, List, length, Option, Some, get_or, refl, sym, subst, ⊎_elim}
use Rattle.std.specs.Prelude.{IfSome, slice_get, slice_set}
use Rattle.std.proofs.lemmas.Option.{slice_get-get_or}
use Rattle.dali_runs.proofs.CountsLemmas.Lists.{set_cases}
use Rattle.dali_region.specs.State.{RegionState}
use Rattle.dali_store.specs.Store.{Files as Disk}
use Rattle.dali_core.specs.Vault.Vaulted.{Vaulted}
use Rattle.dali_core.specs.Cores.{HoldsPlaces, IsNoShorter}
use Rattle.dali_core.proofs.Lengths.{same_length, then_length}
use Rattle.dali_checkpoint.specs.Kept.{side_in}
use Rattle.dali_transcripts.specs.declared.clients.command.Block.{Block}
use Rattle.dali_checkpoint.proofs.Lengths.{reaches_told}
use Rattle.dali_turns.specs.declared.client.Client.{Client}
use Rattle.dali_turns.specs.declared.client.State.{State}
use Rattle.dali_turns.specs.declared.client.State.TheVariants.{Outside, LeftOut, Within, Calling, TakingBack, Committing, Waiting, Auditing, Copying, Certifying, Gone}
use Rattle.dali_turns.specs.Places.{KeepsRegions, ReachesNext, HasPlaces, PlacesGo}
use Rattle.dali_round.specs.Played.{AreNew, HavePlaces}
use Rattle.dali_round.proofs.Lists.{with_length}

module _ {V : Type 0} (told : V → Option Disk) where
  next_on : (state : State) (v u : Vaulted V) → IsNoShorter told v u → ReachesNext told state v → ReachesNext told state u
  next_on (Copying c next) v u longer h = reaches_told (told v.store) (told u.store) (side_in c) next longer h
  next_on Outside v u longer h = tt
  next_on LeftOut v u longer h = tt
  next_on (Within x) v u longer h = tt
  next_on (Calling x plan) v u longer h = tt
  next_on (TakingBack x plan why) v u longer h = tt
  next_on (Committing x number removals next) v u longer h = tt
  next_on (Waiting tries holder) v u longer h = tt
  next_on (Auditing audit next) v u longer h = tt
  next_on (Certifying c audit next) v u longer h = tt
  next_on Gone v u longer h = tt

  pub has_places : (ks : List Client) (gs : List RegionState) (v : Vaulted V) (i : ℕ) (d : Client) → i < length ks → HavePlaces told ks gs v → HasPlaces told (get_or ks i d).state gs v
  has_places ks gs v i d less have = record { files = have.files; next = have.next i (get_or ks i d) (slice_get-get_or ks i d less) }

  pub places_on : (ks : List Client) (gs hs : List RegionState) (v u : Vaulted V) (i : ℕ) (d j : Client) → i < length ks → PlacesGo told (get_or ks i d).state gs v j.state hs u → HavePlaces told ks gs v
      → HavePlaces told (slice_set ks i j) hs u
  places_on ks gs hs v u i d j less go have =
      let own = go.places (has_places ks gs v i d less have) in
      record {
        files = own.files;
        next = λ n l at_l.
            ⊎_elim
            (λ here. subst (λ (z : Client). ReachesNext told z.state u) (sym here.1) own.next)
            (λ away. next_on l.state v u go.longer (have.next n l away.1))
            (set_cases ks i j n l at_l);
      }

  -- a client that is gone asks for nothing
  pub gone_places : (state was is : State) (gs hs : List RegionState) (v u : Vaulted V) → is ≡ Gone → PlacesGo told state gs v was hs u → PlacesGo told state gs v is hs u
  gone_places state was is gs hs v u gone go = record { longer = go.longer; places = λ h. record { files = (go.places h).files; next = subst (λ (st : State). ReachesNext told st u) (sym gone) tt }; regions = subst (λ (st : State). KeepsRegions st gs hs) (sym gone) tt }

  -- a client is halted, and stands where it stood
  pub halts_keep : (ks : List Client) (gs hs : List RegionState) (v u : Vaulted V) (i : ℕ) (k : Client) → slice_get ks i ≡ Some k → PlacesGo told k.state gs v k.state hs u → HavePlaces told ks gs v → HavePlaces told ks hs u
  halts_keep ks gs hs v u i k at_k go have = record {
    files = (go.places (record { files = have.files; next = have.next i k at_k })).files;
    next = λ n l at_l. next_on l.state v u go.longer (have.next n l at_l);
  }

  pub new_places : (bs : List Block) (ks : List Client) (gs : List RegionState) (v : Vaulted V) → AreNew bs ks → IfSome (told v.store) (HoldsPlaces gs) → HavePlaces told ks gs v
  new_places bs ks gs v new files = record {
    files = files;
    next = λ i k at_k.
        let b = with_length bs ks i k new.count at_k in
        subst (λ (state : State). ReachesNext told state v) (sym (new.each i b.0 k b.1 at_k).state) tt;
  }

  pub as_long : (v : Vaulted V) → IsNoShorter told v v
  as_long v = same_length (told v.store) (told v.store) refl

  pub longer_on : (v u t : Vaulted V) → IsNoShorter told v u → IsNoShorter told u t → IsNoShorter told v t
  longer_on v u t one two = then_length (told v.store) (told u.store) (told t.store) one two
