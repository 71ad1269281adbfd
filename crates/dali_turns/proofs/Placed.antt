-- What becomes of the places in image files, whatever log the core has.
use Rattle.std.proofs.Common.{◌≡◌, ℕ, Bool, true, false, List, Option, Some, None, is_some, IfSome, Result, Ok, Err, refl, ap, sym, subst, ◌∙◌, inl, inr, arith}
use Rattle.std.specs.Prelude.{if◌then◌else◌}
use Rattle.dali_bytes.specs.declared.error.OutOfMemory.{OutOfMemory as NoMemory}
use Rattle.dali_region.specs.State.{RegionState}
use Rattle.dali_store.specs.Store.{Files as Disk}
use Rattle.dali_runs.specs.State.{SystemState}
use Rattle.dali_core.specs.Vault.Vaulted.{Vaulted}
use Rattle.dali_system.specs.declared.error.SystemError.{SystemError}
use Rattle.dali_system.specs.declared.error.SystemError.TheVariants.{Stopped, LogFull, OutOfMemory}
use Rattle.dali_calls.specs.Flags.{FlagsStay}
use Rattle.dali_calls.specs.Plans.{Planned, refused}
use Rattle.dali_core.specs.Cores.{HoldsPlaces, NoShorter, IsNoShorter}
use Rattle.dali_core.proofs.Lengths.{then_length}
use Rattle.dali_transcripts.specs.declared.clients.command.Command.{Command}
use Rattle.dali_transcripts.specs.declared.clients.line.Why.{Why}
use Rattle.dali_transcripts.specs.declared.clients.line.Why.TheVariants.{Stopped as IsStopped, LogFull as IsFull}
use Rattle.dali_turns.specs.declared.client.Client.{Client}
use Rattle.dali_turns.specs.declared.client.State.{State}
use Rattle.dali_turns.specs.declared.client.State.TheVariants.{Outside, LeftOut, Within, TakingBack, Committing, Copying}
use Rattle.dali_turns.specs.declared.client.Transaction.{Transaction}
use Rattle.dali_transcripts.specs.Clients.Told.{act_of}
use Rattle.dali_transcripts.specs.Words.{closes}
use Rattle.dali_calls.proofs.Flags.{flags_equal}
use Rattle.dali_turns.specs.Clients.{next_of, RefusesCall, Stays, Passes, left_behind}
use Rattle.dali_turns.specs.Calls.{IsRefusedBy}
use Rattle.dali_turns.specs.Ends.{ClearsWay}
use Rattle.dali_turns.specs.Places.{ReachesNext, HasPlaces, KeepsRegions, PlacesGo}

pub as_long : (o : Option Disk) → NoShorter o o
as_long (Some a) = λ side. omega arith
as_long None = refl

places_stay : (gs hs : List RegionState) → FlagsStay gs hs → (o p : Option Disk) → NoShorter o p → IfSome o (HoldsPlaces gs) → IfSome p (HoldsPlaces hs)
places_stay gs hs flags (Some a) (Some b) longer places = λ side r h at clear.
    let g = flags.each r h at in omega (arith, places side r g.0 g.1 (g.2 side clear), longer side)
places_stay gs hs flags (Some a) None longer places = absurd longer
places_stay gs hs flags None (Some b) longer places = let no_way : Some b ≡ None = longer in absurd (cc)
places_stay gs hs flags None None longer places = tt

pub call_refused : (k : Client) (x : Transaction) (why : Why) (j : Client) → is_some (next_of k) ≡ true → RefusesCall k x why j → j.state ≡ Within x
call_refused k x why j next f = by_next (next_of k) refl next
  where
    by_next : (o : Option Command) → next_of k ≡ o → is_some o ≡ true → j.state ≡ Within x
    by_next (Some command) e some = (f command e).stands
    by_next None e some = absurd (cc)

-- ---- where it stands behind the step
-- what is so of a client that stands there
abbrev pub Suits : {V : Type 0} → (V → Option Disk) → State → List RegionState → List RegionState → Vaulted V → Type 0
Suits told (Copying c next) gs hs u = ReachesNext told (Copying c next) u
Suits told (Committing x number removals next) gs hs u = next ≡ 0 → hs ≡ gs
Suits told state gs hs u = Unit {0}

suits_next : {V : Type 0} (told : V → Option Disk) (state : State) (gs hs : List RegionState) (u : Vaulted V) → Suits told state gs hs u → ReachesNext told state u
suits_next told (Copying c next) gs hs u h = h
suits_next told _ gs hs u h = tt

suits_regions : {V : Type 0} (told : V → Option Disk) (state : State) (gs hs : List RegionState) (u : Vaulted V) → Suits told state gs hs u → KeepsRegions state gs hs
suits_regions told (Committing x number removals next) gs hs u h = h
suits_regions told _ gs hs u h = tt

-- where the regions are as they were
pub keeps_same : (state : State) (gs hs : List RegionState) → hs ≡ gs → KeepsRegions state gs hs
keeps_same (Committing x number removals next) gs hs same = λ e. same
keeps_same _ gs hs same = tt

keeps_both : (state : State) (gs rs hs : List RegionState) → KeepsRegions state gs rs → KeepsRegions state rs hs → KeepsRegions state gs hs
keeps_both (Committing x number removals next) gs rs hs one two = λ e. two e ∙ one e
keeps_both _ gs rs hs one two = tt

module _ {V : Type 0} (told : V → Option Disk) where
  module _ (state state' : State) (gs hs : List RegionState) (v u : Vaulted V) where
    placed_so : FlagsStay gs hs → IsNoShorter told v u → ReachesNext told state' u → KeepsRegions state' gs hs → PlacesGo told state gs v state' hs u
    placed_so flags longer next regions = record { longer = longer; places = λ h. record { files = places_stay gs hs flags (told v.store) (told u.store) longer h.files; next = next }; regions = regions }

    pub places_beside : FlagsStay gs hs → u ≡ v → Suits told state' gs hs u → PlacesGo told state gs v state' hs u
    places_beside flags vault suits =
        placed_so flags (subst (λ (x : Vaulted V). IsNoShorter told v x) (sym vault) (as_long (told v.store))) (suits_next told state' gs hs u suits) (suits_regions told state' gs hs u suits)

    -- the regions are as they were
    pub places_kept : hs ≡ gs → IsNoShorter told v u → ReachesNext told state' u → PlacesGo told state gs v state' hs u
    places_kept regions longer next = placed_so (flags_equal gs hs regions) longer next (keeps_same state' gs hs regions)

    pub places_still : hs ≡ gs → u ≡ v → Suits told state' gs hs u → PlacesGo told state gs v state' hs u
    places_still regions vault suits = places_beside (flags_equal gs hs regions) vault suits

  pub places_then : (state m state' : State) (gs rs hs : List RegionState) (v o u : Vaulted V) → rs ≡ gs → o ≡ v → ReachesNext told m v → PlacesGo told m rs o state' hs u → PlacesGo told state gs v state' hs u
  places_then state m state' gs rs hs v o u regions vault next go =
      let here : PlacesGo told m gs v state' hs u = subst (λ (l : List RegionState). PlacesGo told m l v state' hs u) regions (subst (λ (x : Vaulted V). PlacesGo told m rs x state' hs u) vault go) in
      record { longer = here.longer; places = λ h. here.places (record { files = h.files; next = next }); regions = here.regions }

  -- nothing was done
  pub places_none : (state : State) (gs : List RegionState) (v : Vaulted V) → PlacesGo told state gs v state gs v
  places_none state gs v = record { longer = as_long (told v.store); places = λ h. h; regions = keeps_same state gs gs refl }

  pub places_both : (state m : State) (gs rs hs : List RegionState) (v o u : Vaulted V) → PlacesGo told state gs v m rs o → PlacesGo told m rs o m hs u → PlacesGo told state gs v m hs u
  places_both state m gs rs hs v o u one two = record {
    longer = then_length (told v.store) (told o.store) (told u.store) one.longer two.longer;
    places = λ h. two.places (one.places h);
    regions = keeps_both m gs rs hs one.regions two.regions;
  }

  pub places_from : (state m state' : State) (gs hs : List RegionState) (v u : Vaulted V) → state ≡ m → PlacesGo told m gs v state' hs u → PlacesGo told state gs v state' hs u
  places_from state m state' gs hs v u is go = subst (λ (s : State). PlacesGo told s gs v state' hs u) (sym is) go

  pub holds_from : (state m : State) (gs : List RegionState) (v : Vaulted V) → state ≡ m → HasPlaces told state gs v → HasPlaces told m gs v
  holds_from state m gs v is h = subst (λ (s : State). HasPlaces told s gs v) is h

  -- by what it was told
  pub at_state : (gs hs : List RegionState) (state makes : State) (u : Vaulted V) → state ≡ makes → Suits told makes gs hs u → Suits told state gs hs u
  at_state gs hs state makes u is next = subst (λ (s : State). Suits told s gs hs u) (sym is) next

  pub refused_reaches : (gs hs : List RegionState) (e : SystemError) (k : Client) (x : Transaction) (plan : Planned) (r : Result Bool NoMemory) (j : Client) (u : Vaulted V) → k.state ≡ Outside → is_some (next_of k) ≡ true → IsRefusedBy e k x plan r j → Suits told j.state gs hs u
  refused_reaches gs hs (LogFull end limit) k x plan r j u stands next h = at_state gs hs j.state (TakingBack x (refused plan) (IsFull end limit)) u h.1.stands tt
  refused_reaches gs hs (Stopped cause) k x plan (Ok b) j u stands next h = at_state gs hs j.state (Within x) u (call_refused k x (IsStopped cause) j next h.1) tt
  refused_reaches gs hs (Stopped cause) k x plan (Err e) j u stands next h = at_state gs hs j.state (Within x) u h.2.stands tt
  refused_reaches gs hs OutOfMemory k x plan (Ok b) j u stands next h = absurd h.1
  refused_reaches gs hs OutOfMemory k x plan (Err e) j u stands next h = at_state gs hs j.state Outside u (ap (λ (l : Client). l.state) h.0 ∙ stands) tt

  pub cleared_reaches : (gs hs : List RegionState) (t : ℕ) (x : Transaction) (state : State) (k j : Client) (y z : SystemState) (u : Vaulted V) → k.state ≡ Outside → is_some (next_of k) ≡ true → Suits told state gs hs u → (r : Result Bool NoMemory) → ClearsWay t x state k gs y r j hs z → Suits told j.state gs hs u
  cleared_reaches gs hs t x state k j y z u stands next suits (Ok went) (inl (runs, up, stays)) = at_state gs hs j.state state u stays.stands suits
  cleared_reaches gs hs t x state k j y z u stands next suits (Ok went) (inr (cause, stopped, left, refuses)) = at_state gs hs j.state (Within x) u (call_refused k x (IsStopped cause) j next refuses) tt
  cleared_reaches gs hs t x state k j y z u stands next suits (Err e) (inl (left, same)) = at_state gs hs j.state Outside u (ap (λ (l : Client). l.state) same ∙ stands) tt
  cleared_reaches gs hs t x state k j y z u stands next suits (Err e) (inr (cause, stopped, left, passes)) = at_state gs hs j.state (Within x) u passes.stands tt

  pub left_reaches : (gs hs : List RegionState) (k j : Client) (r : Result Bool NoMemory) (u : Vaulted V) → (next_of k ≡ None → (r ≡ Ok false) × Stays k LeftOut j) → ((command : Command) → next_of k ≡ Some command → (r ≡ Ok true) × Passes k (left_behind command) j) → Suits told j.state gs hs u
  left_reaches gs hs k j r u done passed = by_next (next_of k) refl
    where
      by_test : (b : Bool) → Suits told (if b then Outside else LeftOut) gs hs u
      by_test true = tt
      by_test false = tt

      by_next : (o : Option Command) → next_of k ≡ o → Suits told j.state gs hs u
      by_next None e = at_state gs hs j.state LeftOut u (done e).1.stands tt
      by_next (Some command) e = at_state gs hs j.state (left_behind command) u (passed command e).1.stands (by_test (closes (act_of command)))
