-- What a round leaves, once its values are out of their locks and its notes are finished.
--     RegionsAreTold b gs notes     each of these regions is as told by what its note, which is one of these, has seen, wherever the round began
--     AreSeen b xs notes       the notes of these clients are among them
--     RoundIsLeft .. xs gs y v      the notes are finished, those of the clients xs among them, and regions, system and vault are as told by what theirs have seen
--     IsLeftBy whole b xs s given   the client of the standing s is one of xs, and knows that it has ended so, with these numbers in hand
--     RoundIsToEnd             then what is left is as a round ends, where each client is one of these standings
use Rattle.std.specs.Prelude.{◌≡◌, ℕ, ◌+◌, ◌<◌, ◌==◌, Bool, true, false, List, Some, slice_get, length}
use Rattle.dali_region.specs.State.{RegionState}
use Rattle.dali_store.specs.declared.store.Store.{Ghosts}
use Rattle.dali_runs.specs.State.{SystemState}
use Rattle.dali_transcripts.specs.Rounds.{Standing}
use Rattle.dali_core.specs.Vault.Vaulted.{Vaulted}
use Rattle.dali_notes.specs.History.{In, Sight, AllMay, IsWhole}
use Rattle.dali_concurrent.specs.Entries.{system_note, vault_note, region_note}
use Rattle.dali_concurrent.specs.Rules.{Outset, count_of}
use Rattle.dali_concurrent.specs.Told.{Item, History}
use Rattle.dali_concurrent.specs.Kept.{SystemTold, RegionTold}
use Rattle.dali_concurrent.specs.Leads.{Saw, ClientEnds, RoundEnds}
use Rattle.dali_locked.specs.Begun.{Begun, FromEach, Of, outset, may_add}
use Rattle.dali_locked.specs.Sights.{ClientSight, Knows, client_sight}
use Rattle.dali_locked.specs.Beginnings.{BeginsWith}
use Rattle.dali_locked.specs.Vaults.{IsTold}

abbrev pub RegionsAreTold : Begun → List RegionState → List (Sight Item) → Type 0
RegionsAreTold b gs notes = (r : ℕ) (g : RegionState) → slice_get gs r ≡ Some g → Saw notes (region_note r) (Of b (λ o T. RegionTold o r g T))

abbrev pub AreSeen : Begun → List ClientSight → List (Sight Item) → Type 0
AreSeen b xs notes = (i : ℕ) (x : ClientSight) → slice_get xs i ≡ Some x → In notes (client_sight b x)

pub record IsLeftBy (whole : Bool) (b : Begun) (xs : List ClientSight) (s : Standing) (given : List ℕ) : Type 0 where
  pub client : ClientSight
  pub there : In xs client
  pub id : client.id ≡ s.client
  pub ends : Knows b (λ o T. ClientEnds whole o s given T) client

module _ {V : Type 0} (means : Ghosts V) where
  pub record RoundIsLeft (began : Vaulted V → Type 0) (b : Begun) (xs : List ClientSight) (gs : List RegionState) (y : SystemState) (v : Vaulted V) : Type 0 where
    pub history : History
    pub notes : List (Sight Item)
    pub whole : IsWhole history notes
    pub may : AllMay (may_add b) history
    pub many : length notes ≡ length xs + (b.count + 2)
    pub system : Saw notes system_note (Of b (λ o T. SystemTold o y T))
    pub vault : Saw notes vault_note (IsTold means began b v)
    pub all : length gs ≡ b.count
    pub regions : RegionsAreTold b gs notes
    pub clients : AreSeen b xs notes
    pub counts : FromEach b (λ s p. count_of (outset b s p) ≡ b.count)
    pub wide : FromEach b (λ s p. length (outset b s p).old.regions ≡ b.count)

  -- w: the vault where the round began
  abbrev pub RoundIsToEnd : (Vaulted V → Type 0) → Begun → Type 0
  RoundIsToEnd began b =
      (whole : Bool) (w : Vaulted V) (xs : List ClientSight) (gs : List RegionState) (y : SystemState) (v : Vaulted V) (ss : List Standing) (givens : List (List ℕ))
      → (left : RoundIsLeft began b xs gs y v) → began w
      → length givens ≡ length ss → ((i : ℕ) (s : Standing) (given : List ℕ) → slice_get ss i ≡ Some s → slice_get givens i ≡ Some given → IsLeftBy whole b xs s given)
      → ((d : ℕ) → d < length xs → (i : ℕ) × (s : Standing) × (slice_get ss i ≡ Some s) × ((s.client == d) ≡ true))
      → FromEach b (λ s p. RoundEnds means whole s p (outset b s p) w left.notes gs y v ss givens)
