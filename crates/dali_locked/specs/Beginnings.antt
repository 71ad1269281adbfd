-- Where a round begins, over the core that it is given, and where it ends.
--     BeginsWith b gs y v      the round begins wherever a run may have come to this core, with these regions, this system and this vault
--     ValuesBegin              then each value is as told, and the history is led from there
--     AreNew kept low high xs  the clients with the notes from `low` to below `high`, the last one first, which have seen nothing; the first has the note `kept`
--     RoundEndsSo              then the round that they leave is what a round is to promise
use Rattle.std.specs.Prelude.{◌≡◌, ℕ, suc, ◌+◌, Bool, List, [], ◌∷◌, Some, slice_get, map, length}
use Rattle.dali_record.specs.declared.records.Record.{Record}
use Rattle.dali_region.specs.State.{RegionState}
use Rattle.dali_store.specs.declared.store.Store.{Ghosts}
use Rattle.dali_runs.specs.State.{SystemState}
use Rattle.dali_crash.specs.Checkpoints.{Point}
use Rattle.dali_crash.specs.Traces.{Start}
use Rattle.dali_transcripts.specs.Rounds.{Standing, told_of, lines_in}
use Rattle.dali_core.specs.Vault.Vaulted.{Vaulted}
use Rattle.dali_notes.specs.History.{Sight, AllMay, IsWhole}
use Rattle.dali_concurrent.specs.Told.{Item, History}
use Rattle.dali_concurrent.specs.Kept.{SystemTold, RegionTold}
use Rattle.dali_concurrent.specs.Leads.{MayBegin, FromEach as FromEachPoint, RoundEnds, RoundLeads}
use Rattle.dali_locked.specs.Begun.{Begun, FromEach, Of, Led, outset, may_add}
use Rattle.dali_locked.specs.Sights.{ClientSight}

abbrev pub AreNew : (kept low high : ℕ) → List ClientSight → Type 0
AreNew kept low high [] = high ≡ low
AreNew kept low high (x ∷ xs) = (high ≡ suc (kept + x.id)) × (x.seen ≡ []) × AreNew kept low (kept + x.id) xs

module _ {V : Type 0} (means : Ghosts V) where
  pub record BeginsWith (b : Begun) (gs : List RegionState) (y : SystemState) (v : Vaulted V) : Type 0 where
    pub each : (s : Start) (p : Point) → b.each s p → (B : List (List Record)) × MayBegin means s B p gs y v
    pub all : (s : Start) (B : List (List Record)) (p : Point) → MayBegin means s B p gs y v → b.each s p
    pub count : b.count ≡ length gs

  pub record ValuesAre (b : Begun) (gs : List RegionState) (y : SystemState) : Type 0 where
    pub led : Led b []
    pub system : Of b (λ o T. SystemTold o y T) []
    pub regions : (r : ℕ) (g : RegionState) → slice_get gs r ≡ Some g → Of b (λ o T. RegionTold o r g T) []

  abbrev pub ValuesBegin : Begun → Type 0
  ValuesBegin b = (gs : List RegionState) (y : SystemState) (v : Vaulted V) → BeginsWith b gs y v → ValuesAre b gs y

  -- ---- where it ends
  abbrev pub RoundEndsSo : Begun → Type 0
  RoundEndsSo b =
      (whole : Bool) (gs : List RegionState) (y : SystemState) (v : Vaulted V) (H : History) (notes : List (Sight Item)) (hs : List RegionState) (z : SystemState) (u : Vaulted V)
      (ss : List Standing) (givens : List (List ℕ))
      → BeginsWith b gs y v → IsWhole H notes → AllMay (may_add b) H
      → FromEach b (λ s p. RoundEnds means whole s p (outset b s p) v notes hs z u ss givens)
      → FromEachPoint means gs y v (λ s p. RoundLeads means b.precheck whole s p (map told_of ss) (map lines_in ss) givens v hs z u)
