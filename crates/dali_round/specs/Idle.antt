-- A pass in which nobody went on.
--     IsOrder order n          each place before n stands in this order, and no other
--     MayPlay ks turns gs v    the clients may make their turns in this order
--     AreIdle y ks n           each client before this place makes no step
--     NoneHasCome ..           no run has come to these clients and this core
use Rattle.std.specs.Prelude.{◌≡◌, ◌==◌, ℕ, ◌<◌, Bool, true, List, Option, Some, length, slice_get}
use Rattle.dali_region.specs.State.{RegionState}
use Rattle.dali_store.specs.Store.{Files as Disk}
use Rattle.dali_store.specs.declared.store.Store.{Ghosts}
use Rattle.dali_runs.specs.State.{SystemState}
use Rattle.dali_crash.specs.Checkpoints.{Point}
use Rattle.dali_crash.specs.Traces.{Start}
use Rattle.dali_core.specs.Vault.Vaulted.{Vaulted}
use Rattle.dali_transcripts.specs.Transcripts.{Told}
use Rattle.dali_turns.specs.declared.client.Client.{Client}
use Rattle.dali_turns.specs.Waits.{MakesNone}
use Rattle.dali_round.specs.Played.{HavePlaces, Played}

pub record IsOrder (order : List ℕ) (n : ℕ) : Type 0 where
  pub all : (i : ℕ) → i < n → (j : ℕ) × (slice_get order j ≡ Some i)
  pub within : (j i : ℕ) → slice_get order j ≡ Some i → i < n

pub record MayPlay {V : Type 0} (told : V → Option Disk) (ks : List Client) (turns : List ℕ) (gs : List RegionState) (v : Vaulted V) : Type 0 where
  pub places : HavePlaces told ks gs v
  pub order : IsOrder turns (length ks)

abbrev pub AreIdle : SystemState → List Client → ℕ → Type 0
AreIdle y ks n = (i : ℕ) (k : Client) → i < n → slice_get ks i ≡ Some k → MakesNone y k.state (length k.rest.now == 0)

abbrev pub NoneHasCome : {V : Type 0} → Ghosts V → Bool → List Client → List RegionState → SystemState → Vaulted V → Type 0
NoneHasCome means precheck ks gs y v = (s : Start) (p : Point) (bs : List Told) → Played means true precheck s p bs ks gs y v → ⊥
