-- What is so wherever a run has come to a core: so the guards of a step function don't turn it away there.
use Rattle.std.proofs.Common.{◌≡◌, ℕ, ◌<◌, ◌^◌, Bool, false, List, None, Option, is_some, ap}
use Rattle.dali_record.specs.declared.records.Record.{Record}
use Rattle.dali_region.specs.State.{RegionState}
use Rattle.dali_store.specs.Store.{Files as Disk}
use Rattle.dali_store.specs.declared.store.Store.{Ghosts}
use Rattle.dali_runs.specs.State.{SystemState}
use Rattle.dali_crash.specs.Checkpoints.{Point}
use Rattle.dali_crash.specs.Traces.{Start}
use Rattle.dali_core.specs.Vault.Vaulted.{Vaulted}
use Rattle.dali_core.proofs.StepsLemmas.Steps.{places_are_small}
use Rattle.dali_transcripts.specs.World.{World}
use Rattle.dali_transcripts.specs.Rounds.{Standing}
use Rattle.dali_turns.specs.declared.client.Client.{Client}
use Rattle.dali_turns.specs.declared.client.State.{State}
use Rattle.dali_turns.specs.Stood.{Stood}
use Rattle.dali_turns.specs.Fits.{rest_of, IsOf, Fits}
use Rattle.dali_turns.specs.Goes.{StepGoes}
use Rattle.dali_turns.proofs.Ending.{vault_runs}

module _ {V : Type 0} (means : Ghosts V) (precheck : Bool) (state : State) (k : Client) (gs : List RegionState) (y : SystemState) (v : Vaulted V) where
  -- from each run that has come here
  abbrev pub Always : Type 0 → Type 0
  Always P =
      (s : Start) (B : List (List Record)) (p : Point) (w : World) (a : Standing)
      → Stood means s B p w precheck gs y v → IsOf w a k → Fits means s B p w gs y v a (rest_of k) state → P

  -- no run comes to this exit
  pub never_goes : (P : Type 0) (ok : Bool) (j : Client) (hs : List RegionState) (z : SystemState) (u : Vaulted V) → Always P → (P → ⊥) → StepGoes means precheck state k gs y v ok j hs z u
  never_goes P ok j hs z u always never s B p w a stood of fits = absurd (never (always s B p w a stood of fits))

  pub vault_small : Always ((v.end < 2 ^ 62) × (v.current < 2 ^ 62))
  vault_small s B p w a stood of fits = places_are_small means s B p v stood.stands.at.vault

  -- the vault that stopped before has stopped the engine
  still_runs : y.stop ≡ None → Always (v.stopped ≡ false)
  still_runs stop s B p w a stood of fits = vault_runs v.stopped (is_some y.stop) stood.stops (ap is_some stop)

  pub goes_running : y.stop ≡ None → (ok : Bool) (j : Client) (hs : List RegionState) (z : SystemState) (u : Vaulted V)
      → (v.stopped ≡ false → StepGoes means precheck state k gs y v ok j hs z u) → StepGoes means precheck state k gs y v ok j hs z u
  goes_running stop ok j hs z u goes s B p w a stood of fits = goes (still_runs stop s B p w a stood of fits) s B p w a stood of fits

  pub both : (P Q : Type 0) → Always P → Always Q → Always (P × Q)
  both P Q left right s B p w a stood of fits = (left s B p w a stood of fits, right s B p w a stood of fits)
