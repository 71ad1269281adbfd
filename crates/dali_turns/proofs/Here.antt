-- What a run gives a step. No step asks for one: where a clause speaks of each run that has come here, it is shown from one.
--     IsHere Fitting ..        there is a run, a world and a standing, in which the client stands, and which are so
--     MayStep ..               there is a run, a world and a standing, in which the client stands so
--     MayYield ..              the same where it gives way to an older transaction, in the midst of a step
use Rattle.std.proofs.Common.{ℕ, Bool, List, Option}
use Rattle.dali_record.specs.declared.records.Record.{Record}
use Rattle.dali_region.specs.State.{RegionState}
use Rattle.dali_store.specs.Store.{Files as Disk}
use Rattle.dali_store.specs.declared.store.Store.{Ghosts}
use Rattle.dali_runs.specs.State.{SystemState}
use Rattle.dali_crash.specs.Checkpoints.{Point}
use Rattle.dali_crash.specs.Traces.{Start}
use Rattle.dali_core.specs.Vault.Vaulted.{Vaulted}
use Rattle.dali_transcripts.specs.World.{World}
use Rattle.dali_transcripts.specs.Rounds.{Standing}
use Rattle.dali_turns.specs.declared.client.Client.{Client}
use Rattle.dali_turns.specs.declared.client.State.{State}
use Rattle.dali_turns.specs.declared.client.Transaction.{Transaction}
use Rattle.dali_turns.specs.Stood.{Stood}
use Rattle.dali_turns.specs.Within.{FitsYielding}
use Rattle.dali_turns.specs.Fits.{rest_of, IsOf, Fits}
use Rattle.dali_turns.specs.Goes.{StepGoes, YieldGoes}

module _ {V : Type 0} (means : Ghosts V) where
  pub record IsHere (Fitting : Start → List (List Record) → Point → World → Standing → Type 0) (k : Client) (gs : List RegionState) (y : SystemState) (v : Vaulted V) : Type 0 where
    pub start : Start
    pub batches : List (List Record)
    pub point : Point
    pub world : World
    pub standing : Standing
    pub precheck : Bool
    pub stood : Stood means start batches point world precheck gs y v
    pub is : IsOf world standing k
    pub fits : Fitting start batches point world standing

  abbrev pub MayStep : State → Client → List RegionState → SystemState → Vaulted V → Type 0
  MayStep state k gs y v = IsHere (λ s B p w a. Fits means s B p w gs y v a (rest_of k) state) k gs y v

  abbrev pub MayYield : Transaction → ℕ → Client → List RegionState → SystemState → Vaulted V → Type 0
  MayYield x holder k gs y v = IsHere (λ s B p w a. FitsYielding p w a (rest_of k) x holder) k gs y v

  module _ (precheck : Bool) (k : Client) (gs : List RegionState) (y : SystemState) (v : Vaulted V) (ok : Bool) (j : Client) (hs : List RegionState) (z : SystemState) (u : Vaulted V) where
    module _ (state : State) where
      pub in_a_run : (MayStep state k gs y v → StepGoes means precheck state k gs y v ok j hs z u) → StepGoes means precheck state k gs y v ok j hs z u
      in_a_run goes s B p w a stood is fits =
          goes (record { start = s; batches = B; point = p; world = w; standing = a; precheck = precheck; stood = stood; is = is; fits = fits }) s B p w a stood is fits

      -- an exit that no run comes to
      pub in_no_run : (MayStep state k gs y v → ⊥) → StepGoes means precheck state k gs y v ok j hs z u
      in_no_run never s B p w a stood is fits =
          absurd (never (record { start = s; batches = B; point = p; world = w; standing = a; precheck = precheck; stood = stood; is = is; fits = fits }))

    module _ (x : Transaction) (holder : ℕ) where
      pub yields_in_no_run : (MayYield x holder k gs y v → ⊥) → YieldGoes means precheck x holder k gs y v ok j hs z u
      yields_in_no_run never s B p w a stood is fits =
          absurd (never (record { start = s; batches = B; point = p; world = w; standing = a; precheck = precheck; stood = stood; is = is; fits = fits }))
