-- A call asks for its lock, by what it is answered.
use Rattle.std.proofs.Common.{◌≡◌, ℕ, Bool, true, false, List, Option, Some, None, refl, ap, sym, subst, ◌∙◌}
use Rattle.dali_record.specs.declared.records.Call.{Call}
use Rattle.dali_record.specs.declared.records.Record.{Record}
use Rattle.dali_region.specs.State.{RegionState}
use Rattle.dali_locks.specs.declared.mode.LockAnswer.{LockAnswer}
use Rattle.dali_locks.specs.declared.mode.LockAnswer.TheVariants.{Granted, Wait, Busy}
use Rattle.dali_locks.specs.Locks.{IsAnswer}
use Rattle.dali_att.specs.declared.state.State.{State as RowState}
use Rattle.dali_att.specs.declared.state.State.TheVariants.{Live, Committed, Dead, Cleaning}
use Rattle.dali_store.specs.Store.{Files as Disk}
use Rattle.dali_store.specs.declared.store.Store.{Ghosts}
use Rattle.dali_runs.specs.State.{SystemState, VaultState, state_of}
use Rattle.dali_core.specs.Vault.Vaulted.{Vaulted}
use Rattle.dali_clean.specs.Cleaned.{IsDead}
use Rattle.dali_system.specs.Asked.{after_request}
use Rattle.dali_calls.specs.Steps.{call_key}
use Rattle.dali_calls.specs.Plans.{Planned, mode_of}
use Rattle.dali_calls.specs.Single.Single.{MayCall}
use Rattle.dali_calls.specs.Single.Stands.{core, IsAtRest}
use Rattle.dali_calls.specs.Stepwise.Stepwise.{IsNew, IsAsked}
use Rattle.dali_transcripts.specs.World.{is_dead_in}
use Rattle.dali_transcripts.specs.declared.clients.command.Command.TheVariants.{Call as IsCall}
use Rattle.dali_turns.specs.declared.client.Client.{Client}
use Rattle.dali_turns.specs.declared.client.State.TheVariants.{Within, Calling}
use Rattle.dali_turns.specs.declared.client.Transaction.{Transaction}
use Rattle.dali_turns.specs.Calls.{MustWait}
use Rattle.dali_turns.specs.Clients.{next_of, Stays}
use Rattle.dali_turns.specs.Goes.{StepGoes, YieldGoes}
use Rattle.dali_turns.proofs.Asking.{new_plan}
use Rattle.dali_turns.proofs.CallSteps.{granted_goes, waits_goes}
use Rattle.dali_turns.proofs.Busied.{yield_goes, clean_goes}

-- a row is a dead one's where its test says so
pub dead_in : (o : Option RowState) → is_dead_in o ≡ true → IsDead o
dead_in (Some (Dead latched)) e = (latched, refl)
dead_in (Some (Cleaning latched)) e = absurd (cc)
dead_in (Some Live) e = absurd (cc)
dead_in (Some Committed) e = absurd (cc)
dead_in None e = absurd (cc)

module _ {V : Type 0} (means : Ghosts V) (gs : List RegionState) (y z : SystemState) (v : Vaulted V) (k : Client) (x : Transaction) (call : Call) (next : next_of k ≡ Some (IsCall call))
    (plan : Planned) (same : plan ≡ new_plan y.sizes x.txn call) (a : LockAnswer) (answer : IsAnswer y.locks x.txn (call_key plan.call) (mode_of plan.call) a) (system : z ≡ after_request y x.txn (call_key plan.call) (mode_of plan.call) a)
    (asks : (L : List Record) (rs : List RegionState) (o : VaultState) → IsNew plan → IsAtRest rs y plan → MayCall L (core rs y o) x.txn → IsAsked a L (core rs y o) plan (core rs z o)) (runs : y.stop ≡ None) where
  the_call : plan.call ≡ call
  the_call = ap (λ (m : Planned). m.call) same

  answered : (b : LockAnswer) → a ≡ b → IsAnswer y.locks x.txn (call_key call) (mode_of call) b
  answered b is = subst (λ (c : Call). IsAnswer y.locks x.txn (call_key c) (mode_of c) b) the_call (subst (λ (n : LockAnswer). IsAnswer y.locks x.txn (call_key plan.call) (mode_of plan.call) n) is answer)

  stated : (b : LockAnswer) → a ≡ b → z ≡ after_request y x.txn (call_key call) (mode_of call) b
  stated b is = subst (λ (c : Call). z ≡ after_request y x.txn (call_key c) (mode_of c) b) the_call (subst (λ (n : LockAnswer). z ≡ after_request y x.txn (call_key plan.call) (mode_of plan.call) n) is system)

  asked : (b : LockAnswer) → a ≡ b → (L : List Record) (rs : List RegionState) (o : VaultState) → IsNew plan → IsAtRest rs y plan → MayCall L (core rs y o) x.txn → IsAsked b L (core rs y o) plan (core rs z o)
  asked b is = subst (λ (n : LockAnswer). (L : List Record) (rs : List RegionState) (o : VaultState) → IsNew plan → IsAtRest rs y plan → MayCall L (core rs y o) x.txn → IsAsked n L (core rs y o) plan (core rs z o)) is asks

  -- it is granted
  pub granted_then : a ≡ Granted → (precheck : Bool) (j : Client) → Stays k (Calling x plan) j → StepGoes means precheck (Within x) k gs y v true j gs z v
  granted_then is precheck j f = granted_goes means precheck gs y v k j x call next z plan same (asked Granted is) (stated Granted is) runs f

  module _ (holder : ℕ) where
    -- it waits
    pub waits_there : a ≡ Wait holder → z ≡ y
    waits_there is = stated (Wait holder) is

    pub must_wait : a ≡ Wait holder → is_dead_in (state_of z holder) ≡ false → MustWait y x.txn call
    must_wait is alive = (holder, answered (Wait holder) is, ap (λ (m : SystemState). is_dead_in (state_of m holder)) (sym (waits_there is)) ∙ alive)

    pub waits_then : a ≡ Wait holder → (precheck : Bool) (j : Client) → Stays k (Within x) j → StepGoes means precheck (Within x) k gs y v true j gs z v
    waits_then is precheck j f = waits_goes means precheck gs y v k j x call next z (waits_there is) f

    pub clean_then : a ≡ Wait holder → (precheck ok : Bool) (j : Client) (hs : List RegionState) (m : SystemState) (u : Vaulted V) → StepGoes means precheck (Within x) k gs z v ok j hs m u → StepGoes means precheck (Within x) k gs y v ok j hs m u
    clean_then is precheck ok j hs m u goes = subst (λ (n : SystemState). StepGoes means precheck (Within x) k gs n v ok j hs m u) (waits_there is) goes

    -- an older one holds it
    as_before : a ≡ Busy holder → state_of y holder ≡ state_of z holder
    as_before is = ap (λ (m : SystemState). state_of m holder) (sym (stated (Busy holder) is))

    lives : a ≡ Busy holder → is_dead_in (state_of z holder) ≡ false → is_dead_in (state_of y holder) ≡ false
    lives is alive = ap is_dead_in (as_before is) ∙ alive

    died : a ≡ Busy holder → is_dead_in (state_of z holder) ≡ true → is_dead_in (state_of y holder) ≡ true
    died is dead = ap is_dead_in (as_before is) ∙ dead

    pub yield_then : a ≡ Busy holder → is_dead_in (state_of z holder) ≡ false → (precheck ok : Bool) (j : Client) (hs : List RegionState) (m : SystemState) (u : Vaulted V) → YieldGoes means precheck x holder k gs z v ok j hs m u
        → StepGoes means precheck (Within x) k gs y v ok j hs m u
    yield_then is alive precheck ok j hs m u goes =
        yield_goes means gs y v k x call next plan same holder (answered (Busy holder) is) runs z (stated (Busy holder) is) (asked (Busy holder) is) (lives is alive) precheck ok j hs m u goes

    pub clean_behind : a ≡ Busy holder → is_dead_in (state_of z holder) ≡ true → (precheck ok : Bool) (j : Client) (hs : List RegionState) (m : SystemState) (u : Vaulted V) → StepGoes means precheck (Within x) k gs z v ok j hs m u
        → StepGoes means precheck (Within x) k gs y v ok j hs m u
    clean_behind is dead precheck ok j hs m u goes =
        clean_goes means gs y v k x call next plan same holder (answered (Busy holder) is) runs z (stated (Busy holder) is) (asked (Busy holder) is) (died is dead) precheck ok j hs m u goes
