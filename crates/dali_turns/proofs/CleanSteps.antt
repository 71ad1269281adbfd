-- The steps of a call in whose way a transaction stands whose client died, by what its clean-up says.
use Rattle.std.proofs.Common.{◌≡◌, ℕ, Bool, true, false, not, List, map, Option, Some, None, IfSome, Result, Ok, Err, IsErr, is_ok, refl, ap, sym, subst, ◌∙◌, ◌⊎◌, inl, inr}
use Rattle.std.specs.Prelude.{◌==◌, ◌&&◌, slice_get}
use Rattle.std.specs.Option.{option_map}
use Rattle.dali_att.specs.Table.{with_state}
use Rattle.dali_bytes.specs.declared.error.OutOfMemory.{OutOfMemory as NoMemory}
use Rattle.dali_runs.proofs.CountsLemmas.Lists.{equal}
use Rattle.dali_record.specs.declared.records.Call.{Call}
use Rattle.dali_region.specs.State.{RegionState}
use Rattle.dali_att.specs.declared.state.State.{State as RowState}
use Rattle.dali_att.specs.declared.state.State.TheVariants.{Live, Dead, Cleaning, Committed}
use Rattle.dali_store.specs.Store.{Files as Disk}
use Rattle.dali_store.specs.declared.store.Store.{Ghosts}
use Rattle.dali_runs.specs.declared.causes.Cause.{Cause}
use Rattle.dali_region.specs.declared.LatchError.TheVariants.{DeadHolder}
use Rattle.dali_runs.specs.State.{SystemState, TxnRow, row_of, state_in, state_of, hold_in, hold_of}
use Rattle.dali_runs.specs.Wholes.{IsWhole, latched_in}
use Rattle.dali_system.specs.declared.want.Want.TheVariants.{Region, Nothing}
use Rattle.dali_calls.specs.declared.single.error.StepError.TheVariants.{Latch}
use Rattle.dali_calls.specs.Single.Refusals.{IsRefusedIn, IsRefusal}
use Rattle.dali_core.specs.Vault.Vaulted.{Vaulted}
use Rattle.dali_clean.specs.Cleaned.{core, MayClean, IsDead}
use Rattle.dali_clean.proofs.Cleaning.{whole_may_clean}
use Rattle.dali_clean.specs.Others.{RowStays, OthersStay}
use Rattle.dali_calls.specs.Plans.{Planned, is_back, want_of}
use Rattle.dali_transcripts.specs.Clients.Told.{act_of}
use Rattle.dali_transcripts.specs.declared.clients.command.Command.TheVariants.{Call as IsCall}
use Rattle.dali_transcripts.specs.declared.clients.line.Why.{Why}
use Rattle.dali_transcripts.specs.declared.clients.line.Why.TheVariants.{Stopped as IsStopped}
use Rattle.dali_transcripts.specs.World.{is_claimed_in}
use Rattle.dali_transcripts.specs.Moves.{Within as IsWithin, at}
use Rattle.dali_turns.specs.declared.client.Client.{Client}
use Rattle.dali_turns.specs.declared.client.State.{State}
use Rattle.dali_turns.specs.declared.client.State.TheVariants.{Within, Calling, TakingBack}
use Rattle.dali_turns.specs.declared.client.Transaction.{Transaction}
use Rattle.dali_turns.specs.Clients.{next_of, Passes, RefusesCall, Stays}
use Rattle.dali_turns.specs.Ends.{IsCleanedUp, IsLeftDead, ClearsWay}
use Rattle.dali_turns.specs.Fits.{rest_of}
use Rattle.dali_turns.specs.Goes.{Went, StepGoes}
use Rattle.dali_turns.proofs.Here.{MayStep, in_a_run}
use Rattle.dali_turns.proofs.Commands.{next_act, behind_next}
use Rattle.dali_turns.proofs.CleanUps.{cleaned, cut_short, fallen_short}
use Rattle.dali_turns.proofs.Cleaning.{stop_there, within_behind, calling_behind, back_behind, cleaned_on, cleaned_then, half_goes}
use Rattle.dali_turns.proofs.CallSteps.{vault_still, back_wants, unasked_goes, unasked_silently, stuck_goes, stuck_silently}
use Rattle.dali_turns.proofs.Cutting.{asked_cut, called_cut, turned_cut}
use Rattle.dali_turns.proofs.Hindered.{stopped_said, stopped_unsaid}
use Rattle.dali_turns.proofs.Reasons.{refused_on, dead_latch}
use Rattle.dali_transactions.specs.Beside.Went.{is_open}

-- ---- no transaction becomes live or committed in it
live_row : (gs : List RegionState) (y : SystemState) (n : ℕ) (hs : List RegionState) (z : SystemState) → RowStays gs y n hs z → is_open (state_of z n) ≡ true → is_open (state_of y n) ≡ true
live_row gs y n hs z (inl same) e = ap (λ (r : Option TxnRow). is_open (state_in r)) (sym same) ∙ e
live_row gs y n hs z (inr (dead, freed, row)) e = absurd (by_row (row_of y n) (sym (ap (λ (r : Option TxnRow). is_open (state_in r)) row) ∙ e))
  where
    by_row : (o : Option TxnRow) → is_open (state_in (option_map (with_state (Dead None)) o)) ≡ true → ⊥
    by_row None f = absurd (cc)
    by_row (Some r) f = absurd (cc)

lived : (gs : List RegionState) (y : SystemState) (t : ℕ) (hs : List RegionState) (z : SystemState) (o : Option RowState) → OthersStay gs y t hs z → state_of z t ≡ o → (is_open o ≡ true → ⊥) → (n : ℕ) → is_open (state_of z n) ≡ true → is_open (state_of y n) ≡ true
lived gs y t hs z o others there never n e = by_test (t == n) refl
  where
    by_test : (b : Bool) → (t == n) ≡ b → is_open (state_of y n) ≡ true
    by_test true f = absurd (never (ap is_open (sym there) ∙ (ap (λ (m : ℕ). is_open (state_of z m)) (equal t n f) ∙ e)))
    by_test false f = live_row gs y n hs z (others.rows n f) e

module _ {V : Type 0} (means : Ghosts V) (precheck : Bool) (gs hs : List RegionState) (y z : SystemState) (v : Vaulted V) (k j : Client) (x : Transaction) (t : ℕ) (was : IsDead (state_of y t)) where
  -- ---- it is gone
  module _ (up : IsCleanedUp t gs y hs z) where
    gone_lived : (n : ℕ) → is_open (state_of z n) ≡ true → is_open (state_of y n) ≡ true
    gone_lived = lived gs y t hs z None up.others (ap state_in up.gone.0) (λ e. absurd (cc))

    call_again : (call : Call) → next_of k ≡ Some (IsCall call) → Stays k (Within x) j → StepGoes means precheck (Within x) k gs y v true j hs z v
    call_again call next f s B p w a stood is fits =
        let lives = ap (λ (m : SystemState). state_of m x.txn) (sym stood.stands.at.system) ∙ fits.lives in
        let (to, cleans) = cleaned means precheck s B p w gs y v stood a.client (Within x) x.txn lives t hs z (up.dead stood.stands.dead) up.others was up.ends up.gone in
        cleaned_on means precheck s B p w a gs y v k x (Within x) stood is lives to hs z cleans gone_lived j f
        (within_behind means precheck s B p w a gs y v k x (Within x) stood is lives to hs z cleans call (behind_next k) (next_act k (IsCall call) next) fits) (λ n e. e) (λ n e. e)

    operate_again : (plan : Planned) → Stays k (Calling x plan) j → StepGoes means precheck (Calling x plan) k gs y v true j hs z v
    operate_again plan f s B p w a stood is fits =
        let lives = ap (λ (m : SystemState). state_of m x.txn) (sym stood.stands.at.system) ∙ subst (λ n. state_of p.core.system n ≡ Some Live) fits.plan_is.txn fits.plan_is.rest.lives in
        let (to, cleans) = cleaned means precheck s B p w gs y v stood a.client (Calling x plan) x.txn lives t hs z (up.dead stood.stands.dead) up.others was up.ends up.gone in
        cleaned_on means precheck s B p w a gs y v k x (Calling x plan) stood is lives to hs z cleans gone_lived j f
        (calling_behind means precheck s B p w a gs y v k x (Calling x plan) stood is lives to hs z cleans plan fits) (λ n e. e) (λ n e. e)

    back_again : (plan : Planned) (why : Why) → Stays k (TakingBack x plan why) j → StepGoes means precheck (TakingBack x plan why) k gs y v true j hs z v
    back_again plan why f s B p w a stood is fits =
        let lives = ap (λ (m : SystemState). state_of m x.txn) (sym stood.stands.at.system) ∙ subst (λ n. state_of p.core.system n ≡ Some Live) fits.plan_is.txn fits.plan_is.rest.lives in
        let (to, cleans) = cleaned means precheck s B p w gs y v stood a.client (TakingBack x plan why) x.txn lives t hs z (up.dead stood.stands.dead) up.others was up.ends up.gone in
        cleaned_on means precheck s B p w a gs y v k x (TakingBack x plan why) stood is lives to hs z cleans gone_lived j f
        (back_behind means precheck s B p w a gs y v k x (TakingBack x plan why) stood is lives to hs z cleans plan why fits) (λ n e. e) (λ n e. e)

  -- ---- it is dead again
  module _ (left : IsLeftDead t gs y hs z) where
    left_lived : (n : ℕ) → is_open (state_of z n) ≡ true → is_open (state_of y n) ≡ true
    left_lived = lived gs y t hs z (Some (Dead None)) left.others left.again (λ e. absurd (cc))

    -- since the engine is stopped
    module _ (stop : Cause) (stopped : y.stop ≡ Some stop) where
      module _ (call : Call) (next : next_of k ≡ Some (IsCall call)) where
        within_then : (ok : Bool) → (z.stop ≡ Some stop → StepGoes means precheck (Within x) k hs z v ok j hs z v) → StepGoes means precheck (Within x) k gs y v ok j hs z v
        within_then ok goes s B p w a stood is fits =
            let lives = ap (λ (m : SystemState). state_of m x.txn) (sym stood.stands.at.system) ∙ fits.lives in
            let (to, cleans) = cut_short means precheck s B p w gs y v stood a.client (Within x) x.txn lives t hs z (left.dead stood.stands.dead) left.others was left.left left.again stop stopped in
            let still : z.stop ≡ Some stop = ap (λ (m : SystemState). m.stop) (sym cleans.did.stood.stands.at.system) ∙ stop_there means precheck s B p w a gs y v k x (Within x) stood is lives to hs z cleans stop (ap (λ (m : SystemState). m.stop) stood.stands.at.system ∙ stopped) in
            cleaned_then means precheck s B p w a gs y v k x (Within x) stood is lives to hs z cleans left_lived j hs z v ok
            (within_behind means precheck s B p w a gs y v k x (Within x) stood is lives to hs z cleans call (behind_next k) (next_act k (IsCall call) next) fits) (goes still)

        call_stopped : RefusesCall k x (IsStopped stop) j → StepGoes means precheck (Within x) k gs y v true j hs z v
        call_stopped f = within_then true (λ still. unasked_goes means precheck hs z v k j x call next z stop refl still f)

        call_stopped_silently : (ok : Bool) → ok ≡ false → j.transcript ≡ k.transcript → StepGoes means precheck (Within x) k gs y v ok j hs z v
        call_stopped_silently ok no_line same = within_then ok (λ still. unasked_silently means precheck hs z v k j x call next z ok stop refl no_line still same)

      module _ (plan : Planned) where
        calling_then : (ok : Bool) → (z.stop ≡ Some stop → StepGoes means precheck (Calling x plan) k hs z v ok j hs z v) → StepGoes means precheck (Calling x plan) k gs y v ok j hs z v
        calling_then ok goes s B p w a stood is fits =
            let lives = ap (λ (m : SystemState). state_of m x.txn) (sym stood.stands.at.system) ∙ subst (λ n. state_of p.core.system n ≡ Some Live) fits.plan_is.txn fits.plan_is.rest.lives in
            let (to, cleans) = cut_short means precheck s B p w gs y v stood a.client (Calling x plan) x.txn lives t hs z (left.dead stood.stands.dead) left.others was left.left left.again stop stopped in
            let still : z.stop ≡ Some stop = ap (λ (m : SystemState). m.stop) (sym cleans.did.stood.stands.at.system) ∙ stop_there means precheck s B p w a gs y v k x (Calling x plan) stood is lives to hs z cleans stop (ap (λ (m : SystemState). m.stop) stood.stands.at.system ∙ stopped) in
            cleaned_then means precheck s B p w a gs y v k x (Calling x plan) stood is lives to hs z cleans left_lived j hs z v ok
            (calling_behind means precheck s B p w a gs y v k x (Calling x plan) stood is lives to hs z cleans plan fits) (goes still)

        operate_stopped : RefusesCall k x (IsStopped stop) j → StepGoes means precheck (Calling x plan) k gs y v true j hs z v
        operate_stopped f = calling_then true (λ still s B p w a stood is fits. stopped_said means precheck s B p w a hs z v k j x plan stood is fits stop still f)

        operate_stopped_silently : (ok : Bool) → ok ≡ false → Passes k (Within x) j → StepGoes means precheck (Calling x plan) k gs y v ok j hs z v
        operate_stopped_silently ok no_line f =
            subst (λ b. StepGoes means precheck (Calling x plan) k gs y v b j hs z v) (sym no_line)
            (calling_then false (λ still s B p w a stood is fits. stopped_unsaid means precheck s B p w a hs z v k j x plan stood is fits stop still f))

      module _ (plan : Planned) (why : Why) where
        back_then : (ok : Bool) → (z.stop ≡ Some stop → StepGoes means precheck (TakingBack x plan why) k hs z v ok j hs z v) → StepGoes means precheck (TakingBack x plan why) k gs y v ok j hs z v
        back_then ok goes s B p w a stood is fits =
            let lives = ap (λ (m : SystemState). state_of m x.txn) (sym stood.stands.at.system) ∙ subst (λ n. state_of p.core.system n ≡ Some Live) fits.plan_is.txn fits.plan_is.rest.lives in
            let (to, cleans) = cut_short means precheck s B p w gs y v stood a.client (TakingBack x plan why) x.txn lives t hs z (left.dead stood.stands.dead) left.others was left.left left.again stop stopped in
            let still : z.stop ≡ Some stop = ap (λ (m : SystemState). m.stop) (sym cleans.did.stood.stands.at.system) ∙ stop_there means precheck s B p w a gs y v k x (TakingBack x plan why) stood is lives to hs z cleans stop (ap (λ (m : SystemState). m.stop) stood.stands.at.system ∙ stopped) in
            cleaned_then means precheck s B p w a gs y v k x (TakingBack x plan why) stood is lives to hs z cleans left_lived j hs z v ok
            (back_behind means precheck s B p w a gs y v k x (TakingBack x plan why) stood is lives to hs z cleans plan why fits) (goes still)

        back_stopped : RefusesCall k x (IsStopped stop) j → StepGoes means precheck (TakingBack x plan why) k gs y v true j hs z v
        back_stopped f = back_then true (λ still. stuck_goes means precheck hs z v k j x plan why stop still f)

        back_stopped_silently : (ok : Bool) → ok ≡ false → j.transcript ≡ k.transcript → StepGoes means precheck (TakingBack x plan why) k gs y v ok j hs z v
        back_stopped_silently ok no_line same = back_then ok (λ still. stuck_silently means precheck hs z v k j x plan why ok stop no_line still same)

    -- or for want of memory
    module _ (same : j.transcript ≡ k.transcript) where
      call_half : (call : Call) → next_of k ≡ Some (IsCall call) → (ok : Bool) → ok ≡ false → StepGoes means precheck (Within x) k gs y v ok j hs z v
      call_half call next ok no_line s B p w a stood is fits =
          let lives = ap (λ (m : SystemState). state_of m x.txn) (sym stood.stands.at.system) ∙ fits.lives in
          let (to, half) = fallen_short means precheck s B p w gs y v stood a.client (Within x) x.txn lives t hs z (left.dead stood.stands.dead) left.others was left.left left.again in
          let more = next_act k (IsCall call) next in
          subst (λ b. Went means precheck s B p w a (Within x) gs y v b j hs z v) (sym no_line)
          (half_goes means precheck s B p w a gs y v k x (Within x) is to hs z half call (behind_next k) x.tries (map act_of x.commands.now) x.deadly fits.said
          (fits.spot ∙ ap (at (IsWithin x.txn x.tries (map act_of x.commands.now) x.deadly fits.said)) more)
          (inl (asked_cut p w a (rest_of k) x call (behind_next k) more fits)) j same)

      operate_half : (plan : Planned) (ok : Bool) → ok ≡ false → StepGoes means precheck (Calling x plan) k gs y v ok j hs z v
      operate_half plan ok no_line s B p w a stood is fits =
          let lives = ap (λ (m : SystemState). state_of m x.txn) (sym stood.stands.at.system) ∙ subst (λ n. state_of p.core.system n ≡ Some Live) fits.plan_is.txn fits.plan_is.rest.lives in
          let (to, half) = fallen_short means precheck s B p w gs y v stood a.client (Calling x plan) x.txn lives t hs z (left.dead stood.stands.dead) left.others was left.left left.again in
          subst (λ b. Went means precheck s B p w a (Calling x plan) gs y v b j hs z v) (sym no_line)
          (half_goes means precheck s B p w a gs y v k x (Calling x plan) is to hs z half fits.call fits.more x.tries (map act_of x.commands.now) fits.deadly false
          (fits.spot ∙ ap (at (IsWithin x.txn x.tries (map act_of x.commands.now) fits.deadly false)) fits.calls) (inl (called_cut p w a (rest_of k) x plan fits)) j same)

      back_half : (plan : Planned) (why : Why) (ok : Bool) → ok ≡ false → StepGoes means precheck (TakingBack x plan why) k gs y v ok j hs z v
      back_half plan why ok no_line s B p w a stood is fits =
          let lives = ap (λ (m : SystemState). state_of m x.txn) (sym stood.stands.at.system) ∙ subst (λ n. state_of p.core.system n ≡ Some Live) fits.plan_is.txn fits.plan_is.rest.lives in
          let (to, half) = fallen_short means precheck s B p w gs y v stood a.client (TakingBack x plan why) x.txn lives t hs z (left.dead stood.stands.dead) left.others was left.left left.again in
          subst (λ b. Went means precheck s B p w a (TakingBack x plan why) gs y v b j hs z v) (sym no_line)
          (half_goes means precheck s B p w a gs y v k x (TakingBack x plan why) is to hs z half fits.call fits.more x.tries (map act_of x.commands.now) fits.deadly false
          (fits.spot ∙ ap (at (IsWithin x.txn x.tries (map act_of x.commands.now) fits.deadly false)) fits.calls) (inr (turned_cut p w a (rest_of k) x plan why fits)) j same)

-- ---- what a clean-up asks for
pub is_some_at : {X : Type 0} (o : Option X) (n : X) (P : X → Type 0) → o ≡ Some n → IfSome o P → P n
is_some_at {X} o n P e h = subst (λ (m : Option X). IfSome m P) e h

dead_there : (o : Option RowState) (r : ℕ) → latched_in o ≡ Some r → is_claimed_in o ≡ false → IsDead o
dead_there (Some (Dead latched)) r e h = (latched, refl)
dead_there (Some (Cleaning latched)) r e h = absurd (cc)
dead_there (Some Live) r e h = absurd (cc)
dead_there (Some Committed) r e h = absurd (cc)
dead_there None r e h = absurd (cc)

module _ {V : Type 0} (means : Ghosts V) (state : State) (k : Client) (gs : List RegionState) (y : SystemState) (v : Vaulted V) (may : MayStep means state k gs y v) where
  may_be_cleaned : (t : ℕ) → MayClean gs y t
  may_be_cleaned t =
      whole_may_clean gs y may.point.core.vault t
      (subst (λ rs. IsWhole (core rs y may.point.core.vault)) may.stood.stands.at.regions (subst (λ m. IsWhole (core may.point.core.regions m may.point.core.vault)) may.stood.stands.at.system may.stood.stands.whole)) may.stood.stands.dead

  -- whoever has a region latched has died
  pub holder_is_dead : (precheck : Bool) (plan : Planned) (r t : ℕ) → want_of plan ≡ Region r → IsRefusal precheck plan gs y (Latch (DeadHolder t)) → IsDead (state_of y t)
  holder_is_dead precheck plan r t want why =
      let on = refused_on precheck plan gs y (Latch (DeadHolder t)) r want why in
      let held = dead_latch (not (is_back plan) && precheck) on.0 t on.2 in
      let at : hold_of may.point.core r ≡ Some held.0 = ap (λ rs. hold_in (slice_get rs r)) may.stood.stands.at.regions ∙ (ap hold_in on.1 ∙ held.1) in
      let names : latched_in (state_of y held.0.txn) ≡ Some r = ap (λ (m : SystemState). latched_in (state_of m held.0.txn)) (sym may.stood.stands.at.system) ∙ may.stood.stands.whole.dead r held.0 at held.2 in
      subst (λ n. IsDead (state_of y n)) held.3 (dead_there (state_of y held.0.txn) r names (may.stood.quiet.unclaimed held.0.txn))

module _ {V : Type 0} (means : Ghosts V) (precheck : Bool) (state : State) (k j : Client) (gs hs : List RegionState) (y z : SystemState) (v u : Vaulted V) (ok : Bool) (t : ℕ) (vault : u ≡ v) where
  -- in a run it has what it asks for
  cleans_in : (MayStep means state k gs y v → IsDead (state_of y t)) → (MayClean gs y t → IsDead (state_of y t) → StepGoes means precheck state k gs y v ok j hs z v)
      → StepGoes means precheck state k gs y v ok j hs z u
  cleans_in dead goes =
      in_a_run means precheck k gs y v ok j hs z u state
      (λ may. vault_still means precheck state k j gs hs y z v u ok vault (goes (may_be_cleaned means state k gs y v may t) (dead may)))

module _ {V : Type 0} (means : Ghosts V) (k : Client) (gs : List RegionState) (y : SystemState) (v : Vaulted V) (x : Transaction) (plan : Planned) (why : Why) (may : MayStep means (TakingBack x plan why) k gs y v) where
  pub back_holder_is_dead : (precheck : Bool) (t : ℕ) → IsRefusal precheck plan gs y (Latch (DeadHolder t)) → IsDead (state_of y t)
  back_holder_is_dead precheck t refused = by_wants (back_wants plan may.fits.plan_is.phase_is)
    where
      by_wants : (want_of plan ≡ Nothing) ⊎ ((r : ℕ) × (want_of plan ≡ Region r)) → IsDead (state_of y t)
      by_wants (inl none) = absurd (subst (λ m. IsRefusedIn m precheck plan gs y (Latch (DeadHolder t))) none refused)
      by_wants (inr (r, want)) = holder_is_dead means (TakingBack x plan why) k gs y v may precheck plan r t want refused

-- ---- by what became of it
module _ (t : ℕ) (x : Transaction) (state : State) (k j : Client) (gs hs : List RegionState) (y z : SystemState) where
  pub clears_half : (r : Result Bool NoMemory) → IsErr r → (MayClean gs y t → IsDead (state_of y t) → (y.stop ≡ None) × IsLeftDead t gs y hs z) → j ≡ k → ClearsWay t x state k gs y r j hs z
  clears_half (Ok went) err left same = absurd (cc)
  clears_half (Err e) err left same = inl (left, same)

  pub clears_silently : (r : Result Bool NoMemory) → IsErr r → (cause : Cause) → y.stop ≡ Some cause → (MayClean gs y t → IsLeftDead t gs y hs z) → Passes k (Within x) j → ClearsWay t x state k gs y r j hs z
  clears_silently (Ok went) err cause stopped left passes = absurd (cc)
  clears_silently (Err e) err cause stopped left passes = inr (cause, stopped, left, passes)

module _ {V : Type 0} (means : Ghosts V) (precheck : Bool) (k j : Client) (gs hs : List RegionState) (y z : SystemState) (v u : Vaulted V) (x : Transaction) (t : ℕ) (vault : u ≡ v) where
  pub call_clears : (call : Call) (next : next_of k ≡ Some (IsCall call)) → (MayStep means (Within x) k gs y v → IsDead (state_of y t)) → (r : Result Bool NoMemory) → ClearsWay t x (Within x) k gs y r j hs z → StepGoes means precheck (Within x) k gs y v (is_ok r) j hs z u
  call_clears call next dead (Ok went) (inl (runs, up, stays)) =
      cleans_in means precheck (Within x) k j gs hs y z v u true t vault dead (λ clean was. call_again means precheck gs hs y z v k j x t was up call next stays)
  call_clears call next dead (Ok went) (inr (cause, stopped, left, refuses)) =
      cleans_in means precheck (Within x) k j gs hs y z v u true t vault dead (λ clean was. call_stopped means precheck gs hs y z v k j x t was (left clean) cause stopped call next refuses)
  call_clears call next dead (Err e) (inl (left, same)) =
      cleans_in means precheck (Within x) k j gs hs y z v u false t vault dead (λ clean was. call_half means precheck gs hs y z v k j x t was (left clean was).1 (ap (λ (n : Client). n.transcript) same) call next false refl)
  call_clears call next dead (Err e) (inr (cause, stopped, left, passes)) =
      cleans_in means precheck (Within x) k j gs hs y z v u false t vault dead (λ clean was. call_stopped_silently means precheck gs hs y z v k j x t was (left clean) cause stopped call next false refl passes.transcript)

  pub operate_clears : (plan : Planned) → (MayStep means (Calling x plan) k gs y v → IsDead (state_of y t)) → (r : Result Bool NoMemory) → ClearsWay t x (Calling x plan) k gs y r j hs z → StepGoes means precheck (Calling x plan) k gs y v (is_ok r) j hs z u
  operate_clears plan dead (Ok went) (inl (runs, up, stays)) =
      cleans_in means precheck (Calling x plan) k j gs hs y z v u true t vault dead (λ clean was. operate_again means precheck gs hs y z v k j x t was up plan stays)
  operate_clears plan dead (Ok went) (inr (cause, stopped, left, refuses)) =
      cleans_in means precheck (Calling x plan) k j gs hs y z v u true t vault dead (λ clean was. operate_stopped means precheck gs hs y z v k j x t was (left clean) cause stopped plan refuses)
  operate_clears plan dead (Err e) (inl (left, same)) =
      cleans_in means precheck (Calling x plan) k j gs hs y z v u false t vault dead (λ clean was. operate_half means precheck gs hs y z v k j x t was (left clean was).1 (ap (λ (n : Client). n.transcript) same) plan false refl)
  operate_clears plan dead (Err e) (inr (cause, stopped, left, passes)) =
      cleans_in means precheck (Calling x plan) k j gs hs y z v u false t vault dead (λ clean was. operate_stopped_silently means precheck gs hs y z v k j x t was (left clean) cause stopped plan false refl passes)

  pub back_clears : (plan : Planned) (why : Why) → (MayStep means (TakingBack x plan why) k gs y v → IsDead (state_of y t)) → (r : Result Bool NoMemory) → ClearsWay t x (TakingBack x plan why) k gs y r j hs z → StepGoes means precheck (TakingBack x plan why) k gs y v (is_ok r) j hs z u
  back_clears plan why dead (Ok went) (inl (runs, up, stays)) =
      cleans_in means precheck (TakingBack x plan why) k j gs hs y z v u true t vault dead (λ clean was. back_again means precheck gs hs y z v k j x t was up plan why stays)
  back_clears plan why dead (Ok went) (inr (cause, stopped, left, refuses)) =
      cleans_in means precheck (TakingBack x plan why) k j gs hs y z v u true t vault dead (λ clean was. back_stopped means precheck gs hs y z v k j x t was (left clean) cause stopped plan why refuses)
  back_clears plan why dead (Err e) (inl (left, same)) =
      cleans_in means precheck (TakingBack x plan why) k j gs hs y z v u false t vault dead (λ clean was. back_half means precheck gs hs y z v k j x t was (left clean was).1 (ap (λ (n : Client). n.transcript) same) plan why false refl)
  back_clears plan why dead (Err e) (inr (cause, stopped, left, passes)) =
      cleans_in means precheck (TakingBack x plan why) k j gs hs y z v u false t vault dead (λ clean was. back_stopped_silently means precheck gs hs y z v k j x t was (left clean) cause stopped plan why false refl passes.transcript)
