-- Somebody goes on while a client isn't done: a request waits for greater numbers alone, and each open transaction is a client's.
use Rattle.std.proofs.Common.{◌≡◌, ℕ, zero, suc, ◌+◌, ◌<◌, ◌≤◌, Bool, true, false, List, length, Option, Some, None, refl, sym, subst, ◌⊎◌, inl, inr, ⊎_elim, arith}
use Rattle.std.specs.Prelude.{◌==◌, IsSome, is_some, slice_get}
use Rattle.std.proofs.lemmas.Option.{slice_get_within}
use Rattle.dali_region.specs.State.{RegionState}
use Rattle.dali_locks.specs.declared.mode.Mode.{Mode}
use Rattle.dali_locks.specs.declared.mode.LockAnswer.TheVariants.{Wait}
use Rattle.dali_locks.specs.Locks.{IsAnswer}
use Rattle.dali_att.specs.declared.state.State.{State as TxnState}
use Rattle.dali_att.specs.declared.state.State.TheVariants.{Live, Dead, Cleaning, Committed}
use Rattle.dali_store.specs.Store.{Files as Disk}
use Rattle.dali_store.specs.declared.store.Store.{Ghosts}
use Rattle.dali_runs.specs.State.{TxnRow, SystemState, row_of, state_of, state_in, lock_of}
use Rattle.dali_runs.proofs.FactsLemmas.OlderRows.{rows_are_older}
use Rattle.dali_crash.specs.Checkpoints.{Point}
use Rattle.dali_crash.specs.Traces.{Start, bases_of}
use Rattle.dali_core.specs.Vault.Vaulted.{Vaulted}
use Rattle.dali_transcripts.specs.World.{is_dead_in, is_claimed_in}
use Rattle.dali_transcripts.specs.Transcripts.{Told}
use Rattle.dali_calls.specs.Steps.{call_key}
use Rattle.dali_calls.specs.Plans.{mode_of}
use Rattle.dali_turns.specs.declared.client.Client.{Client}
use Rattle.dali_turns.specs.declared.client.State.{State}
use Rattle.dali_turns.specs.declared.client.State.TheVariants.{Outside, Within, Calling, TakingBack, Committing, Waiting}
use Rattle.dali_turns.specs.Clients.{is_over}
use Rattle.dali_turns.specs.Fits.{Owns}
use Rattle.dali_turns.specs.Waits.{Waits, MakesNone}
use Rattle.dali_turns.proofs.Busied.{open_one}
use Rattle.dali_round.specs.Idle.{AreIdle}
use Rattle.dali_round.specs.Played.{Played, AreOver, EachIsOwned}
use Rattle.dali_transactions.specs.Beside.Went.{is_open}
use Rattle.dali_transactions.proofs.BesideLemmas.Going.{open_row}

-- ---- rows
row_state : (o : Option TxnRow) → IsSome o → is_some (state_in o) ≡ true
row_state None some = absurd (cc)
row_state (Some row) some = refl

-- who hasn't gone has a row, and isn't dead
still_there : (o : Option TxnState) → ((o ≡ None) ⊎ (is_dead_in o ≡ true) → ⊥) → (is_some o ≡ true) × (is_dead_in o ≡ false)
still_there None gone = absurd (gone (inl refl))
still_there (Some Live) gone = (refl, refl)
still_there (Some (Dead l)) gone = absurd (gone (inr refl))
still_there (Some (Cleaning l)) gone = (refl, refl)
still_there (Some Committed) gone = (refl, refl)

record Rows (y : SystemState) : Type 0 where
  below : (t : ℕ) → IsSome (row_of y t) → t < y.next
  owned : (t k : ℕ) (m : Mode) → lock_of y t k ≡ Some m → IsSome (row_of y t)
  unclaimed : (t : ℕ) → is_claimed_in (state_of y t) ≡ false

-- it waits for one whose client hasn't died
abbrev WaitsFor : SystemState → ℕ → ℕ → Type 0
WaitsFor y t h = (key : ℕ) × (mode : Mode) × IsAnswer y.locks t key mode (Wait h) × (is_dead_in (state_of y h) ≡ false)

module _ (y : SystemState) (rows : Rows y) where
  -- who it waits for is open, and younger
  holder_lives : (t h : ℕ) → WaitsFor y t h → (t < h) × (is_open (state_of y h) ≡ true)
  holder_lives t h (key, mode, answer, dead) =
      let conflict = answer.0.conflict in
      let row = rows.owned h key conflict.mode conflict.holds in
      (answer.1, open_one (state_of y h) (row_state (row_of y h) row) dead (rows.unclaimed h))

  module _ (waits : (t : ℕ) → is_open (state_of y t) ≡ true → (h : ℕ) × WaitsFor y t h) where
    upto : (n t : ℕ) → y.next ≤ t + n → is_open (state_of y t) ≡ true → ⊥
    upto zero t far lives = absurd (omega (arith, far, rows.below t (open_row (row_of y t) lives)))
    upto (suc n) t far lives =
        let next = waits t lives in
        let there = holder_lives t next.0 next.1 in
        upto n next.0 (omega (arith, far, there.0)) there.1

    nobody_lives : (t : ℕ) → is_open (state_of y t) ≡ true → ⊥
    nobody_lives t lives = upto y.next t (omega arith) lives

-- ---- clients
-- who is in a transaction isn't done
busy : (state : State) (none : Bool) (t : ℕ) → Owns state t → is_over state none ≡ true → ⊥
busy (Within x) none t owns over = absurd (cc)
busy (Calling x plan) none t owns over = absurd (cc)
busy (TakingBack x plan why) none t owns over = absurd (cc)
busy (Committing x number removals next) none t owns over = absurd (cc)
busy _ none t owns over = absurd owns

owner_waits : (y : SystemState) (state : State) (t : ℕ) → Owns state t → Waits y state → (h : ℕ) × WaitsFor y t h
owner_waits y (Within x) t owns (call, must) =
    let (holder, answer, dead) = must in
    (holder, (call_key call, mode_of call, subst (λ u. IsAnswer y.locks u (call_key call) (mode_of call) (Wait holder)) owns answer, dead))
owner_waits y (Calling x plan) t owns waits = absurd waits
owner_waits y (TakingBack x plan why) t owns waits = absurd waits
owner_waits y (Committing x number removals next) t owns waits = absurd waits
owner_waits y _ t owns waits = absurd owns

-- who waits, waits for one that is open
waits_for_one : (y : SystemState) → Rows y → (state : State) → Waits y state → (h : ℕ) × (is_open (state_of y h) ≡ true)
waits_for_one y rows (Within x) (call, must) =
    let (holder, answer, dead) = must in
    (holder, (holder_lives y rows x.txn holder (call_key call, mode_of call, answer, dead)).1)
waits_for_one y rows (Waiting n h) gone =
    let there = still_there (state_of y h) gone in (h, open_one (state_of y h) there.0 there.1 (rows.unclaimed h))
waits_for_one y rows Outside waits = absurd waits
waits_for_one y rows _ waits = absurd waits

module _ (y : SystemState) (ks : List Client) (owned : EachIsOwned ks y) (idle : (i : ℕ) (k : Client) → slice_get ks i ≡ Some k → MakesNone y k.state (length k.rest.now == 0)) where
  waits_on : y.stop ≡ None → (t : ℕ) → is_open (state_of y t) ≡ true → (h : ℕ) × WaitsFor y t h
  waits_on runs t lives =
      let (i, k, at, owns) = owned runs t lives in
      ⊎_elim (λ over. absurd (busy k.state (length k.rest.now == 0) t owns over)) (λ reason. owner_waits y k.state t owns reason.1) (idle i k at)

  each_is_over : (y.stop ≡ None → Rows y) → AreOver ks
  each_is_over rows i k at =
      ⊎_elim (λ over. over)
      (λ reason.
      let there = waits_for_one y (rows reason.0) k.state reason.1 in
      absurd (nobody_lives y (rows reason.0) (waits_on reason.0) there.0 there.1))
      (idle i k at)

-- ---- the round
module _ {V : Type 0} (means : Ghosts V) (precheck : Bool) (s : Start) (p : Point) (bs : List Told) (ks : List Client) (gs : List RegionState) (y : SystemState) (v : Vaulted V)
    (played : Played means true precheck s p bs ks gs y v) where
  rows_there : y.stop ≡ None → Rows y
  rows_there runs =
      let run = played.stood.stands.at.vault.run.run.run.runs in
      let here = played.stood.stands.at.system in
      subst Rows here (record {
        below = λ t some. rows_are_older (bases_of s) _ played.to.core run t some;
        owned = run.locks.owned;
        unclaimed = subst (λ (m : SystemState). (t : ℕ) → is_claimed_in (state_of m t) ≡ false) (sym here) played.stood.quiet.unclaimed;
      })

  pub idle_are_over : AreIdle y ks (length ks) → AreOver ks
  idle_are_over idle = each_is_over y ks (played.owned refl) (λ i k at. idle i k (slice_get_within ks i k at) at) rows_there
