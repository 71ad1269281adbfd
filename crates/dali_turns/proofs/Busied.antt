-- An older transaction holds the key of a client's next call: its request is refused, and the refusal is kept.
use Rattle.std.proofs.Common.{◌≡◌, ℕ, Bool, true, false, not, List, [], ◌∷◌, ◌++◌, length, map, Option, Some, None, is_some, refl, ap, sym, subst, ◌∙◌, inl, inr, ⊎_elim, arith}
use Rattle.std.specs.Prelude.{◌==◌, fold, take}
use Rattle.dali_lists.proofs.Members.{all_append}
use Rattle.dali_runs.proofs.CountsLemmas.Lists.{equal}
use Rattle.dali_record.specs.declared.records.Call.{Call}
use Rattle.dali_record.specs.declared.records.Record.{Record}
use Rattle.dali_region.specs.State.{RegionState}
use Rattle.dali_att.specs.declared.state.State.{State as RowState}
use Rattle.dali_att.specs.declared.state.State.TheVariants.{Live, Dead, Cleaning, Committed}
use Rattle.dali_locks.specs.declared.mode.Mode.{Mode}
use Rattle.dali_locks.specs.declared.mode.LockAnswer.TheVariants.{Busy}
use Rattle.dali_locks.specs.Locks.{both_shared, IsAnswer}
use Rattle.dali_store.specs.Store.{Files as Disk}
use Rattle.dali_store.specs.declared.store.Store.{Ghosts}
use Rattle.dali_runs.specs.declared.refusals.Refusal.{Refusal}
use Rattle.dali_runs.specs.State.{SystemState, VaultState, CoreState, TxnRow, row_of, lock_of, state_in, state_of}
use Rattle.dali_runs.specs.Steps.{refused}
use Rattle.dali_runs.specs.Courses.{Step, Refuses}
use Rattle.dali_crash.specs.Checkpoints.{Does, Point}
use Rattle.dali_crash.specs.Traces.{Start, bases_of}
use Rattle.dali_core.specs.Vault.Vaulted.{Vaulted}
use Rattle.dali_calls.specs.Steps.{call_key}
use Rattle.dali_calls.specs.Plans.{Planned, mode_of}
use Rattle.dali_calls.specs.Single.Single.{MayCall}
use Rattle.dali_calls.specs.Single.Stands.{core, IsAtRest}
use Rattle.dali_calls.specs.Stepwise.Stepwise.{IsNew, IsAsked}
use Rattle.dali_transcripts.specs.Words.{Act, Calls}
use Rattle.dali_transcripts.specs.World.{Deed, Yields, FindsDead, Happening, World, log_of, log_at, HasGot, lock_after, state_step, state_at, stop_at, is_dead_in, is_claimed_in}
use Rattle.dali_transcripts.specs.Moves.{Spot, Within as IsWithin, at}
use Rattle.dali_transcripts.specs.Causes.{IsAsking, AreAsking, IsHindered, IsRight, HasFoundDead, GetsBusy}
use Rattle.dali_transcripts.specs.Rounds.{Standing}
use Rattle.dali_transcripts.proofs.Growing.{askings}
use Rattle.dali_transcripts.specs.Telling.Deeds.{AreOf, refusal_now}
use Rattle.dali_transcripts.specs.Telling.Tells.{after}
use Rattle.dali_transcripts.specs.Clients.Told.{act_of}
use Rattle.dali_transcripts.specs.declared.clients.command.Command.TheVariants.{Call as IsCall}
use Rattle.dali_transactions.specs.Beside.Went.{is_open}
use Rattle.dali_turns.specs.declared.client.Client.{Client}
use Rattle.dali_turns.specs.declared.client.State.TheVariants.{Within}
use Rattle.dali_turns.specs.declared.client.Transaction.{Transaction}
use Rattle.dali_turns.specs.Clients.{next_of}
use Rattle.dali_turns.specs.Stood.{HadRow, Stood}
use Rattle.dali_turns.specs.Within.{AreSoFar, FitsWithin, FitsYielding}
use Rattle.dali_turns.specs.Fits.{rest_of, InTxn, IsOf, Owns}
use Rattle.dali_turns.specs.Goes.{Went, StepGoes, YieldGoes}
use Rattle.dali_turns.proofs.Asked.{same_key, same_mode}
use Rattle.dali_turns.proofs.Locking.{still_got, others_on, got_lock, none_ended, clashing}
use Rattle.dali_turns.proofs.Commands.{next_act, behind_next}
use Rattle.dali_turns.proofs.Undoing.{undone_on}
use Rattle.dali_turns.proofs.Refusals.{runs_on_log, records_are, front, log_there, done_last, runs_there, says_none}
use Rattle.dali_turns.proofs.Doing.{Did, did_quietly, did_went, still_ran, behind, so_far, vault_stops}
use Rattle.dali_turns.proofs.Walking.{point_behind}
use Rattle.dali_turns.proofs.Asking.{new_plan, rest_now, core_there, asking}

-- who has a row, and isn't dead or claimed, is live or committed
pub open_one : (o : Option RowState) → is_some o ≡ true → is_dead_in o ≡ false → is_claimed_in o ≡ false → is_open o ≡ true
open_one None some dead claimed = absurd (cc)
open_one (Some Live) some dead claimed = refl
open_one (Some (Dead l)) some dead claimed = absurd (cc)
open_one (Some (Cleaning l)) some dead claimed = absurd (cc)
open_one (Some Committed) some dead claimed = refl

row_there : (o : Option TxnRow) → is_some o ≡ true → is_some (state_in o) ≡ true
row_there (Some row) e = refl
row_there None e = absurd (cc)

module _ {V : Type 0} (means : Ghosts V)
    (precheck : Bool) (s : Start) (B : List (List Record)) (p : Point) (w : World) (a : Standing) (gs : List RegionState) (y : SystemState) (v : Vaulted V) (k : Client)
    (x : Transaction) (call : Call) (more : List Act) (stood : Stood means s B p w precheck gs y v) (is : IsOf w a k) (fits : FitsWithin p w a (rest_of k) x) (next : rest_of k ≡ Calls call ∷ more)
    (holder : ℕ) (answer : IsAnswer y.locks x.txn (call_key call) (mode_of call) (Busy holder)) (runs : y.stop ≡ None)
    (asks : (L : List Record) (rs : List RegionState) (o : VaultState) → IsNew (new_plan y.sizes x.txn call) → IsAtRest rs y (new_plan y.sizes x.txn call) → MayCall L (core rs y o) x.txn
    → IsAsked (Busy holder) L (core rs y o) (new_plan y.sizes x.txn call) (core rs (refused y x.txn (call_key call) (mode_of call) holder) o)) where
  abbrev z : SystemState
  z = refused y x.txn (call_key call) (mode_of call) holder

  up : p.core.system.stop ≡ None
  up = ap (λ (m : SystemState). m.stop) stood.stands.at.system ∙ runs

  abbrev there : CoreState
  there = core p.core.regions z p.core.vault

  abbrev step : Step
  step = Refuses x.txn (call_key call) (mode_of call) holder

  asked : IsAsked (Busy holder) p.log p.core (new_plan y.sizes x.txn call) there
  asked =
      subst (λ (c : CoreState). IsAsked (Busy holder) p.log c (new_plan y.sizes x.txn call) there) (core_there means precheck s B p w a gs y v k k x call more stood is fits next)
      (asks p.log p.core.regions p.core.vault refl (rest_now means precheck s B p w a gs y v k k x call more stood is fits next)
      (subst (λ (c : CoreState). MayCall p.log c x.txn) (sym (core_there means precheck s B p w a gs y v k k x call more stood is fits next)) (fits.may_call up)))

  abbrev q : Point
  q = point_behind p step p.log there

  abbrev refusal : Refusal
  refusal = refusal_now p.core x.txn (call_key call) (mode_of call) holder

  number : refusal.at ≡ length (log_of w)
  number = records_are (bases_of s) s.log w p stood.stands.at.vault.run stood.tells

  -- the holder has a row
  has_row : is_some (state_of y holder) ≡ true
  has_row =
      row_there (row_of y holder)
      (ap (λ (m : SystemState). is_some (row_of m holder)) (sym stood.stands.at.system)
      ∙ (runs_on_log (bases_of s) s.log p stood.stands.at.vault.run).locks.owned holder (call_key call) answer.0.conflict.mode (ap (λ (m : SystemState). lock_of m holder (call_key call)) stood.stands.at.system ∙ answer.0.conflict.holds))

  system_there : w.core.system ≡ y
  system_there = ap (λ (c : CoreState). c.system) stood.tells.core ∙ stood.stands.at.system

  -- nothing was said of a stop
  unsaid : fits.said ≡ false
  unsaid = says_none p.core.system fits.said fits.may up

  state_then : (deed : Deed) → state_at (after w a.client (deed ∷ []) there) (length w.happened) holder ≡ state_of y holder
  state_then deed =
      ap (λ (xs : List Happening). fold (state_step holder) (state_of w.old.system holder) xs) (front w a.client deed there)
      ∙ (sym (stood.tells.together.states holder) ∙ (ap (λ (c : CoreState). state_of c.system holder) stood.tells.core ∙ ap (λ (m : SystemState). state_of m holder) stood.stands.at.system))

  runs_then : (deed : Deed) → stop_at (after w a.client (deed ∷ []) there) (length w.happened) ≡ None
  runs_then deed = runs_there (bases_of s) s.log w a.client p stood.stands.at.vault.run stood.tells (vault_stops means precheck s B p w gs y v stood) deed there up

  number_then : (deed : Deed) → refusal.at ≡ length (log_at (after w a.client (deed ∷ []) there) (length w.happened))
  number_then deed = number ∙ sym (ap length (log_there w a.client deed there))

  -- ---- whichever deed it is
  module _ (deed : Deed) (are : AreOf w a.client p (Does step) (deed ∷ [])) (right : IsRight (after w a.client (deed ∷ []) there) a.client (length w.happened) deed) where
    abbrev now : World
    now = after w a.client (deed ∷ []) there

    did : Did means precheck s B p w a.client (Within x) gs y v (deed ∷ []) B q gs z v
    did = did_quietly means precheck s B p w gs y v stood a.client (Within x) q step (deed ∷ []) z gs refl (refl, (asked.0, refl), refl) are (right, tt) refl stood.stands.at.regions
        refl stood.stands.dead (λ fs held. held) (record { unclaimed = stood.quiet.unclaimed }) (λ e. e)
        (λ t lives other. apart_from t other) (λ b other. refl)
      where
        apart_from : (t : ℕ) → (Owns (Within x) t → ⊥) → not (x.txn == t) ≡ true
        apart_from t other = by_test (x.txn == t) refl
          where
            by_test : (b : Bool) → (x.txn == t) ≡ b → not (x.txn == t) ≡ true
            by_test true e = absurd (other (equal x.txn t e))
            by_test false e = ap not e

    late : AreAsking now a.client x.txn call a.pending
    late = askings w now did.goes.grows a.client x.txn call a.pending (asking means precheck s B p w a gs y v k k x call more stood is fits next)

    had : HadRow now holder
    had = inl has_row

    still_of : IsOf now (behind a w (deed ∷ [])) k
    still_of = record {
      client = is.client;
      lines = is.lines;
      stands = so_far means precheck s B B p q w a (Within x) gs gs y z v v (deed ∷ []) k k is did;
      others = others_on w now a (behind a w (deed ∷ [])) did.goes.grows y z system_there refl refl refl (λ e. e) (λ t lives. (lives, λ n. refl)) is.others;
    }

    -- and then the step goes on from there
    then_went : (j : Client) (hs : List RegionState) (m : SystemState) (t : Vaulted V) (ok : Bool) → Went means precheck s B q now (behind a w (deed ∷ [])) (Within x) gs z v ok j hs m t
        → Went means precheck s B p w a (Within x) gs y v ok j hs m t
    then_went j hs m t ok two = did_went means precheck s B B p q w a (Within x) gs gs hs y z m v v t (deed ∷ []) ok j stood (still_ran means precheck s B q now (behind a w (deed ∷ [])) (Within x) gs hs z m v t ok j did.stood two) refl did two

  -- ---- the holder lives: it gives way
  module _ (alive : is_dead_in (state_of y holder) ≡ false) where
    abbrev yields : World
    yields = after w a.client (Yields refusal ∷ []) there

    holder_open : is_open (state_of p.core.system holder) ≡ true
    holder_open = ap (λ (m : SystemState). is_open (state_of m holder)) stood.stands.at.system ∙ open_one (state_of y holder) has_row alive (stood.quiet.unclaimed holder)

    -- another client was granted its lock, since this one is in another transaction
    anothers : (d : ℕ) × ((d == a.client) ≡ false) × HasGot w.happened d holder (call_key call) answer.0.conflict.mode
    anothers = ⊎_elim
        (λ own. let same : x.txn ≡ holder = subst (λ (q : Spot). InTxn q.place holder) fits.spot own in absurd (omega (arith, answer.1, same)))
        (λ got. got)
        (is.others (ap (λ (m : SystemState). m.stop) system_there ∙ runs) holder (call_key call) answer.0.conflict.mode
        (ap (λ (c : CoreState). is_open (state_of c.system holder)) stood.tells.core ∙ holder_open)
        (ap (λ (m : SystemState). lock_of m holder (call_key call)) system_there ∙ answer.0.conflict.holds))

    front_is : take (length w.happened) yields.happened ≡ w.happened
    front_is = front w a.client (Yields refusal) there

    -- it has that lock still, since it hasn't ended
    held : (h : Mode) × (lock_after w w.happened holder (call_key call) ≡ Some h) × (both_shared (mode_of call) h ≡ false)
    held = clashing (lock_after w w.happened holder (call_key call)) (mode_of call) answer.0.conflict.mode
        (got_lock holder (call_key call) anothers.0 answer.0.conflict.mode w.happened (lock_of w.old.system holder (call_key call)) (none_ended (bases_of s) s.log w p stood.stands.at.vault.run stood.tells stood.since holder holder_open) anothers.2)
        answer.0.conflict.clash

    hindered : IsHindered yields a.client (length w.happened) refusal
    hindered = record {
      mode = held.0;
      holds = ap (λ (xs : List Happening). lock_after w xs holder (call_key call)) front_is ∙ held.1;
      clash = held.2;
      by_another = inr (anothers.0, answer.0.conflict.mode, anothers.1, subst (λ (xs : List Happening). HasGot xs anothers.0 holder (call_key call) answer.0.conflict.mode) (sym front_is) anothers.2);
      unclaimed = λ own. ap is_claimed_in (state_then (Yields refusal)) ∙ stood.quiet.unclaimed holder;
    }

    yield_right : IsRight yields a.client (length w.happened) (Yields refusal)
    yield_right = (number_then (Yields refusal), ap is_dead_in (state_then (Yields refusal)) ∙ alive, runs_then (Yields refusal), hindered)

    busy : GetsBusy yields a.client x.txn call refusal
    busy = record {
      txn = refl;
      key = same_key call;
      mode = same_mode call;
      done = record { place = length w.happened; there = (done_last w a.client (Yields refusal) there).there; number = (done_last w a.client (Yields refusal) there).number ∙ sym number };
      runs = ap is_dead_in (state_then (Yields refusal)) ∙ alive;
    }

    pub yield_fits : FitsYielding q yields (behind a w (Yields refusal ∷ [])) (rest_of k) x holder
    yield_fits = record {
      call = call;
      more = more;
      calls = next;
      spot = fits.spot ∙ ap (λ b. at (IsWithin x.txn x.tries (map act_of x.commands.now) x.deadly b) (rest_of k)) unsaid;
      work = a.pending;
      refusal = refusal;
      pending = ap (λ n. a.pending ++ (n, Yields refusal) ∷ []) (sym number);
      asking = late (Yields refusal) (inl refl) yield_right;
      busy = busy;
      holder_is = refl;
      had = inl has_row;
      placed = fits.placed;
      again = fits.again;
      lives = ap (λ (m : SystemState). state_of m x.txn) (sym stood.stands.at.system) ∙ fits.lives;
      runs = runs;
    }

    pub yield_stood : Stood means s B q yields precheck gs z v
    yield_stood = (did (Yields refusal) (inl refl) yield_right).stood

    pub yield_of : IsOf yields (behind a w (Yields refusal ∷ [])) k
    yield_of = still_of (Yields refusal) (inl refl) yield_right

    pub yields_then : (j : Client) (hs : List RegionState) (m : SystemState) (t : Vaulted V) (ok : Bool) → YieldGoes means precheck x holder k gs z v ok j hs m t → Went means precheck s B p w a (Within x) gs y v ok j hs m t
    yields_then j hs m t ok goes = then_went (Yields refusal) (inl refl) yield_right j hs m t ok (goes s B q yields (behind a w (Yields refusal ∷ [])) yield_stood yield_of yield_fits)

  -- ---- its client died: it is cleaned up
  module _ (died : is_dead_in (state_of y holder) ≡ true) where
    abbrev finds : World
    finds = after w a.client (FindsDead refusal ∷ []) there

    find_right : IsRight finds a.client (length w.happened) (FindsDead refusal)
    find_right = (number_then (FindsDead refusal), ap is_dead_in (state_then (FindsDead refusal)) ∙ died, runs_then (FindsDead refusal))

    found : HasFoundDead finds a.client (length (log_of w)) x.txn call refusal
    found = record {
      done = done_last w a.client (FindsDead refusal) there;
      txn = refl;
      key = same_key call;
      mode = same_mode call;
      number = number;
      dead = ap is_dead_in (state_then (FindsDead refusal)) ∙ died;
    }

    pub find_fits : FitsWithin q finds (behind a w (FindsDead refusal ∷ [])) (rest_of k) x
    find_fits = record {
      said = fits.said;
      may = λ e. ap (λ (m : SystemState). is_some m.stop) (sym stood.stands.at.system) ∙ fits.may e;
      spot = fits.spot;
      so_far = subst (λ rest. AreSoFar finds a.client x.txn rest (a.pending ++ (length (log_of w), FindsDead refusal) ∷ [])) (sym next)
          (all_append (IsAsking finds a.client x.txn call) a.pending ((length (log_of w), FindsDead refusal) ∷ []) (late (FindsDead refusal) (inr refl) find_right) (found, tt));
      undone = λ us. undone_on x.txn us us a.pending ((length (log_of w), FindsDead refusal) ∷ []) (fits.undone us) (λ zs. refl);
      placed = fits.placed;
      again = fits.again;
      due = fits.due;
      lives = ap (λ (m : SystemState). state_of m x.txn) (sym stood.stands.at.system) ∙ fits.lives;
      free = asked.1.free;
      locks = still_got p q w finds (did (FindsDead refusal) (inr refl) find_right).goes.grows a.client x.txn (λ n. sym (ap (λ (m : SystemState). lock_of m x.txn n) stood.stands.at.system)) fits.locks;
      may_call = λ e. asked.1;
    }

    pub find_stood : Stood means s B q finds precheck gs z v
    find_stood = (did (FindsDead refusal) (inr refl) find_right).stood

    pub find_of : IsOf finds (behind a w (FindsDead refusal ∷ [])) k
    find_of = still_of (FindsDead refusal) (inr refl) find_right

    pub finds_then : (j : Client) (hs : List RegionState) (m : SystemState) (t : Vaulted V) (ok : Bool) → StepGoes means precheck (Within x) k gs z v ok j hs m t → Went means precheck s B p w a (Within x) gs y v ok j hs m t
    finds_then j hs m t ok goes = then_went (FindsDead refusal) (inr refl) find_right j hs m t ok (goes s B q finds (behind a w (FindsDead refusal ∷ [])) find_stood find_of find_fits)

-- ---- for the call
module _ {V : Type 0} (means : Ghosts V) (gs : List RegionState) (y : SystemState) (v : Vaulted V) (k : Client) (x : Transaction) (call : Call) (next : next_of k ≡ Some (IsCall call))
    (plan : Planned) (same : plan ≡ new_plan y.sizes x.txn call) (holder : ℕ) (answer : IsAnswer y.locks x.txn (call_key call) (mode_of call) (Busy holder)) (runs : y.stop ≡ None)
    (z : SystemState) (system : z ≡ refused y x.txn (call_key call) (mode_of call) holder)
    (asks : (L : List Record) (rs : List RegionState) (o : VaultState) → IsNew plan → IsAtRest rs y plan → MayCall L (core rs y o) x.txn → IsAsked (Busy holder) L (core rs y o) plan (core rs z o)) where
  asks_there : (L : List Record) (rs : List RegionState) (o : VaultState) → IsNew (new_plan y.sizes x.txn call) → IsAtRest rs y (new_plan y.sizes x.txn call) → MayCall L (core rs y o) x.txn
      → IsAsked (Busy holder) L (core rs y o) (new_plan y.sizes x.txn call) (core rs (refused y x.txn (call_key call) (mode_of call) holder) o)
  asks_there =
      subst (λ (m : SystemState). (L : List Record) (rs : List RegionState) (o : VaultState) → IsNew (new_plan y.sizes x.txn call) → IsAtRest rs y (new_plan y.sizes x.txn call) → MayCall L (core rs y o) x.txn → IsAsked (Busy holder) L (core rs y o) (new_plan y.sizes x.txn call) (core rs m o)) system
      (subst (λ (m : Planned). (L : List Record) (rs : List RegionState) (o : VaultState) → IsNew m → IsAtRest rs y m → MayCall L (core rs y o) x.txn → IsAsked (Busy holder) L (core rs y o) m (core rs z o)) same asks)

  pub yield_goes : is_dead_in (state_of y holder) ≡ false → (precheck : Bool) (ok : Bool) (j : Client) (hs : List RegionState) (m : SystemState) (t : Vaulted V) → YieldGoes means precheck x holder k gs z v ok j hs m t
      → StepGoes means precheck (Within x) k gs y v ok j hs m t
  yield_goes alive precheck ok j hs m t goes s B p w a stood is fits =
      yields_then means precheck s B p w a gs y v k x call (behind_next k) stood is fits (next_act k (IsCall call) next) holder answer runs asks_there alive j hs m t ok
      (subst (λ (n : SystemState). YieldGoes means precheck x holder k gs n v ok j hs m t) system goes)

  pub clean_goes : is_dead_in (state_of y holder) ≡ true → (precheck : Bool) (ok : Bool) (j : Client) (hs : List RegionState) (m : SystemState) (t : Vaulted V) → StepGoes means precheck (Within x) k gs z v ok j hs m t
      → StepGoes means precheck (Within x) k gs y v ok j hs m t
  clean_goes died precheck ok j hs m t goes s B p w a stood is fits =
      finds_then means precheck s B p w a gs y v k x call (behind_next k) stood is fits (next_act k (IsCall call) next) holder answer runs asks_there died j hs m t ok
      (subst (λ (n : SystemState). StepGoes means precheck (Within x) k gs n v ok j hs m t) system goes)
