-- A request for the lock of a call that is granted.
use Rattle.std.proofs.Common.{◌≡◌, ℕ, Bool, true, false, not, List, [], ◌∷◌, ◌++◌, length, map, Option, Some, None, is_some, refl, ap, sym, subst, ◌∙◌, ◌⊎◌, inl, inr, ⊎_elim, arith}
use Rattle.std.specs.Prelude.{◌==◌, ◌&&◌, if◌then◌else◌, filter, Contains, take}
use Rattle.std.specs.List.{AllByRecursion}
use Rattle.std.specs.FinMap.{get}
use Rattle.std.proofs.lemmas.List.{append-nil}
use Rattle.std.proofs.lemmas.List.Elements.{Contains-push}
use Rattle.dali_lists.proofs.Members.{all_map, all_append}
use Rattle.dali_runs.proofs.CountsLemmas.Lists.{equal, same_number, some_same}
use Rattle.dali_record.specs.declared.operations.Pending.{Pending}
use Rattle.dali_record.specs.declared.records.Call.{Call}
use Rattle.dali_record.specs.declared.records.Call.TheVariants.{Insert, Update, Delete, Get}
use Rattle.dali_record.specs.declared.records.Record.{Record}
use Rattle.dali_record.specs.declared.records.Record.TheVariants.{Forward}
use Rattle.dali_record.proofs.Chains.{and_true}
use Rattle.dali_region.specs.State.{RegionState}
use Rattle.dali_locks.specs.declared.mode.Mode.{Mode}
use Rattle.dali_locks.specs.declared.mode.Mode.TheVariants.{Shared, Exclusive}
use Rattle.dali_locks.specs.declared.mode.LockAnswer.TheVariants.{Granted}
use Rattle.dali_locks.specs.Locks.{Locks as LockMap, stronger_mode, locks_with}
use Rattle.dali_locks.proofs.Changes.{get-locks_with}
use Rattle.dali_att.specs.declared.state.State.TheVariants.{Live}
use Rattle.dali_store.specs.Store.{Files as Disk}
use Rattle.dali_store.specs.declared.store.Store.{Ghosts}
use Rattle.dali_runs.specs.State.{SystemState, CoreState, state_of, lock_of}
use Rattle.dali_runs.specs.Steps.{granted}
use Rattle.dali_runs.specs.Courses.{Locks}
use Rattle.dali_crash.specs.Checkpoints.{Point}
use Rattle.dali_crash.specs.Traces.{Start, bases_of}
use Rattle.dali_core.specs.Vault.Vaulted.{Vaulted}
use Rattle.dali_calls.specs.declared.plan.Phase.TheVariants.{Calling as IsCalling}
use Rattle.dali_calls.specs.Steps.{call_key, answer_of}
use Rattle.dali_calls.specs.Plans.{Planned, goes_back, mode_of}
use Rattle.dali_calls.specs.Single.Stands.{core}
use Rattle.dali_calls.specs.Stepwise.Stepwise.{IsAsked}
use Rattle.dali_transcripts.specs.Words.{Act, Calls, key_of}
use Rattle.dali_transcripts.specs.Words as words
use Rattle.dali_transcripts.specs.World.{Deed, Logs, GetsLock, Happening, World, log_of, lock_after, IsNoWeaker, state_after, state_at}
use Rattle.dali_transcripts.specs.Moves.{Receipt, Within as IsWithin, at, is_operation, operations, left}
use Rattle.dali_transcripts.specs.Causes.{IsAsking, IsWork, AreAsking, AreWork, IsGrantable, IsRight, IsNoOperation, spares, undos_behind, is_taking_back}
use Rattle.dali_transcripts.specs.Rounds.{Standing, IsPlaced}
use Rattle.dali_transcripts.proofs.Grants.{idle_granted}
use Rattle.dali_transcripts.proofs.Growing.{askings}
use Rattle.dali_transcripts.specs.Telling.Tells.{after}
use Rattle.dali_transcripts.specs.Clients.Told.{act_of}
use Rattle.dali_turns.specs.declared.client.Client.{Client}
use Rattle.dali_turns.specs.declared.client.State.{State}
use Rattle.dali_turns.specs.declared.client.State.TheVariants.{Within, Calling}
use Rattle.dali_turns.specs.declared.client.Transaction.{Transaction}
use Rattle.dali_turns.specs.Clients.{Stays}
use Rattle.dali_turns.specs.Stood.{IsQuiet, Stood}
use Rattle.dali_turns.specs.Within.{AreSoFar, AreGot, FitsWithin, FitsCalling}
use Rattle.dali_turns.specs.Fits.{rest_of, IsOf, Owns, Fits}
use Rattle.dali_turns.specs.Goes.{RowsTell, Went}
use Rattle.dali_turns.proofs.Returning.{turned_on, none_asked}
use Rattle.dali_turns.proofs.Undoing.{undone_on}
use Rattle.dali_turns.proofs.Refusals.{front, runs_there, says_none}
use Rattle.dali_turns.proofs.Locking.{got_more, weaker_shared}
use Rattle.dali_turns.proofs.Doing.{Did, did_quietly, behind, went_on, vault_stops}
use Rattle.dali_turns.proofs.Walking.{point_behind}
use Rattle.dali_transactions.specs.Beside.Went.{is_open}

-- ---- words of calls
pub same_key : (call : Call) → call_key call ≡ key_of call
same_key (Insert key v) = refl
same_key (Update key v) = refl
same_key (Delete key) = refl
same_key (Get key) = refl

pub same_mode : (call : Call) → mode_of call ≡ words.mode_of call
same_mode (Insert key v) = refl
same_mode (Update key v) = refl
same_mode (Delete key) = refl
same_mode (Get key) = refl

-- ---- whoever has a lock behind a request that is granted
had_or_got : (locks : LockMap) (t k : ℕ) (m : Mode) (u l : ℕ) (n : Mode) → get (locks_with locks t k m) (u, l) ≡ Some n → (get locks (u, l) ≡ Some n) ⊎ ((k ≡ l) × (m ≡ n))
had_or_got locks t k m u l n h = by_test ((t == u) && (k == l)) refl
  where
    here : (b : Bool) → ((t == u) && (k == l)) ≡ b → (if b then Some (stronger_mode (get locks (u, l)) m) else get locks (u, l)) ≡ Some n
    here b e = sym (ap (λ (c : Bool). if c then Some (stronger_mode (get locks (u, l)) m) else get locks (u, l)) e) ∙ (sym (get-locks_with locks t k m u l) ∙ h)

    by_mode : (o : Option Mode) → Some (stronger_mode o m) ≡ Some n → (o ≡ Some n) ⊎ (m ≡ n)
    by_mode None e = inr (some_same e)
    by_mode (Some Shared) e = inr (some_same e)
    by_mode (Some Exclusive) e = inl e

    by_test : (b : Bool) → ((t == u) && (k == l)) ≡ b → (get locks (u, l) ≡ Some n) ⊎ ((k ≡ l) × (m ≡ n))
    by_test true e = ⊎_elim (λ had. inl had) (λ new. inr (equal k l (and_true (t == u) (k == l) e).1, new)) (by_mode (get locks (u, l)) (here true e))
    by_test false e = inl (here false e)

-- ---- what was done before the lock was granted is work of the call, and none of its operations
pub work_of : (w : World) (c t : ℕ) (call : Call) (x : Receipt) → IsAsking w c t call x → IsWork w c t call x
work_of w c t call (n, Logs (Forward u b)) h = absurd h
work_of w c t call (n, GetsLock u k m) h = absurd h
work_of w c t call x h = h

pub works_of : (w : World) (c t : ℕ) (call : Call) (xs : List Receipt) → AreAsking w c t call xs → AreWork w c t call xs
works_of w c t call xs h = all_map (IsAsking w c t call) (IsWork w c t call) (work_of w c t call) xs h

no_operation : (w : World) (c t : ℕ) (call : Call) (x : Receipt) → IsAsking w c t call x → is_operation t x ≡ false
no_operation w c t call (n, Logs (Forward u b)) h = absurd h
no_operation w c t call x h = refl

pub none_yet : (w : World) (c t : ℕ) (call : Call) (xs : List Receipt) → AreAsking w c t call xs → operations t xs ≡ 0
none_yet w c t call [] h = refl
none_yet w c t call (x ∷ xs) h = ap (λ (k : Bool). length (if k then x ∷ filter (is_operation t) xs else filter (is_operation t) xs)) (no_operation w c t call x h.0) ∙ none_yet w c t call xs h.1

with_grant : (t : ℕ) (xs : List Receipt) (n u k : ℕ) (m : Mode) → operations t (xs ++ (n, GetsLock u k m) ∷ []) ≡ operations t xs
with_grant t [] n u k m = refl
with_grant t (x ∷ xs) n u k m = by_test (is_operation t x) (with_grant t xs n u k m)
  where
    by_test : (b : Bool) → operations t (xs ++ (n, GetsLock u k m) ∷ []) ≡ operations t xs
        → length (if b then x ∷ filter (is_operation t) (xs ++ (n, GetsLock u k m) ∷ []) else filter (is_operation t) (xs ++ (n, GetsLock u k m) ∷ [])) ≡ length (if b then x ∷ filter (is_operation t) xs else filter (is_operation t) xs)
    by_test true e = omega (arith, e)
    by_test false e = e

no_made : (w : World) (c t : ℕ) (call : Call) (x : Receipt) → IsAsking w c t call x → IsNoOperation x
no_made w c t call (n, Logs (Forward u b)) h = absurd h
no_made w c t call x h = tt

pub asked_idle : (w : World) (c t : ℕ) (call : Call) (xs : List Receipt) → AreAsking w c t call xs → AllByRecursion IsNoOperation xs
asked_idle w c t call xs h = all_map (IsAsking w c t call) IsNoOperation (no_made w c t call) xs h

pub left_none : (d : Option ℕ) → left d 0 ≡ d
left_none None = refl
left_none (Some d) = ap Some (omega arith)

module _ {V : Type 0} (means : Ghosts V)
    (precheck : Bool) (s : Start) (B : List (List Record)) (p : Point) (w : World) (a : Standing) (gs : List RegionState) (y z : SystemState) (v : Vaulted V) (k j : Client)
    (x : Transaction) (plan : Planned) (call : Call) (more : List Act) (stood : Stood means s B p w precheck gs y v) (is : IsOf w a k) (fits : FitsWithin p w a (rest_of k) x)
    (next : rest_of k ≡ Calls call ∷ more) (of_txn : plan.txn ≡ x.txn) (of_call : plan.call ≡ call) (calling : plan.phase ≡ IsCalling) (fresh : plan.changes ≡ [])
    (asked : IsAsked Granted p.log p.core plan (core p.core.regions z p.core.vault)) (system : z ≡ granted y plan.txn (call_key plan.call) (mode_of plan.call)) (runs : y.stop ≡ None) where
  abbrev q : Point
  q = point_behind p (Locks plan.txn (call_key plan.call) (mode_of plan.call)) p.log (core p.core.regions z p.core.vault)

  apart_from : (m n : ℕ) → (m ≡ n → ⊥) → not (m == n) ≡ true
  apart_from m n differ = by_test (m == n) refl
    where
      by_test : (b : Bool) → (m == n) ≡ b → not (m == n) ≡ true
      by_test true e = absurd (differ (equal m n e))
      by_test false e = ap not e

  abbrev deed : Deed
  deed = GetsLock plan.txn (call_key plan.call) (mode_of plan.call)

  abbrev now : World
  now = after w a.client (deed ∷ []) q.core

  front_is : take (length w.happened) now.happened ≡ w.happened
  front_is = front w a.client deed q.core

  -- no other transaction has a lock in the way, in the table, and so not by the deeds
  free : IsGrantable now (length w.happened) plan.txn (call_key plan.call) (mode_of plan.call)
  free u n other has =
      let by_deeds : lock_after w w.happened u (call_key plan.call) ≡ Some n = sym (ap (λ (xs : List Happening). lock_after w xs u (call_key plan.call)) front_is) ∙ has in
      let in_table : IsNoWeaker (lock_of p.core.system u (call_key plan.call)) (Some n) =
      subst (λ (c : CoreState). IsNoWeaker (lock_of c.system u (call_key plan.call)) (Some n)) stood.tells.core
      (subst (IsNoWeaker (lock_of w.core.system u (call_key plan.call))) by_deeds (stood.tells.together.locks u (call_key plan.call))) in
      weaker_shared (lock_of p.core.system u (call_key plan.call)) (mode_of plan.call) n (asked.0.1 u (stronger_mode (lock_of p.core.system u (call_key plan.call)) n) other in_table)

  lives_then : state_at now (length w.happened) plan.txn ≡ Some Live
  lives_then =
      ap (λ (xs : List Happening). state_after w xs plan.txn) front_is
      ∙ (sym (stood.tells.together.states plan.txn) ∙ (ap (λ (c : CoreState). state_of c.system plan.txn) stood.tells.core ∙ (ap (state_of p.core.system) of_txn ∙ fits.lives)))

  right : IsRight now a.client (length w.happened) deed
  right = (lives_then, runs_there (bases_of s) s.log w a.client p stood.stands.at.vault.run stood.tells (vault_stops means precheck s B p w gs y v stood) deed q.core (ap (λ (m : SystemState). m.stop) stood.stands.at.system ∙ runs), free)

  did : Did means precheck s B p w a.client (Within x) gs y v (deed ∷ []) B q gs z v
  did = did_quietly means precheck s B p w gs y v stood a.client (Within x) q (Locks plan.txn (call_key plan.call) (mode_of plan.call)) (deed ∷ []) z gs refl (refl, (asked.0, refl), refl) (inr refl) (right, tt) refl stood.stands.at.regions
      (ap (λ (m : SystemState). m.taken) system) stood.stands.dead (λ fs held. held)
      (subst IsQuiet (sym system) (record { unclaimed = stood.quiet.unclaimed })) (λ e. ap (λ (m : SystemState). is_some m.stop) system ∙ e)
      (λ t lives other. apart_from plan.txn t (λ e. other (sym of_txn ∙ e))) (λ b other. refl)

  -- it has said nothing of a stop, since the engine runs
  unsaid : fits.said ≡ false
  unsaid = says_none p.core.system fits.said fits.may (ap (λ (m : SystemState). m.stop) stood.stands.at.system ∙ runs)

  asking : AreAsking w a.client x.txn call a.pending
  asking = subst (λ rest. AreSoFar w a.client x.txn rest a.pending) next fits.so_far

  -- that it got its lock is part of what it did of the call
  got : IsWork now a.client x.txn call (length (log_of w), deed)
  got = (of_txn, ap call_key of_call ∙ same_key call, ap mode_of of_call ∙ same_mode call)

  own_locks : AreGot q now a.client x.txn
  own_locks n m has = ⊎_elim
      (λ had. got_more w now did.goes.grows a.client x.txn n m (fits.locks n m (ap (λ (j : SystemState). lock_of j x.txn n) stood.stands.at.system ∙ had)))
      (λ new. subst (λ (y : Deed). Contains now.happened (y, a.client))
      (ap (λ t. GetsLock t (call_key plan.call) (mode_of plan.call)) of_txn ∙ (ap (λ k. GetsLock x.txn k (mode_of plan.call)) new.0 ∙ ap (λ j. GetsLock x.txn n j) new.1))
      (Contains-push w.happened (deed, a.client)))
      (had_or_got y.locks plan.txn (call_key plan.call) (mode_of plan.call) x.txn n m (ap (λ (j : SystemState). lock_of j x.txn n) (sym system) ∙ has))

  pub granted_on : Stays k (Calling x plan) j → Went means precheck s B p w a (Within x) gs y v true j gs z v
  granted_on f =
      went_on means precheck s B B p q w a (Within x) gs gs y z v v (deed ∷ []) k j is did true f.transcript
      (subst (λ (n : State). Fits means s B q now gs z v (behind a w (deed ∷ [])) (rest_of j) n) (sym f.stands) fitting)
      (λ e. rows)
    where
      same_rest : rest_of j ≡ rest_of k
      same_rest = ap (map act_of) f.rest

      before : AreAsking now a.client x.txn call a.pending
      before = askings w now did.goes.grows a.client x.txn call a.pending asking

      none_made : operations x.txn (a.pending ++ (length (log_of w), deed) ∷ []) ≡ 0
      none_made = with_grant x.txn a.pending (length (log_of w)) plan.txn (call_key plan.call) (mode_of plan.call) ∙ none_yet now a.client x.txn call a.pending before

      now_undone : (us : List Pending) → undos_behind x.txn us (a.pending ++ (length (log_of w), deed) ∷ []) ≡ us
      now_undone us = undone_on x.txn us us a.pending ((length (log_of w), deed) ∷ []) (fits.undone us) (λ zs. refl)

      fitting : FitsCalling q now (behind a w (deed ∷ [])) (rest_of j) x plan
      fitting = record {
        call = call;
        more = more;
        calls = same_rest ∙ next;
        deadly = x.deadly;
        spot = fits.spot ∙ (ap (λ b. at (IsWithin x.txn x.tries (map act_of x.commands.now) x.deadly b) (rest_of k)) unsaid ∙ ap (at (IsWithin x.txn x.tries (map act_of x.commands.now) x.deadly false)) (sym same_rest));
        turned = turned_on (goes_back (answer_of plan.geometry plan.call plan.stage)) x.txn (a.pending ++ (length (log_of w), deed) ∷ []) (all_append (λ r. is_taking_back x.txn r ≡ false) a.pending ((length (log_of w), deed) ∷ []) (none_asked now a.client x.txn call a.pending before fits.undone) (refl, tt));
        work = all_append (IsWork now a.client x.txn call) a.pending ((length (log_of w), deed) ∷ []) (works_of now a.client x.txn call a.pending before) (got, tt);
        granted = idle_granted a.pending (length (log_of w)) plan.txn (call_key plan.call) (mode_of plan.call) (asked_idle now a.client x.txn call a.pending before);
        undone = λ us. now_undone us ∙ (sym (append-nil us) ∙ ap (λ l. us ++ l) (sym fresh));
        nearer = sym (ap (left x.deadly) none_made ∙ left_none x.deadly);
        spared = ap (spares x.deadly) none_made ∙ fits.due;
        placed = subst (IsPlaced true) (sym same_rest) fits.placed;
        again = fits.again;
        plan_is = record {
          txn = of_txn;
          call_is = of_call;
          phase_is = calling;
          rest = asked.2;
          stands = asked.1;
        };
        locks = own_locks;
      }

      rows : RowsTell (Within x) y j.state z
      rows e t lives = by_test (x.txn == t) refl
        where
          by_test : (b : Bool) → (x.txn == t) ≡ b → Owns j.state t ⊎ ((is_open (state_of y t) ≡ true) × (Owns (Within x) t → ⊥))
          by_test true g = inl (subst (λ (n : State). Owns n t) (sym f.stands) (equal x.txn t g))
          by_test false g = inr (ap (λ (m : SystemState). is_open (state_of m t)) (sym system) ∙ lives, λ one. let yes : (x.txn == t) ≡ true = same_number x.txn t one in let no : true ≡ false = sym yes ∙ g in absurd (cc))
