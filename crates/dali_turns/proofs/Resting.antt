-- What a step of another client leaves of one that is outside a transaction, in one, or in a call.
use Rattle.std.proofs.Common.{◌≡◌, ◌≤◌, ℕ, Bool, true, List, ◌∷◌, length, Option, Some, None, is_some, refl, ap, sym, subst, ◌∙◌, inl, inr, ⊎_elim, drop, arith}
use Rattle.std.proofs.lemmas.List.{length-append}
use Rattle.dali_record.specs.declared.records.Record.{Record}
use Rattle.dali_record.specs.declared.records.Call.{Call}
use Rattle.dali_region.specs.State.{RegionState}
use Rattle.dali_att.specs.declared.state.State.TheVariants.{Live}
use Rattle.dali_store.specs.Store.{Files as Disk}
use Rattle.dali_runs.specs.declared.causes.Cause.{Cause}
use Rattle.dali_runs.specs.State.{SystemState, CoreState, state_in, state_of}
use Rattle.dali_crash.specs.Checkpoints.{Point}
use Rattle.dali_crash.specs.Traces.{Start}
use Rattle.dali_core.specs.Vault.Vaulted.{Vaulted}
use Rattle.dali_calls.specs.declared.plan.Phase.{Phase}
use Rattle.dali_calls.specs.declared.plan.Phase.TheVariants.{Calling as IsCalling, Refused as IsRefused}
use Rattle.dali_calls.specs.Plans.{Planned}
use Rattle.dali_calls.specs.Stepwise.Beside.{LeavesBe}
use Rattle.dali_calls.proofs.StepwiseLemmas.Waiting.{plan_waits, call_waits, rest_waits}
use Rattle.dali_transcripts.specs.Words.{Act, Calls}
use Rattle.dali_transcripts.specs.World.{Deed, World, log_of, logged_by}
use Rattle.dali_transcripts.specs.Moves.{Receipt, operations}
use Rattle.dali_transcripts.specs.Rounds.{Standing, by}
use Rattle.dali_transcripts.proofs.Growing.{askings, works, all_tried, asides, behinds, flushed, met, survives}
use Rattle.dali_geometry.specs.Sizes.{Sizes}
use Rattle.dali_record.specs.declared.operations.Pending.{Pending}
use Rattle.dali_store.specs.declared.store.Store.{Ghosts}
use Rattle.dali_runs.specs.Facts.Ends.{IsEnding}
use Rattle.dali_turns.specs.Commits.{FitsCommitting}
use Rattle.dali_transcripts.specs.Telling.Tells.{Goes}
use Rattle.dali_transcripts.proofs.TellingLemmas.Told.{log_is}
use Rattle.dali_transcripts.specs.declared.clients.line.Why.{Why}
use Rattle.dali_transcripts.specs.Clients.Told.{reason_of}
use Rattle.dali_turns.specs.declared.client.Transaction.{Transaction}
use Rattle.dali_turns.specs.declared.client.State.{State}
use Rattle.dali_turns.specs.Stood.{Stood}
use Rattle.dali_turns.specs.Outside.{MaySay, FitsOutside, FitsLeftOut, FitsWaiting}
use Rattle.dali_turns.specs.Within.{AreSoFar, AreGot, FitsWithin, IsAtCall, FitsCalling, FitsTakingBack}
use Rattle.dali_turns.specs.Fits.{Owns}
use Rattle.dali_turns.specs.Others.{LeavesOthers}
use Rattle.dali_turns.proofs.Locking.{still_got}
use Rattle.dali_turns.proofs.Rows.{had_row}
use Rattle.dali_transactions.specs.Beside.Went.{is_open}

module _ {V : Type 0} (means : Ghosts V)
    (s : Start) (B C : List (List Record)) (p q : Point) (w x : World) (gs hs : List RegionState) (y z : SystemState) (v u : Vaulted V) (precheck : Bool) (a b : Standing) (ds : List Deed) (yours : State)
    (stood : Stood means s B p w precheck gs y v) (late : Stood means s C q x precheck hs z u)
    (goes : Goes w b.client p ds x q) (leaves : LeavesOthers means yours s B p gs y v C q hs z u) where
  -- ---- the engine stays stopped
  stop_there : (cause : Cause) → p.core.system.stop ≡ Some cause → q.core.system.stop ≡ Some cause
  stop_there cause e =
      ap (λ (k : CoreState). k.system.stop) (sym late.tells.core)
      ∙ goes.grows.stopped cause (ap (λ (k : CoreState). k.system.stop) stood.tells.core ∙ e)

  still_stopped : is_some p.core.system.stop ≡ true → is_some q.core.system.stop ≡ true
  still_stopped some = by_stop p.core.system.stop refl some
    where
      by_stop : (o : Option Cause) → p.core.system.stop ≡ o → is_some o ≡ true → is_some q.core.system.stop ≡ true
      by_stop None e h = absurd (cc)
      by_stop (Some cause) e h = ap is_some (stop_there cause e)

  ran_before : q.core.system.stop ≡ None → p.core.system.stop ≡ None
  ran_before up = by_stop p.core.system.stop refl
    where
      by_stop : (o : Option Cause) → p.core.system.stop ≡ o → p.core.system.stop ≡ None
      by_stop None e = e
      by_stop (Some cause) e = let now : q.core.system.stop ≡ Some cause = stop_there cause e in absurd (cc)

  may_there : (said : Bool) → MaySay p.core.system said → MaySay q.core.system said
  may_there said may e = still_stopped (may e)

  may_still : (said : Bool) → MaySay y said → MaySay z said
  may_still said may = subst (λ (m : SystemState). MaySay m said) late.stands.at.system (may_there said (subst (λ (m : SystemState). MaySay m said) (sym stood.stands.at.system) may))

  -- ---- outside
  pub outside_waits : (rest : List Act) → FitsOutside y a rest → FitsOutside z a rest
  outside_waits rest k = record { said = k.said; may = may_still k.said k.may; spot = k.spot; none = k.none; placed = k.placed }

  pub left_out_waits : (rest : List Act) → FitsLeftOut y a rest → FitsLeftOut z a rest
  left_out_waits rest k = record { said = k.said; may = may_still k.said k.may; spot = k.spot; none = k.none; placed = k.placed }

  pub waiting_waits : (rest : List Act) (tries holder : ℕ) → FitsWaiting w y a rest tries holder → FitsWaiting x z a rest tries holder
  waiting_waits rest tries holder k = record {
    said = k.said;
    may = may_still k.said k.may;
    spot = k.spot;
    none = k.none;
    more = k.more;
    begins = k.begins;
    placed = k.placed;
    few = k.few;
    had = had_row w x b.client p q ds stood.tells goes holder k.had;
  }

  -- ---- in a transaction
  left_be : (t : ℕ) → state_of p.core.system t ≡ Some Live → (Owns yours t → ⊥) → LeavesBe t p.log p.core q.log q.core
  left_be t lives other = leaves.txns t (ap (λ (m : SystemState). is_open (state_of m t)) (sym stood.stands.at.system) ∙ ap is_open lives) other

  so_far_still : (t : ℕ) (rest : List Act) (pending : List Receipt) → AreSoFar w a.client t rest pending → AreSoFar x a.client t rest pending
  so_far_still t (Calls call ∷ rest) pending h = askings w x goes.grows a.client t call pending h
  so_far_still t rest pending h = h

  pub within_waits : (rest : List Act) (t : Transaction) → (Owns yours t.txn → ⊥) → FitsWithin p w a rest t → FitsWithin q x a rest t
  within_waits rest t other k = record {
    said = k.said;
    may = may_there k.said k.may;
    spot = k.spot;
    so_far = so_far_still t.txn rest a.pending k.so_far;
    undone = k.undone;
    placed = k.placed;
    again = k.again;
    due = k.due;
    lives = ap state_in be.row ∙ k.lives;
    free = be.free k.free;
    locks = still_got p q w x goes.grows a.client t.txn be.locks k.locks;
    may_call = λ up. call_waits p.log q.log p.core q.core t.txn be (k.may_call (ran_before up));
  }
    where
      be : LeavesBe t.txn p.log p.core q.log q.core
      be = left_be t.txn k.lives other

  -- ---- in a call
  at_call_waits : (plan : Planned) (t : ℕ) (call : Call) (phase : Phase) → (Owns yours t → ⊥) → IsAtCall p plan t call phase → IsAtCall q plan t call phase
  at_call_waits plan t call phase other k = record {
    txn = k.txn;
    call_is = k.call_is;
    phase_is = k.phase_is;
    rest = rest_waits p.log q.log p.core q.core plan be k.rest;
    stands = plan_waits p.log q.log p.core q.core plan be k.stands;
  }
    where
      be : LeavesBe plan.txn p.log p.core q.log q.core
      be = left_be plan.txn k.rest.lives (λ owns. other (subst (Owns yours) k.txn owns))

  locks_wait : (plan : Planned) (t : ℕ) (call : Call) (phase : Phase) → (Owns yours t → ⊥) → IsAtCall p plan t call phase → AreGot p w a.client t → AreGot q x a.client t
  locks_wait plan t call phase other k got = still_got p q w x goes.grows a.client t be.locks got
    where
      be : LeavesBe t p.log p.core q.log q.core
      be = left_be t (subst (λ n. state_of p.core.system n ≡ Some Live) k.txn k.rest.lives) other

  pub calling_waits : (rest : List Act) (t : Transaction) (plan : Planned) → (Owns yours t.txn → ⊥) → FitsCalling p w a rest t plan → FitsCalling q x a rest t plan
  calling_waits rest t plan other k = record {
    call = k.call;
    more = k.more;
    calls = k.calls;
    deadly = k.deadly;
    spot = k.spot;
    work = works w x goes.grows a.client t.txn k.call a.pending k.work;
    granted = k.granted;
    turned = k.turned;
    undone = k.undone;
    nearer = k.nearer;
    spared = k.spared;
    placed = k.placed;
    again = k.again;
    plan_is = at_call_waits plan t.txn k.call IsCalling other k.plan_is;
    locks = locks_wait plan t.txn k.call IsCalling other k.plan_is k.locks;
  }

  pub taking_back_waits : (rest : List Act) (t : Transaction) (plan : Planned) (why : Why) → (Owns yours t.txn → ⊥) → FitsTakingBack p w a rest t plan why → FitsTakingBack q x a rest t plan why
  taking_back_waits rest t plan why other k = record {
    call = k.call;
    more = k.more;
    calls = k.calls;
    deadly = k.deadly;
    spot = k.spot;
    work = k.work;
    met = k.met;
    back = k.back;
    pending = k.pending;
    tried = all_tried w x goes.grows a.client t.txn k.call k.work k.tried;
    stays = k.stays;
    granted = k.granted;
    cause = met w x goes.grows a.client k.met (Calls k.call) (Some t.txn) (reason_of why) k.cause;
    survives = survives w x goes.grows a.client k.met t.txn k.call k.deadly (operations t.txn k.work) (reason_of why) k.cause k.survives;
    no_stop = k.no_stop;
    aside = asides w x goes.grows a.client t.txn k.back k.aside;
    undone = k.undone;
    nearer = k.nearer;
    spared = k.spared;
    placed = k.placed;
    again = k.again;
    plan_is = at_call_waits plan t.txn k.call IsRefused other k.plan_is;
    locks = locks_wait plan t.txn k.call IsRefused other k.plan_is k.locks;
  }

  -- ---- in a commit
  pub committing_waits : (rest : List Act) (t : Transaction) (number : ℕ) (removals : List Pending) (next : ℕ) → (Owns yours t.txn → ⊥) → FitsCommitting p w a rest t number removals next → FitsCommitting q x a rest t number removals next
  committing_waits rest t number removals next other k = record {
    more = k.more;
    commits = k.commits;
    spot = k.spot;
    placed = k.placed;
    behind = k.behind;
    pending = k.pending;
    are = behinds w x goes.grows a.client t.txn k.behind k.are;
    first = ⊎_elim (λ none. inl none) (λ flushed_then. inr (flushed w x goes.grows number flushed_then)) k.first;
    below = omega (arith, k.below, log_longer);
    committed = ap state_in be.row ∙ k.committed;
    locks = still_got p q w x goes.grows a.client t.txn be.locks k.locks;
    ending = λ up. subst (λ (n : Sizes). IsEnding n q.log t.txn (drop next removals)) (sym be.sizes) (be.rules ∙ k.ending (ran_before up));
  }
    where
      log_longer : length (log_of w) ≤ length (log_of x)
      log_longer =
          let e = ap (λ (l : World). length (log_of l)) goes.is ∙ ap length (log_is w b.client ds q.core) in
          omega (arith, e, length-append (log_of w) (logged_by (by b.client ds)))

      be : LeavesBe t.txn p.log p.core q.log q.core
      be = leaves.txns t.txn (ap (λ (m : SystemState). is_open (state_of m t.txn)) (sym stood.stands.at.system) ∙ ap is_open k.committed) other
