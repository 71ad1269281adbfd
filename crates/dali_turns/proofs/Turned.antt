-- A refused call of a client has gone all its way back, or is stopped on it.
use Rattle.std.proofs.Common.{◌≡◌, ℕ, Bool, true, false, List, [], ◌∷◌, ◌++◌, length, map, Option, Some, None, is_some, if◌then◌else◌, refl, ap, sym, subst, ◌∙◌, ◌⊎◌, inl, inr}
use Rattle.std.specs.Prelude.{◌==◌, filter}
use Rattle.std.proofs.lemmas.List.{append-nil, map-append}
use Rattle.dali_lists.proofs.Members.{all_append, all_map}
use Rattle.dali_runs.proofs.CountsLemmas.Lists.{equal, same_number}
use Rattle.dali_record.specs.declared.operations.Pending.{Pending}
use Rattle.dali_record.specs.declared.records.Call.{Call}
use Rattle.dali_record.specs.declared.records.Record.{Record}
use Rattle.dali_record.specs.declared.records.Record.TheVariants.{Forward}
use Rattle.dali_region.specs.State.{RegionState}
use Rattle.dali_att.specs.declared.state.State.TheVariants.{Live}
use Rattle.dali_store.specs.Store.{Files as Disk}
use Rattle.dali_store.specs.declared.store.Store.{Ghosts}
use Rattle.dali_runs.specs.declared.causes.Cause.{Cause}
use Rattle.dali_runs.specs.State.{SystemState, state_of}
use Rattle.dali_runs.specs.Keeps.{IsFree}
use Rattle.dali_crash.specs.Checkpoints.{Point}
use Rattle.dali_crash.specs.Traces.{Start, bases_of}
use Rattle.dali_core.specs.Vault.Vaulted.{Vaulted}
use Rattle.dali_system.specs.declared.want.Want.TheVariants.{Nothing}
use Rattle.dali_calls.specs.Plans.{Planned, want_of, IsWhole}
use Rattle.dali_calls.specs.Single.Single.{MayCall}
use Rattle.dali_calls.proofs.StepwiseLemmas.Turning.{turned_ends}
use Rattle.dali_transcripts.specs.Words.{Act, Calls, StoppedBy, is_stop}
use Rattle.dali_transcripts.specs.World.{Logs, GetsLock, FindsDead, Meets, World, log_of}
use Rattle.dali_transcripts.specs.Moves.{Receipt, Within as IsWithin, at, Move, IsRefusedCall, is_operation, operations, left}
use Rattle.dali_transcripts.specs.Causes.{IsAside, AreAside, IsTried, AreTried, StaysRefused, WasGranted, HasCause, AreUnfinished, spares, undos_behind}
use Rattle.dali_transcripts.specs.Rounds.{Standing, IsPlaced}
use Rattle.dali_transcripts.proofs.Grants.{granted_asks, granted_more}
use Rattle.dali_transcripts.proofs.Growing.{all_tried, asides, met, survives, turned_back}
use Rattle.dali_transcripts.specs.Telling.Tells.{after}
use Rattle.dali_transcripts.specs.declared.clients.command.Command.TheVariants.{Call as IsCall}
use Rattle.dali_transcripts.specs.declared.clients.line.Line.TheVariants.{Refused as RefusedLine}
use Rattle.dali_transcripts.specs.declared.clients.line.Why.{Why}
use Rattle.dali_transcripts.specs.declared.clients.line.Why.TheVariants.{Stopped}
use Rattle.dali_transcripts.specs.Clients.Told.{act_of, reason_of, said_of}
use Rattle.dali_turns.specs.declared.client.Client.{Client}
use Rattle.dali_turns.specs.declared.client.State.{State}
use Rattle.dali_turns.specs.declared.client.State.TheVariants.{Within, TakingBack}
use Rattle.dali_turns.specs.declared.client.Transaction.{Transaction}
use Rattle.dali_turns.specs.Clients.{next_of, Finishes}
use Rattle.dali_turns.specs.Stood.{Stood}
use Rattle.dali_turns.specs.Within.{FitsWithin, FitsTakingBack}
use Rattle.dali_turns.specs.Fits.{rest_of, IsOf, Owns, Fits}
use Rattle.dali_turns.specs.Goes.{RowsTell, Went}
use Rattle.dali_turns.proofs.Locking.{still_got}
use Rattle.dali_turns.proofs.Refusals.{HasCauseNow, met_now, right_now, stop_now}
use Rattle.dali_turns.proofs.Doing.{Did, did_nothing, did_meet, ended, went_on, went_by, went_silent, vault_stops}
use Rattle.dali_turns.proofs.Calling.{behind_one, none_so_far, due_left}
use Rattle.dali_turns.proofs.Reasons.{command_is}
use Rattle.dali_turns.proofs.Refusing.{stays_back}
use Rattle.dali_turns.proofs.Cutting.{more_none, turned_cut}
use Rattle.dali_transactions.specs.Beside.Went.{is_open}

-- ---- what was taken back, or cleaned up
pub aside_tried : (w : World) (c t : ℕ) (call : Call) (x : Receipt) → IsAside w c t x → IsTried w c t call x
aside_tried w c t call (n, Meets why) h = absurd h
aside_tried w c t call (n, Logs (Forward u b)) h = absurd h
aside_tried w c t call (n, GetsLock u k m) h = absurd h
aside_tried w c t call (n, FindsDead f) h = absurd h
aside_tried w c t call x h = h

aside_none : (w : World) (c t : ℕ) (x : Receipt) → IsAside w c t x → is_operation t x ≡ false
aside_none w c t (n, Logs (Forward u b)) h = absurd h
aside_none w c t x h = refl

pub asides_none : (w : World) (c t : ℕ) (xs : List Receipt) → AreAside w c t xs → operations t xs ≡ 0
asides_none w c t [] h = refl
asides_none w c t (x ∷ xs) h = ap (λ (k : Bool). length (if k then x ∷ filter (is_operation t) xs else filter (is_operation t) xs)) (aside_none w c t x h.0) ∙ asides_none w c t xs h.1

module _ {V : Type 0} (means : Ghosts V)
    (precheck : Bool) (s : Start) (B : List (List Record)) (p : Point) (w : World) (a : Standing) (gs : List RegionState) (y : SystemState) (v : Vaulted V) (k j : Client)
    (x : Transaction) (plan : Planned) (why : Why) (stood : Stood means s B p w precheck gs y v) (is : IsOf w a k) (fits : FitsTakingBack p w a (rest_of k) x plan why) where
  pub next_command : next_of k ≡ Some (IsCall fits.call)
  next_command = command_is k.rest.now fits.call fits.more fits.calls

  spot : a.spot ≡ at (IsWithin x.txn x.tries (map act_of x.commands.now) fits.deadly false) (Calls fits.call ∷ fits.more)
  spot = fits.spot ∙ ap (at (IsWithin x.txn x.tries (map act_of x.commands.now) fits.deadly false)) fits.calls

  -- all of it so far
  pub tried : AreTried w a.client x.txn fits.call a.pending
  tried =
      subst (AreTried w a.client x.txn fits.call) (sym fits.pending)
      (all_append (IsTried w a.client x.txn fits.call) fits.work ((fits.met, Meets (reason_of why)) ∷ fits.back) fits.tried (fits.cause, all_map (IsAside w a.client x.txn) (IsTried w a.client x.txn fits.call) (aside_tried w a.client x.txn fits.call) fits.back fits.aside))

  count : operations x.txn a.pending ≡ operations x.txn fits.work
  count = ap (operations x.txn) fits.pending ∙ more_none x.txn fits.work ((fits.met, Meets (reason_of why)) ∷ fits.back) (asides_none w a.client x.txn fits.back fits.aside)

  lives : state_of p.core.system x.txn ≡ Some Live
  lives = subst (λ t. state_of p.core.system t ≡ Some Live) fits.plan_is.txn fits.plan_is.rest.lives

  rows : (new : State) → new ≡ Within x → RowsTell (TakingBack x plan why) y new y
  rows new at_within runs t alive = by_test (x.txn == t) refl
    where
      by_test : (b : Bool) → (x.txn == t) ≡ b → Owns new t ⊎ ((is_open (state_of y t) ≡ true) × (Owns (TakingBack x plan why) t → ⊥))
      by_test true e = inl (subst (λ (n : State). Owns n t) (sym at_within) (equal x.txn t e))
      by_test false e = inr (alive, λ same. let one : (x.txn == t) ≡ true = same_number x.txn t same in let no : true ≡ false = sym one ∙ e in absurd (cc))

  -- ---- for want of memory nothing is said
  did_none : Did means precheck s B p w a.client (TakingBack x plan why) gs y v [] B p gs y v
  did_none = did_nothing means precheck s B p w gs y v stood a.client (TakingBack x plan why)

  abbrev still : World
  still = after w a.client [] p.core

  pub back_nowhere : j.transcript ≡ k.transcript → Went means precheck s B p w a (TakingBack x plan why) gs y v false j gs y v
  back_nowhere same = went_on means precheck s B B p p w a (TakingBack x plan why) gs gs y y v v [] k j is did_none false same (inl (refl, so_far)) (λ e. absurd (cc))
    where
      so_far : AreUnfinished still a.client a.spot.place a.spot.rest (a.pending ++ [])
      so_far =
          subst (λ xs. AreUnfinished still a.client a.spot.place a.spot.rest xs) (sym (append-nil a.pending))
          (subst (λ q. AreUnfinished still a.client q.place q.rest a.pending) (sym spot)
          (inr (inl (turned_back w still did_none.goes.grows a.client x.txn fits.deadly fits.call a.pending (turned_cut p w a (rest_of k) x plan why fits)))))

  -- ---- nothing is left of it
  abbrev move : Move
  move = IsRefusedCall x.txn x.tries (map act_of x.commands.now) fits.deadly false fits.work fits.met fits.back fits.call (reason_of why) fits.more

  module _ (whole : IsWhole plan) (none : want_of plan ≡ Nothing) where
    ends : MayCall p.log p.core plan.txn × (plan.changes ≡ [])
    ends = turned_ends p.log p.core plan whole fits.plan_is.phase_is none fits.plan_is.stands

    may : MayCall p.log p.core x.txn
    may = subst (MayCall p.log p.core) fits.plan_is.txn ends.0

    undone : (us : List Pending) → undos_behind x.txn us (fits.work ++ (fits.met, Meets (reason_of why)) ∷ fits.back) ≡ us
    undone us = ap (undos_behind x.txn us) (sym fits.pending) ∙ (fits.undone us ∙ (ap (λ l. us ++ l) ends.1 ∙ append-nil us))

    cause : HasCause still a.client move
    cause = (
      all_tried w still did_none.goes.grows a.client x.txn fits.call fits.work fits.tried,
      (met w still did_none.goes.grows a.client fits.met (Calls fits.call) (Some x.txn) (reason_of why) fits.cause, survives w still did_none.goes.grows a.client fits.met x.txn fits.call fits.deadly (operations x.txn fits.work) (reason_of why) fits.cause fits.survives),
      asides w still did_none.goes.grows a.client x.txn fits.back fits.aside,
      λ e. undone,
      fits.stays,
      (granted_asks fits.work fits.granted, λ e. fits.granted),
    )

    fits_behind : (rest : List Act) → rest ≡ fits.more → FitsWithin p still (ended a move) rest x
    fits_behind rest same = record {
      said = false;
      may = λ e. absurd (cc);
      spot = ap (λ d. at (IsWithin x.txn x.tries (map act_of x.commands.now) d (is_stop (reason_of why))) fits.more) (sym fits.nearer)
          ∙ (ap (λ b. at (IsWithin x.txn x.tries (map act_of x.commands.now) x.deadly b) fits.more) fits.no_stop ∙ ap (at (IsWithin x.txn x.tries (map act_of x.commands.now) x.deadly false)) (sym same));
      so_far = none_so_far still a.client x.txn rest;
      undone = λ us. refl;
      placed = subst (IsPlaced true) (sym same) (subst (IsPlaced true) fits.calls fits.placed).1;
      again = fits.again;
      due = ap (λ d. spares d 0) fits.nearer ∙ due_left fits.deadly (operations x.txn fits.work) fits.spared;
      lives = lives;
      free = may.free;
      locks = still_got p p w still did_none.goes.grows a.client x.txn (λ n. refl) fits.locks;
      may_call = λ e. may;
    }

    pub ended_said : Finishes k (Within x) (RefusedLine (IsCall fits.call) why) j → Went means precheck s B p w a (TakingBack x plan why) gs y v true j gs y v
    ended_said f =
        went_by means precheck s B B p p w a (TakingBack x plan why) gs gs y y v v [] k j is did_none move spot (append-nil a.pending ∙ fits.pending) cause
        (ap (λ t. t.client) f.transcript) (ap (λ t. map said_of t.lines) f.transcript ∙ map-append said_of k.transcript.lines (RefusedLine (IsCall fits.call) why ∷ []))
        (subst (λ (n : State). Fits means s B p still gs y v (ended a move) (rest_of j) n) (sym f.stands) (fits_behind (rest_of j) (behind_one k.rest.now j.rest.now _ fits.more fits.calls f.rest)))
        (rows j.state f.stands)

    pub ended_unsaid : j.transcript ≡ k.transcript → Went means precheck s B p w a (TakingBack x plan why) gs y v false j gs y v
    ended_unsaid same = went_silent means precheck s B B p p w a (TakingBack x plan why) gs gs y y v v [] k j is did_none move spot (append-nil a.pending ∙ fits.pending) cause same

  -- ---- the engine is stopped, and what is left of it stays
  module _ (stop : Cause) (stopped : y.stop ≡ Some stop) where
    abbrev now : World
    now = after w a.client (Meets (StoppedBy stop) ∷ []) p.core

    here : HasCauseNow w a.client p.core (Calls fits.call) (Some x.txn) (StoppedBy stop)
    here =
        stop_now (bases_of s) s.log w a.client p stood.stands.at.vault.run stood.tells (vault_stops means precheck s B p w gs y v stood) (Calls fits.call) (Some x.txn) stop tt
        (ap (λ (m : SystemState). m.stop) stood.stands.at.system ∙ stopped)

    did_stop : Did means precheck s B p w a.client (TakingBack x plan why) gs y v (Meets (StoppedBy stop) ∷ []) B p gs y v
    did_stop = did_meet means precheck s B p w gs y v stood a.client (TakingBack x plan why) (StoppedBy stop) tt (right_now w a.client p.core (Calls fits.call) (Some x.txn) (StoppedBy stop) here)

    abbrev stop_move : Move
    stop_move = IsRefusedCall x.txn x.tries (map act_of x.commands.now) fits.deadly false a.pending (length (log_of w)) [] fits.call (StoppedBy stop) fits.more

    stop_cause : HasCause now a.client stop_move
    stop_cause = (
      all_tried w now did_stop.goes.grows a.client x.txn fits.call a.pending tried,
      (met_now w a.client p.core (Calls fits.call) (Some x.txn) (StoppedBy stop) here, ap (spares fits.deadly) count ∙ fits.spared),
      tt,
      λ e. absurd (cc),
      subst StaysRefused (sym fits.pending) (stays_back w a.client x.txn fits.met (reason_of why) fits.work fits.back fits.stays fits.aside),
      (granted_asks a.pending (subst WasGranted (sym fits.pending) (granted_more fits.work ((fits.met, Meets (reason_of why)) ∷ fits.back) fits.granted)), λ e. absurd (cc)),
    )

    stopped_behind : (rest : List Act) → rest ≡ fits.more → FitsWithin p now (ended a stop_move) rest x
    stopped_behind rest same = record {
      said = true;
      may = λ e. ap (λ (m : SystemState). is_some m.stop) stood.stands.at.system ∙ ap is_some stopped;
      spot = ap (λ n. at (IsWithin x.txn x.tries (map act_of x.commands.now) (left fits.deadly n) true) fits.more) count
          ∙ (ap (λ d. at (IsWithin x.txn x.tries (map act_of x.commands.now) d true) fits.more) (sym fits.nearer) ∙ ap (at (IsWithin x.txn x.tries (map act_of x.commands.now) x.deadly true)) (sym same));
      so_far = none_so_far now a.client x.txn rest;
      undone = λ us. refl;
      placed = subst (IsPlaced true) (sym same) (subst (IsPlaced true) fits.calls fits.placed).1;
      again = fits.again;
      due = ap (λ d. spares d 0) fits.nearer ∙ due_left fits.deadly (operations x.txn fits.work) fits.spared;
      lives = lives;
      free = subst (IsFree p.core) fits.plan_is.txn fits.plan_is.stands.free;
      locks = still_got p p w now did_stop.goes.grows a.client x.txn (λ n. refl) fits.locks;
      may_call = λ e. let some : Some stop ≡ None = sym stopped ∙ (ap (λ (m : SystemState). m.stop) (sym stood.stands.at.system) ∙ e) in absurd (cc);
    }

    pub stuck_said : Finishes k (Within x) (RefusedLine (IsCall fits.call) (Stopped stop)) j → Went means precheck s B p w a (TakingBack x plan why) gs y v true j gs y v
    stuck_said f =
        went_by means precheck s B B p p w a (TakingBack x plan why) gs gs y y v v (Meets (StoppedBy stop) ∷ []) k j is did_stop stop_move spot refl stop_cause
        (ap (λ t. t.client) f.transcript) (ap (λ t. map said_of t.lines) f.transcript ∙ map-append said_of k.transcript.lines (RefusedLine (IsCall fits.call) (Stopped stop) ∷ []))
        (subst (λ (n : State). Fits means s B p now gs y v (ended a stop_move) (rest_of j) n) (sym f.stands) (stopped_behind (rest_of j) (behind_one k.rest.now j.rest.now _ fits.more fits.calls f.rest)))
        (rows j.state f.stands)

    pub stuck_unsaid : j.transcript ≡ k.transcript → Went means precheck s B p w a (TakingBack x plan why) gs y v false j gs y v
    stuck_unsaid same = went_silent means precheck s B B p p w a (TakingBack x plan why) gs gs y y v v (Meets (StoppedBy stop) ∷ []) k j is did_stop stop_move spot refl stop_cause same
