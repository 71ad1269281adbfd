-- A client in a transaction asks for the lock of its next call: it is granted, it must wait, or the engine is stopped.
use Rattle.std.proofs.Common.{◌≡◌, ℕ, Bool, true, false, List, [], ◌∷◌, ◌++◌, length, map, Option, Some, None, is_some, refl, ap, sym, subst, ◌∙◌, ◌⊎◌, inl, inr}
use Rattle.std.specs.Prelude.{◌==◌, ◌||◌}
use Rattle.std.proofs.lemmas.List.{append-nil, map-append}
use Rattle.dali_runs.proofs.CountsLemmas.Lists.{equal, same_number}
use Rattle.dali_geometry.specs.Sizes.{Sizes}
use Rattle.dali_geometry.specs.Places.{regions}
use Rattle.dali_record.specs.declared.records.Call.{Call}
use Rattle.dali_record.specs.declared.records.Record.{Record}
use Rattle.dali_region.specs.State.{RegionState}
use Rattle.dali_locks.specs.declared.mode.LockAnswer.TheVariants.{Granted}
use Rattle.dali_store.specs.Store.{Files as Disk}
use Rattle.dali_store.specs.declared.store.Store.{Ghosts}
use Rattle.dali_runs.specs.declared.causes.Cause.{Cause}
use Rattle.dali_runs.specs.State.{SystemState, VaultState, CoreState, state_of}
use Rattle.dali_runs.specs.Steps.{granted}
use Rattle.dali_crash.specs.Checkpoints.{Point}
use Rattle.dali_crash.specs.Traces.{Start, bases_of}
use Rattle.dali_core.specs.Vault.Vaulted.{Vaulted}
use Rattle.dali_calls.specs.declared.stage.Stage.TheVariants.{Fresh}
use Rattle.dali_calls.specs.declared.plan.Phase.TheVariants.{Calling as IsCalling}
use Rattle.dali_calls.specs.Steps.{call_key}
use Rattle.dali_calls.specs.Plans.{Planned, mode_of}
use Rattle.dali_calls.specs.Single.Stands.{core, IsAtRest}
use Rattle.dali_calls.specs.Single.Single.{MayCall}
use Rattle.dali_calls.specs.Stepwise.Stepwise.{IsNew, IsAsked}
use Rattle.dali_transcripts.specs.Words.{Act, Calls, StoppedBy}
use Rattle.dali_transcripts.specs.World.{Meets, World, log_of}
use Rattle.dali_transcripts.specs.Moves.{Within as IsWithin, at, Move, IsRefusedCall, left}
use Rattle.dali_transcripts.specs.Causes.{AreAsking, AreTried, HasCause, AreUnfinished, spares}
use Rattle.dali_transcripts.specs.Rounds.{Standing, IsPlaced}
use Rattle.dali_transcripts.proofs.Grants.{idle_asks}
use Rattle.dali_transcripts.proofs.Growing.{askings, unanswered}
use Rattle.dali_transcripts.specs.Telling.Tells.{after}
use Rattle.dali_transcripts.specs.declared.clients.command.Command.TheVariants.{Call as IsCall}
use Rattle.dali_transcripts.specs.declared.clients.line.Line.TheVariants.{Refused as RefusedLine}
use Rattle.dali_transcripts.specs.declared.clients.line.Why.TheVariants.{Stopped}
use Rattle.dali_transcripts.specs.Clients.Told.{act_of, said_of}
use Rattle.dali_turns.specs.declared.client.Client.{Client}
use Rattle.dali_turns.specs.declared.client.State.{State}
use Rattle.dali_turns.specs.declared.client.State.TheVariants.{Within, Calling}
use Rattle.dali_turns.specs.declared.client.Transaction.{Transaction}
use Rattle.dali_turns.specs.Clients.{Finishes, Stays}
use Rattle.dali_turns.specs.Stood.{Stood}
use Rattle.dali_turns.specs.Within.{AreSoFar, FitsWithin}
use Rattle.dali_turns.specs.Fits.{rest_of, IsOf, Owns, Fits}
use Rattle.dali_turns.specs.Goes.{RowsTell, Went}
use Rattle.dali_turns.proofs.Locking.{still_got}
use Rattle.dali_turns.proofs.Undoing.{undone_still}
use Rattle.dali_turns.proofs.Refusals.{HasCauseNow, met_now, right_now, stop_now}
use Rattle.dali_turns.proofs.Doing.{Did, did_nothing, did_meet, behind, ended, went_on, went_by, went_silent, vault_stops}
use Rattle.dali_turns.proofs.Calling.{behind_one, none_so_far}
use Rattle.dali_turns.proofs.Refusing.{all_tried_of, unrefused}
use Rattle.dali_turns.proofs.Asked.{works_of, none_yet, asked_idle, left_none, granted_on}
use Rattle.dali_turns.proofs.Cutting.{asked_cut}
use Rattle.dali_transactions.specs.Beside.Went.{is_open}

-- the plan of a call that has made no operation
abbrev pub new_plan : Sizes → ℕ → Call → Planned
new_plan s t call = record { geometry = s; txn = t; call = call; stage = Fresh; phase = IsCalling; changes = []; operation = None }

module _ {V : Type 0} (means : Ghosts V)
    (precheck : Bool) (s : Start) (B : List (List Record)) (p : Point) (w : World) (a : Standing) (gs : List RegionState) (y : SystemState) (v : Vaulted V) (k j : Client)
    (x : Transaction) (call : Call) (more : List Act) (stood : Stood means s B p w precheck gs y v) (is : IsOf w a k) (fits : FitsWithin p w a (rest_of k) x) (next : rest_of k ≡ Calls call ∷ more) where
  pub asking : AreAsking w a.client x.txn call a.pending
  asking = subst (λ rest. AreSoFar w a.client x.txn rest a.pending) next fits.so_far

  spot : a.spot ≡ at (IsWithin x.txn x.tries (map act_of x.commands.now) x.deadly fits.said) (Calls call ∷ more)
  spot = fits.spot ∙ ap (at (IsWithin x.txn x.tries (map act_of x.commands.now) x.deadly fits.said)) next

  tried : AreTried w a.client x.txn call a.pending
  tried = all_tried_of w a.client x.txn call a.pending (works_of w a.client x.txn call a.pending asking)

  rows : (new : State) → new ≡ Within x → RowsTell (Within x) y new y
  rows new at_within runs t alive = by_test (x.txn == t) refl
    where
      by_test : (b : Bool) → (x.txn == t) ≡ b → Owns new t ⊎ ((is_open (state_of y t) ≡ true) × (Owns (Within x) t → ⊥))
      by_test true e = inl (subst (λ (n : State). Owns n t) (sym at_within) (equal x.txn t e))
      by_test false e = inr (alive, λ same. let one : (x.txn == t) ≡ true = same_number x.txn t same in let no : true ≡ false = sym one ∙ e in absurd (cc))

  -- ---- nothing was done
  did_none : Did means precheck s B p w a.client (Within x) gs y v [] B p gs y v
  did_none = did_nothing means precheck s B p w gs y v stood a.client (Within x)

  abbrev still : World
  still = after w a.client [] p.core

  still_asking : AreAsking still a.client x.txn call (a.pending ++ [])
  still_asking = subst (AreAsking still a.client x.txn call) (sym (append-nil a.pending)) (askings w still did_none.goes.grows a.client x.txn call a.pending asking)

  pub ask_nowhere : j.transcript ≡ k.transcript → Went means precheck s B p w a (Within x) gs y v false j gs y v
  ask_nowhere same = went_on means precheck s B B p p w a (Within x) gs gs y y v v [] k j is did_none false same (inl (refl, so_far)) (λ e. absurd (cc))
    where
      so_far : AreUnfinished still a.client a.spot.place a.spot.rest (a.pending ++ [])
      so_far =
          subst (λ q. AreUnfinished still a.client q.place q.rest (a.pending ++ [])) (sym spot)
          (subst (λ xs. AreUnfinished still a.client (IsWithin x.txn x.tries (map act_of x.commands.now) x.deadly fits.said) (Calls call ∷ more) xs) (sym (append-nil a.pending))
          (inl (unanswered w still did_none.goes.grows a.client x.txn x.deadly call a.pending (asked_cut p w a (rest_of k) x call more next fits))))

  -- it waits on
  pub waits_on : Stays k (Within x) j → Went means precheck s B p w a (Within x) gs y v true j gs y v
  waits_on f =
      went_on means precheck s B B p p w a (Within x) gs gs y y v v [] k j is did_none true f.transcript
      (subst (λ (n : State). Fits means s B p still gs y v (behind a w []) (rest_of j) n) (sym f.stands) fitting) (λ e. rows j.state f.stands)
    where
      same_rest : rest_of j ≡ rest_of k
      same_rest = ap (map act_of) f.rest

      fitting : FitsWithin p still (behind a w []) (rest_of j) x
      fitting = record {
        said = fits.said;
        may = fits.may;
        spot = fits.spot ∙ ap (at (IsWithin x.txn x.tries (map act_of x.commands.now) x.deadly fits.said)) (sym same_rest);
        so_far = subst (λ rest. AreSoFar still a.client x.txn rest (a.pending ++ [])) (sym (same_rest ∙ next)) still_asking;
        undone = λ us. undone_still x.txn us us a.pending (fits.undone us);
        placed = subst (IsPlaced true) (sym same_rest) fits.placed;
        again = fits.again;
        due = fits.due;
        lives = fits.lives;
        free = fits.free;
        locks = still_got p p w still did_none.goes.grows a.client x.txn (λ n. refl) fits.locks;
        may_call = fits.may_call;
      }

  -- ---- the engine is stopped
  module _ (stop : Cause) (stopped : y.stop ≡ Some stop) where
    abbrev now : World
    now = after w a.client (Meets (StoppedBy stop) ∷ []) p.core

    here : HasCauseNow w a.client p.core (Calls call) (Some x.txn) (StoppedBy stop)
    here =
        stop_now (bases_of s) s.log w a.client p stood.stands.at.vault.run stood.tells (vault_stops means precheck s B p w gs y v stood) (Calls call) (Some x.txn) stop tt
        (ap (λ (m : SystemState). m.stop) stood.stands.at.system ∙ stopped)

    did_stop : Did means precheck s B p w a.client (Within x) gs y v (Meets (StoppedBy stop) ∷ []) B p gs y v
    did_stop = did_meet means precheck s B p w gs y v stood a.client (Within x) (StoppedBy stop) tt (right_now w a.client p.core (Calls call) (Some x.txn) (StoppedBy stop) here)

    abbrev move : Move
    move = IsRefusedCall x.txn x.tries (map act_of x.commands.now) x.deadly fits.said a.pending (length (log_of w)) [] call (StoppedBy stop) more

    cause : HasCause now a.client move
    cause = (
      all_tried_of now a.client x.txn call a.pending (works_of now a.client x.txn call a.pending (askings w now did_stop.goes.grows a.client x.txn call a.pending asking)),
      (met_now w a.client p.core (Calls call) (Some x.txn) (StoppedBy stop) here, ap (spares x.deadly) (none_yet w a.client x.txn call a.pending asking) ∙ fits.due),
      tt,
      λ e. absurd (cc),
      unrefused w a.client x.txn call a.pending (works_of w a.client x.txn call a.pending asking),
      (idle_asks a.pending (asked_idle w a.client x.txn call a.pending asking), λ e. absurd (cc)),
    )

    stopped_behind : (rest : List Act) → rest ≡ more → FitsWithin p now (ended a move) rest x
    stopped_behind rest same = record {
      said = fits.said || true;
      may = λ e. ap (λ (m : SystemState). is_some m.stop) stood.stands.at.system ∙ ap is_some stopped;
      spot = ap (λ d. at (IsWithin x.txn x.tries (map act_of x.commands.now) d (fits.said || true)) more) (ap (left x.deadly) (none_yet w a.client x.txn call a.pending asking) ∙ left_none x.deadly)
          ∙ ap (at (IsWithin x.txn x.tries (map act_of x.commands.now) x.deadly (fits.said || true))) (sym same);
      so_far = none_so_far now a.client x.txn rest;
      undone = λ us. refl;
      placed = subst (IsPlaced true) (sym same) (subst (IsPlaced true) next fits.placed).1;
      again = fits.again;
      due = fits.due;
      lives = fits.lives;
      free = fits.free;
      locks = still_got p p w now did_stop.goes.grows a.client x.txn (λ n. refl) fits.locks;
      may_call = λ e. let some : Some stop ≡ None = sym stopped ∙ (ap (λ (m : SystemState). m.stop) (sym stood.stands.at.system) ∙ e) in absurd (cc);
    }

    pub unasked_said : Finishes k (Within x) (RefusedLine (IsCall call) (Stopped stop)) j → Went means precheck s B p w a (Within x) gs y v true j gs y v
    unasked_said f =
        went_by means precheck s B B p p w a (Within x) gs gs y y v v (Meets (StoppedBy stop) ∷ []) k j is did_stop move spot refl cause
        (ap (λ t. t.client) f.transcript) (ap (λ t. map said_of t.lines) f.transcript ∙ map-append said_of k.transcript.lines (RefusedLine (IsCall call) (Stopped stop) ∷ []))
        (subst (λ (n : State). Fits means s B p now gs y v (ended a move) (rest_of j) n) (sym f.stands) (stopped_behind (rest_of j) (behind_one k.rest.now j.rest.now _ more next f.rest)))
        (rows j.state f.stands)

    pub unasked_unsaid : j.transcript ≡ k.transcript → Went means precheck s B p w a (Within x) gs y v false j gs y v
    unasked_unsaid same = went_silent means precheck s B B p p w a (Within x) gs gs y y v v (Meets (StoppedBy stop) ∷ []) k j is did_stop move spot refl cause same

  -- ---- the lock is granted
  pub rest_now : IsAtRest p.core.regions y (new_plan y.sizes x.txn call)
  rest_now = record {
    sizes = refl;
    whole = stood.stands.whole.regions ∙ ap (λ (m : SystemState). regions m.sizes) stood.stands.at.system;
    lives = ap (λ (m : SystemState). state_of m x.txn) (sym stood.stands.at.system) ∙ fits.lives;
    closed = refl;
  }

  pub core_there : core p.core.regions y p.core.vault ≡ p.core
  core_there = ap (λ (m : SystemState). core p.core.regions m p.core.vault) (sym stood.stands.at.system)

  pub grants_on : (z : SystemState) → (asks : (L : List Record) (rs : List RegionState) (o : VaultState) → IsNew (new_plan y.sizes x.txn call) → IsAtRest rs y (new_plan y.sizes x.txn call) → MayCall L (core rs y o) x.txn → IsAsked Granted L (core rs y o) (new_plan y.sizes x.txn call) (core rs z o))
      → z ≡ granted y x.txn (call_key call) (mode_of call) → y.stop ≡ None → Stays k (Calling x (new_plan y.sizes x.txn call)) j → Went means precheck s B p w a (Within x) gs y v true j gs z v
  grants_on z asks system runs f =
      granted_on means precheck s B p w a gs y z v k j x (new_plan y.sizes x.txn call) call more stood is fits next refl refl refl refl
      (subst (λ (c : CoreState). IsAsked Granted p.log c (new_plan y.sizes x.txn call) (core p.core.regions z p.core.vault)) core_there
      (asks p.log p.core.regions p.core.vault refl rest_now (subst (λ (c : CoreState). MayCall p.log c x.txn) (sym core_there) (fits.may_call (ap (λ (m : SystemState). m.stop) stood.stands.at.system ∙ runs)))))
      system runs f
