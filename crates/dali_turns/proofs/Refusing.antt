-- A call of a client is refused, and taken back, or told at once.
use Rattle.std.proofs.Common.{◌≡◌, ℕ, Bool, true, false, List, [], ◌∷◌, ◌++◌, length, map, Option, Some, is_some, refl, ap, sym, subst, ◌∙◌, inl, inr}
use Rattle.std.specs.Prelude.{◌==◌, ◌⊎◌}
use Rattle.std.proofs.lemmas.List.{map-append}
use Rattle.dali_lists.proofs.Members.{all_append, all_map}
use Rattle.dali_runs.proofs.CountsLemmas.Lists.{equal, same_number}
use Rattle.dali_record.specs.declared.records.Call.{Call}
use Rattle.dali_record.specs.declared.records.Record.TheVariants.{Forward}
use Rattle.dali_record.specs.declared.records.Record.{Record}
use Rattle.dali_region.specs.State.{RegionState}
use Rattle.dali_att.specs.declared.state.State.TheVariants.{Live}
use Rattle.dali_store.specs.Store.{Files as Disk}
use Rattle.dali_store.specs.declared.store.Store.{Ghosts}
use Rattle.dali_runs.specs.State.{SystemState, state_of}
use Rattle.dali_runs.specs.Keeps.{IsFree}
use Rattle.dali_crash.specs.Checkpoints.{Point}
use Rattle.dali_crash.specs.Traces.{Start}
use Rattle.dali_core.specs.Vault.Vaulted.{Vaulted}
use Rattle.dali_calls.specs.Plans.{Planned, refused, is_answered}
use Rattle.dali_calls.proofs.StepwiseLemmas.Turning.{plan_turns}
use Rattle.dali_transcripts.specs.Words.{Act, Calls, Why as Reason, is_stop}
use Rattle.dali_transcripts.specs.World.{Logs, GetsLock, FindsDead, Meets, World, log_of}
use Rattle.dali_transcripts.specs.Moves.{Receipt, Within as IsWithin, at, Move, IsRefusedCall, operations}
use Rattle.dali_transcripts.specs.Causes.{IsAside, IsWork, IsTried, AreAside, AreWork, AreTried, IsNoOperation, StaysRefused, Survives, HasCause, spares}
use Rattle.dali_transcripts.specs.Rounds.{Standing, IsPlaced}
use Rattle.dali_transcripts.proofs.Grants.{granted_asks}
use Rattle.dali_transcripts.proofs.Growing.{works}
use Rattle.dali_transcripts.specs.Telling.Tells.{after}
use Rattle.dali_transcripts.specs.Telling.Laws.{IsNoFault}
use Rattle.dali_transcripts.specs.declared.clients.command.Command.TheVariants.{Call as IsCall}
use Rattle.dali_transcripts.specs.declared.clients.line.Line.TheVariants.{Refused as RefusedLine}
use Rattle.dali_transcripts.specs.declared.clients.line.Why.{Why}
use Rattle.dali_transcripts.specs.Clients.Told.{act_of, reason_of, said_of}
use Rattle.dali_turns.specs.declared.client.Client.{Client}
use Rattle.dali_turns.specs.declared.client.State.{State}
use Rattle.dali_turns.specs.declared.client.State.TheVariants.{Within, Calling, TakingBack}
use Rattle.dali_turns.specs.declared.client.Transaction.{Transaction}
use Rattle.dali_turns.specs.Clients.{Passes, Finishes, Stays}
use Rattle.dali_turns.specs.Stood.{Stood}
use Rattle.dali_turns.specs.Within.{FitsWithin, FitsCalling, FitsTakingBack}
use Rattle.dali_turns.specs.Fits.{rest_of, IsOf, Owns, Fits}
use Rattle.dali_turns.specs.Goes.{RowsTell, Went}
use Rattle.dali_turns.proofs.Locking.{still_got}
use Rattle.dali_turns.proofs.Undoing.{undone_on}
use Rattle.dali_turns.proofs.Refusals.{HasCauseNow, met_now, right_now}
use Rattle.dali_turns.proofs.Doing.{Did, did_meet, behind, ended, went_on, went_by, went_silent}
use Rattle.dali_turns.proofs.Calling.{behind_one, none_so_far, due_left}
use Rattle.dali_transactions.specs.Beside.Went.{is_open}

-- ---- the work of a call, once it is refused
pub tried_of : (w : World) (c t : ℕ) (call : Call) (x : Receipt) → IsWork w c t call x → IsTried w c t call x
tried_of w c t call (n, Meets why) h = absurd h
tried_of w c t call (n, Logs y) h = h
tried_of w c t call (n, GetsLock u k m) h = h
tried_of w c t call (n, FindsDead f) h = h
tried_of w c t call x h = h

pub all_tried_of : (w : World) (c t : ℕ) (call : Call) (xs : List Receipt) → AreWork w c t call xs → AreTried w c t call xs
all_tried_of w c t call xs h = all_map (IsWork w c t call) (IsTried w c t call) (tried_of w c t call) xs h

-- no refusal is among it
pub unrefused : (w : World) (c t : ℕ) (call : Call) (xs : List Receipt) → AreWork w c t call xs → StaysRefused xs
unrefused w c t call [] h = tt
unrefused w c t call ((n, Meets why) ∷ xs) h = absurd h.0
unrefused w c t call (x ∷ xs) h = unrefused w c t call xs h.1

pub no_operations : (w : World) (c t : ℕ) (x : Receipt) → IsAside w c t x → IsNoOperation x
no_operations w c t (n, Logs (Forward u b)) h = absurd h
no_operations w c t x h = tt

-- and none is made behind one
pub stays_back : (w : World) (c t n : ℕ) (why : Reason) (xs back : List Receipt) → StaysRefused xs → AreAside w c t back → StaysRefused (xs ++ (n, Meets why) ∷ back)
stays_back w c t n why [] back h aside = all_map (IsAside w c t) IsNoOperation (no_operations w c t) back aside
stays_back w c t n why ((m, Meets other) ∷ xs) back h aside = all_append IsNoOperation xs ((n, Meets why) ∷ back) h (tt, all_map (IsAside w c t) IsNoOperation (no_operations w c t) back aside)
stays_back w c t n why (x ∷ xs) back h aside = stays_back w c t n why xs back h aside

module _ {V : Type 0} (means : Ghosts V)
    (precheck : Bool) (s : Start) (B : List (List Record)) (p : Point) (w : World) (a : Standing) (gs : List RegionState) (y : SystemState) (v : Vaulted V) (k j : Client)
    (x : Transaction) (plan : Planned) (stood : Stood means s B p w precheck gs y v) (is : IsOf w a k) (fits : FitsCalling p w a (rest_of k) x plan)
    (why : Why) (no_fault : IsNoFault (reason_of why)) where
  abbrev now : World
  now = after w a.client (Meets (reason_of why) ∷ []) p.core

  module _ (cause : HasCauseNow w a.client p.core (Calls fits.call) (Some x.txn) (reason_of why))
      (lives : Survives now a.client (length (log_of w)) x.txn fits.call fits.deadly (operations x.txn a.pending) (reason_of why) (met_now w a.client p.core (Calls fits.call) (Some x.txn) (reason_of why) cause)) where
    did : Did means precheck s B p w a.client (Calling x plan) gs y v (Meets (reason_of why) ∷ []) B p gs y v
    did = did_meet means precheck s B p w gs y v stood a.client (Calling x plan) (reason_of why) no_fault (right_now w a.client p.core (Calls fits.call) (Some x.txn) (reason_of why) cause)

    tried : AreTried now a.client x.txn fits.call a.pending
    tried = all_tried_of now a.client x.txn fits.call a.pending (works w now did.goes.grows a.client x.txn fits.call a.pending fits.work)

    -- ---- its changes are taken back from here on
    pub turned_back : is_stop (reason_of why) ≡ false → Stays k (TakingBack x (refused plan) why) j → Went means precheck s B p w a (Calling x plan) gs y v true j gs y v
    turned_back no_stop f =
        went_on means precheck s B B p p w a (Calling x plan) gs gs y y v v (Meets (reason_of why) ∷ []) k j is did true f.transcript
        (subst (λ (n : State). Fits means s B p now gs y v (behind a w (Meets (reason_of why) ∷ [])) (rest_of j) n) (sym f.stands) fitting)
        (λ e. rows)
      where
        same_rest : rest_of j ≡ rest_of k
        same_rest = ap (map act_of) f.rest

        fitting : FitsTakingBack p now (behind a w (Meets (reason_of why) ∷ [])) (rest_of j) x (refused plan) why
        fitting = record {
          call = fits.call;
          more = fits.more;
          calls = same_rest ∙ fits.calls;
          deadly = fits.deadly;
          spot = fits.spot ∙ ap (at (IsWithin x.txn x.tries (map act_of x.commands.now) fits.deadly false)) (sym same_rest);
          work = a.pending;
          met = length (log_of w);
          back = [];
          pending = refl;
          tried = tried;
          stays = unrefused w a.client x.txn fits.call a.pending fits.work;
          granted = fits.granted;
          cause = met_now w a.client p.core (Calls fits.call) (Some x.txn) (reason_of why) cause;
          survives = lives;
          no_stop = no_stop;
          aside = tt;
          undone = λ us. undone_on x.txn us (us ++ plan.changes) a.pending ((length (log_of w), Meets (reason_of why)) ∷ []) (fits.undone us) (λ zs. refl);
          nearer = fits.nearer;
          spared = fits.spared;
          placed = subst (IsPlaced true) (sym same_rest) fits.placed;
          again = fits.again;
          plan_is = record {
            txn = fits.plan_is.txn;
            call_is = fits.plan_is.call_is;
            phase_is = refl;
            rest = record { sizes = fits.plan_is.rest.sizes; whole = fits.plan_is.rest.whole; lives = fits.plan_is.rest.lives; closed = fits.plan_is.rest.closed };
            stands = plan_turns p.log p.core plan (ap is_answered fits.plan_is.phase_is) fits.plan_is.stands;
          };
          locks = still_got p p w now did.goes.grows a.client x.txn (λ n. refl) fits.locks;
        }

        rows : RowsTell (Calling x plan) y j.state y
        rows e t lives = by_test (x.txn == t) refl
          where
            by_test : (b : Bool) → (x.txn == t) ≡ b → Owns j.state t ⊎ ((is_open (state_of y t) ≡ true) × (Owns (Calling x plan) t → ⊥))
            by_test true g = inl (subst (λ (n : State). Owns n t) (sym f.stands) (equal x.txn t g))
            by_test false g = inr (lives, λ one. let yes : (x.txn == t) ≡ true = same_number x.txn t one in let no : true ≡ false = sym yes ∙ g in absurd (cc))

    -- ---- it is told at once, since the engine is stopped
    module _ (stopped : is_some y.stop ≡ true) (stops : is_stop (reason_of why) ≡ true) where
      abbrev move : Move
      move = IsRefusedCall x.txn x.tries (map act_of x.commands.now) fits.deadly false a.pending (length (log_of w)) [] fits.call (reason_of why) fits.more

      spot : a.spot ≡ at (IsWithin x.txn x.tries (map act_of x.commands.now) fits.deadly false) (Calls fits.call ∷ fits.more)
      spot = fits.spot ∙ ap (at (IsWithin x.txn x.tries (map act_of x.commands.now) fits.deadly false)) fits.calls

      has_cause : HasCause now a.client move
      has_cause = (tried, (met_now w a.client p.core (Calls fits.call) (Some x.txn) (reason_of why) cause, lives), tt, λ e. let both : true ≡ false = sym stops ∙ e in absurd (cc), unrefused w a.client x.txn fits.call a.pending fits.work, (granted_asks a.pending fits.granted, λ e. fits.granted))

      fits_behind : (rest : List Act) → rest ≡ fits.more → FitsWithin p now (ended a move) rest x
      fits_behind rest same = record {
        said = is_stop (reason_of why);
        may = λ e. ap (λ (m : SystemState). is_some m.stop) stood.stands.at.system ∙ stopped;
        spot = ap (λ d. at (IsWithin x.txn x.tries (map act_of x.commands.now) d (is_stop (reason_of why))) fits.more) (sym fits.nearer) ∙ ap (at (IsWithin x.txn x.tries (map act_of x.commands.now) x.deadly (is_stop (reason_of why)))) (sym same);
        so_far = none_so_far _ a.client x.txn rest;
        undone = λ us. refl;
        placed = subst (IsPlaced true) (sym same) (subst (IsPlaced true) fits.calls fits.placed).1;
        again = fits.again;
        due = ap (λ d. spares d 0) fits.nearer ∙ due_left fits.deadly (operations x.txn a.pending) fits.spared;
        lives = subst (λ t. state_of p.core.system t ≡ Some Live) fits.plan_is.txn fits.plan_is.rest.lives;
        free = subst (IsFree p.core) fits.plan_is.txn fits.plan_is.stands.free;
        locks = still_got p p w now did.goes.grows a.client x.txn (λ n. refl) fits.locks;
        may_call = λ e. let none : is_some p.core.system.stop ≡ false = ap is_some e in let some : is_some p.core.system.stop ≡ true = ap (λ (m : SystemState). is_some m.stop) stood.stands.at.system ∙ stopped in let no : true ≡ false = sym some ∙ none in absurd (cc);
      }

      rows_within : (new : State) → new ≡ Within x → RowsTell (Calling x plan) y new y
      rows_within new is_new e t lives = let none : is_some y.stop ≡ false = ap is_some e in let no : true ≡ false = sym stopped ∙ none in absurd (cc)

      pub refused_said : Finishes k (Within x) (RefusedLine (IsCall fits.call) why) j → Went means precheck s B p w a (Calling x plan) gs y v true j gs y v
      refused_said f =
          went_by means precheck s B B p p w a (Calling x plan) gs gs y y v v (Meets (reason_of why) ∷ []) k j is did move spot refl has_cause
          (ap (λ t. t.client) f.transcript) (ap (λ t. map said_of t.lines) f.transcript ∙ map-append said_of k.transcript.lines (RefusedLine (IsCall fits.call) why ∷ []))
          (subst (λ (n : State). Fits means s B p now gs y v (ended a move) (rest_of j) n) (sym f.stands) (fits_behind (rest_of j) (behind_one k.rest.now j.rest.now _ fits.more fits.calls f.rest)))
          (rows_within j.state f.stands)

      pub refused_unsaid : Passes k (Within x) j → Went means precheck s B p w a (Calling x plan) gs y v false j gs y v
      refused_unsaid f = went_silent means precheck s B B p p w a (Calling x plan) gs gs y y v v (Meets (reason_of why) ∷ []) k j is did move spot refl has_cause f.transcript
