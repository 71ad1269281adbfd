-- A client meets a transaction whose client died, in the way of its call: it is cleaned up, and the call goes on, or the engine is stopped.
use Rattle.std.proofs.Common.{◌≡◌, ℕ, Bool, true, false, List, ◌∷◌, ◌++◌, length, map, Option, Some, None, is_some, refl, ap, sym, subst, ◌∙◌, ◌⊎◌, inl, inr}
use Rattle.std.specs.Prelude.{◌==◌}
use Rattle.std.proofs.lemmas.List.{append_assoc}
use Rattle.dali_lists.proofs.Members.{all_append, all_map}
use Rattle.dali_runs.proofs.CountsLemmas.Lists.{equal, same_number}
use Rattle.dali_record.specs.declared.records.Call.{Call}
use Rattle.dali_record.specs.declared.records.Record.{Record}
use Rattle.dali_region.specs.State.{RegionState}
use Rattle.dali_att.specs.declared.state.State.TheVariants.{Live}
use Rattle.dali_store.specs.Store.{Files as Disk}
use Rattle.dali_store.specs.declared.store.Store.{Ghosts}
use Rattle.dali_runs.specs.declared.causes.Cause.{Cause}
use Rattle.dali_runs.specs.State.{SystemState, CoreState, state_in, state_of, lock_of}
use Rattle.dali_crash.specs.Checkpoints.{Point}
use Rattle.dali_crash.specs.Traces.{Start}
use Rattle.dali_core.specs.Vault.Vaulted.{Vaulted}
use Rattle.dali_calls.specs.declared.plan.Phase.{Phase}
use Rattle.dali_calls.specs.declared.plan.Phase.TheVariants.{Calling as IsCalling, Refused as IsRefused}
use Rattle.dali_calls.specs.Plans.{Planned, goes_back}
use Rattle.dali_calls.specs.Steps.{answer_of}
use Rattle.dali_calls.specs.Stepwise.Beside.{LeavesBe}
use Rattle.dali_calls.proofs.StepwiseLemmas.Waiting.{plan_waits, call_waits, rest_waits}
use Rattle.dali_transcripts.specs.Words.{Act, Calls}
use Rattle.dali_transcripts.specs.World.{FindsDead, Meets, World, log_of}
use Rattle.dali_transcripts.specs.Moves.{Receipt, Within as IsWithin, at, operations, left}
use Rattle.dali_transcripts.specs.Causes.{IsAside, IsAsking, IsWork, IsUnanswered, IsTurnedBack, AreUnfinished, IsNoOperation, spares}
use Rattle.dali_transcripts.specs.Laws.{receipts_from}
use Rattle.dali_transcripts.specs.Rounds.{Standing}
use Rattle.dali_transcripts.proofs.Grants.{granted_more}
use Rattle.dali_transcripts.proofs.Growing.{askings, works, asides, all_tried, met, survives, unanswered, turned_back}
use Rattle.dali_transcripts.specs.Telling.Tells.{after}
use Rattle.dali_transcripts.specs.Clients.Told.{act_of, reason_of}
use Rattle.dali_transcripts.specs.declared.clients.line.Why.{Why}
use Rattle.dali_turns.specs.declared.client.Client.{Client}
use Rattle.dali_turns.specs.declared.client.State.{State}
use Rattle.dali_turns.specs.declared.client.Transaction.{Transaction}
use Rattle.dali_turns.specs.Clients.{Stays}
use Rattle.dali_turns.specs.Outside.{MaySay}
use Rattle.dali_turns.specs.Stood.{Stood}
use Rattle.dali_turns.specs.Within.{AreSoFar, FitsWithin, IsAtCall, FitsCalling, FitsTakingBack}
use Rattle.dali_turns.specs.Fits.{rest_of, IsOf, Owns, Fits}
use Rattle.dali_turns.specs.Goes.{RowsTell, Went, StepGoes}
use Rattle.dali_turns.proofs.Locking.{still_got, others_on}
use Rattle.dali_turns.proofs.Doing.{did_went_live, still_ran, behind, so_far, went_on}
use Rattle.dali_turns.proofs.CleanUps.{CleansUp, CleansHalf}
use Rattle.dali_turns.proofs.Refusing.{no_operations}
use Rattle.dali_turns.proofs.Returning.{turned_then, none_asked}
use Rattle.dali_turns.proofs.Undoing.{undone_on}
use Rattle.dali_turns.proofs.Cutting.{more_none, more_cut}
use Rattle.dali_turns.proofs.Asked.{work_of}
use Rattle.dali_turns.proofs.Turned.{asides_none}
use Rattle.dali_transactions.specs.Beside.Went.{is_open}

-- ---- what was cleaned up is part of whatever the call did
aside_asking : (w : World) (c t : ℕ) (call : Call) (x : Receipt) → IsAside w c t x → IsAsking w c t call x
aside_asking w c t call (n, FindsDead f) h = absurd h
aside_asking w c t call x h = h

aside_work : (w : World) (c t : ℕ) (call : Call) (x : Receipt) → IsAside w c t x → IsWork w c t call x
aside_work w c t call x h = work_of w c t call x (aside_asking w c t call x h)

module _ {V : Type 0} (means : Ghosts V)
    (precheck : Bool) (s : Start) (B : List (List Record)) (p : Point) (w : World) (a : Standing) (gs : List RegionState) (y : SystemState) (v : Vaulted V) (k : Client)
    (x : Transaction) (state : State) (stood : Stood means s B p w precheck gs y v) (is : IsOf w a k) (lives : state_of y x.txn ≡ Some Live)
    (to : Point) (hs : List RegionState) (z : SystemState) (cleans : CleansUp means precheck s B p w gs y v a.client state x.txn to hs z) where
  abbrev now : World
  now = after w a.client cleans.deeds to.core

  abbrev done : List Receipt
  done = receipts_from (length (log_of w)) cleans.deeds

  be : LeavesBe x.txn p.log p.core to.log to.core
  be = cleans.leaves x.txn (ap is_open lives)

  -- the engine stays stopped, and ran before where it runs
  pub stop_there : (cause : Cause) → p.core.system.stop ≡ Some cause → to.core.system.stop ≡ Some cause
  stop_there cause e = cleans.did.goes.grows.stopped cause (ap (λ (c : CoreState). c.system.stop) stood.tells.core ∙ e)

  ran_before : to.core.system.stop ≡ None → p.core.system.stop ≡ None
  ran_before up = by_stop p.core.system.stop refl
    where
      by_stop : (o : Option Cause) → p.core.system.stop ≡ o → p.core.system.stop ≡ None
      by_stop None e = e
      by_stop (Some cause) e = let both : Some cause ≡ None = sym (stop_there cause e) ∙ up in absurd (cc)

  may_there : (said : Bool) → MaySay p.core.system said → MaySay to.core.system said
  may_there said may e = by_stop p.core.system.stop refl (may e)
    where
      by_stop : (o : Option Cause) → p.core.system.stop ≡ o → is_some p.core.system.stop ≡ true → is_some to.core.system.stop ≡ true
      by_stop None up h = let both : true ≡ false = sym h ∙ ap is_some up in absurd (cc)
      by_stop (Some cause) up h = ap is_some (stop_there cause up)

  -- ---- before its lock is granted
  pub within_behind : (call : Call) (more : List Act) → rest_of k ≡ Calls call ∷ more → FitsWithin p w a (rest_of k) x → FitsWithin to now (behind a w cleans.deeds) (rest_of k) x
  within_behind call more next f = record {
    said = f.said;
    may = may_there f.said f.may;
    spot = f.spot;
    so_far = subst (λ rest. AreSoFar now a.client x.txn rest (a.pending ++ done)) (sym next)
        (all_append (IsAsking now a.client x.txn call) a.pending done
        (askings w now cleans.did.goes.grows a.client x.txn call a.pending (subst (λ rest. AreSoFar w a.client x.txn rest a.pending) next f.so_far))
        (all_map (IsAside now a.client x.txn) (IsAsking now a.client x.txn call) (aside_asking now a.client x.txn call) done cleans.aside));
    undone = λ us. undone_on x.txn us us a.pending done (f.undone us) cleans.still;
    placed = f.placed;
    again = f.again;
    due = f.due;
    lives = ap state_in be.row ∙ f.lives;
    free = be.free f.free;
    locks = still_got p to w now cleans.did.goes.grows a.client x.txn be.locks f.locks;
    may_call = λ up. call_waits p.log to.log p.core to.core x.txn be (f.may_call (ran_before up));
  }

  -- ---- in a call
  at_call : (plan : Planned) (call : Call) (phase : Phase) → IsAtCall p plan x.txn call phase → IsAtCall to plan x.txn call phase
  at_call plan call phase f = record {
    txn = f.txn;
    call_is = f.call_is;
    phase_is = f.phase_is;
    rest = rest_waits p.log to.log p.core to.core plan be_plan f.rest;
    stands = plan_waits p.log to.log p.core to.core plan be_plan f.stands;
  }
    where
      be_plan : LeavesBe plan.txn p.log p.core to.log to.core
      be_plan = subst (λ t. LeavesBe t p.log p.core to.log to.core) (sym f.txn) be

  none_more : (work : List Receipt) → operations x.txn (work ++ done) ≡ operations x.txn work
  none_more work = more_none x.txn work done (asides_none now a.client x.txn done cleans.aside)

  pub calling_behind : (plan : Planned) → FitsCalling p w a (rest_of k) x plan → FitsCalling to now (behind a w cleans.deeds) (rest_of k) x plan
  calling_behind plan f = record {
    call = f.call;
    more = f.more;
    calls = f.calls;
    deadly = f.deadly;
    spot = f.spot;
    work = all_append (IsWork now a.client x.txn f.call) a.pending done (works w now cleans.did.goes.grows a.client x.txn f.call a.pending f.work)
        (all_map (IsAside now a.client x.txn) (IsWork now a.client x.txn f.call) (aside_work now a.client x.txn f.call) done cleans.aside);
    granted = granted_more a.pending done f.granted;
    turned = turned_then (goes_back (answer_of plan.geometry plan.call plan.stage)) x.txn a.pending done f.turned (all_map (IsAside now a.client x.txn) IsNoOperation (no_operations now a.client x.txn) done cleans.aside)
        (none_asked now a.client x.txn f.call done (all_map (IsAside now a.client x.txn) (IsAsking now a.client x.txn f.call) (aside_asking now a.client x.txn f.call) done cleans.aside) cleans.still);
    undone = λ us. undone_on x.txn us (us ++ plan.changes) a.pending done (f.undone us) cleans.still;
    nearer = f.nearer ∙ sym (ap (left f.deadly) (none_more a.pending));
    spared = ap (spares f.deadly) (none_more a.pending) ∙ f.spared;
    placed = f.placed;
    again = f.again;
    plan_is = at_call plan f.call IsCalling f.plan_is;
    locks = still_got p to w now cleans.did.goes.grows a.client x.txn be.locks f.locks;
  }

  pub back_behind : (plan : Planned) (why : Why) → FitsTakingBack p w a (rest_of k) x plan why → FitsTakingBack to now (behind a w cleans.deeds) (rest_of k) x plan why
  back_behind plan why f = record {
    call = f.call;
    more = f.more;
    calls = f.calls;
    deadly = f.deadly;
    spot = f.spot;
    work = f.work;
    met = f.met;
    back = f.back ++ done;
    pending = ap (λ l. l ++ done) f.pending ∙ append_assoc f.work ((f.met, Meets (reason_of why)) ∷ f.back) done;
    tried = all_tried w now cleans.did.goes.grows a.client x.txn f.call f.work f.tried;
    stays = f.stays;
    granted = f.granted;
    cause = met w now cleans.did.goes.grows a.client f.met (Calls f.call) (Some x.txn) (reason_of why) f.cause;
    survives = survives w now cleans.did.goes.grows a.client f.met x.txn f.call f.deadly (operations x.txn f.work) (reason_of why) f.cause f.survives;
    no_stop = f.no_stop;
    aside = all_append (IsAside now a.client x.txn) f.back done (asides w now cleans.did.goes.grows a.client x.txn f.back f.aside) cleans.aside;
    undone = λ us. undone_on x.txn us (us ++ plan.changes) a.pending done (f.undone us) cleans.still;
    nearer = f.nearer;
    spared = f.spared;
    placed = f.placed;
    again = f.again;
    plan_is = at_call plan f.call IsRefused f.plan_is;
    locks = still_got p to w now cleans.did.goes.grows a.client x.txn be.locks f.locks;
  }

  -- ---- the step ends there, or goes on
  module _ (lived : (n : ℕ) → is_open (state_of z n) ≡ true → is_open (state_of y n) ≡ true) where
    clean_of : IsOf now (behind a w cleans.deeds) k
    clean_of = record {
      client = is.client;
      lines = is.lines;
      stands = so_far means precheck s B B p to w a state gs hs y z v v cleans.deeds k k is cleans.did;
      others = others_on w now a (behind a w cleans.deeds) cleans.did.goes.grows y z (ap (λ (c : CoreState). c.system) stood.tells.core ∙ stood.stands.at.system) cleans.did.stood.stands.at.system refl refl
          (λ up. ap (λ (m : SystemState). m.stop) (sym stood.stands.at.system) ∙ ran_before (ap (λ (m : SystemState). m.stop) cleans.did.stood.stands.at.system ∙ up))
          (λ n alive. (
            lived n alive,
            λ key.
                ap (λ (m : SystemState). lock_of m n key) (sym cleans.did.stood.stands.at.system)
                ∙ ((cleans.leaves n (lived n alive)).locks key ∙ ap (λ (m : SystemState). lock_of m n key) stood.stands.at.system),
          ))
          is.others;
    }

    pub cleaned_on : (j : Client) → Stays k state j → Fits means s B to now hs z v (behind a w cleans.deeds) (rest_of k) state → ((n : ℕ) → x.txn ≡ n → Owns state n) → ((n : ℕ) → Owns state n → x.txn ≡ n)
        → Went means precheck s B p w a state gs y v true j hs z v
    cleaned_on j f fits owns only =
        went_on means precheck s B B p to w a state gs hs y z v v cleans.deeds k j is cleans.did true f.transcript
        (subst (λ (n : State). Fits means s B to now hs z v (behind a w cleans.deeds) (rest_of j) n) (sym f.stands)
        (subst (λ rest. Fits means s B to now hs z v (behind a w cleans.deeds) rest state) (sym (ap (map act_of) f.rest)) fits))
        (λ e. subst (λ (n : State). RowsTell state y n z) (sym f.stands) rows)
      where
        rows : RowsTell state y state z
        rows runs n alive = by_test (x.txn == n) refl
          where
            by_test : (b : Bool) → (x.txn == n) ≡ b → Owns state n ⊎ ((is_open (state_of y n) ≡ true) × (Owns state n → ⊥))
            by_test true e = inl (owns n (equal x.txn n e))
            by_test false e = inr (lived n alive, λ own. let same : (x.txn == n) ≡ true = same_number x.txn n (only n own) in let both : true ≡ false = sym same ∙ e in absurd (cc))

    pub cleaned_then : (j : Client) (ks : List RegionState) (m : SystemState) (t : Vaulted V) (ok : Bool) → Fits means s B to now hs z v (behind a w cleans.deeds) (rest_of k) state → StepGoes means precheck state k hs z v ok j ks m t
        → Went means precheck s B p w a state gs y v ok j ks m t
    cleaned_then j ks m t ok fits goes = did_went_live means precheck s B B p to w a state gs hs ks y z m v v t cleans.deeds ok j stood (still_ran means precheck s B to now (behind a w cleans.deeds) state hs ks z m v t ok j cleans.did.stood two) lived cleans.did two
      where
        two : Went means precheck s B to now (behind a w cleans.deeds) state hs z v ok j ks m t
        two = goes s B to now (behind a w cleans.deeds) cleans.did.stood clean_of fits

-- ---- memory was refused in it
module _ {V : Type 0} (means : Ghosts V)
    (precheck : Bool) (s : Start) (B : List (List Record)) (p : Point) (w : World) (a : Standing) (gs : List RegionState) (y : SystemState) (v : Vaulted V) (k : Client)
    (x : Transaction) (state : State) (is : IsOf w a k) (to : Point) (hs : List RegionState) (z : SystemState) (half : CleansHalf means precheck s B p w gs y v a.client state x.txn to hs z)
    (call : Call) (more : List Act) (tries : ℕ) (cs : List Act) (d : Option ℕ) (b : Bool) (spot : a.spot ≡ at (IsWithin x.txn tries cs d b) (Calls call ∷ more)) (cut : IsUnanswered w a.client x.txn d call a.pending ⊎ IsTurnedBack w a.client x.txn d call a.pending) where
  abbrev then_now : World
  then_now = after w a.client half.deeds to.core

  pub half_goes : (j : Client) → j.transcript ≡ k.transcript → Went means precheck s B p w a state gs y v false j hs z v
  half_goes j same = went_on means precheck s B B p to w a state gs hs y z v v half.deeds k j is half.did false same (inl (refl, so_far_done)) (λ e. absurd (cc))
    where
      cut_then : IsUnanswered w a.client x.txn d call a.pending ⊎ IsTurnedBack w a.client x.txn d call a.pending → IsUnanswered then_now a.client x.txn d call a.pending ⊎ IsTurnedBack then_now a.client x.txn d call a.pending
      cut_then (inl h) = inl (unanswered w then_now half.did.goes.grows a.client x.txn d call a.pending h)
      cut_then (inr h) = inr (turned_back w then_now half.did.goes.grows a.client x.txn d call a.pending h)

      so_far_done : AreUnfinished then_now a.client a.spot.place a.spot.rest (a.pending ++ receipts_from (length (log_of w)) half.deeds)
      so_far_done =
          subst (λ q. AreUnfinished then_now a.client q.place q.rest (a.pending ++ receipts_from (length (log_of w)) half.deeds)) (sym spot)
          (more_cut then_now a.client x.txn d call a.pending (receipts_from (length (log_of w)) half.deeds) half.cut half.still (cut_then cut))
