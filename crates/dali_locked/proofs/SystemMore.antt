-- Requests, audits, claims, checkpoints and refusals under the system's lock: why each line follows, and what the client knows behind it.
use Rattle.std.proofs.Common.{◌≡◌, ◌⊎◌, ℕ, zero, suc, ◌+◌, ◌<◌, ◌≤◌, ◌^◌, Bool, true, false, not, List, [], ◌∷◌, ◌++◌, length, Option, Some, None, refl, ap, sym, subst, ◌∙◌, inl, inr, ⊎_elim, arith, length-append}
use Rattle.std.specs.Prelude.{slice_get, take, is_some, nat_lt, ◌==◌, ◌||◌, if◌then◌else◌}
use Rattle.std.specs.FinMap.{empty}
use Rattle.std.proofs.lemmas.Bool.{eqb-true, ltb-false}
use Rattle.std.proofs.lemmas.List.{append-nil}
use Rattle.dali_lists.proofs.Lists.{get_within}
use Rattle.dali_lists.proofs.Numbers.{eqb-self}
use Rattle.dali_lists.proofs.Tests.{not_both_ways}
use Rattle.dali_runs.proofs.CountsLemmas.Lists.{some_same}
use Rattle.dali_geometry.specs.Places.{regions}
use Rattle.dali_record.specs.declared.records.Record.TheVariants.{AuditBegin}
use Rattle.dali_record.specs.Damage.{has}
use Rattle.dali_locks.specs.declared.mode.Mode.{Mode}
use Rattle.dali_locks.specs.declared.mode.LockAnswer.{LockAnswer}
use Rattle.dali_locks.specs.declared.mode.LockAnswer.TheVariants.{Granted, Busy}
use Rattle.dali_locks.specs.Locks.{IsAnswer}
use Rattle.dali_att.specs.declared.state.State.TheVariants.{Live, Dead, Cleaning as Claimed}
use Rattle.dali_runs.specs.declared.causes.Cause.{Cause}
use Rattle.dali_runs.specs.declared.refusals.Refusal.{Refusal}
use Rattle.dali_runs.specs.State.{SystemState, CoreState, state_of}
use Rattle.dali_runs.specs.Run.{Bases}
use Rattle.dali_runs.specs.Steps.{granted, refused, audit_begun, audit_ended, audit_record, in_state, in_checkpoint}
use Rattle.dali_runs.specs.Regions.{is_alive}
use Rattle.dali_runs.proofs.CountsLemmas.SmallLogs.{is_small}
use Rattle.dali_runs.specs.Courses.{Locks, Refuses, AuditBegins, AuditEnds, Claims, GivesBack}
use Rattle.dali_runs.specs.Parts.Systems.{MayLogFound}
use Rattle.dali_runs.specs.Audits.{IsAuditing}
use Rattle.dali_crash.specs.Checkpoints.{StoreStep, Does, Starts, Finishes, Point}
use Rattle.dali_transcripts.specs.Words.{StoppedBy, UnderWay, Begins as BeginAct, Checkpoints as CheckpointAct}
use Rattle.dali_transcripts.specs.World.{Deed, Logs, Claims as ClaimsTxn, GivesBack as GivesTxnBack, GetsLock, Yields, FindsDead, StartsCheckpoint, EndsCheckpoint, Meets, state_step, is_dead_in, span_step, under_way}
use Rattle.dali_transcripts.specs.Telling.Deeds.{refusal_at}
use Rattle.dali_system.specs.declared.error.SystemError.{SystemError}
use Rattle.dali_system.specs.declared.error.SystemError.TheVariants.{LogFull}
use Rattle.dali_system.specs.Refused.{room_of}
use Rattle.dali_system.specs.Asked.{after_request}
use Rattle.dali_audit.specs.declared.audit.Finding.{Finding}
use Rattle.dali_audit.specs.Findings.{AllPassed, damaged, is_damaged}
use Rattle.dali_audit.proofs.Collected.{end_is_spelled, numbers_below, has_number}
use Rattle.dali_calls.specs.Steps.{call_key}
use Rattle.dali_calls.specs.Plans.{Planned, mode_of}
use Rattle.dali_calls.specs.Single.Stands.{core, IsAtRest, AtPlan}
use Rattle.dali_calls.specs.Single.Single.{MayCall}
use Rattle.dali_calls.specs.Stepwise.Stepwise.{IsNew, IsAsked}
use Rattle.dali_calls.proofs.SingleLemmas.Going.{row_there}
use Rattle.dali_calls.proofs.StepwiseLemmas.Asking.{asked_there}
use Rattle.dali_notes.specs.History.{IsSeen, signs}
use Rattle.dali_concurrent.specs.Entries.{Entry, Did, Passed, At, client_note, system_note, values_of, deeds_of, actor_by}
use Rattle.dali_concurrent.specs.Rules.{Outset, count_of, log_by, state_by, BeganAudit, AuditFits, DeedFits, AllFit}
use Rattle.dali_concurrent.specs.Told.{Leaves, OnSystem, Line, History, plain, core_told}
use Rattle.dali_concurrent.specs.Landing.{Stands, Lands}
use Rattle.dali_concurrent.specs.Kept.{Follows, StepsFit}
use Rattle.dali_concurrent.specs.Holds.{IsLed}
use Rattle.dali_concurrent.specs.Own.{HasOnly}
use Rattle.dali_concurrent.specs.Audits.{NotEnded}
use Rattle.dali_concurrent.proofs.Lists.{get_of_front, get_sides, get_taken, get_back_of}
use Rattle.dali_concurrent.proofs.Told.{plain-append, told_push}
use Rattle.dali_concurrent.proofs.Holds.{actor_stays, none_is_live, states_are_told}
use Rattle.dali_concurrent.proofs.Locking.{finds_dead_right}
use Rattle.dali_concurrent.proofs.Own.{only_seen, yields_by_own, gives_back_right}
use Rattle.dali_concurrent.proofs.Refused.{refusal_lands, stopped_for, under_way_for}
use Rattle.dali_concurrent.proofs.Clients.{no_span}
use Rattle.dali_concurrent.proofs.Amid.{none_live_is_seen, dead_is_seen}
use Rattle.dali_concurrent.proofs.Passed.{log_split}
use Rattle.dali_concurrent.proofs.Auditing.{audit_opens, audit_stays_open, open_until_its_end}
use Rattle.dali_concurrent.proofs.Audits.{audit_ends_land}
use Rattle.dali_concurrent.proofs.Checking.{stage_sees}
use Rattle.dali_concurrent.proofs.Copying.{starts_land, finishes_land}
use Rattle.dali_concurrent.proofs.Cases.{grants_land, yields_land, claims_land, audit_begins_land, gives_back_land}
use Rattle.dali_locked.specs.Sights.{Acts}
use Rattle.dali_locked.specs.SystemSteps.{Resting, Asking, Driving, Auditing, PassesTold, Cleaning, MayGiveBack, NotChecking, Checking, deed_of}
use Rattle.dali_locked.proofs.SystemLines.{by_both, line_follows, meeting_follows}
use Rattle.dali_locked.proofs.SystemTelling.{InHand, log_push, fold_push, state_push, actor_push, plain_push, runs_now, counted, fit, plain_mine}
use Rattle.dali_locked.proofs.SystemCases.{fits_so, of_one, at, whole, sizes, resting_now, lives_now}

-- client and system tell one step
abbrev pub row : ℕ → ℕ → Deed → SystemState → StoreStep → Line
row n c d z s = (by_both n c, (Did d c, OnSystem z, s ∷ []))

-- no cause to refuse an audit, so there is room
pub audit_room : (stop : Option Cause) (end limit : ℕ) → room_of stop end limit 1 ≡ None → (stop ≡ None) × (end + 1 ≤ limit)
audit_room (Some cause) end limit e = absurd (cc)
audit_room None end limit e = (refl, fits (nat_lt limit (end + 1)) refl e)
  where
    fits : (b : Bool) → nat_lt limit (end + 1) ≡ b → ◌≡◌ {A = Option SystemError} (if b then Some (LogFull end limit) else None) None → end + 1 ≤ limit
    fits true test none = absurd (cc)
    fits false test none = ltb-false limit (end + 1) test

-- not the begin of an audit
abbrev is_other : List ℕ × Entry → Bool
is_other (k, Did (Logs AuditBegin) c) = false
is_other p = true

signs_first : (k : ℕ) (ks : List ℕ) → signs k (k ∷ ks) ≡ true
signs_first k ks = ap (λ b. b || signs k ks) (eqb-self k)

module _ (bases : Bases) (p : Point) (o : Outset) (n c : ℕ) (seen : History) (y : SystemState) (now : History) (hand : InHand bases p o n c seen y now) where
  good : AllFit o (plain now)
  good = fit bases p o n c seen y now hand

  mine : IsSeen (plain now) (client_note (count_of o) c) (plain seen)
  mine = plain_mine bases p o n c seen y now hand

  -- ---- a claim
  module _ (t : ℕ) (latched : Option ℕ) (dead_now : state_of y t ≡ Some (Dead latched)) where
    told_dead : state_of (core_told o now).system t ≡ Some (Dead latched)
    told_dead = ap (λ (z : SystemState). state_of z t) (sym hand.is) ∙ dead_now

    by_deeds : state_by o (plain now) t ≡ Some (Dead latched)
    by_deeds = sym (states_are_told bases p o now t hand.led) ∙ told_dead

    pub claim_line : Follows bases p o now (row n c (ClaimsTxn t) (in_state y t (Claimed latched)) (Does (Claims t)))
    claim_line =
        line_follows bases p o now n c hand.count (ClaimsTxn t) refl
        (fits_so o (plain now) (ClaimsTxn t) c refl (λ r. refl) (ap is_dead_in by_deeds, none_is_live bases p o now t hand.led (ap is_alive told_dead)) (λ u e. absurd (cc)) tt)
        (in_state y t (Claimed latched)) (Does (Claims t)) (claims_land bases p o now (by_both n c) c t latched y hand.is dead_now) refl refl refl (λ f. absurd (cc))

    pub claim_cleans : Cleaning c t latched o (now ++ row n c (ClaimsTxn t) (in_state y t (Claimed latched)) (Does (Claims t)) ∷ [])
    claim_cleans =
        let e : Line = row n c (ClaimsTxn t) (in_state y t (Claimed latched)) (Does (Claims t)) in
        record {
          actor = actor_push o now e t ∙ ap (λ b. if b then Some c else actor_by t (plain now)) (eqb-self t);
          state = state_push o now e t ∙ (ap (λ s. state_step t s (ClaimsTxn t, c)) by_deeds ∙ ap (λ b. if b then Some (Claimed latched) else Some (Dead latched)) (eqb-self t));
        }

  -- ---- a checkpoint
  pub start_line : y.checking ≡ false → Follows bases p o now (row n c StartsCheckpoint (in_checkpoint y true) Starts)
  start_line clear =
      line_follows bases p o now n c hand.count StartsCheckpoint refl (fits_so o (plain now) StartsCheckpoint c refl (λ r. refl) tt (λ u e. absurd (cc)) tt)
      (in_checkpoint y true) Starts (starts_land bases p o now (by_both n c) c y hand.is clear) refl refl refl
      (λ f. (c, subst (λ m. signs (client_note m c) (by_both n c) ≡ true) (sym hand.count) (signs_first (client_note n c) (system_note ∷ [])), inl refl))

  pub start_checks : Checking c o (now ++ row n c StartsCheckpoint (in_checkpoint y true) Starts ∷ [])
  start_checks = fold_push o now (row n c StartsCheckpoint (in_checkpoint y true) Starts) span_step None

  module _ (w : Checking c o seen) where
    under_now : Checking c o now
    under_now = (stage_sees bases p o seen now (at bases p o n c seen y now hand).0 c (at bases p o n c seen y now hand).1 hand.led.all hand.mine w).0

    is_checking : y.checking ≡ true
    is_checking =
        let q = at bases p o n c seen y now hand in
        ap (λ (z : SystemState). z.checking) hand.is ∙ (q.1.tells.flag ∙ ap is_some under_now)

    pub finish_line : Follows bases p o now (row n c EndsCheckpoint (in_checkpoint y false) Finishes)
    finish_line =
        line_follows bases p o now n c hand.count EndsCheckpoint refl (fits_so o (plain now) EndsCheckpoint c refl (λ r. refl) tt (λ u e. absurd (cc)) tt)
        (in_checkpoint y false) Finishes (finishes_land bases p o now (by_both n c) c y hand.is is_checking under_now) refl refl refl
        (λ f. (c, subst (λ m. signs (client_note m c) (by_both n c) ≡ true) (sym hand.count) (signs_first (client_note n c) (system_note ∷ [])), inr under_now))

  pub finish_ends : NotChecking c o (now ++ row n c EndsCheckpoint (in_checkpoint y false) Finishes ∷ [])
  finish_ends e = absurd (let none : None ≡ Some c = sym (fold_push o now (row n c EndsCheckpoint (in_checkpoint y false) Finishes) span_step None) ∙ e in cc)

  -- ---- refusals
  module _ (w : NotChecking c o seen) (set : y.checking ≡ true) where
    not_now : NotChecking c o now
    not_now = no_span o (plain now) good c (plain seen) mine w

    pub meet_line : Follows bases p o now (by_both n c, (Did (Meets UnderWay) c, Leaves, []))
    meet_line =
        meeting_follows bases p o now n c hand.count (Meets UnderWay) refl (fits_so o (plain now) (Meets UnderWay) c refl (λ r. refl) tt (λ u e. absurd (cc)) tt)
        (refusal_lands bases p o now (by_both n c) c CheckpointAct None UnderWay tt (under_way_for bases p o now c None y hand.is set not_now))
        refl

    pub meet_still : NotChecking c o (now ++ (by_both n c, (Did (Meets UnderWay) c, Leaves, [])) ∷ [])
    meet_still e = not_now (sym (fold_push o now (by_both n c, (Did (Meets UnderWay) c, Leaves, [])) span_step None) ∙ e)

  pub stop_line : (cause : Cause) → y.stop ≡ Some cause → Follows bases p o now (by_both n c, (Did (Meets (StoppedBy cause)) c, Leaves, []))
  stop_line cause is =
      meeting_follows bases p o now n c hand.count (Meets (StoppedBy cause)) refl (fits_so o (plain now) (Meets (StoppedBy cause)) c refl (λ r. refl) tt (λ u e. absurd (cc)) tt)
      (refusal_lands bases p o now (by_both n c) c BeginAct None (StoppedBy cause) tt (stopped_for bases p o now c BeginAct None cause y hand.is is tt))
      refl

  -- ---- an audit
  module _ (runs : y.stop ≡ None) (room : y.end + 1 ≤ y.limit + 1048576) where
    pub audit_line : Follows bases p o now (row n c (Logs AuditBegin) (audit_begun y) (Does AuditBegins))
    audit_line =
        line_follows bases p o now n c hand.count (Logs AuditBegin) refl (fits_so o (plain now) (Logs AuditBegin) c refl (λ r. refl) tt (λ u e. absurd (cc)) tt)
        (audit_begun y) (Does AuditBegins) (audit_begins_land bases p o now (by_both n c) c y hand.is runs room) refl refl refl (λ f. absurd (cc))

    none_ended : NotEnded (plain now) y.records
    none_ended i d k found there =
        let began : BeganAudit o (take i (plain now)) d y.records = ((good i (k, Did (Logs (audit_record y.records found)) d) there).fits.audited y.records found refl).began in
        let w = get_taken i (plain now) began.place (began.notes, Did (Logs AuditBegin) d) began.there in
        let s = log_split o (plain now) began.place (began.notes, Did (Logs AuditBegin) d) w.0 in
        let l = length-append (log_by o (take began.place (plain now))) (AuditBegin ∷ s.0) in
        omega (arith, began.number, counted bases p o n c seen y now hand, ap length s.1, l, ap (λ Q. length (log_by o Q)) w.1)

    pub audit_opened : Auditing c y.records o (now ++ row n c (Logs AuditBegin) (audit_begun y) (Does AuditBegins) ∷ [])
    audit_opened =
        let e : Line = row n c (Logs AuditBegin) (audit_begun y) (Does AuditBegins) in
        let w = audit_opens bases p o now (by_both n c) c y e hand.led hand.is runs room refl in
        record { began = w.0; unended = unended; is_open = w.1 }
      where
        unended : NotEnded (plain (now ++ row n c (Logs AuditBegin) (audit_begun y) (Does AuditBegins) ∷ [])) y.records
        unended i d k found there =
            ⊎_elim (none_ended i d k found) (λ (w : (j : ℕ) × At ((by_both n c, Did (Logs AuditBegin) c) ∷ []) j (k, Did (Logs (audit_record y.records found)) d) × (i ≡ length (plain now) + j)). other_one found w.0 w.1)
            (get_sides (plain now) ((by_both n c, Did (Logs AuditBegin) c) ∷ []) i (k, Did (Logs (audit_record y.records found)) d)
            (ap (λ P. slice_get P i) (sym (plain_push o now (row n c (Logs AuditBegin) (audit_begun y) (Does AuditBegins)))) ∙ there))
          where
            other_one : (found : List ℕ) (j : ℕ) → At ((by_both n c, Did (Logs AuditBegin) c) ∷ []) j (k, Did (Logs (audit_record y.records found)) d) → ⊥
            other_one [] zero f = let e : false ≡ true = ap is_other (some_same f) in cc
            other_one (r ∷ rs) zero f = let e : false ≡ true = ap is_other (some_same f) in cc
            other_one found (suc j) f = cc

  -- its end, where it has passed each region
  module _ (b : ℕ) (fs : List Finding) (runs : y.stop ≡ None) (w : Auditing c b o seen) (told : PassesTold b fs o seen) (few : length fs < 2 ^ 32) (all : AllPassed fs) where
    abbrev still : BeganAudit o (plain now) c b × NotEnded (plain now) b
    still = open_until_its_end o (plain seen) (plain now) c b good mine w.began w.unended

    number : b < 2 ^ 64
    number =
        let began : BeganAudit o (plain now) c b = still.0 in
        let s = log_split o (plain now) began.place (began.notes, Did (Logs AuditBegin) c) began.there in
        let l = length-append (log_by o (take began.place (plain now))) (AuditBegin ∷ s.0) in
        let run = runs_now bases p o n c seen y now hand in
        let small = is_small (core_told o now).system.sizes (log_by o (plain now)) run.log.legal in
        omega (arith, began.number, ap length s.1, l, small)

    is_open : IsAuditing (core_told o now).system.sizes (log_by o (plain now)) b
    is_open =
        let rest : plain now ≡ plain seen ++ plain hand.mine.rest = ap plain hand.mine.all ∙ plain-append seen hand.mine.rest in
        subst (λ T. IsAuditing (core_told o T).system.sizes (log_by o (plain T)) b) (sym hand.mine.all)
        (audit_stays_open bases p o seen hand.mine.rest b (subst (IsLed bases p o) hand.mine.all hand.led) w.is_open
        (λ i d k found there. still.1 (length (plain seen) + i) d k found (ap (λ P. slice_get P (length (plain seen) + i)) rest ∙ (get_back_of (plain seen) (plain hand.mine.rest) i ∙ there))))

    audit_fits : AuditFits o (plain now) c b (damaged fs)
    audit_fits = record {
      began = still.0;
      passed = λ r low.
          let f = told.each r low in
          let there = told.passed r f.0 f.1 (all r f.0 f.1) in
          let same : not (is_damaged f.0) ≡ not (has (damaged fs) r) = ap not (sym (let z : r ≡ 0 + r = omega arith in ap (has (damaged fs)) z ∙ has_number 0 r f.0 fs f.1)) in (
            there.0,
            there.1,
            ap (λ P. slice_get P there.0) mine.all ∙ ((get_of_front (plain seen) mine.rest there.0 _ there.2).0 ∙ ap (λ v. Some (there.1, Passed r b v)) same),
          );
    }

    within : length fs ≤ regions y.sizes
    within = by_last (length fs) refl
      where
        count_is : count_of o ≡ regions y.sizes
        count_is = ap regions (sym (sizes bases p o n c seen y now hand) ∙ ap (λ (z : SystemState). z.sizes) (sym hand.is))

        by_last : (m : ℕ) → length fs ≡ m → length fs ≤ regions y.sizes
        by_last zero e = omega (arith, e)
        by_last (suc m) e =
            let f = get_within fs m (omega (arith, e)) in
            let low = told.within m f.0 f.1 in
            omega (arith, low, e, count_is)

    may_log : MayLogFound (log_by o (plain now)) y b (damaged fs)
    may_log = record {
      runs = runs;
      auditing = subst (λ (z : SystemState). IsAuditing z.sizes (log_by o (plain now)) b) (sym hand.is) is_open;
      spelled = end_is_spelled b fs number few;
      numbers = numbers_below (regions y.sizes) fs within;
    }

    end_fits : DeedFits o (plain now) (Logs (audit_record b (damaged fs))) c
    end_fits = by_kind (damaged fs) audit_fits
      where
        by_kind : (found : List ℕ) → AuditFits o (plain now) c b found → DeedFits o (plain now) (Logs (audit_record b found)) c
        by_kind [] fits = record {
          txn = tt;
          acts = λ u e. absurd (cc);
          audited = λ a other e. let same = clean_same a other e in subst (λ m. AuditFits o (plain now) c m other) same.0 (subst (AuditFits o (plain now) c b) same.1 fits);
          looked = λ r h. absurd (cc);
          held = tt;
        }
          where
            clean_same : (a : ℕ) (other : List ℕ) → Logs (audit_record b []) ≡ Logs (audit_record a other) → (b ≡ a) × ([] ≡ other)
            clean_same a [] e = (let is : b ≡ a = cc in is, refl)
            clean_same a (r ∷ rs) e = absurd (cc)
        by_kind (f ∷ fs) fits = record {
          txn = tt;
          acts = λ u e. absurd (cc);
          audited = λ a other e. let same = fail_same a other e in subst (λ m. AuditFits o (plain now) c m other) same.0 (subst (AuditFits o (plain now) c b) same.1 fits);
          looked = λ r h. absurd (cc);
          held = tt;
        }
          where
            fail_same : (a : ℕ) (other : List ℕ) → Logs (audit_record b (f ∷ fs)) ≡ Logs (audit_record a other) → (b ≡ a) × (f ∷ fs ≡ other)
            fail_same a [] e = absurd (cc)
            fail_same a (r ∷ rs) e = (let is : b ≡ a = cc in is, let is : f ∷ fs ≡ r ∷ rs = cc in is)

    alone : (found : List ℕ) → values_of (Logs (audit_record b found)) ≡ system_note ∷ []
    alone [] = refl
    alone (f ∷ fs) = refl

    named : (found : List ℕ) → StepsFit (Did (Logs (audit_record b found)) c) (Does (AuditEnds b found) ∷ [])
    named [] = refl
    named (f ∷ fs) = refl

    pub audit_end_line : Follows bases p o now (row n c (Logs (audit_record b (damaged fs))) (audit_ended y b (damaged fs)) (Does (AuditEnds b (damaged fs))))
    audit_end_line =
        line_follows bases p o now n c hand.count (Logs (audit_record b (damaged fs))) (alone (damaged fs)) end_fits
        (audit_ended y b (damaged fs)) (Does (AuditEnds b (damaged fs)))
        (audit_ends_land bases p o now (by_both n c) c b (damaged fs) y hand.led hand.is may_log audit_fits) refl (named (damaged fs)) refl (λ f. absurd (cc))

  -- ---- a claim that is given back
  module _ (t : ℕ) (w : MayGiveBack c t o seen) where
    alive : is_alive (state_by o (plain seen) t) ≡ true
    alive = ap is_alive w.cleans.state

    kept : (actor_by t (plain now) ≡ Some c) × (state_by o (plain now) t ≡ state_by o (plain seen) t)
    kept = actor_stays o t c (plain seen) (plain now) good mine w.cleans.actor alive

    pub claimed_now : state_of y t ≡ Some (Claimed w.latched)
    claimed_now = ap (λ (z : SystemState). state_of z t) hand.is ∙ (states_are_told bases p o now t hand.led ∙ (kept.1 ∙ w.cleans.state))

    pub give_line : Follows bases p o now (row n c (GivesTxnBack t None) (in_state y t (Dead None)) (Does (GivesBack t None)))
    give_line =
        line_follows bases p o now n c hand.count (GivesTxnBack t None) refl
        (fits_so o (plain now) (GivesTxnBack t None) c refl (λ r. refl) tt (λ u e. of_one (plain now) c t u kept.0 e) tt)
        (in_state y t (Dead None)) (Does (GivesBack t None))
        (gives_back_land bases p o now (by_both n c) c t w.latched None y hand.is claimed_now hand.led
        (none_live_is_seen o t c (plain seen) (plain now) good mine w.cleans.actor alive w.none_live)
        (λ r e. absurd (cc))
        (λ r low e. absurd (w.none_dead r low (dead_is_seen o r t c (plain seen) (plain now) good mine w.cleans.actor alive e)))
        (gives_back_right bases p o now c t w.latched None y hand.led hand.is claimed_now kept.0 (λ r e. absurd (cc))))
        refl refl refl (λ f. absurd (cc))

  -- ---- a request
  module _ (q : Planned) (w : Asking c q o seen) (fresh : IsNew q) (runs : y.stop ≡ None) where
    abbrev t : ℕ
    t = q.txn

    abbrev k : ℕ
    k = call_key q.call

    abbrev m : Mode
    m = mode_of q.call

    abbrev rests : Resting c t o now
    rests = resting_now bases p o n c seen y now hand t w.resting

    lives : state_of y t ≡ Some Live
    lives = ap (λ (z : SystemState). state_of z t) hand.is ∙ lives_now bases p o n c seen y now hand t rests.acts

    rest : IsAtRest (core_told o now).regions (core_told o now).system q
    rest = record {
      sizes = w.sizes ∙ sym (sizes bases p o n c seen y now hand);
      whole = (whole bases p o n c seen y now hand).regions;
      lives = lives_now bases p o n c seen y now hand t rests.acts;
      closed = ap (λ (x : Planned). x.operation) fresh;
    }

    asked : (a : LockAnswer) → IsAnswer y.locks t k m a → IsAsked a (log_by o (plain now)) (core_told o now) q (core (core_told o now).regions (after_request (core_told o now).system t k m a) (core_told o now).vault)
    asked a is =
        asked_there (record { state = (core_told o now).system; promised = empty }) (record { state = after_request (core_told o now).system t k m a; promised = empty }) t q a refl
        (subst (λ (z : SystemState). IsAnswer z.locks t k m a) hand.is is) refl (log_by o (plain now)) (core_told o now).regions (core_told o now).vault fresh rest rests.may

    pub grant_line : IsAnswer y.locks t k m Granted → Follows bases p o now (row n c (GetsLock t k m) (granted y t k m) (Does (Locks t k m)))
    grant_line free =
        line_follows bases p o now n c hand.count (GetsLock t k m) refl
        (fits_so o (plain now) (GetsLock t k m) c refl (λ r. refl) tt (λ u e. of_one (plain now) c t u rests.acts.actor e) tt)
        (granted y t k m) (Does (Locks t k m)) (grants_land bases p o now (by_both n c) c t k m y hand.is runs lives free) refl refl refl (λ f. absurd (cc))

    pub grant_drives : IsAnswer y.locks t k m Granted → Driving c q o (now ++ row n c (GetsLock t k m) (granted y t k m) (Does (Locks t k m)) ∷ [])
    grant_drives free =
        let e : Line = row n c (GetsLock t k m) (granted y t k m) (Does (Locks t k m)) in
        let there = asked Granted free in
        let core_is : core (core_told o now).regions (granted (core_told o now).system t k m) (core_told o now).vault ≡ core_told o (now ++ e ∷ []) =
        ap (λ (z : SystemState). core (core_told o now).regions (granted z t k m) (core_told o now).vault) (sym hand.is) ∙ sym (told_push o now e) in
        let log_is : log_by o (plain now) ≡ log_by o (plain (now ++ e ∷ [])) = sym (log_push o now e ∙ append-nil (log_by o (plain now))) in
        record {
          acts = record { actor = actor_push o now e t ∙ rests.acts.actor; lives = state_push o now e t ∙ rests.acts.lives };
          rest = subst (λ (C : CoreState). IsAtRest C.regions C.system q) core_is there.2;
          at = subst (λ C. AtPlan (log_by o (plain (now ++ e ∷ []))) C q) core_is (subst (λ L. AtPlan L (core (core_told o now).regions (granted (core_told o now).system t k m) (core_told o now).vault) q) log_is there.1);
        }

    -- a refusal
    module _ (h : ℕ) (busy : IsAnswer y.locks t k m (Busy h)) (only : HasOnly o (plain seen) c (Some t) None) where
      abbrev f : Refusal
      f = refusal_at y t k m h

      abbrev dead : Bool
      dead = is_dead_in (state_of y h)

      only_now : HasOnly o (plain now) c (Some t) None
      only_now = only_seen bases p o seen now c (Some t) None hand.led hand.mine only

      lands_so : (b : Bool) → dead ≡ b → Lands bases p o now (by_both n c, (Did (deed_of b f) c, OnSystem (refused y t k m h), Does (Refuses t k m h) ∷ []))
      lands_so true e =
          yields_land bases p o now (by_both n c) c t k h m y (FindsDead f) hand.is (row_there y t Live lives) busy (inr refl) (finds_dead_right bases p o now c t k h m y hand.led hand.is runs e)
      lands_so false e =
          yields_land bases p o now (by_both n c) c t k h m y (Yields f) hand.is (row_there y t Live lives) busy (inl refl)
          (yields_by_own bases p o now c t k h m None y hand.led hand.is busy runs e only_now (λ g. absurd (cc)))

      follows_so : (b : Bool) → dead ≡ b → Follows bases p o now (row n c (deed_of b f) (refused y t k m h) (Does (Refuses t k m h)))
      follows_so true e =
          line_follows bases p o now n c hand.count (FindsDead f) refl
          (fits_so o (plain now) (FindsDead f) c refl (λ r. refl) tt (λ u g. of_one (plain now) c t u rests.acts.actor g) tt)
          (refused y t k m h) (Does (Refuses t k m h)) (lands_so true e) refl refl refl (λ g. absurd (cc))
      follows_so false e =
          line_follows bases p o now n c hand.count (Yields f) refl
          (fits_so o (plain now) (Yields f) c refl (λ r. refl) tt (λ u g. of_one (plain now) c t u rests.acts.actor g) tt)
          (refused y t k m h) (Does (Refuses t k m h)) (lands_so false e) refl refl refl (λ g. absurd (cc))

      pub busy_line : Follows bases p o now (row n c (deed_of dead f) (refused y t k m h) (Does (Refuses t k m h)))
      busy_line = follows_so dead refl

      rests_so : (b : Bool) → Resting c t o (now ++ row n c (deed_of b f) (refused y t k m h) (Does (Refuses t k m h)) ∷ [])
      rests_so b = record { acts = by_kind b; may = subst (λ C. MayCall (log_by o (plain (now ++ row n c (deed_of b f) (refused y t k m h) (Does (Refuses t k m h)) ∷ []))) C t) core_is (subst (λ L. MayCall L (core (core_told o now).regions (refused (core_told o now).system t k m h) (core_told o now).vault) t) (sym (log_so b)) (asked (Busy h) busy).1) }
        where
          core_is : core (core_told o now).regions (refused (core_told o now).system t k m h) (core_told o now).vault ≡ core_told o (now ++ row n c (deed_of b f) (refused y t k m h) (Does (Refuses t k m h)) ∷ [])
          core_is = ap (λ (z : SystemState). core (core_told o now).regions (refused z t k m h) (core_told o now).vault) (sym hand.is) ∙ sym (told_push o now (row n c (deed_of b f) (refused y t k m h) (Does (Refuses t k m h))))

          log_so : (b : Bool) → log_by o (plain (now ++ row n c (deed_of b f) (refused y t k m h) (Does (Refuses t k m h)) ∷ [])) ≡ log_by o (plain now)
          log_so true = log_push o now (row n c (deed_of true f) (refused y t k m h) (Does (Refuses t k m h))) ∙ append-nil (log_by o (plain now))
          log_so false = log_push o now (row n c (deed_of false f) (refused y t k m h) (Does (Refuses t k m h))) ∙ append-nil (log_by o (plain now))

          by_kind : (b : Bool) → Acts c t o (now ++ row n c (deed_of b f) (refused y t k m h) (Does (Refuses t k m h)) ∷ [])
          by_kind true = let e : Line = row n c (deed_of true f) (refused y t k m h) (Does (Refuses t k m h)) in record { actor = actor_push o now e t ∙ rests.acts.actor; lives = state_push o now e t ∙ rests.acts.lives }
          by_kind false = let e : Line = row n c (deed_of false f) (refused y t k m h) (Does (Refuses t k m h)) in record { actor = actor_push o now e t ∙ rests.acts.actor; lives = state_push o now e t ∙ rests.acts.lives }

      pub busy_rests : Resting c t o (now ++ row n c (deed_of dead f) (refused y t k m h) (Does (Refuses t k m h)) ∷ [])
      busy_rests = rests_so dead
