-- The end of an audit of a client: its verdict is logged and flushed, or it is refused.
use Rattle.std.proofs.Common.{◌≡◌, ℕ, ◌+◌, ◌<◌, ◌≤◌, Bool, true, false, List, [], ◌∷◌, ◌++◌, length, Option, Some, None, is_some, refl, ap, sym, subst, ◌∙◌, inl, inr, arith, length-append}
use Rattle.std.proofs.lemmas.Bool.{ne_eqb}
use Rattle.std.proofs.lemmas.List.{append_assoc}
use Rattle.dali_geometry.specs.Places.{regions}
use Rattle.dali_record.specs.declared.records.Record.{Record}
use Rattle.dali_record.specs.declared.records.Record.TheVariants.{AuditBegin}
use Rattle.dali_region.specs.State.{RegionState}
use Rattle.dali_store.specs.Store.{Files as Disk}
use Rattle.dali_store.specs.declared.store.Store.{Ghosts}
use Rattle.dali_runs.specs.declared.causes.Cause.{Cause}
use Rattle.dali_runs.specs.State.{SystemState, CoreState, stable}
use Rattle.dali_runs.specs.Steps.{audit_ended, audit_record, taken, store_stopped}
use Rattle.dali_runs.specs.Keeps.{with_system}
use Rattle.dali_runs.specs.Courses.{AuditEnds, Takes, Flushes}
use Rattle.dali_crash.specs.Checkpoints.{Does, Point, IsPointStep, copies_after, moment_of}
use Rattle.dali_crash.specs.Traces.{Start, bases_of}
use Rattle.dali_core.specs.Vault.Vaulted.{Vaulted}
use Rattle.dali_core.specs.Cores.{IsWholeCore}
use Rattle.dali_core.specs.Flushed.{AllFlushed, FlushesAll, HasStopped, FlushFails}
use Rattle.dali_audit.specs.Findings.{Audited, damaged}
use Rattle.dali_audit.proofs.Stepping.{end_is_step}
use Rattle.dali_transcripts.specs.Words.{Audits as AuditAct, StoppedBy, StoreFailed, AuditSaid, Refused}
use Rattle.dali_transcripts.specs.World.{Deed, Logs, Meets, World, log_of, IsLost, stop_at}
use Rattle.dali_transcripts.specs.Moves.{Receipt, Outside as IsOutside, Spot, at, Move, Audits as IsAudit, IsRefusedAudit, own}
use Rattle.dali_transcripts.specs.Causes.{IsCutAudit, MetCause, AreUnfinished, IsRight}
use Rattle.dali_transcripts.specs.Laws.{receipts_from}
use Rattle.dali_transcripts.specs.Rounds.{Standing, IsPlaced, by}
use Rattle.dali_transcripts.specs.Telling.Tells.{after}
use Rattle.dali_turns.specs.declared.client.Client.{Client}
use Rattle.dali_turns.specs.declared.client.State.{State}
use Rattle.dali_turns.specs.declared.client.State.TheVariants.{Outside, Auditing}
use Rattle.dali_turns.specs.Stood.{Stood}
use Rattle.dali_turns.specs.Audits.{IsPassing, FitsAuditing}
use Rattle.dali_turns.specs.Fits.{rest_of, lines_of, IsOf, Audits as IsIn, Fits}
use Rattle.dali_turns.specs.Goes.{Went}
use Rattle.dali_turns.proofs.Refusals.{done_last, HasCauseNow, met_now, right_now, stop_now, runs_there}
use Rattle.dali_turns.proofs.Beside.{course_longer}
use Rattle.dali_turns.proofs.Passing.{all_passed}
use Rattle.dali_turns.proofs.Auditing.{rows_same}
use Rattle.dali_turns.proofs.Flushing.{did_flush, did_fault}
use Rattle.dali_turns.proofs.Doing.{vault_stops, Did, did_nothing, did_meet, did_quietly, did_then, ended, outside_by, went_on, went_by, went_silent}

-- deeds, one behind others
pub one_then : (w : World) (c : ℕ) (x : Deed) (es : List Deed) (d e : CoreState) → after (after w c (x ∷ []) d) c es e ≡ after w c (x ∷ es) e
one_then w c x es d e = ap (λ h. record w { happened = h; core = e }) (append_assoc w.happened ((x, c) ∷ []) (by c es))

-- a store that failed has stopped the engine
pub vault_runs : (v y : Bool) → (v ≡ true → y ≡ true) → y ≡ false → v ≡ false
vault_runs true y stops e = let no : true ≡ false = sym (stops refl) ∙ e in absurd (cc)
vault_runs false y stops e = refl

-- an audit ends while the engine runs
audit_right : (w : World) (c i b : ℕ) (found : List ℕ) → stop_at w i ≡ None → IsRight w c i (Logs (audit_record b found))
audit_right w c i b [] runs = runs
audit_right w c i b (r ∷ rs) runs = runs

-- an audit whose end the store never got
pub lost_audit : (w : World) (b n : ℕ) (found : List ℕ) → IsLost w n → IsCutAudit w false ((b, Logs AuditBegin) ∷ (n, Logs (audit_record b found)) ∷ [])
lost_audit w b n [] lost = (refl, inr lost)
lost_audit w b n (r ∷ rs) lost = (refl, lost)

-- what is flushed is logged
pub flushed_within : {V : Type 0} (means : Ghosts V) (s : Start) (B : List (List Record)) (p : Point) (w : World) (precheck : Bool) (gs : List RegionState) (y : SystemState) (v : Vaulted V)
    → Stood means s B p w precheck gs y v → stable p.core ≤ length p.log
flushed_within means s B p w precheck gs y v stood = let run = stood.stands.at.vault.run.run in omega (arith, run.run.vault.within, ap length run.log)

-- a fault in a flush flushes nothing
pub same_stable : {V : Type 0} (means : Ghosts V) (s : Start) (B : List (List Record)) (p : Point) (gs : List RegionState) (z : SystemState) (u : Vaulted V)
    → (f : HasStopped means s B p gs z u) → stable f.to.core ≡ stable p.core
same_stable means s B p gs z u f =
    ap (λ (q : Point). stable q.core) (sym f.course.2.2.2)
    ∙ (ap stable f.course.2.2.1.1.0.1.1 ∙ (ap stable f.course.2.1.1.0.2.1 ∙ ap stable f.course.1.1.0.1))

-- ---- the end is logged, whoever makes it
abbrev pub ended_point : Point → ℕ → List ℕ → Point
ended_point p b found = record p {
  log = p.log ++ audit_record b found ∷ [];
  core = with_system p.core (audit_ended p.core.system b found);
  copies = copies_after p.core (AuditEnds b found) p.copies;
}

module _ {V : Type 0} (means : Ghosts V)
    (precheck : Bool) (s : Start) (B : List (List Record)) (p : Point) (w : World) (gs : List RegionState) (y : SystemState) (v : Vaulted V) (stood : Stood means s B p w precheck gs y v)
    (c : ℕ) (state : State) (audit : Audited) (next : ℕ) (passing : IsPassing p w audit next) (mine : (b : ℕ) → (IsIn state b → ⊥) → audit.begin ≡ b → ⊥) (all : length gs ≤ next) (runs : y.stop ≡ None) where
  sizes_there : length gs ≡ regions p.core.system.sizes
  sizes_there = ap length (sym stood.stands.at.regions) ∙ stood.stands.whole.regions

  pub end_step : IsPointStep p (Does (AuditEnds audit.begin (damaged audit.findings))) (ended_point p audit.begin (damaged audit.findings))
  end_step = (
    refl,
    end_is_step (moment_of p) audit.begin audit.findings passing.auditing passing.findings passing.fits passing.count passing.few
        (all_passed p w audit next passing (omega (arith, all, sizes_there))) (ap (λ (m : SystemState). m.stop) stood.stands.at.system ∙ runs),
    refl,
  )

  pub did_end : Did means precheck s B p w c state gs y v (Logs (audit_record audit.begin (damaged audit.findings)) ∷ []) B (ended_point p audit.begin (damaged audit.findings)) gs (audit_ended y audit.begin (damaged audit.findings)) v
  did_end = did_quietly means precheck s B p w gs y v stood c state (ended_point p audit.begin (damaged audit.findings)) (AuditEnds audit.begin (damaged audit.findings)) (Logs (audit_record audit.begin (damaged audit.findings)) ∷ [])
      (audit_ended y audit.begin (damaged audit.findings)) gs refl end_step (refl, passing.began) (
        audit_right (after w c (Logs (audit_record audit.begin (damaged audit.findings)) ∷ []) (ended_point p audit.begin (damaged audit.findings)).core) c (length w.happened) audit.begin (damaged audit.findings)
            (runs_there (bases_of s) s.log w c p stood.stands.at.vault.run stood.tells (vault_stops means precheck s B p w gs y v stood) (Logs (audit_record audit.begin (damaged audit.findings)))
            (ended_point p audit.begin (damaged audit.findings)).core (ap (λ (m : SystemState). m.stop) stood.stands.at.system ∙ runs)),
        tt,
      )
      (ap (λ (m : SystemState). audit_ended m audit.begin (damaged audit.findings)) stood.stands.at.system) stood.stands.at.regions refl stood.stands.dead (λ fs held. held)
      (record { unclaimed = stood.quiet.unclaimed })
      (λ some. let none : is_some y.stop ≡ false = ap is_some runs in absurd (cc))
      (λ t lives other. refl) (λ b other. ne_eqb audit.begin b (mine b other))

  pub vault_is : v.stopped ≡ false
  vault_is = vault_runs v.stopped (is_some y.stop) stood.stops (ap is_some runs)

  pub end_number : length (log_of (after w c (Logs (audit_record audit.begin (damaged audit.findings)) ∷ []) (ended_point p audit.begin (damaged audit.findings)).core)) ≡ length (log_of w) + 1
  end_number = ap length (sym did_end.goes.tells.log) ∙ omega (arith, length-append p.log (audit_record audit.begin (damaged audit.findings) ∷ []), ap length stood.tells.log)

module _ {V : Type 0} (means : Ghosts V)
    (precheck : Bool) (s : Start) (B : List (List Record)) (p : Point) (w : World) (a : Standing) (gs : List RegionState) (y : SystemState) (v : Vaulted V) (k j : Client)
    (stood : Stood means s B p w precheck gs y v) (is : IsOf w a k)
    (audit : Audited) (next : ℕ) (fits : FitsAuditing p w a (rest_of k) audit next) where
  abbrev state : State
  state = Auditing audit next

  abbrev found : List ℕ
  found = damaged audit.findings

  abbrev number : ℕ
  number = length (log_of w)

  placed : IsPlaced false fits.more
  placed = subst (IsPlaced false) fits.audits fits.placed

  starts : a.spot ≡ at (IsOutside false) (AuditAct ∷ fits.more)
  starts = fits.spot ∙ ap (at (IsOutside false)) fits.audits

  -- ---- the end is logged
  module _ (all : length gs ≤ next) (runs : y.stop ≡ None) where
    abbrev q : Point
    q = ended_point p audit.begin found

    abbrev z : SystemState
    z = audit_ended y audit.begin found

    one : Did means precheck s B p w a.client state gs y v (Logs (audit_record audit.begin found) ∷ []) B q gs z v
    one = did_end means precheck s B p w gs y v stood a.client state audit next fits.passing (λ b other. other) all runs

    vault_here : v.stopped ≡ false
    vault_here = vault_is means precheck s B p w gs y v stood a.client state audit next fits.passing (λ b other. other) all runs

    abbrev mid : World
    mid = after w a.client (Logs (audit_record audit.begin found) ∷ []) q.core

    mid_number : length (log_of mid) ≡ number + 1
    mid_number = end_number means precheck s B p w gs y v stood a.client state audit next fits.passing (λ b other. other) all runs

    -- ---- and flushed
    module _ (x : SystemState) (u : Vaulted V) (is_taken : x ≡ taken z) (same : u.stopped ≡ v.stopped) (whole : IsWholeCore means.told gs z v → IsWholeCore means.told gs x u) (flushes : FlushesAll means gs z v x u) where
      f : AllFlushed means s q gs v x u
      f = flushes s B q one.stood.stands.at

      abbrev move : Move
      move = IsAudit audit.begin number found None fits.more

      did_all : Did means precheck s B p w a.client state gs y v (Logs (audit_record audit.begin found) ∷ []) f.batches f.to gs x u
      did_all = did_then means precheck s B B f.batches p q f.to w a.client state gs gs gs y z x v v u (Logs (audit_record audit.begin found) ∷ []) [] stood (λ _. vault_here) one
          (did_flush means precheck s B q mid a.client state gs z x v u one.stood is_taken (same ∙ vault_here) whole f)

      flushed : number < stable f.to.core
      flushed = omega (arith, f.all, course_longer q f.to (Does Takes ∷ Does Flushes ∷ []) f.course, length-append p.log (audit_record audit.begin found ∷ []), ap length stood.tells.log)

      own_is : a.pending ++ receipts_from number (Logs (audit_record audit.begin found) ∷ []) ≡ own move
      own_is = ap (λ xs. xs ++ (number, Logs (audit_record audit.begin found)) ∷ []) fits.pending

      pub ends : j.transcript.client ≡ k.transcript.client → lines_of j ≡ lines_of k ++ AuditSaid found ∷ [] → rest_of j ≡ fits.more → j.state ≡ Outside → Went means precheck s B p w a state gs y v true j gs x u
      ends client lines rest now =
          went_by means precheck s B f.batches p f.to w a state gs gs y x v u (Logs (audit_record audit.begin found) ∷ []) k j is did_all move starts own_is flushed client lines
          (subst (λ (m : State). Fits means s f.batches f.to (after w a.client (Logs (audit_record audit.begin found) ∷ []) f.to.core) gs x u (ended a move) (rest_of j) m) (sym now) (outside_by x a move false fits.more (rest_of j) rest (λ e. absurd (cc)) refl placed))
          (rows_same state j.state y x (ap (λ (m : SystemState). m.table) is_taken) (λ t none. none))

      pub ends_silent : j.transcript ≡ k.transcript → Went means precheck s B p w a state gs y v false j gs x u
      ends_silent silent = went_silent means precheck s B f.batches p f.to w a state gs gs y x v u (Logs (audit_record audit.begin found) ∷ []) k j is did_all move starts own_is flushed silent

    -- ---- or the flush failed
    module _ (x : SystemState) (u : Vaulted V) (is_stopped : x ≡ store_stopped (taken z)) (stopped : u.stopped ≡ true) (whole : IsWholeCore means.told gs z v → IsWholeCore means.told gs x u) (fails : FlushFails means gs z v x u) where
      g : HasStopped means s B q gs x u
      g = fails s B q one.stood.stands.at

      abbrev failure : Move
      failure = IsRefusedAudit false ((audit.begin, Logs AuditBegin) ∷ (number, Logs (audit_record audit.begin found)) ∷ []) (number + 1) StoreFailed fits.more

      abbrev late : World
      late = after w a.client (Logs (audit_record audit.begin found) ∷ Meets StoreFailed ∷ []) g.to.core

      did_failure : Did means precheck s B p w a.client state gs y v (Logs (audit_record audit.begin found) ∷ Meets StoreFailed ∷ []) B g.to gs x u
      did_failure = did_then means precheck s B B B p q g.to w a.client state gs gs gs y z x v v u (Logs (audit_record audit.begin found) ∷ []) (Meets StoreFailed ∷ []) stood (λ _. vault_here) one
          (did_fault means precheck s B q mid a.client state gs z x v u one.stood is_stopped stopped whole g)

      failure_own : a.pending ++ receipts_from number (Logs (audit_record audit.begin found) ∷ Meets StoreFailed ∷ []) ≡ own failure
      failure_own = ap (λ xs. xs ++ (number, Logs (audit_record audit.begin found)) ∷ (number + 1, Meets StoreFailed) ∷ []) fits.pending

      lost : IsLost late number
      lost = (g.at.vault.vault.stopped ∙ stopped, omega (arith, same_stable means s B q gs x u g, flushed_within means s B p w precheck gs y v stood, ap length stood.tells.log))

      met : MetCause late a.client (number + 1) AuditAct None StoreFailed
      met = subst (λ (m : World). MetCause m a.client (number + 1) AuditAct None StoreFailed) (one_then w a.client (Logs (audit_record audit.begin found)) (Meets StoreFailed ∷ []) q.core g.to.core)
          (subst (λ (n : ℕ). MetCause (after mid a.client (Meets StoreFailed ∷ []) g.to.core) a.client n AuditAct None StoreFailed) mid_number (record { met = done_last mid a.client (Meets StoreFailed) g.to.core; cause = tt }))

      pub fails_end : j.transcript.client ≡ k.transcript.client → lines_of j ≡ lines_of k ++ Refused AuditAct StoreFailed ∷ [] → rest_of j ≡ fits.more → j.state ≡ Outside → Went means precheck s B p w a state gs y v true j gs x u
      fails_end client lines rest now =
          went_by means precheck s B B p g.to w a state gs gs y x v u (Logs (audit_record audit.begin found) ∷ Meets StoreFailed ∷ []) k j is did_failure failure starts failure_own
          ((lost_audit late audit.begin number found lost, refl), met) client lines
          (subst (λ (m : State). Fits means s B g.to late gs x u (ended a failure) (rest_of j) m) (sym now) (outside_by x a failure true fits.more (rest_of j) rest (λ e. did_failure.stood.stops stopped) refl placed))
          (rows_same state j.state y x (ap (λ (m : SystemState). m.table) is_stopped) (λ t none. none))

      pub fails_silent : j.transcript ≡ k.transcript → Went means precheck s B p w a state gs y v false j gs x u
      fails_silent silent = went_silent means precheck s B B p g.to w a state gs gs y x v u (Logs (audit_record audit.begin found) ∷ Meets StoreFailed ∷ []) k j is did_failure failure starts failure_own
          ((lost_audit late audit.begin number found lost, refl), met) silent

  -- ---- or it is refused, for the engine is stopped
  module _ (cause : Cause) (stop : y.stop ≡ Some cause) where
    cause_here : HasCauseNow w a.client p.core AuditAct None (StoppedBy cause)
    cause_here = stop_now (bases_of s) s.log w a.client p stood.stands.at.vault.run stood.tells (vault_stops means precheck s B p w gs y v stood) AuditAct None cause tt (ap (λ (m : SystemState). m.stop) stood.stands.at.system ∙ stop)

    stop_did : Did means precheck s B p w a.client state gs y v (Meets (StoppedBy cause) ∷ []) B p gs y v
    stop_did = did_meet means precheck s B p w gs y v stood a.client state (StoppedBy cause) tt (right_now w a.client p.core AuditAct None (StoppedBy cause) cause_here)

    abbrev refusal : Move
    refusal = IsRefusedAudit false ((audit.begin, Logs AuditBegin) ∷ []) number (StoppedBy cause) fits.more

    refusal_own : a.pending ++ receipts_from number (Meets (StoppedBy cause) ∷ []) ≡ own refusal
    refusal_own = ap (λ xs. xs ++ (number, Meets (StoppedBy cause)) ∷ []) fits.pending

    met_here : MetCause (after w a.client (Meets (StoppedBy cause) ∷ []) p.core) a.client number AuditAct None (StoppedBy cause)
    met_here = met_now w a.client p.core AuditAct None (StoppedBy cause) cause_here

    pub stops_end : j.transcript.client ≡ k.transcript.client → lines_of j ≡ lines_of k ++ Refused AuditAct (StoppedBy cause) ∷ [] → rest_of j ≡ fits.more → j.state ≡ Outside → Went means precheck s B p w a state gs y v true j gs y v
    stops_end client lines rest now =
        went_by means precheck s B B p p w a state gs gs y y v v (Meets (StoppedBy cause) ∷ []) k j is stop_did refusal starts refusal_own (tt, met_here) client lines
        (subst (λ (m : State). Fits means s B p (after w a.client (Meets (StoppedBy cause) ∷ []) p.core) gs y v (ended a refusal) (rest_of j) m) (sym now) (outside_by y a refusal true fits.more (rest_of j) rest (λ e. ap is_some stop) refl placed))
        (rows_same state j.state y y refl (λ t none. none))

    pub stops_silent : j.transcript ≡ k.transcript → Went means precheck s B p w a state gs y v false j gs y v
    stops_silent silent = went_silent means precheck s B B p p w a state gs gs y y v v (Meets (StoppedBy cause) ∷ []) k j is stop_did refusal starts refusal_own (tt, met_here) silent

  -- ---- memory for its record was refused
  pub no_end : j.transcript ≡ k.transcript → Went means precheck s B p w a state gs y v false j gs y v
  no_end same =
      went_on means precheck s B B p p w a state gs gs y y v v [] k j is (did_nothing means precheck s B p w gs y v stood a.client state) false same
      (inl (refl, unfinished (a.pending ++ []) (ap (λ xs. xs ++ []) fits.pending) a.spot starts))
      (λ e. absurd (cc))
    where
      unfinished : (pending : List Receipt) → pending ≡ (audit.begin, Logs AuditBegin) ∷ [] → (spot : Spot) → spot ≡ at (IsOutside false) (AuditAct ∷ fits.more) → AreUnfinished (after w a.client [] p.core) a.client spot.place spot.rest pending
      unfinished pending own spot there =
          subst (λ (x : Spot). AreUnfinished (after w a.client [] p.core) a.client x.place x.rest pending) (sym there)
          (subst (λ xs. AreUnfinished (after w a.client [] p.core) a.client (IsOutside false) (AuditAct ∷ fits.more) xs) (sym own) tt)
