-- The steps of an audit of a client.
use Rattle.std.proofs.Common.{◌≡◌, ℕ, zero, suc, ◌+◌, ◌<◌, ◌≤◌, ◌^◌, Bool, true, false, List, [], ◌∷◌, ◌++◌, length, replicate, Option, Some, None, is_some, if◌then◌else◌, refl, ap, sym, subst, ◌∙◌, ◌⊎◌, inl, inr, arith, length-append}
use Rattle.std.specs.Prelude.{◌||◌, ◌==◌, nat_lt, slice_get, slice_set}
use Rattle.std.proofs.lemmas.Bool.{ltb-false, ltb-true, ne_eqb}
use Rattle.std.proofs.lemmas.Option.{slice_get_within}
use Rattle.std.proofs.lemmas.List.{length-replicate}
use Rattle.dali_runs.proofs.CountsLemmas.Lists.{self, some_same}
use Rattle.dali_geometry.specs.Places.{regions}
use Rattle.dali_record.specs.declared.records.Record.{Record}
use Rattle.dali_record.specs.declared.records.Record.TheVariants.{AuditBegin}
use Rattle.dali_region.specs.State.{RegionState, checked}
use Rattle.dali_store.specs.Store.{Files as Disk}
use Rattle.dali_store.specs.declared.store.Store.{Ghosts}
use Rattle.dali_runs.specs.declared.causes.Cause.{Cause}
use Rattle.std.specs.FinMap as map
use Rattle.dali_lists.proofs.Lists.{get_push}
use Rattle.dali_runs.specs.State.{SystemState, state_in}
use Rattle.dali_runs.specs.Steps.{audit_begun}
use Rattle.dali_runs.specs.Keeps.{with_system, with_region}
use Rattle.dali_runs.specs.Passes.{audits_with}
use Rattle.dali_runs.specs.Audits.{IsAuditing}
use Rattle.dali_runs.specs.Courses.{AuditBegins, Passes, IsStepAt, pass_now}
use Rattle.dali_runs.proofs.OpenAudits.{audit_starts}
use Rattle.dali_system.specs.declared.error.SystemError.{SystemError}
use Rattle.dali_system.specs.declared.error.SystemError.TheVariants.{Stopped, LogFull, OutOfMemory}
use Rattle.dali_system.specs.Refused.{room_of}
use Rattle.dali_system.specs.Audits.{audit_refusal}
use Rattle.dali_crash.specs.Checkpoints.{Does, Point, IsPointStep, copies_after, moment_of}
use Rattle.dali_crash.specs.Traces.{Start, bases_of}
use Rattle.dali_core.specs.Vault.Vaulted.{Vaulted}
use Rattle.dali_audit.specs.declared.audit.Finding.{Finding}
use Rattle.dali_audit.specs.declared.audit.Finding.TheVariants.{Waiting}
use Rattle.dali_audit.specs.Findings.{Audited, finding_of}
use Rattle.dali_audit.specs.Stepped.{AreFindings, behind_pass}
use Rattle.dali_audit.proofs.Stepping.{pass_is_step}
use Rattle.dali_checkpoint.proofs.Audited.{audits_at}
use Rattle.dali_transcripts.specs.Words.{Act, Audits as AuditAct, Why as Reason, Refused, is_stop}
use Rattle.dali_transcripts.specs.World.{Logs, Meets, World, logged_by, log_of}
use Rattle.dali_transcripts.specs.Moves.{Receipt, Outside as IsOutside, Spot, at, Move, IsRefusedAudit, from, own}
use Rattle.dali_transcripts.specs.Causes.{IsCutBy, MetCause, AreUnfinished}
use Rattle.dali_transcripts.specs.Laws.{receipts_from}
use Rattle.dali_transcripts.specs.Rounds.{Standing, IsPlaced}
use Rattle.dali_transcripts.specs.Telling.Deeds.{BeganHere}
use Rattle.dali_transcripts.specs.Telling.Tells.{after}
use Rattle.dali_transcripts.specs.Telling.Laws.{IsNoFault}
use Rattle.dali_transcripts.specs.declared.clients.line.Why.{Why}
use Rattle.dali_transcripts.specs.declared.clients.line.Why.TheVariants.{Stopped as IsStopped, LogFull as IsFull}
use Rattle.dali_transcripts.specs.Clients.Told.{reason_of}
use Rattle.dali_checkpoint.proofs.Whole.{none_found}
use Rattle.dali_turns.specs.declared.client.Client.{Client}
use Rattle.dali_turns.specs.declared.client.State.{State}
use Rattle.dali_turns.specs.declared.client.State.TheVariants.{Outside, Auditing}
use Rattle.dali_turns.specs.Whys.{why_in}
use Rattle.dali_turns.specs.Stood.{Stood}
use Rattle.dali_turns.specs.Outside.{FitsOutside}
use Rattle.dali_turns.specs.Audits.{IsPassing, FitsAuditing}
use Rattle.dali_turns.specs.Fits.{rest_of, lines_of, IsOf, Owns, Fits}
use Rattle.dali_turns.specs.Goes.{RowsTell, Went}
use Rattle.dali_turns.proofs.Refusals.{records_are, runs_on_log, HasCauseNow, met_now, right_now, full_audit, stop_now, runs_there, full_now, may_say_more, says_none}
use Rattle.dali_turns.proofs.Passing.{passed, dead_checked, places_checked, passed_one}
use Rattle.dali_turns.proofs.Doing.{vault_stops, Did, did_nothing, did_meet, did_quietly, behind, ended, outside_by, went_on, went_by, went_silent}
use Rattle.dali_transactions.specs.Beside.Went.{is_open}

get_same : {X : Type 0} (n r : ℕ) (x : X) → r < n → slice_get (replicate n x) r ≡ Some x
get_same zero r x less = absurd (omega (arith, less))
get_same (suc n) zero x less = refl
get_same (suc n) (suc r) x less = get_same n r x (omega (arith, less))

only_waits : (n r : ℕ) (f : Finding) → slice_get (replicate n Waiting) r ≡ Some f → f ≡ Waiting
only_waits zero r f e = absurd (cc)
only_waits (suc n) zero f e = sym (some_same e)
only_waits (suc n) (suc r) f e = only_waits n r f e

-- ---- why an audit's begin is refused
some_why : (a b : Why) → Some b ≡ Some a → b ≡ a
some_why a b e = some_same e

pub has_room : (o : Option Cause) (end limit n : ℕ) → room_of o end limit n ≡ None → (o ≡ None) × (end + n ≤ limit)
has_room (Some cause) end limit n e = absurd (cc)
has_room None end limit n e = (refl, by_test (nat_lt limit (end + n)) refl e)
  where
    by_test : (b : Bool) → nat_lt limit (end + n) ≡ b → (if b then Some (LogFull end limit) else None) ≡ None → end + n ≤ limit
    by_test true f e = absurd (cc)
    by_test false f e = ltb-false limit (end + n) f

-- it is stopped, or the log has no room
abbrev pub RefusesAudit : SystemState → Why → Type 0
RefusesAudit y why = ((cause : Cause) × (why ≡ IsStopped cause) × (y.stop ≡ Some cause)) ⊎ ((why ≡ IsFull y.end (y.limit + 1048576)) × (y.limit + 1048576 < y.end + 1) × (y.stop ≡ None))

pub audit_why : (y : SystemState) (e : SystemError) (why : Why) → (audit_refusal y AuditBegin ≡ None → e ≡ OutOfMemory) → ((f : SystemError) → audit_refusal y AuditBegin ≡ Some f → e ≡ f) → why_in e ≡ Some why → RefusesAudit y why
audit_why y e why memory refused is = by_stop y.stop refl
  where
    by_stop : (o : Option Cause) → y.stop ≡ o → RefusesAudit y why
    by_stop (Some cause) stop =
        let same : e ≡ Stopped cause = refused (Stopped cause) (ap (λ (p : Option Cause). room_of p y.end (y.limit + 1048576) 1) stop) in
        inl (cause, some_why (IsStopped cause) why (sym is ∙ ap why_in same), stop)
    by_stop None stop = by_test (nat_lt (y.limit + 1048576) (y.end + 1)) refl
      where
        by_test : (b : Bool) → nat_lt (y.limit + 1048576) (y.end + 1) ≡ b → RefusesAudit y why
        by_test true f =
            let same : e ≡ LogFull y.end (y.limit + 1048576) = refused (LogFull y.end (y.limit + 1048576)) (ap (λ (p : Option Cause). room_of p y.end (y.limit + 1048576) 1) stop ∙ ap (λ (b : Bool). if b then Some (LogFull y.end (y.limit + 1048576)) else None) f) in
            inr (some_why (IsFull y.end (y.limit + 1048576)) why (sym is ∙ ap why_in same), ltb-true (y.limit + 1048576) (y.end + 1) f, stop)
        by_test false f =
            let same : e ≡ OutOfMemory = memory (ap (λ (p : Option Cause). room_of p y.end (y.limit + 1048576) 1) stop ∙ ap (λ (b : Bool). if b then Some (LogFull y.end (y.limit + 1048576)) else None) f) in
            let none : Some why ≡ None = sym is ∙ ap why_in same in
            absurd (cc)

-- ---- a core of which one step changes no row
pub rows_same : (old new : State) (y z : SystemState) → z.table ≡ y.table → ((t : ℕ) → Owns old t → ⊥) → RowsTell old y new z
rows_same old new y z same none runs t lives = inr (ap (λ m. is_open (state_in (map.get m t))) (sym same) ∙ lives, none t)

-- ---- the begin, whoever makes it
abbrev pub begun_point : Point → Point
begun_point p = record p {
  log = p.log ++ AuditBegin ∷ [];
  core = with_system p.core (audit_begun p.core.system);
  audits = audits_with p.audits p.core.system.records [];
  copies = copies_after p.core AuditBegins p.copies;
}

module _ {V : Type 0} (means : Ghosts V)
    (precheck : Bool) (s : Start) (B : List (List Record)) (p : Point) (w : World) (gs : List RegionState) (y : SystemState) (v : Vaulted V) (stood : Stood means s B p w precheck gs y v)
    (c : ℕ) (state : State) where
  pub numbers : y.records ≡ length (log_of w)
  numbers = ap (λ (z : SystemState). z.records) (sym stood.stands.at.system) ∙ records_are (bases_of s) s.log w p stood.stands.at.vault.run stood.tells

  module _ (stop : y.stop ≡ None) (room : y.end + 1 ≤ y.limit + 1048576) where
    stop_there : p.core.system.stop ≡ None
    stop_there = ap (λ (z : SystemState). z.stop) stood.stands.at.system ∙ stop

    room_there : p.core.system.end + 1 ≤ p.core.system.limit + 1048576
    room_there = subst (λ (z : SystemState). z.end + 1 ≤ z.limit + 1048576) (sym stood.stands.at.system) room

    pub begun_step : IsPointStep p (Does AuditBegins) (begun_point p)
    begun_step = (refl, ((stop_there, room_there, (refl, refl)), refl), refl)

    pub did_begin : Did means precheck s B p w c state gs y v (Logs AuditBegin ∷ []) B (begun_point p) gs (audit_begun y) v
    did_begin = did_quietly means precheck s B p w gs y v stood c state (begun_point p) AuditBegins (Logs AuditBegin ∷ []) (audit_begun y) gs refl begun_step refl
        (runs_there (bases_of s) s.log w c p stood.stands.at.vault.run stood.tells (vault_stops means precheck s B p w gs y v stood) (Logs AuditBegin) (begun_point p).core stop_there, tt)
        (ap audit_begun stood.stands.at.system) stood.stands.at.regions
        refl stood.stands.dead (λ fs held. held) (record { unclaimed = stood.quiet.unclaimed }) (λ e. e) (λ t lives other. refl) (λ b other. refl)

    -- the number of its begin
    number_there : p.core.system.records ≡ y.records
    number_there = ap (λ (z : SystemState). z.records) stood.stands.at.system

    module _ (audit : Audited) (begin : audit.begin ≡ y.records) (findings : audit.findings ≡ replicate (regions y.sizes) Waiting) (small : y.records < 2 ^ 64) (few : regions y.sizes < 2 ^ 32) where
      began : BeganHere (after w c (Logs AuditBegin ∷ []) (begun_point p).core) audit.begin
      began = record {
        since = omega (arith, begin, numbers, length-append w.before (logged_by w.happened));
        began = subst (λ (L : List Record). slice_get L audit.begin ≡ Some AuditBegin) did_begin.goes.tells.log (subst (λ (n : ℕ). slice_get (p.log ++ AuditBegin ∷ []) n ≡ Some AuditBegin) (sym (begin ∙ (numbers ∙ ap length (sym stood.tells.log)))) (get_push p.log AuditBegin));
      }

      pub begun_passing : IsPassing (begun_point p) (after w c (Logs AuditBegin ∷ []) (begun_point p).core) audit 0
      begun_passing = record {
        began = began;
        auditing = subst (λ (n : ℕ). IsAuditing p.core.system.sizes (p.log ++ AuditBegin ∷ []) n) (number_there ∙ sym begin) (audit_starts (bases_of s) p.log p.core (runs_on_log (bases_of s) s.log p stood.stands.at.vault.run) stop_there room_there);
        findings = subst (λ ps. AreFindings ps audit.findings) (sym (audits_at p.core.system.records audit.begin p.audits (begun_point p).audits [] refl true (ap (λ n. n == p.core.system.records) (begin ∙ sym number_there) ∙ self p.core.system.records)))
            (subst (AreFindings []) (sym findings) (none_found (regions y.sizes)));
        count = ap length findings ∙ (length-replicate (regions y.sizes) Waiting ∙ ap (λ (z : SystemState). regions z.sizes) (sym stood.stands.at.system));
        passed = λ r f less at. absurd (omega (arith, less));
        waits = λ r le less. ap (λ fs. slice_get fs r) findings ∙ get_same (regions y.sizes) r Waiting (omega (arith, less, ap length findings, length-replicate (regions y.sizes) Waiting));
        fits = omega (arith, begin, small);
        few = omega (arith, ap length findings, length-replicate (regions y.sizes) Waiting, few);
      }

module _ {V : Type 0} (means : Ghosts V)
    (precheck : Bool) (s : Start) (B : List (List Record)) (p : Point) (w : World) (a : Standing) (gs : List RegionState) (y : SystemState) (v : Vaulted V) (k j : Client)
    (stood : Stood means s B p w precheck gs y v) (is : IsOf w a k) where
  -- ---- the begin of a client's own
  module _ (fits : FitsOutside y a (rest_of k)) (more : List Act) (next : rest_of k ≡ AuditAct ∷ more) where
    module _ (stop : y.stop ≡ None) (room : y.end + 1 ≤ y.limit + 1048576) (audit : Audited) (begin : audit.begin ≡ y.records) (findings : audit.findings ≡ replicate (regions y.sizes) Waiting) (small : y.records < 2 ^ 64) (few : regions y.sizes < 2 ^ 32) where
      silent : fits.said ≡ false
      silent = says_none y fits.said fits.may stop

      abbrev here : World
      here = after w a.client (Logs AuditBegin ∷ []) (begun_point p).core

      pub begins : j.transcript ≡ k.transcript → rest_of j ≡ rest_of k → j.state ≡ Auditing audit 0 → Went means precheck s B p w a Outside gs y v true j gs (audit_begun y) v
      begins same rest state =
          went_on means precheck s B B p (begun_point p) w a Outside gs gs y (audit_begun y) v v (Logs AuditBegin ∷ []) k j is (did_begin means precheck s B p w gs y v stood a.client Outside stop room) true same
          (subst (λ (x : State). Fits means s B (begun_point p) here gs (audit_begun y) v (behind a w (Logs AuditBegin ∷ [])) (rest_of j) x) (sym state) (record {
            more = more;
            audits = rest ∙ next;
            spot = fits.spot ∙ (ap (λ (b : Bool). at (IsOutside b) (rest_of k)) silent ∙ ap (at (IsOutside false)) (sym rest));
            pending = ap (λ xs. xs ++ (length (log_of w), Logs AuditBegin) ∷ []) fits.none ∙ ap (λ (n : ℕ). (n, Logs AuditBegin) ∷ []) (sym (numbers means precheck s B p w gs y v stood a.client Outside) ∙ sym begin);
            placed = subst (IsPlaced false) (sym rest) fits.placed;
            passing = begun_passing means precheck s B p w gs y v stood a.client Outside stop room audit begin findings small few;
          }))
          (λ e. rows_same Outside j.state y (audit_begun y) refl (λ t h. h))

    -- ---- a begin that is refused
    pub record Refusal (r : Reason) : Type 0 where
      pub no_fault : IsNoFault r
      pub cause : HasCauseNow w a.client p.core AuditAct None r
      pub stops : is_stop r ≡ true → is_some y.stop ≡ true
      pub cut : (u : World) → IsCutBy u false r []

    pub refusal : (why : Why) → RefusesAudit y why → Refusal (reason_of why)
    refusal why (inl h) = subst (λ (x : Why). Refusal (reason_of x)) (sym h.1) (record {
      no_fault = tt;
      cause = stop_now (bases_of s) s.log w a.client p stood.stands.at.vault.run stood.tells (vault_stops means precheck s B p w gs y v stood) AuditAct None h.0 tt (ap (λ (z : SystemState). z.stop) stood.stands.at.system ∙ h.2);
      stops = λ e. ap is_some h.2;
      cut = λ u. tt;
    })
    refusal why (inr h) = subst (λ (x : Why). Refusal (reason_of x)) (sym h.0) (record {
      no_fault = tt;
      cause = subst (λ (z : SystemState). HasCauseNow w a.client p.core AuditAct None (full_audit z)) stood.stands.at.system
          (full_now (bases_of s) s.log w a.client p stood.stands.at.vault.run stood.tells (vault_stops means precheck s B p w gs y v stood) (ap (λ (z : SystemState). z.stop) stood.stands.at.system ∙ h.2) (subst (λ (z : SystemState). z.limit + 1048576 < z.end + 1) (sym stood.stands.at.system) h.1));
      stops = λ e. absurd (cc);
      cut = λ u. refl;
    })

    module _ (r : Reason) (h : Refusal r) where
      met_did : Did means precheck s B p w a.client Outside gs y v (Meets r ∷ []) B p gs y v
      met_did = did_meet means precheck s B p w gs y v stood a.client Outside r h.no_fault (right_now w a.client p.core AuditAct None r h.cause)

      met : MetCause (after w a.client (Meets r ∷ []) p.core) a.client (length (log_of w)) AuditAct None r
      met = met_now w a.client p.core AuditAct None r h.cause

      abbrev move : Move
      move = IsRefusedAudit fits.said [] (length (log_of w)) r more

      starts : a.spot ≡ from move
      starts = fits.spot ∙ ap (at (IsOutside fits.said)) next

      own_is : a.pending ++ receipts_from (length (log_of w)) (Meets r ∷ []) ≡ own move
      own_is = ap (λ xs. xs ++ (length (log_of w), Meets r) ∷ []) fits.none

      placed : IsPlaced false more
      placed = subst (IsPlaced false) next fits.placed

      pub refused_begin : j.transcript.client ≡ k.transcript.client → lines_of j ≡ lines_of k ++ Refused AuditAct r ∷ [] → rest_of j ≡ more → j.state ≡ Outside → Went means precheck s B p w a Outside gs y v true j gs y v
      refused_begin client lines rest state =
          went_by means precheck s B B p p w a Outside gs gs y y v v (Meets r ∷ []) k j is met_did move starts own_is (h.cut (after w a.client (Meets r ∷ []) p.core), met) client lines
          (subst (λ (x : State). Fits means s B p (after w a.client (Meets r ∷ []) p.core) gs y v (ended a move) (rest_of j) x) (sym state) (outside_by y a move (fits.said || is_stop r) more (rest_of j) rest (may_say_more y fits.said r fits.may h.stops) refl placed))
          (rows_same Outside j.state y y refl (λ t none. none))

      pub silent_begin : j.transcript ≡ k.transcript → Went means precheck s B p w a Outside gs y v false j gs y v
      silent_begin same = went_silent means precheck s B B p p w a Outside gs gs y y v v (Meets r ∷ []) k j is met_did move starts own_is (h.cut (after w a.client (Meets r ∷ []) p.core), met) same

    -- memory for it was refused
    pub no_begin : j.transcript ≡ k.transcript → Went means precheck s B p w a Outside gs y v false j gs y v
    no_begin same =
        went_on means precheck s B B p p w a Outside gs gs y y v v [] k j is (did_nothing means precheck s B p w gs y v stood a.client Outside) false same
        (inl (refl, unfinished (a.pending ++ []) (ap (λ xs. xs ++ []) fits.none) a.spot (fits.spot ∙ ap (at (IsOutside fits.said)) next)))
        (λ e. absurd (cc))
      where
        unfinished : (pending : List Receipt) → pending ≡ [] → (spot : Spot) → spot ≡ at (IsOutside fits.said) (AuditAct ∷ more) → AreUnfinished (after w a.client [] p.core) a.client spot.place spot.rest pending
        unfinished pending none spot there =
            subst (λ (x : Spot). AreUnfinished (after w a.client [] p.core) a.client x.place x.rest pending) (sym there)
            (subst (λ xs. AreUnfinished (after w a.client [] p.core) a.client (IsOutside fits.said) (AuditAct ∷ more) xs) (sym none) tt)

  -- ---- a pass
  module _ (audit : Audited) (next : ℕ) (fits : FitsAuditing p w a (rest_of k) audit next) (g : RegionState) (there : slice_get gs next ≡ Some g) where
    within : next < length audit.findings
    within = omega (arith, slice_get_within gs next g there, fits.passing.count, stood.stands.whole.regions, ap length stood.stands.at.regions)

    at_point : slice_get p.core.regions next ≡ Some g
    at_point = ap (λ l. slice_get l next) stood.stands.at.regions ∙ there

    abbrev passed_point : Point
    passed_point = record p {
      core = with_region p.core next (checked g);
      audits = audits_with p.audits audit.begin (p.audits audit.begin ++ pass_now p.core next);
      copies = copies_after p.core (Passes audit.begin next) p.copies;
    }

    pass : IsStepAt (moment_of p) (Passes audit.begin next) (behind_pass (moment_of p) audit.begin next g) × AreFindings (p.audits audit.begin ++ pass_now p.core next) (slice_set audit.findings next (finding_of g.stray))
    pass = pass_is_step (moment_of p) audit.begin next audit.findings g fits.passing.auditing fits.passing.findings (fits.passing.waits next (omega arith) within) at_point

    -- a pass of this audit is none of another one
    is_own : (b : ℕ) → (audit.begin ≡ b → ⊥) → (audit.begin == b) ≡ false
    is_own b other = ne_eqb audit.begin b other

    pass_did : Did means precheck s B p w a.client (Auditing audit next) gs y v [] B passed_point (slice_set gs next (checked g)) y v
    pass_did = did_quietly means precheck s B p w gs y v stood a.client (Auditing audit next) passed_point (Passes audit.begin next) [] y (slice_set gs next (checked g)) refl (refl, pass.0, refl) refl tt
        stood.stands.at.system (ap (λ l. slice_set l next (checked g)) stood.stands.at.regions) refl (dead_checked gs next g there stood.stands.dead) (λ fs held. places_checked gs next g fs there held) stood.quiet (λ e. e)
        (λ t lives other. refl) (λ b other. is_own b other)

    pub passes : j.transcript ≡ k.transcript → rest_of j ≡ rest_of k → j.state ≡ Auditing (passed audit next g) (next + 1) → Went means precheck s B p w a (Auditing audit next) gs y v true j (slice_set gs next (checked g)) y v
    passes same rest state =
        went_on means precheck s B B p passed_point w a (Auditing audit next) gs (slice_set gs next (checked g)) y y v v [] k j is pass_did true same
        (subst (λ (x : State). Fits means s B passed_point (after w a.client [] passed_point.core) (slice_set gs next (checked g)) y v (behind a w []) (rest_of j) x) (sym state) (record {
          more = fits.more;
          audits = rest ∙ fits.audits;
          spot = fits.spot ∙ ap (at (IsOutside false)) (sym rest);
          pending = ap (λ xs. xs ++ []) fits.pending;
          placed = subst (IsPlaced false) (sym rest) fits.placed;
          passing = passed_one p passed_point w (after w a.client [] passed_point.core) audit next g fits.passing refl refl refl (sym pass_did.goes.tells.log ∙ stood.tells.log)
              (subst (λ ps. AreFindings ps (slice_set audit.findings next (finding_of g.stray))) (sym (audits_at audit.begin audit.begin p.audits passed_point.audits (p.audits audit.begin ++ pass_now p.core next) refl true (self audit.begin))) pass.1);
        }))
        (λ e. rows_same (Auditing audit next) j.state y y refl (λ t none. none))
