-- What a client's own step leaves of a transaction that it isn't of; and a log that is full.
use Rattle.std.proofs.Common.{◌≡◌, ◌⊎◌, ℕ, ◌+◌, ◌<◌, ◌≤◌, Bool, true, false, List, [], ◌∷◌, ◌++◌, length, Option, Some, None, IsSome, refl, ap, sym, subst, ◌∙◌, inl, inr, arith}
use Rattle.std.specs.Prelude.{nat_lt, slice_get, take, if◌then◌else◌}
use Rattle.std.proofs.lemmas.Bool.{ltb-true}
use Rattle.std.proofs.lemmas.List.{append-nil}
use Rattle.dali_lists.proofs.Lists.{get_behind}
use Rattle.dali_record.specs.declared.records.Answer.{Answer}
use Rattle.dali_record.specs.declared.records.Record.{Record}
use Rattle.dali_record.specs.declared.records.Record.TheVariants.{Begin, Done, AuditBegin}
use Rattle.dali_record.specs.Legal.{TxnState}
use Rattle.dali_record.specs.Spelling.{CanBeSpelled, record_length}
use Rattle.dali_att.specs.declared.state.State.TheVariants.{Live}
use Rattle.dali_runs.specs.declared.causes.Cause.{Cause}
use Rattle.dali_runs.specs.State.{SystemState, CoreState, state_of, state_in}
use Rattle.dali_runs.specs.Run.{Bases, RunsOn}
use Rattle.dali_runs.specs.Keeps.{IsNext}
use Rattle.dali_runs.specs.Courses.{Step}
use Rattle.dali_runs.specs.Facts.Ends.{IsUnbegun}
use Rattle.dali_runs.proofs.FactsLemmas.Ends.{begin_follows, next_is_unbegun}
use Rattle.dali_runs.proofs.FactsLemmas.OlderRows.{rows_are_older}
use Rattle.dali_runs.proofs.CountsLemmas.SmallLogs.{next_is_small}
use Rattle.dali_crash.specs.Checkpoints.{Does, Point}
use Rattle.dali_transcripts.specs.Words.{Act, Why, Full, Begins as BeginAct, Calls, Audits as AuditAct, Checkpoints as CheckpointAct}
use Rattle.dali_transcripts.specs.World.{Deed, Meets, state_step}
use Rattle.dali_transcripts.specs.Telling.Laws.{IsNoFault}
use Rattle.dali_system.specs.declared.error.SystemError.{SystemError}
use Rattle.dali_system.specs.declared.error.SystemError.TheVariants.{LogFull}
use Rattle.dali_system.specs.declared.want.Want.TheVariants.{Done as AnswerIsNext}
use Rattle.dali_system.specs.Refused.{room_of}
use Rattle.dali_calls.specs.Steps.{answer_of}
use Rattle.dali_calls.specs.Plans.{Planned, want_of, answered, IsWhole as IsWholePlan}
use Rattle.dali_calls.specs.Followed.{Follows as PlanFollows}
use Rattle.dali_calls.specs.Others.{is_apart}
use Rattle.dali_calls.specs.Single.Stands.{core, IsAtRest, AtPlan}
use Rattle.dali_calls.specs.Single.Single.{MayCall}
use Rattle.dali_calls.specs.Stepwise.Beside.{LeavesBe}
use Rattle.dali_calls.proofs.Answering.{done_follows}
use Rattle.dali_calls.proofs.Stepping.{done_is_step}
use Rattle.dali_calls.proofs.SingleLemmas.Going.{row_there}
use Rattle.dali_calls.proofs.StepwiseLemmas.Waiting.{each_leaves, plan_waits, call_waits, rest_waits}
use Rattle.dali_concurrent.specs.Entries.{Entry, Did, actor_by, actor_step}
use Rattle.dali_concurrent.specs.Rules.{Outset, log_by, state_by}
use Rattle.dali_concurrent.specs.Told.{Leaves, OnSystem, effect_on, Line, History, plain, core_told}
use Rattle.dali_concurrent.specs.Landing.{Stands, Landing}
use Rattle.dali_concurrent.specs.Kept.{Follows}
use Rattle.dali_concurrent.specs.Holds.{IsLed}
use Rattle.dali_concurrent.specs.Refused.{MeetsFor, limit_for}
use Rattle.dali_concurrent.proofs.Lists.{take_length}
use Rattle.dali_concurrent.proofs.Told.{told_push}
use Rattle.dali_concurrent.proofs.Landing.{onward}
use Rattle.dali_concurrent.proofs.Holds.{states_are_told}
use Rattle.dali_concurrent.proofs.Refused.{refusal_lands, full_for}
use Rattle.dali_locked.specs.Sights.{Acts}
use Rattle.dali_locked.specs.SystemSteps.{Resting, Driving}
use Rattle.dali_locked.proofs.SystemLines.{by_both, meeting_follows}
use Rattle.dali_locked.proofs.SystemTelling.{InHand, log_push, state_push, actor_push, runs_now}
use Rattle.dali_locked.proofs.SystemCases.{fits_so, at, resting_now, driving_now, lives_now}
use Rattle.dali_locked.proofs.SystemMore.{row}

-- a system with room for so many bytes
abbrev roomy : SystemState → ℕ → SystemState
roomy y n = record y { stop = None; limit = y.end + n }

same_acts : (c t : ℕ) (o : Outset) (now new : History) → actor_by t (plain new) ≡ actor_by t (plain now) → state_by o (plain new) t ≡ state_by o (plain now) t → Acts c t o now → Acts c t o new
same_acts c t o now new actor state acts = record { actor = actor ∙ acts.actor; lives = state ∙ acts.lives }

module _ (bases : Bases) (p : Point) (o : Outset) (n c : ℕ) (seen : History) (y : SystemState) (now : History) (hand : InHand bases p o n c seen y now) where
  -- ---- a step that isn't one of t
  module _ (d : Deed) (z : SystemState) (x : Step) (behind : IsLed bases p o (now ++ row n c d z (Does x) ∷ [])) (t : ℕ) (apart : is_apart t x ≡ true)
      (same : (a : Option ℕ) → actor_step t a (by_both n c, Did d c) ≡ a)
    where
      abbrev e : Line
      e = row n c d z (Does x)

      follows : Follows bases p o now e
      follows = subst (λ S. Follows bases p o S e) (take_length now (e ∷ [])) (behind.all (length now) e (get_behind now e []))

      abbrev q : Point
      q = (at bases p o n c seen y now hand).0

      abbrev stands : Stands bases p o now q
      stands = (at bases p o n c seen y now hand).1

      abbrev to : Point
      to = (follows.lands q stands).0

      abbrev landing : Landing o now e q to
      landing = (follows.lands q stands).1

      then_stands : Stands bases p o (now ++ e ∷ []) to
      then_stands = onward bases p o now e q to stands landing

      left : state_of (core_told o now).system t ≡ Some Live → LeavesBe t (log_by o (plain now)) (core_told o now) (log_by o (plain (now ++ e ∷ []))) (core_told o (now ++ e ∷ []))
      left lives =
          let mid : Point = landing.course.0 in
          let less : t < q.core.system.next =
          subst (λ (k : CoreState). t < k.system.next) (sym stands.comes.core) (rows_are_older bases (log_by o (plain now)) (core_told o now) (runs_now bases p o n c seen y now hand) t (row_there (core_told o now).system t Live lives)) in
          let be : LeavesBe t q.log q.core mid.log mid.core = each_leaves t q.log mid.log q.core mid.core x less apart landing.course.1.1.0 in
          let end : LeavesBe t q.log q.core to.log to.core = subst (λ (m : Point). LeavesBe t q.log q.core m.log m.core) landing.course.2 be in
          subst (λ C. LeavesBe t (log_by o (plain now)) (core_told o now) (log_by o (plain (now ++ e ∷ []))) C) landing.core
          (subst (λ L. LeavesBe t (log_by o (plain now)) (core_told o now) L to.core) then_stands.comes.log
          (subst (λ C. LeavesBe t (log_by o (plain now)) C to.log to.core) stands.comes.core (subst (λ L. LeavesBe t L q.core to.log to.core) stands.comes.log end)))

      acts_then : Acts c t o now → Acts c t o (now ++ e ∷ [])
      acts_then acts =
          let lives = lives_now bases p o n c seen y now hand t acts in
          same_acts c t o now (now ++ e ∷ []) (actor_push o now e t ∙ same (actor_by t (plain now)))
          (sym (states_are_told bases p o (now ++ e ∷ []) t behind) ∙ (ap state_in (left lives).row ∙ states_are_told bases p o now t hand.led)) acts

      pub resting_aside : Resting c t o seen → Resting c t o (now ++ e ∷ [])
      resting_aside w =
          let r = resting_now bases p o n c seen y now hand t w in
          record { acts = acts_then r.acts; may = call_waits _ _ _ _ t (left (lives_now bases p o n c seen y now hand t r.acts)) r.may }

      pub driving_aside : (g : Planned) → g.txn ≡ t → Driving c g o seen → Driving c g o (now ++ e ∷ [])
      driving_aside g own w =
          let r = driving_now bases p o n c seen y now hand g w in
          let acts : Acts c t o now = subst (λ u. Acts c u o now) own r.acts in
          let be : LeavesBe g.txn (log_by o (plain now)) (core_told o now) (log_by o (plain (now ++ e ∷ []))) (core_told o (now ++ e ∷ [])) =
          subst (λ u. LeavesBe u (log_by o (plain now)) (core_told o now) (log_by o (plain (now ++ e ∷ []))) (core_told o (now ++ e ∷ []))) (sym own) (left (lives_now bases p o n c seen y now hand t acts)) in
          record {
            acts = subst (λ u. Acts c u o (now ++ e ∷ [])) (sym own) (acts_then acts);
            rest = rest_waits _ _ _ _ g be r.rest;
            at = plan_waits _ _ _ _ g be r.at;
          }

  -- ---- a refusal
  module _ (why : Why) where
    abbrev met_line : Line
    met_line = (by_both n c, (Did (Meets why) c, Leaves, []))

    core_same : core_told o now ≡ core_told o (now ++ met_line ∷ [])
    core_same = sym (told_push o now met_line)

    log_same : log_by o (plain now) ≡ log_by o (plain (now ++ met_line ∷ []))
    log_same = sym (log_push o now met_line ∙ append-nil (log_by o (plain now)))

    met_acts : (t : ℕ) → Acts c t o now → Acts c t o (now ++ met_line ∷ [])
    met_acts t acts = same_acts c t o now (now ++ met_line ∷ []) (actor_push o now met_line t) (state_push o now met_line t) acts

    pub resting_met : (t : ℕ) → Resting c t o seen → Resting c t o (now ++ met_line ∷ [])
    resting_met t w =
        let r = resting_now bases p o n c seen y now hand t w in
        record {
          acts = met_acts t r.acts;
          may = subst (λ C. MayCall (log_by o (plain (now ++ met_line ∷ []))) C t) core_same (subst (λ L. MayCall L (core_told o now) t) log_same r.may);
        }

    pub driving_met : (g : Planned) → Driving c g o seen → Driving c g o (now ++ met_line ∷ [])
    driving_met g w =
        let r = driving_now bases p o n c seen y now hand g w in
        record {
          acts = met_acts g.txn r.acts;
          rest = subst (λ (C : CoreState). IsAtRest C.regions C.system g) core_same r.rest;
          at = subst (λ C. AtPlan (log_by o (plain (now ++ met_line ∷ []))) C g) core_same (subst (λ L. AtPlan L (core_told o now) g) log_same r.at);
        }

  -- ---- the log is full
  full_line : (act : Act) (u : Option ℕ) (end limit : ℕ) → MeetsFor bases p o now c act u (Full end limit) → Follows bases p o now (by_both n c, (Did (Meets (Full end limit)) c, Leaves, []))
  full_line act u end limit cause =
      meeting_follows bases p o now n c hand.count (Meets (Full end limit)) refl (fits_so o (plain now) (Meets (Full end limit)) c refl (λ r. refl) tt (λ u e. absurd (cc)) tt)
      (refusal_lands bases p o now (by_both n c) c act u (Full end limit) tt cause) refl

  pub begin_full : y.stop ≡ None → y.limit < y.end + 9 → Follows bases p o now (by_both n c, (Did (Meets (Full y.end y.limit)) c, Leaves, []))
  begin_full runs full =
      full_line BeginAct None y.end y.limit
      (full_for bases p o now c BeginAct None (Begin y.next) y hand.led hand.is runs (y.next, refl, next) spelled full)
    where
      run : RunsOn bases (log_by o (plain now)) (core_told o now)
      run = runs_now bases p o n c seen y now hand

      is_next : {s : TxnState} (q : Option TxnState) → q ≡ Some s → IsSome q
      is_next None e = absurd (cc)
      is_next (Some s) e = refl

      next : IsNext y.sizes (log_by o (plain now)) y.next (Begin y.next)
      next = is_next _ (begin_follows y.sizes (log_by o (plain now)) y.next (subst (λ (z : SystemState). IsUnbegun z.sizes (log_by o (plain now)) z.next) (sym hand.is) (next_is_unbegun bases (log_by o (plain now)) (core_told o now) run))).at_work

      spelled : CanBeSpelled (Begin y.next)
      spelled = omega (arith, ap (λ (z : SystemState). z.next) hand.is, run.counts.next, next_is_small (core_told o now).system.sizes (log_by o (plain now)) run.counts.now run.log.legal run.counts.rules)

  pub audit_full : y.stop ≡ None → y.limit + 1048576 < y.end + 1 → Follows bases p o now (by_both n c, (Did (Meets (Full y.end (y.limit + 1048576))) c, Leaves, []))
  audit_full runs full =
      full_line AuditAct None y.end (y.limit + 1048576) (full_for bases p o now c AuditAct None AuditBegin y hand.led hand.is runs refl tt full)

  pub answer_full : (g : Planned) (a : Answer) → Driving c g o seen → IsWholePlan g → want_of g ≡ AnswerIsNext → answer_of g.geometry g.call g.stage ≡ Some a → y.stop ≡ None
      → y.limit < y.end + record_length (Done g.txn g.call a) → Follows bases p o now (by_both n c, (Did (Meets (Full y.end y.limit)) c, Leaves, []))
  answer_full g a w whole wants given runs full =
      full_line (Calls g.call) (Some g.txn) y.end y.limit
      (full_for bases p o now c (Calls g.call) (Some g.txn) (Done g.txn g.call a) y hand.led hand.is runs (inl (a, refl, next)) spelled full)
    where
      r : Driving c g o now
      r = driving_now bases p o n c seen y now hand g w

      is_next : {s : TxnState} (q : Option TxnState) → q ≡ Some s → IsSome q
      is_next None e = absurd (cc)
      is_next (Some s) e = refl

      behind : PlanFollows y.sizes (log_by o (plain now) ++ Done g.txn g.call a ∷ []) (answered g)
      behind = done_follows y.sizes (log_by o (plain now)) g a (r.rest.sizes ∙ ap (λ (z : SystemState). z.sizes) (sym hand.is)) whole
          (subst (λ (z : SystemState). PlanFollows z.sizes (log_by o (plain now)) g) (sym hand.is) r.at.follows) wants given

      next : IsNext y.sizes (log_by o (plain now)) g.txn (Done g.txn g.call a)
      next = is_next _ behind.at_work

      -- where there is room the record is spelled, and so it is here
      spelled : CanBeSpelled (Done g.txn g.call a)
      spelled =
          (done_is_step (log_by o (plain now)) (core [] (roomy y (record_length (Done g.txn g.call a))) (core_told o now).vault) g a (r.rest.sizes ∙ ap (λ (z : SystemState). z.sizes) (sym hand.is)) whole
          (subst (λ (z : SystemState). PlanFollows z.sizes (log_by o (plain now)) g) (sym hand.is) r.at.follows) wants given (record { runs = refl; room = omega arith })
          (ap (λ (z : SystemState). state_of z g.txn) hand.is ∙ lives_now bases p o n c seen y now hand g.txn r.acts)).1

-- a refusal for want of room
pub full_of : (stop : Option Cause) (end limit n a b : ℕ) → room_of stop end limit n ≡ Some (LogFull a b) → (stop ≡ None) × (limit < end + n) × (a ≡ end) × (b ≡ limit)
full_of (Some cause) end limit n a b e = absurd (cc)
full_of None end limit n a b e = by_test (nat_lt limit (end + n)) refl e
  where
    by_test : (t : Bool) → nat_lt limit (end + n) ≡ t → ◌≡◌ {A = Option SystemError} (if t then Some (LogFull end limit) else None) (Some (LogFull a b)) → ◌≡◌ {A = Option Cause} None None × (limit < end + n) × (a ≡ end) × (b ≡ limit)
    by_test true test f = (refl, ltb-true limit (end + n) test, (let g : a ≡ end = cc in g), (let g : b ≡ limit = cc in g))
    by_test false test f = absurd (cc)
