-- The steps under the system's lock: why each line follows, and what the client knows behind it.
use Rattle.std.proofs.Common.{◌≡◌, ◌⊎◌, ℕ, zero, suc, ◌+◌, ◌<◌, ◌≤◌, ◌^◌, Bool, true, false, not, List, [], ◌∷◌, ◌++◌, length, Option, Some, None, IsSome, refl, ap, sym, subst, ◌∙◌, inl, inr, arith}
use Rattle.std.specs.Prelude.{slice_get, take, fold, is_some, ◌==◌, if◌then◌else◌}
use Rattle.std.specs.Option.{option_map_or}
use Rattle.std.specs.FinMap.{get}
use Rattle.std.proofs.lemmas.Bool.{eqb-true}
use Rattle.std.proofs.lemmas.Option.{none-some}
use Rattle.dali_lists.proofs.Numbers.{eqb-self}
use Rattle.dali_lists.proofs.Tests.{not_both_ways}
use Rattle.dali_runs.proofs.CountsLemmas.Lists.{some_same}
use Rattle.dali_geometry.specs.Sizes.{Sizes}
use Rattle.dali_record.specs.declared.operations.Pending.{Pending}
use Rattle.dali_record.specs.declared.records.Answer.{Answer}
use Rattle.dali_record.specs.declared.records.Call.{Call}
use Rattle.dali_record.specs.declared.records.Record.{Record}
use Rattle.dali_record.specs.declared.records.Record.TheVariants.{Begin, Done, Commit, Ended, AuditBegin, AuditClean, AuditFail}
use Rattle.dali_record.specs.Legal.{TxnState, Unbegun, Active, Committed as Ending, Over, Working, allowed, txn_state, txn_next, dead_of, is_none_left}
use Rattle.dali_record.proofs.Pushes.{txn_state_push}
use Rattle.dali_region.specs.declared.Hold.{Hold}
use Rattle.dali_att.specs.declared.state.State.{State}
use Rattle.dali_att.specs.declared.state.State.TheVariants.{Live, Dead, Cleaning, Committed}
use Rattle.dali_att.specs.Table.{undos_at}
use Rattle.dali_runs.specs.State.{TxnRow, SystemState, CoreState, row_of, state_in, state_of, hold_of}
use Rattle.dali_runs.specs.Run.{Bases, IsRow, RunsOn, is_committed}
use Rattle.dali_runs.specs.Steps.{begun, done_logged, commit_logged, ended_logged, audit_record}
use Rattle.dali_runs.specs.Keeps.{HasRoom, IsNext, IsFree, MayAdd, may_log_in}
use Rattle.dali_runs.specs.Regions.{is_alive}
use Rattle.dali_runs.specs.Wholes.{latched_in, IsWhole}
use Rattle.dali_runs.specs.Courses.{Begins, Answers, Commits, Ends}
use Rattle.dali_runs.specs.Facts.Ends.{IsUnbegun, HasBegun, IsEnding, IsOver}
use Rattle.dali_runs.specs.Facts.Plans.{AtWork}
use Rattle.dali_runs.proofs.FactsLemmas.Ends.{begin_follows, next_is_unbegun, commit_follows, commit_is_step}
use Rattle.dali_crash.specs.Checkpoints.{StoreStep, Does, Point}
use Rattle.dali_transcripts.specs.World.{Deed, Logs}
use Rattle.dali_system.specs.declared.want.Want.TheVariants.{Done as AnswerIsNext}
use Rattle.dali_calls.specs.Steps.{answer_of}
use Rattle.dali_calls.specs.Plans.{Planned, want_of, answered, IsWhole as IsWholePlan}
use Rattle.dali_calls.specs.Followed.{Follows as PlanFollows}
use Rattle.dali_calls.specs.Single.Stands.{IsAtRest, AtPlan}
use Rattle.dali_calls.specs.Single.Single.{MayCall}
use Rattle.dali_calls.specs.Stepwise.Beside.{LeavesBe}
use Rattle.dali_calls.proofs.Answering.{done_follows}
use Rattle.dali_calls.proofs.Stepping.{done_is_step}
use Rattle.dali_calls.proofs.StepwiseLemmas.Waiting.{plan_waits, call_waits, rest_waits}
use Rattle.dali_notes.specs.History.{IsSeen}
use Rattle.dali_concurrent.specs.Entries.{Did, Entries, client_note, live_by, actor_by, actor_step}
use Rattle.dali_concurrent.specs.Rules.{Outset, count_of, log_by, state_by, NoneLive, dead_by, TxnFits, acting_for, is_looked, HoldFits, DeedFits}
use Rattle.dali_concurrent.specs.Told.{OnSystem, effect_on, Line, History, plain, core_told}
use Rattle.dali_concurrent.specs.Landing.{Stands}
use Rattle.dali_concurrent.specs.Kept.{Follows}
use Rattle.dali_concurrent.specs.Holds.{IsLed}
use Rattle.dali_concurrent.proofs.Told.{told_push}
use Rattle.dali_concurrent.proofs.Landing.{told_is_whole}
use Rattle.dali_concurrent.proofs.Stages.{sizes_are}
use Rattle.dali_concurrent.proofs.Kept.{stands_of}
use Rattle.dali_concurrent.proofs.Holds.{actor_stays, next_may_begin, next_is_fresh, states_are_told}
use Rattle.dali_concurrent.proofs.Amid.{none_live_is_seen, dead_is_seen}
use Rattle.dali_concurrent.proofs.Beside.{others_leave_be}
use Rattle.dali_concurrent.proofs.Cases.{begins_land, answers_land, commits_land, ends_land}
use Rattle.dali_locked.specs.Sights.{Acts}
use Rattle.dali_locked.specs.SystemSteps.{Resting, Driving, Settling, MayEnd, HasGone}
use Rattle.dali_locked.proofs.SystemLines.{by_both, line_follows}
use Rattle.dali_locked.proofs.SystemTelling.{InHand, log_push, state_push, actor_push, runs_now, fit, plain_mine}

-- ---- deeds that end no audit, and need no look
abbrev pub is_verdict : Deed → Bool
is_verdict (Logs (AuditClean b)) = true
is_verdict (Logs (AuditFail b found)) = true
is_verdict x = false

no_verdict : (x : Deed) → is_verdict x ≡ false → (b : ℕ) (found : List ℕ) → x ≡ Logs (audit_record b found) → ⊥
no_verdict x h b [] e = not_both_ways (ap is_verdict e) h
no_verdict x h b (r ∷ rs) e = not_both_ways (ap is_verdict e) h

pub fits_so : (o : Outset) (P : Entries) (x : Deed) (c : ℕ) → is_verdict x ≡ false → ((r : ℕ) → is_looked r x ≡ false) → TxnFits o P x → ((t : ℕ) → acting_for x ≡ Some t → actor_by t P ≡ Some c) → HoldFits o P x c → DeedFits o P x c
fits_so o P x c plain unlooked txn acts held = record {
  txn = txn;
  acts = acts;
  audited = λ b found e. absurd (no_verdict x plain b found e);
  looked = λ r h. absurd (not_both_ways h (unlooked r));
  held = held;
}

pub of_one : (P : Entries) (c t u : ℕ) → actor_by t P ≡ Some c → Some t ≡ Some u → actor_by u P ≡ Some c
of_one P c t u h e = subst (λ v. actor_by v P ≡ Some c) (some_same e) h

-- who may end is alive
alive_to_end : (s : Option State) (t : ℕ) → may_log_in s (Ended t) ≡ true → is_alive s ≡ true
alive_to_end None t e = absurd (cc)
alive_to_end (Some Live) t e = refl
alive_to_end (Some (Dead latched)) t e = absurd (cc)
alive_to_end (Some (Cleaning latched)) t e = refl
alive_to_end (Some Committed) t e = refl

-- whose end is allowed has ended behind it
or_none : (b : Bool) (s : TxnState) → IsSome (allowed b (Some s)) → allowed b (Some s) ≡ Some s
or_none true s e = refl
or_none false s e = absurd (cc)

no_some : (q : Option TxnState) → q ≡ None → IsSome q → ⊥
no_some None e h = cc
no_some (Some x) e h = cc

over_next : (s : Sizes) (t : ℕ) (st : Option TxnState) → IsSome (txn_next s t st (Ended t)) → txn_next s t st (Ended t) ≡ Some Over
over_next s t None e = absurd (cc)
over_next s t (Some Unbegun) e = absurd (no_some _ (ap (λ b. allowed (not b) (Some Unbegun)) (eqb-self t)) e)
over_next s t (Some (Active w)) e =
    let is : txn_next s t (Some (Active w)) (Ended t) ≡ allowed (is_none_left w.undos) (Some Over) = ap (λ b. if b then allowed (is_none_left w.undos) (Some Over) else Some (Active w)) (eqb-self t) in
    is ∙ or_none (is_none_left w.undos) Over (subst IsSome is e)
over_next s t (Some (Ending dead)) e =
    let is : txn_next s t (Some (Ending dead)) (Ended t) ≡ allowed (is_none_left dead) (Some Over) = ap (λ b. if b then allowed (is_none_left dead) (Some Over) else Some (Ending dead)) (eqb-self t) in
    is ∙ or_none (is_none_left dead) Over (subst IsSome is e)
over_next s t (Some Over) e = absurd (no_some _ (ap (λ b. allowed (not b) (Some Over)) (eqb-self t)) e)

over_then : (s : Sizes) (t : ℕ) (L : List Record) → IsNext s L t (Ended t) → IsOver s (L ++ Ended t ∷ []) t
over_then s t L e = txn_state_push s t L (Ended t) ∙ over_next s t (txn_state s t L) (subst IsSome (txn_state_push s t L (Ended t)) e)

module _ (bases : Bases) (p : Point) (o : Outset) (n c : ℕ) (seen : History) (y : SystemState) (now : History) (hand : InHand bases p o n c seen y now) where
  abbrev pub line : Deed → SystemState → StoreStep → Line
  line d z s = (by_both n c, (Did d c, OnSystem z, s ∷ []))

  pub at : (q : Point) × Stands bases p o now q
  at = stands_of bases p o now hand.led.begins hand.led.all

  pub whole : IsWhole (core_told o now)
  whole = (told_is_whole bases p o now at.0 hand.led.begins at.1).0

  pub run : RunsOn bases (log_by o (plain now)) (core_told o now)
  run = runs_now bases p o n c seen y now hand

  pub sizes : (core_told o now).system.sizes ≡ o.old.system.sizes
  sizes = ap (λ (d : CoreState). d.system.sizes) (sym at.1.comes.core) ∙ sizes_are bases p o now at.0 at.1

  pub stop_told : y.stop ≡ None → (core_told o now).system.stop ≡ None
  stop_told runs = ap (λ (z : SystemState). z.stop) (sym hand.is) ∙ runs

  -- ---- what others leave to the client
  pub acts_now : (t : ℕ) → Acts c t o seen → Acts c t o now
  acts_now t acts =
      let w = actor_stays o t c (plain seen) (plain now) (fit bases p o n c seen y now hand) (plain_mine bases p o n c seen y now hand) acts.actor (ap is_alive acts.lives) in
      record { actor = w.0; lives = w.1 ∙ acts.lives }

  left_be : (t : ℕ) → Acts c t o seen → LeavesBe t (log_by o (plain seen)) (core_told o seen) (log_by o (plain now)) (core_told o now)
  left_be t acts = others_leave_be bases p o t c seen now hand.led hand.mine acts.actor (ap is_alive acts.lives)

  pub resting_now : (t : ℕ) → Resting c t o seen → Resting c t o now
  resting_now t w = record { acts = acts_now t w.acts; may = call_waits _ _ _ _ t (left_be t w.acts) w.may }

  pub driving_now : (q : Planned) → Driving c q o seen → Driving c q o now
  driving_now q w = record {
    acts = acts_now q.txn w.acts;
    rest = rest_waits _ _ _ _ q (left_be q.txn w.acts) w.rest;
    at = plan_waits _ _ _ _ q (left_be q.txn w.acts) w.at;
  }

  pub lives_now : (t : ℕ) → Acts c t o now → state_of (core_told o now).system t ≡ Some Live
  lives_now t acts = states_are_told bases p o now t hand.led ∙ acts.lives

  -- ---- behind a line that leaves the core so
  pub may_behind : (d : Deed) (z : SystemState) (s : StoreStep) (L : List Record) (t : ℕ) → log_by o (plain (now ++ line d z s ∷ [])) ≡ L
      → MayCall L (effect_on (core_told o now) (OnSystem z)) t → MayCall (log_by o (plain (now ++ line d z s ∷ []))) (core_told o (now ++ line d z s ∷ [])) t
  may_behind d z s L t log may =
      subst (λ C. MayCall (log_by o (plain (now ++ line d z s ∷ []))) C t) (sym (told_push o now (line d z s)))
      (subst (λ M. MayCall M (effect_on (core_told o now) (OnSystem z)) t) (sym log) may)

  -- ---- a begin
  pub begin_line : HasRoom y (Begin y.next) → Follows bases p o now (line (Logs (Begin y.next)) (begun y) (Does Begins))
  begin_line room =
      line_follows bases p o now n c hand.count (Logs (Begin y.next)) refl
      (fits_so o (plain now) (Logs (Begin y.next)) c refl (λ r. refl) (next_may_begin bases p o now y hand.led hand.is) (λ t e. absurd (cc)) tt)
      (begun y) (Does Begins) (begins_land bases p o now (by_both n c) c y hand.is room) refl refl refl (λ f. absurd (cc))

  none_of_next : IsFree (core_told o now) (core_told o now).system.next
  none_of_next r h held = by_test (h.txn == (core_told o now).system.next) refl
    where
      fresh : state_of (core_told o now).system (core_told o now).system.next ≡ None
      fresh = next_is_fresh bases p o now hand.led

      none : h.txn ≡ (core_told o now).system.next → (b : Bool) → h.dead ≡ b → ⊥
      none same true e = none-some r (sym (ap (λ m. latched_in (state_of (core_told o now).system m)) same ∙ ap latched_in fresh) ∙ whole.dead r h held e)
      none same false e = not_both_ways (whole.live r h held e) (ap (λ m. is_alive (state_of (core_told o now).system m)) same ∙ ap is_alive fresh)

      by_test : (b : Bool) → (h.txn == (core_told o now).system.next) ≡ b → b ≡ false
      by_test false e = refl
      by_test true e = absurd (none (eqb-true h.txn (core_told o now).system.next e) h.dead refl)

  pub begin_rests : Resting c y.next o (now ++ line (Logs (Begin y.next)) (begun y) (Does Begins) ∷ [])
  begin_rests = record {
    acts = record {
      actor = actor_push o now (line (Logs (Begin y.next)) (begun y) (Does Begins)) y.next ∙ ap (λ b. if b then Some c else actor_by y.next (plain now)) (eqb-self y.next);
      lives = state_push o now (line (Logs (Begin y.next)) (begun y) (Does Begins)) y.next ∙ ap (λ b. if b then Some Live else state_by o (plain now) y.next) (eqb-self y.next);
    };
    may = may_behind (Logs (Begin y.next)) (begun y) (Does Begins) (log_by o (plain now) ++ Begin y.next ∷ []) y.next (log_push o now (line (Logs (Begin y.next)) (begun y) (Does Begins)))
        (record { working = first.working; at_work = first.at_work; level = first.level; free = subst (λ (z : SystemState). IsFree (core_told o now) z.next) (sym hand.is) none_of_next });
  }
    where
      first : HasBegun y.sizes (log_by o (plain now) ++ Begin y.next ∷ []) y.next
      first = begin_follows y.sizes (log_by o (plain now)) y.next (subst (λ (z : SystemState). IsUnbegun z.sizes (log_by o (plain now)) z.next) (sym hand.is) (next_is_unbegun bases (log_by o (plain now)) (core_told o now) run))

  -- ---- an answer
  module _ (q : Planned) (a : Answer) (w : Driving c q o seen) (is_whole : IsWholePlan q) (wants : want_of q ≡ AnswerIsNext) (given : answer_of q.geometry q.call q.stage ≡ Some a) (room : HasRoom y (Done q.txn q.call a)) where
    abbrev done_deed : Deed
    done_deed = Logs (Done q.txn q.call a)

    abbrev drives : Driving c q o now
    drives = driving_now q w

    pub done_line : Follows bases p o now (line done_deed (done_logged y q.txn q.call a) (Does (Answers q.txn q.call a)))
    done_line =
        let room_told : HasRoom (core_told o now).system (Done q.txn q.call a) = subst (λ z. HasRoom z (Done q.txn q.call a)) hand.is room in
        let step = done_is_step (log_by o (plain now)) (core_told o now) q a drives.rest.sizes is_whole drives.at.follows wants given room_told drives.rest.lives in
        line_follows bases p o now n c hand.count done_deed refl
        (fits_so o (plain now) done_deed c refl (λ r. refl) tt (λ u e. of_one (plain now) c q.txn u drives.acts.actor e) tt)
        (done_logged y q.txn q.call a) (Does (Answers q.txn q.call a))
        (answers_land bases p o now (by_both n c) c q.txn q.call a y hand.is room step.1 (subst (λ z. MayAdd (log_by o (plain now)) z q.txn (Done q.txn q.call a)) (sym hand.is) step.2))
        refl refl refl (λ f. absurd (cc))

    pub done_rests : Resting c q.txn o (now ++ line done_deed (done_logged y q.txn q.call a) (Does (Answers q.txn q.call a)) ∷ [])
    done_rests = record {
      acts = record {
        actor = actor_push o now (line done_deed (done_logged y q.txn q.call a) (Does (Answers q.txn q.call a))) q.txn ∙ drives.acts.actor;
        lives = state_push o now (line done_deed (done_logged y q.txn q.call a) (Does (Answers q.txn q.call a))) q.txn ∙ drives.acts.lives;
      };
      may = may_behind done_deed (done_logged y q.txn q.call a) (Does (Answers q.txn q.call a)) (log_by o (plain now) ++ Done q.txn q.call a ∷ []) q.txn
          (log_push o now (line done_deed (done_logged y q.txn q.call a) (Does (Answers q.txn q.call a))))
          (record { working = behind.working; at_work = behind.at_work; level = behind.rests refl; free = drives.at.free });
    }
      where
        behind : PlanFollows y.sizes (log_by o (plain now) ++ Done q.txn q.call a ∷ []) (answered q)
        behind = done_follows y.sizes (log_by o (plain now)) q a (drives.rest.sizes ∙ ap (λ (z : SystemState). z.sizes) (sym hand.is)) is_whole
            (subst (λ (z : SystemState). PlanFollows z.sizes (log_by o (plain now)) q) (sym hand.is) drives.at.follows) wants given

  -- ---- a commit
  module _ (t : ℕ) (w : Resting c t o seen) (runs : y.stop ≡ None) where
    abbrev rests : Resting c t o now
    rests = resting_now t w

    pub commit_line : Follows bases p o now (line (Logs (Commit t)) (commit_logged y t) (Does (Commits t)))
    commit_line =
        let step = commit_is_step (log_by o (plain now)) (core_told o now) t rests.may.working rests.may.at_work rests.may.level (stop_told runs) (lives_now t rests.acts) in
        line_follows bases p o now n c hand.count (Logs (Commit t)) refl
        (fits_so o (plain now) (Logs (Commit t)) c refl (λ r. refl) rests.acts.lives (λ u e. of_one (plain now) c t u rests.acts.actor e) tt)
        (commit_logged y t) (Does (Commits t))
        (commits_land bases p o now (by_both n c) c t y hand.is runs (subst (λ z. MayAdd (log_by o (plain now)) z t (Commit t)) (sym hand.is) step.1))
        refl refl refl (λ f. absurd (cc))

    -- its row has the undos that the rules keep
    undos_kept : undos_at y.table t ≡ rests.may.working.undos
    undos_kept =
        let row : (state : State) × (is_committed state ≡ false) × (row_of (core_told o now).system t ≡ Some (record { state = state; undos = rests.may.working.undos })) =
        subst (λ (s : Option TxnState). IsRow s (row_of (core_told o now).system t)) rests.may.at_work (run.table t) in
        ap (λ (z : SystemState). undos_at z.table t) hand.is ∙ ap (λ (g : Option TxnRow). option_map_or (λ (r : TxnRow). r.undos) g []) row.2

    pub commit_settles : (dead : List Pending) → dead ≡ dead_of (undos_at y.table t) → Settling c t dead o (now ++ line (Logs (Commit t)) (commit_logged y t) (Does (Commits t)) ∷ [])
    commit_settles dead is = record {
      actor = actor_push o now (line (Logs (Commit t)) (commit_logged y t) (Does (Commits t))) t ∙ rests.acts.actor;
      state = state_push o now (line (Logs (Commit t)) (commit_logged y t) (Does (Commits t))) t ∙ ap (λ b. if b then Some Committed else state_by o (plain now) t) (eqb-self t);
      ending = subst (λ us. IsEnding o.old.system.sizes (log_by o (plain (now ++ line (Logs (Commit t)) (commit_logged y t) (Does (Commits t)) ∷ []))) t us) (sym (is ∙ ap dead_of undos_kept))
          (subst (λ L. IsEnding o.old.system.sizes L t (dead_of rests.may.working.undos)) (sym (log_push o now (line (Logs (Commit t)) (commit_logged y t) (Does (Commits t)))))
          (commit_follows o.old.system.sizes (log_by o (plain now)) t rests.may.working (subst (λ s. AtWork s (log_by o (plain now)) t rests.may.working) sizes rests.may.at_work) rests.may.level));
      free = subst (λ C. IsFree C t) (sym (told_push o now (line (Logs (Commit t)) (commit_logged y t) (Does (Commits t))))) rests.may.free;
    }

  -- ---- an end
  module _ (t : ℕ) (w : MayEnd c t o seen) (runs : y.stop ≡ None) where
    kept : (actor_by t (plain now) ≡ Some c) × (state_by o (plain now) t ≡ state_by o (plain seen) t)
    kept = actor_stays o t c (plain seen) (plain now) (fit bases p o n c seen y now hand) (plain_mine bases p o n c seen y now hand) w.actor (alive_to_end _ t w.by)

    may_end : MayAdd (log_by o (plain now)) (core_told o now).system t (Ended t)
    may_end =
        let be = others_leave_be bases p o t c seen now hand.led hand.mine w.actor (alive_to_end _ t w.by) in
        let first : (core_told o seen).system.sizes ≡ o.old.system.sizes = sym be.sizes ∙ sizes in
        let same : txn_state o.old.system.sizes t (log_by o (plain now)) ≡ txn_state o.old.system.sizes t (log_by o (plain seen)) =
        subst (λ s. txn_state s t (log_by o (plain now)) ≡ txn_state s t (log_by o (plain seen))) first be.rules in
        let next : IsNext o.old.system.sizes (log_by o (plain now)) t (Ended t) =
        subst IsSome (sym (txn_state_push o.old.system.sizes t (log_by o (plain now)) (Ended t) ∙ (ap (λ s. txn_next o.old.system.sizes t s (Ended t)) same ∙ sym (txn_state_push o.old.system.sizes t (log_by o (plain seen)) (Ended t))))) w.next in
        record {
          next = subst (λ s. IsNext s (log_by o (plain now)) t (Ended t)) (sym sizes) next;
          by = ap (λ s. may_log_in s (Ended t)) (states_are_told bases p o now t hand.led ∙ kept.1) ∙ w.by;
        }

    pub end_line : Follows bases p o now (line (Logs (Ended t)) (ended_logged y t) (Does (Ends t)))
    end_line =
        line_follows bases p o now n c hand.count (Logs (Ended t)) refl
        (fits_so o (plain now) (Logs (Ended t)) c refl (λ r. refl) tt (λ u e. of_one (plain now) c t u kept.0 e) tt)
        (ended_logged y t) (Does (Ends t))
        (ends_land bases p o now (by_both n c) c t y hand.is runs (subst (λ z. MayAdd (log_by o (plain now)) z t (Ended t)) (sym hand.is) may_end) hand.led
        (none_live_is_seen o t c (plain seen) (plain now) (fit bases p o n c seen y now hand) (plain_mine bases p o n c seen y now hand) w.actor (alive_to_end _ t w.by) w.none_live)
        (λ r low e. w.none_dead r low (dead_is_seen o r t c (plain seen) (plain now) (fit bases p o n c seen y now hand) (plain_mine bases p o n c seen y now hand) w.actor (alive_to_end _ t w.by) e)))
        refl refl refl (λ f. absurd (cc))

    pub end_gone : HasGone t o (now ++ line (Logs (Ended t)) (ended_logged y t) (Does (Ends t)) ∷ [])
    end_gone =
        subst (λ L. IsOver o.old.system.sizes L t) (sym (log_push o now (line (Logs (Ended t)) (ended_logged y t) (Does (Ends t)))))
        (over_then o.old.system.sizes t (log_by o (plain now)) (subst (λ s. IsNext s (log_by o (plain now)) t (Ended t)) sizes may_end.next))
