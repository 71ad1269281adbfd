use Rattle.std.proofs.Common.{◌≡◌, ℕ, Bool, true, false, [], ◌∷◌, Option, Some, None, IfSome, Result, Ok, Err, refl, sym, ap, subst, ◌∙◌}
use Rattle.std.specs.Prelude.{◌==◌}
use Rattle.std.specs.FinMap as map
use Rattle.dali_geometry.specs.Places.{regions}
use Rattle.dali_lists.proofs.Numbers.{eqb-self}
use Rattle.dali_record.specs.declared.records.Answer.{Answer}
use Rattle.dali_record.specs.declared.records.Record.{Record}
use Rattle.dali_record.specs.declared.records.Record.TheVariants.{Begin, Done, Commit, Ended, AuditBegin}
use Rattle.dali_locks.specs.declared.mode.Mode.{Mode}
use Rattle.dali_locks.specs.declared.mode.LockAnswer.{LockAnswer}
use Rattle.dali_locks.specs.declared.mode.LockAnswer.TheVariants.{Granted, Busy}
use Rattle.dali_locks.specs.Locks.{IsAnswer}
use Rattle.dali_att.specs.declared.state.State.TheVariants.{Live, Dead, Cleaning as Claimed}
use Rattle.dali_att.specs.declared.state.State.{State}
use Rattle.dali_runs.specs.declared.causes.Cause.{Cause}
use Rattle.dali_runs.specs.declared.refusals.Refusal.{Refusal}
use Rattle.dali_runs.specs.State.{SystemState, state_of}
use Rattle.dali_runs.specs.Steps.{begun, done_logged, commit_logged, ended_logged, audit_begun, audit_ended, audit_record, in_state, in_checkpoint, granted, refused}
use Rattle.dali_runs.specs.Courses.{Begins, Answers, Commits, Ends, AuditBegins, AuditEnds, Claims as ClaimsIt, GivesBack as GivesItBack, Locks, Refuses}
use Rattle.dali_crash.specs.Checkpoints.{StoreStep, Does, Starts, Finishes}
use Rattle.dali_crash.specs.Traces.{bases_of}
use Rattle.dali_system.specs.declared.error.SystemError.{SystemError}
use Rattle.dali_system.specs.Served.{Served}
use Rattle.dali_system.specs.Refused.{stop_of, stop_refusal}
use Rattle.dali_system.specs.Asked.{after_request}
use Rattle.dali_calls.proofs.SingleLemmas.Promising.{runs_on}
use Rattle.dali_transcripts.specs.Words.{StoppedBy, UnderWay}
use Rattle.dali_transcripts.specs.World.{Deed, Logs, Claims, GivesBack, GetsLock, StartsCheckpoint, EndsCheckpoint, Meets, is_dead_in}
use Rattle.dali_transcripts.specs.Telling.Deeds.{refusal_at}
use Rattle.dali_audit.specs.Findings.{Judged, Audited, damaged}
use Rattle.dali_calls.specs.Steps.{call_key, answer_of}
use Rattle.dali_calls.specs.Plans.{Planned, mode_of, answered}
use Rattle.dali_notes.specs.History.{MayAdd, Added, Sight}
use Rattle.dali_concurrent.specs.Entries.{Did}
use Rattle.dali_concurrent.specs.Told.{Leaves, OnSystem, Item}
use Rattle.dali_concurrent.specs.Own.{HasOnly, takes_one}
use Rattle.dali_locked.specs.Begun.{Begun, may_add, outset, FromEach, Of, homed}
use Rattle.dali_locked.specs.Sights.{ClientSight, HasLogged, Knows}
use Rattle.dali_locked.specs.SystemSteps.{Resting, Driving, Asking, GoesOn, Keeps, Takes, TakesClaim, LetsGo, LetsClaim, Settling, MayEnd, HasGone, Auditing, PassesTold, Cleaning, MayGiveBack, NotChecking, Checking, HasJust, given_in, given as given_by, deed_of}
use Rattle.dali_locked.proofs.SystemTelling.{Hands, may_tell, known, client_kept, system_kept, system_met, met, met_kept, has_still, has_begun, has_ended, has_claimed, has_let, logged_there}
use Rattle.dali_locked.proofs.SystemCases.{done_line, done_rests, commit_line, commit_settles, end_line, end_gone}
use Rattle.dali_locked.proofs.SystemMore.{audit_room, claim_line, claim_cleans, start_line, start_checks, finish_line, finish_ends, meet_line, meet_still, stop_line, audit_line, audit_opened, audit_end_line, claimed_now, give_line, grant_line, grant_drives, busy_line, busy_rests}
use Rattle.dali_locked.proofs.system.LockedSystem.request.Given as given
use Rattle.dali_locked.proofs.system.LockedSystem.request.Goals as goal

-- the lock that is asked for
abbrev lock_item : ℕ → ℕ → ℕ × Mode → SystemState → Item
lock_item c t l z = (Did (GetsLock t l.0 l.1) c, OnSystem z, Does (Locks t l.0 l.1) ∷ [])

same_lock : (c t u : ℕ) (l k : ℕ × Mode) (z w : Served) → u ≡ t → k ≡ l → w ≡ z → lock_item c u k w.state ≡ lock_item c t l z.state
same_lock c t u l k z w e f g = ap (λ v. lock_item c v k w.state) e ∙ (ap (λ v. lock_item c t v w.state) f ∙ ap (λ (v : Served). lock_item c t l v.state) g)

abbrev way_item : ℕ → Refusal → Bool → SystemState → Item
way_item c f dead z = (Did (deed_of dead f) c, OnSystem z, Does (Refuses f.txn f.key f.mode f.holder) ∷ [])

same_way : (c : ℕ) (f e : Refusal) (dead was : Bool) (z w : Served) → e ≡ f → was ≡ dead → w ≡ z → way_item c e was w.state ≡ way_item c f dead z.state
same_way c f e dead was z w h k g = ap (λ v. way_item c v was w.state) h ∙ (ap (λ v. way_item c f v w.state) k ∙ ap (λ (v : Served). way_item c f dead v.state) g)

-- what the system answers, of the plan's own lock
answer_of_plan : (y : SystemState) (p : Planned) (t : ℕ) (l : ℕ × Mode) (a d : LockAnswer) → t ≡ p.txn → l ≡ (call_key p.call, mode_of p.call) → a ≡ d → IsAnswer y.locks t l.0 l.1 a → IsAnswer y.locks p.txn (call_key p.call) (mode_of p.call) d
answer_of_plan y p t l a d e f g is =
    subst (λ u. IsAnswer y.locks u (call_key p.call) (mode_of p.call) d) e (subst (λ (v : ℕ × Mode). IsAnswer y.locks t v.0 v.1 d) f (subst (IsAnswer y.locks t l.0 l.1) g is))

after_of_plan : (s z : Served) (p : Planned) (t : ℕ) (l : ℕ × Mode) (a d : LockAnswer) → t ≡ p.txn → l ≡ (call_key p.call, mode_of p.call) → a ≡ d → z ≡ record s { state = after_request s.state t l.0 l.1 a }
    → z ≡ record s { state = after_request s.state p.txn (call_key p.call) (mode_of p.call) d }
after_of_plan s z p t l a d e f g is =
    is ∙ (ap (λ u. record s { state = after_request s.state u l.0 l.1 a }) e ∙ (ap (λ (v : ℕ × Mode). record s { state = after_request s.state p.txn v.0 v.1 a }) f
    ∙ ap (λ v. record s { state = after_request s.state p.txn (call_key p.call) (mode_of p.call) v }) g))

runs_then : {T : Type 0} (y : SystemState) (x : T) → IfSome (stop_refusal y) (λ e. let r : Result T SystemError = Err e in let q : Result T SystemError = Ok x in q ≡ r) → y.stop ≡ None
runs_then y x h = by_stop y.stop (runs_on y x h)
  where
    by_stop : (o : Option Cause) → stop_of o ≡ None → o ≡ None
    by_stop None e = refl
    by_stop (Some cause) e = absurd (cc)

pub tell-requires-clause-may : goal.tell-requires-clause-may
tell-requires-clause-may g c κs within =
    let b = (homed g.H.Home.table g.B.Beginning.begun) in
    let x = c.client.inside.note in
    let y = c.self.inside.note in
    let id : ℕ = c.client.inside.id in
    let st : SystemState = c.self.inside.system.state in
    let h : Hands b x y id st = record { client = c.client.invariant.1; system = c.self.invariant.1; led = c.client.invariant.2; told = c.self.invariant.3 } in
    subst (MayAdd (may_add b) (x ∷ y ∷ [])) (sym (same_lock id c.args.plan.now.txn c.txn-txn.result ((call_key c.args.plan.now.call), (mode_of c.args.plan.now.call)) c.lock-key.result (record c.self.inside.system { state = granted st c.args.plan.now.txn (call_key c.args.plan.now.call) (mode_of c.args.plan.now.call) }) c.request.new.self c.txn-txn.ensures c.lock-key.ensures (after_of_plan c.self.inside.system c.request.new.self c.args.plan.now c.txn-txn.result c.lock-key.result c.in_ok-answer.answer Granted c.txn-txn.ensures c.lock-key.ensures c.in-Granted.is c.in_ok-answer.ensures.ok)))
    (may_tell b x y id st h (lock_item id c.args.plan.now.txn ((call_key c.args.plan.now.call), (mode_of c.args.plan.now.call)) (granted st c.args.plan.now.txn (call_key c.args.plan.now.call) (mode_of c.args.plan.now.call))) (λ s p from now hand. grant_line (bases_of s) p (outset b s p) b.count id x.seen st now hand c.args.plan.now (subst (λ (v : ClientSight). Knows b (Asking v.id c.args.plan.now) v) (sym c.client.view_is) c.requires.asks s p from) c.requires.fresh (runs_then st c.in_ok-answer.answer c.in_ok-answer.ensures.refused) (answer_of_plan st c.args.plan.now c.txn-txn.result c.lock-key.result c.in_ok-answer.answer Granted c.txn-txn.ensures c.lock-key.ensures c.in-Granted.is c.in_ok-answer.ensures.answer)))

same_refusal : (y : SystemState) (p : Planned) (t : ℕ) (l : ℕ × Mode) (n h : ℕ) → t ≡ p.txn → l ≡ (call_key p.call, mode_of p.call) → n ≡ y.records
    → ◌≡◌ {A = Refusal} (record { txn = t; key = l.0; mode = l.1; holder = h; at = n }) (refusal_at y p.txn (call_key p.call) (mode_of p.call) h)
same_refusal y p t l n h e f g =
    ap (λ u. record { txn = u; key = l.0; mode = l.1; holder = h; at = n }) e
    ∙ (ap (λ (v : ℕ × Mode). record { txn = p.txn; key = v.0; mode = v.1; holder = h; at = n }) f ∙ ap (λ u. record { txn = p.txn; key = call_key p.call; mode = mode_of p.call; holder = h; at = u }) g)

-- a refusal leaves the rows
dead_of : (y : SystemState) (p : Planned) (h : ℕ) (dead : Bool) (o : Option State) (z s : Served) → z ≡ record s { state = refused y p.txn (call_key p.call) (mode_of p.call) h } → o ≡ state_of z.state h → dead ≡ is_dead_in o
    → dead ≡ is_dead_in (state_of y h)
dead_of y p h dead o z s now e f = f ∙ (ap is_dead_in e ∙ ap (λ (v : Served). is_dead_in (state_of v.state h)) now)

pub tell-requires-in-Busy-clause-may : goal.tell-requires-in-Busy-clause-may
tell-requires-in-Busy-clause-may g c κs within =
    let b = (homed g.H.Home.table g.B.Beginning.begun) in
    let x = c.client.inside.note in
    let y = c.self.inside.note in
    let id : ℕ = c.client.inside.id in
    let st : SystemState = c.self.inside.system.state in
    let h : Hands b x y id st = record { client = c.client.invariant.1; system = c.self.invariant.1; led = c.client.invariant.2; told = c.self.invariant.3 } in
    subst (MayAdd (may_add b) (x ∷ y ∷ [])) (sym (same_way id (refusal_at st c.args.plan.now.txn (call_key c.args.plan.now.call) (mode_of c.args.plan.now.call) c.in-Busy.holder) (record { txn = c.txn-txn.result; key = c.lock-key.result.0; mode = c.lock-key.result.1; holder = c.in-Busy.holder; at = c.records-at.result }) (is_dead_in (state_of st c.in-Busy.holder)) c.is_dead-dead.result (record c.self.inside.system { state = refused st c.args.plan.now.txn (call_key c.args.plan.now.call) (mode_of c.args.plan.now.call) c.in-Busy.holder }) c.request.new.self (same_refusal st c.args.plan.now c.txn-txn.result c.lock-key.result c.records-at.result c.in-Busy.holder c.txn-txn.ensures c.lock-key.ensures c.records-at.ensures) (dead_of st c.args.plan.now c.in-Busy.holder c.is_dead-dead.result c.state.result c.request.new.self c.self.inside.system (after_of_plan c.self.inside.system c.request.new.self c.args.plan.now c.txn-txn.result c.lock-key.result c.in_ok-answer.answer (Busy c.in-Busy.holder) c.txn-txn.ensures c.lock-key.ensures c.in-Busy.is c.in_ok-answer.ensures.ok) c.state.ensures c.is_dead-dead.ensures) (after_of_plan c.self.inside.system c.request.new.self c.args.plan.now c.txn-txn.result c.lock-key.result c.in_ok-answer.answer (Busy c.in-Busy.holder) c.txn-txn.ensures c.lock-key.ensures c.in-Busy.is c.in_ok-answer.ensures.ok)))
    (may_tell b x y id st h (way_item id (refusal_at st c.args.plan.now.txn (call_key c.args.plan.now.call) (mode_of c.args.plan.now.call) c.in-Busy.holder) (is_dead_in (state_of st c.in-Busy.holder)) (refused st c.args.plan.now.txn (call_key c.args.plan.now.call) (mode_of c.args.plan.now.call) c.in-Busy.holder)) (λ s p from now hand. busy_line (bases_of s) p (outset b s p) b.count id x.seen st now hand c.args.plan.now (subst (λ (v : ClientSight). Knows b (Asking v.id c.args.plan.now) v) (sym c.client.view_is) c.requires.asks s p from) c.requires.fresh (runs_then st c.in_ok-answer.answer c.in_ok-answer.ensures.refused) c.in-Busy.holder (answer_of_plan st c.args.plan.now c.txn-txn.result c.lock-key.result c.in_ok-answer.answer (Busy c.in-Busy.holder) c.txn-txn.ensures c.lock-key.ensures c.in-Busy.is c.in_ok-answer.ensures.answer) (subst (λ (v : ClientSight). Knows b (HasJust v.id (Some c.args.plan.now.txn) None) v) (sym c.client.view_is) c.requires.only s p from)))

module _ (g : given.Over) (c : goal.After-tell g) where
  abbrev b : Begun
  b = (homed g.H.Home.table g.B.Beginning.begun)

  abbrev x : Sight Item
  x = c.client.inside.note

  abbrev y : Sight Item
  y = c.self.inside.note

  abbrev id : ℕ
  id = c.client.inside.id

  abbrev st : SystemState
  st = c.self.inside.system.state

  hands : Hands b x y id st
  hands = record { client = c.client.invariant.1; system = c.self.invariant.1; led = c.client.invariant.2; told = c.self.invariant.3 }

  added : Added (x ∷ y ∷ []) (lock_item id c.args.plan.now.txn ((call_key c.args.plan.now.call), (mode_of c.args.plan.now.call)) (granted st c.args.plan.now.txn (call_key c.args.plan.now.call) (mode_of c.args.plan.now.call))) c.tell.new.client.seen
  added = subst (λ i. Added (x ∷ y ∷ []) i c.tell.new.client.seen) (same_lock id c.args.plan.now.txn c.txn-txn.result ((call_key c.args.plan.now.call), (mode_of c.args.plan.now.call)) c.lock-key.result (record c.self.inside.system { state = granted st c.args.plan.now.txn (call_key c.args.plan.now.call) (mode_of c.args.plan.now.call) }) c.request.new.self c.txn-txn.ensures c.lock-key.ensures (after_of_plan c.self.inside.system c.request.new.self c.args.plan.now c.txn-txn.result c.lock-key.result c.in_ok-answer.answer Granted c.txn-txn.ensures c.lock-key.ensures c.in-Granted.is c.in_ok-answer.ensures.ok)) c.tell.ensures.added

pub invariant_of-self-in-Granted : goal.invariant_of-self-in-Granted
invariant_of-self-in-Granted g c =
    system_kept (b g c) (x g c) (y g c) (id g c) (st g c) (hands g c) c.tell.new.system (Did (GetsLock c.txn-txn.result c.lock-key.result.0 c.lock-key.result.1) (id g c)) c.request.new.self.state (Does (Locks c.txn-txn.result c.lock-key.result.0 c.lock-key.result.1) ∷ []) c.tell.new.client.seen c.tell.ensures.system c.self.invariant.0 c.tell.ensures.added c.tell.ensures.all

pub invariant_of-client : goal.invariant_of-client
invariant_of-client g c = client_kept (b g c) (x g c) (y g c) (id g c) (st g c) (hands g c) c.tell.new.client c.tell.ensures.client c.client.invariant.0 c.tell.ensures.all

pub returns-in-Granted-clause-goes : goal.returns-in-Granted-clause-goes
returns-in-Granted-clause-goes g c =
    subst (λ a. Knows (b g c) (GoesOn a c.args.client.now.id c.args.plan.now) (record { id = c.args.client.now.id; seen = c.tell.new.client.seen })) (sym c.in-Granted.is)
    (subst (λ (v : ClientSight). Knows (b g c) (Driving v.id c.args.plan.now) (record { id = v.id; seen = c.tell.new.client.seen })) c.client.view_is
    (known (b g c) (x g c) (y g c) (id g c) (st g c) (hands g c) (lock_item (id g c) c.args.plan.now.txn ((call_key c.args.plan.now.call), (mode_of c.args.plan.now.call)) (granted (st g c) c.args.plan.now.txn (call_key c.args.plan.now.call) (mode_of c.args.plan.now.call))) c.tell.new.client.seen (added g c) c.tell.ensures.all (Driving (id g c) c.args.plan.now)
    (λ s p from now hand behind. grant_drives (bases_of s) p (outset (b g c) s p) (b g c).count (id g c) (x g c).seen (st g c) now hand c.args.plan.now (subst (λ (v : ClientSight). Knows (b g c) (Asking v.id c.args.plan.now) v) (sym c.client.view_is) c.requires.asks s p from) c.requires.fresh (runs_then (st g c) c.in_ok-answer.answer c.in_ok-answer.ensures.refused) (answer_of_plan (st g c) c.args.plan.now c.txn-txn.result c.lock-key.result c.in_ok-answer.answer Granted c.txn-txn.ensures c.lock-key.ensures c.in-Granted.is c.in_ok-answer.ensures.answer))))

pub returns-in-Granted-clause-keeps : goal.returns-in-Granted-clause-keeps
returns-in-Granted-clause-keeps g c =
    subst (λ (v : ClientSight). Keeps (b g c) v (record { id = v.id; seen = c.tell.new.client.seen })) c.client.view_is
    (has_still (b g c) (x g c) (y g c) (id g c) (st g c) (hands g c) (GetsLock c.txn-txn.result c.lock-key.result.0 c.lock-key.result.1) (OnSystem c.request.new.self.state) (Does (Locks c.txn-txn.result c.lock-key.result.0 c.lock-key.result.1) ∷ []) c.tell.new.client.seen c.tell.ensures.added c.tell.ensures.all refl)

module _ (g : given.Over) (c : goal.After-tell-in-Busy g) where
  abbrev b2 : Begun
  b2 = (homed g.H.Home.table g.B.Beginning.begun)

  abbrev x2 : Sight Item
  x2 = c.client.inside.note

  abbrev y2 : Sight Item
  y2 = c.self.inside.note

  abbrev id2 : ℕ
  id2 = c.client.inside.id

  abbrev st2 : SystemState
  st2 = c.self.inside.system.state

  hands2 : Hands b2 x2 y2 id2 st2
  hands2 = record { client = c.client.invariant.1; system = c.self.invariant.1; led = c.client.invariant.2; told = c.self.invariant.3 }

  added2 : Added (x2 ∷ y2 ∷ []) (way_item id2 (refusal_at st2 c.args.plan.now.txn (call_key c.args.plan.now.call) (mode_of c.args.plan.now.call) c.in-Busy.holder) (is_dead_in (state_of st2 c.in-Busy.holder)) (refused st2 c.args.plan.now.txn (call_key c.args.plan.now.call) (mode_of c.args.plan.now.call) c.in-Busy.holder)) c.tell-in-Busy.new.client.seen
  added2 = subst (λ i. Added (x2 ∷ y2 ∷ []) i c.tell-in-Busy.new.client.seen) (same_way id2 (refusal_at st2 c.args.plan.now.txn (call_key c.args.plan.now.call) (mode_of c.args.plan.now.call) c.in-Busy.holder) (record { txn = c.txn-txn.result; key = c.lock-key.result.0; mode = c.lock-key.result.1; holder = c.in-Busy.holder; at = c.records-at.result }) (is_dead_in (state_of st2 c.in-Busy.holder)) c.is_dead-dead.result (record c.self.inside.system { state = refused st2 c.args.plan.now.txn (call_key c.args.plan.now.call) (mode_of c.args.plan.now.call) c.in-Busy.holder }) c.request.new.self (same_refusal st2 c.args.plan.now c.txn-txn.result c.lock-key.result c.records-at.result c.in-Busy.holder c.txn-txn.ensures c.lock-key.ensures c.records-at.ensures) (dead_of st2 c.args.plan.now c.in-Busy.holder c.is_dead-dead.result c.state.result c.request.new.self c.self.inside.system (after_of_plan c.self.inside.system c.request.new.self c.args.plan.now c.txn-txn.result c.lock-key.result c.in_ok-answer.answer (Busy c.in-Busy.holder) c.txn-txn.ensures c.lock-key.ensures c.in-Busy.is c.in_ok-answer.ensures.ok) c.state.ensures c.is_dead-dead.ensures) (after_of_plan c.self.inside.system c.request.new.self c.args.plan.now c.txn-txn.result c.lock-key.result c.in_ok-answer.answer (Busy c.in-Busy.holder) c.txn-txn.ensures c.lock-key.ensures c.in-Busy.is c.in_ok-answer.ensures.ok)) c.tell-in-Busy.ensures.added

pub invariant_of-self-in-Busy : goal.invariant_of-self-in-Busy
invariant_of-self-in-Busy g c =
    system_kept (b2 g c) (x2 g c) (y2 g c) (id2 g c) (st2 g c) (hands2 g c) c.tell-in-Busy.new.system (Did (deed_of c.is_dead-dead.result (record { txn = c.txn-txn.result; key = c.lock-key.result.0; mode = c.lock-key.result.1; holder = c.in-Busy.holder; at = c.records-at.result })) (id2 g c)) c.request.new.self.state (Does (Refuses c.txn-txn.result c.lock-key.result.0 c.lock-key.result.1 c.in-Busy.holder) ∷ []) c.tell-in-Busy.new.client.seen c.tell-in-Busy.ensures.system c.self.invariant.0 c.tell-in-Busy.ensures.added c.tell-in-Busy.ensures.all

pub invariant_of-client-in-Busy : goal.invariant_of-client-in-Busy
invariant_of-client-in-Busy g c = client_kept (b2 g c) (x2 g c) (y2 g c) (id2 g c) (st2 g c) (hands2 g c) c.tell-in-Busy.new.client c.tell-in-Busy.ensures.client c.client.invariant.0 c.tell-in-Busy.ensures.all

not_taken : (dead : Bool) (f : Refusal) (c : ℕ) → takes_one c (Did (deed_of dead f) c) ≡ false
not_taken true f c = refl
not_taken false f c = refl

pub returns-in-Busy-clause-goes : goal.returns-in-Busy-clause-goes
returns-in-Busy-clause-goes g c =
    subst (λ (v : ClientSight). Knows (b2 g c) (Resting v.id c.args.plan.now.txn) (record { id = v.id; seen = c.tell-in-Busy.new.client.seen })) c.client.view_is
    (known (b2 g c) (x2 g c) (y2 g c) (id2 g c) (st2 g c) (hands2 g c) (way_item (id2 g c) (refusal_at (st2 g c) c.args.plan.now.txn (call_key c.args.plan.now.call) (mode_of c.args.plan.now.call) c.in-Busy.holder) (is_dead_in (state_of (st2 g c) c.in-Busy.holder)) (refused (st2 g c) c.args.plan.now.txn (call_key c.args.plan.now.call) (mode_of c.args.plan.now.call) c.in-Busy.holder)) c.tell-in-Busy.new.client.seen (added2 g c) c.tell-in-Busy.ensures.all (Resting (id2 g c) c.args.plan.now.txn)
    (λ s p from now hand behind. busy_rests (bases_of s) p (outset (b2 g c) s p) (b2 g c).count (id2 g c) (x2 g c).seen (st2 g c) now hand c.args.plan.now (subst (λ (v : ClientSight). Knows (b2 g c) (Asking v.id c.args.plan.now) v) (sym c.client.view_is) c.requires.asks s p from) c.requires.fresh (runs_then (st2 g c) c.in_ok-answer.answer c.in_ok-answer.ensures.refused) c.in-Busy.holder (answer_of_plan (st2 g c) c.args.plan.now c.txn-txn.result c.lock-key.result c.in_ok-answer.answer (Busy c.in-Busy.holder) c.txn-txn.ensures c.lock-key.ensures c.in-Busy.is c.in_ok-answer.ensures.answer) (subst (λ (v : ClientSight). Knows (b2 g c) (HasJust v.id (Some c.args.plan.now.txn) None) v) (sym c.client.view_is) c.requires.only s p from)))

pub returns-in-Busy-clause-keeps : goal.returns-in-Busy-clause-keeps
returns-in-Busy-clause-keeps g c =
    subst (λ (v : ClientSight). Keeps (b2 g c) v (record { id = v.id; seen = c.tell-in-Busy.new.client.seen })) c.client.view_is
    (has_still (b2 g c) (x2 g c) (y2 g c) (id2 g c) (st2 g c) (hands2 g c) (deed_of c.is_dead-dead.result (record { txn = c.txn-txn.result; key = c.lock-key.result.0; mode = c.lock-key.result.1; holder = c.in-Busy.holder; at = c.records-at.result })) (OnSystem c.request.new.self.state) (Does (Refuses c.txn-txn.result c.lock-key.result.0 c.lock-key.result.1 c.in-Busy.holder) ∷ []) c.tell-in-Busy.new.client.seen c.tell-in-Busy.ensures.added c.tell-in-Busy.ensures.all (not_taken c.is_dead-dead.result (record { txn = c.txn-txn.result; key = c.lock-key.result.0; mode = c.lock-key.result.1; holder = c.in-Busy.holder; at = c.records-at.result }) (id2 g c)))
