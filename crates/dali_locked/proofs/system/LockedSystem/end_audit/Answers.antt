use Rattle.std.proofs.Common.{◌≡◌, ℕ, true, false, List, [], ◌∷◌, Option, Some, None, refl, sym, ap, subst, ◌∙◌}
use Rattle.std.specs.Prelude.{◌==◌}
use Rattle.std.specs.FinMap as map
use Rattle.dali_geometry.specs.Places.{regions}
use Rattle.dali_lists.proofs.Numbers.{eqb-self}
use Rattle.dali_record.specs.declared.records.Answer.{Answer}
use Rattle.dali_record.specs.declared.records.Record.{Record}
use Rattle.dali_record.specs.declared.records.Record.TheVariants.{Begin, Done, Commit, Ended, AuditBegin}
use Rattle.dali_locks.specs.declared.mode.LockAnswer.TheVariants.{Granted, Busy}
use Rattle.dali_locks.specs.Locks.{IsAnswer}
use Rattle.dali_att.specs.declared.state.State.TheVariants.{Live, Dead, Cleaning as Claimed}
use Rattle.dali_runs.specs.State.{SystemState, state_of}
use Rattle.dali_runs.specs.Steps.{begun, done_logged, commit_logged, ended_logged, audit_begun, audit_ended, audit_record, in_state, in_checkpoint, granted, refused}
use Rattle.dali_runs.specs.Courses.{Begins, Answers, Commits, Ends, AuditBegins, AuditEnds, Claims as ClaimsIt, GivesBack as GivesItBack, Locks, Refuses}
use Rattle.dali_crash.specs.Checkpoints.{StoreStep, Does, Starts, Finishes}
use Rattle.dali_crash.specs.Traces.{bases_of}
use Rattle.dali_system.specs.Served.{Served}
use Rattle.dali_transcripts.specs.Words.{StoppedBy, UnderWay}
use Rattle.dali_transcripts.specs.World.{Deed, Logs, Claims, GivesBack, GetsLock, StartsCheckpoint, EndsCheckpoint, Meets, is_dead_in}
use Rattle.dali_transcripts.specs.Telling.Deeds.{refusal_at}
use Rattle.dali_audit.specs.Findings.{Judged, Audited, damaged}
use Rattle.dali_calls.specs.Steps.{call_key, answer_of}
use Rattle.dali_calls.specs.Plans.{Planned, mode_of, answered}
use Rattle.dali_notes.specs.History.{MayAdd, Added, Sight}
use Rattle.dali_concurrent.specs.Entries.{Did}
use Rattle.dali_concurrent.specs.Told.{Leaves, OnSystem, Item}
use Rattle.dali_concurrent.specs.Own.{HasOnly, takes_one}
use Rattle.dali_locked.specs.Begun.{Begun, may_add, outset, FromEach, Of, homed}
use Rattle.dali_locked.specs.Sights.{ClientSight, SystemSight, HasLogged, Knows}
use Rattle.dali_locked.specs.SystemSteps.{Resting, Driving, Asking, GoesOn, Keeps, Takes, TakesClaim, LetsGo, LetsClaim, Settling, MayEnd, HasGone, Auditing, PassesTold, Cleaning, MayGiveBack, NotChecking, Checking, HasJust, given_in, given as given_by, deed_of}
use Rattle.dali_locked.proofs.SystemTelling.{Hands, may_tell, known, client_kept, system_kept, system_met, met, met_kept, has_still, has_begun, has_ended, has_claimed, has_let, logged_there}
use Rattle.dali_locked.proofs.SystemCases.{done_line, done_rests, commit_line, commit_settles, end_line, end_gone}
use Rattle.dali_locked.proofs.SystemMore.{audit_room, claim_line, claim_cleans, start_line, start_checks, finish_line, finish_ends, meet_line, meet_still, stop_line, audit_line, audit_opened, audit_end_line, claimed_now, give_line, grant_line, grant_drives, busy_line, busy_rests}
use Rattle.dali_locked.proofs.system.LockedSystem.end_audit.Given as given
use Rattle.dali_locked.proofs.system.LockedSystem.end_audit.Goals as goal

abbrev item : ℕ → Judged → SystemState → Item
item c v z = (Did (Logs (audit_record v.begin v.failing)) c, OnSystem z, Does (AuditEnds v.begin v.failing) ∷ [])

same_item : (c : ℕ) (v w : Judged) (z u : Served) → w ≡ v → u ≡ z → item c w u.state ≡ item c v z.state
same_item c v w z u is now = ap (λ r. item c r u.state) is ∙ ap (λ (s : Served). item c v s.state) now

abbrev found : Audited → Judged
found a = record { begin = a.begin; failing = damaged a.findings }

pub tell-requires-clause-may : goal.tell-requires-clause-may
tell-requires-clause-may g c κs within =
    let b = (homed g.H.Home.table g.B.Beginning.begun) in
    let x = c.client.inside.note in
    let y = c.self.inside.note in
    let id : ℕ = c.client.inside.id in
    let st : SystemState = c.self.inside.system.state in
    let h : Hands b x y id st = record { client = c.client.invariant.1; system = c.self.invariant.1; led = c.client.invariant.2; told = c.self.invariant.3 } in
    subst (MayAdd (may_add b) (x ∷ y ∷ [])) (sym (same_item id (found c.args.audit) c.in_ok-verdict.verdict (record c.self.inside.system { state = audit_ended st c.args.audit.begin (damaged c.args.audit.findings) }) c.end.new.system c.in_ok-verdict.ensures.verdict c.in_ok-verdict.ensures.ok))
    (may_tell b x y id st h (item id (found c.args.audit) (audit_ended st c.args.audit.begin (damaged c.args.audit.findings))) (λ s p from now hand.
    audit_end_line (bases_of s) p (outset b s p) b.count id x.seen st now hand c.args.audit.begin c.args.audit.findings c.in_ok-verdict.ensures.runs (subst (λ (v : ClientSight). Knows b (Auditing v.id c.args.audit.begin) v) (sym c.client.view_is) c.requires.audits s p from) (subst (λ (v : ClientSight). Knows b (PassesTold c.args.audit.begin c.args.audit.findings) v) (sym c.client.view_is) c.requires.told s p from) c.waits-few.ensures.few c.requires.passed))

module _ (g : given.Over) (c : goal.After-tell g) where
  abbrev b : Begun
  b = (homed g.H.Home.table g.B.Beginning.begun)

  abbrev x : Sight Item
  x = c.client.inside.note

  abbrev y : Sight Item
  y = c.self.inside.note

  abbrev id : ℕ
  id = c.client.inside.id

  abbrev st : SystemState
  st = c.self.inside.system.state

  hands : Hands b x y id st
  hands = record { client = c.client.invariant.1; system = c.self.invariant.1; led = c.client.invariant.2; told = c.self.invariant.3 }

  added : Added (x ∷ y ∷ []) (item id (found c.args.audit) (audit_ended st c.args.audit.begin (damaged c.args.audit.findings))) c.tell.new.client.seen
  added = subst (λ i. Added (x ∷ y ∷ []) i c.tell.new.client.seen) (same_item id (found c.args.audit) c.in_ok-verdict.verdict (record c.self.inside.system { state = audit_ended st c.args.audit.begin (damaged c.args.audit.findings) }) c.end.new.system c.in_ok-verdict.ensures.verdict c.in_ok-verdict.ensures.ok) c.tell.ensures.added

-- the end of an audit is no begin and no claim
not_taken : (a c : ℕ) (found : List ℕ) → takes_one c (Did (Logs (audit_record a found)) c) ≡ false
not_taken a c [] = refl
not_taken a c (r ∷ rs) = refl

pub invariant_of-self-2 : goal.invariant_of-self-2
invariant_of-self-2 g c =
    system_kept (b g c) (x g c) (y g c) (id g c) (st g c) (hands g c) c.tell.new.system (Did (Logs (audit_record c.in_ok-verdict.verdict.begin c.in_ok-verdict.verdict.failing)) (id g c)) c.end.new.system.state (Does (AuditEnds c.in_ok-verdict.verdict.begin c.in_ok-verdict.verdict.failing) ∷ []) c.tell.new.client.seen
    c.tell.ensures.system c.self.invariant.0 c.tell.ensures.added c.tell.ensures.all

pub invariant_of-client : goal.invariant_of-client
invariant_of-client g c = client_kept (b g c) (x g c) (y g c) (id g c) (st g c) (hands g c) c.tell.new.client c.tell.ensures.client c.client.invariant.0 c.tell.ensures.all

pub returns-clause-keeps : goal.returns-clause-keeps
returns-clause-keeps g c =
    subst (λ (v : ClientSight). Keeps (b g c) v (record { id = v.id; seen = c.tell.new.client.seen })) c.client.view_is
    (has_still (b g c) (x g c) (y g c) (id g c) (st g c) (hands g c) (Logs (audit_record c.in_ok-verdict.verdict.begin c.in_ok-verdict.verdict.failing)) (OnSystem c.end.new.system.state) (Does (AuditEnds c.in_ok-verdict.verdict.begin c.in_ok-verdict.verdict.failing) ∷ []) c.tell.new.client.seen c.tell.ensures.added c.tell.ensures.all (not_taken c.in_ok-verdict.verdict.begin (id g c) c.in_ok-verdict.verdict.failing))

pub returns-clause-receipt : goal.returns-clause-receipt
returns-clause-receipt g c =
    subst (λ (v : SystemSight). Knows (b g c) (HasLogged v.served.state.records (audit_record c.args.audit.begin (damaged c.args.audit.findings))) (record { id = id g c; seen = c.tell.new.client.seen })) c.self.view_is
    (known (b g c) (x g c) (y g c) (id g c) (st g c) (hands g c) (item (id g c) (found c.args.audit) (audit_ended (st g c) c.args.audit.begin (damaged c.args.audit.findings))) c.tell.new.client.seen (added g c) c.tell.ensures.all (HasLogged (st g c).records (audit_record c.args.audit.begin (damaged c.args.audit.findings)))
    (λ s p from now hand behind. logged_there (bases_of s) p (outset (b g c) s p) (b g c).count (id g c) (x g c).seen (st g c) now hand _ (audit_record c.args.audit.begin (damaged c.args.audit.findings)) _ _))
