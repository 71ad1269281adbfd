use Rattle.std.proofs.Common.{◌≡◌, ℕ, ◌+◌, true, false, [], ◌∷◌, Option, Some, None, refl, sym, ap, subst, ◌∙◌}
use Rattle.std.specs.Prelude.{◌==◌}
use Rattle.std.specs.FinMap as map
use Rattle.dali_geometry.specs.Places.{regions}
use Rattle.dali_lists.proofs.Numbers.{eqb-self}
use Rattle.dali_record.specs.declared.records.Answer.{Answer}
use Rattle.dali_record.specs.Spelling.{record_length}
use Rattle.dali_record.specs.declared.records.Record.{Record}
use Rattle.dali_record.specs.declared.records.Record.TheVariants.{Begin, Done, Commit, Ended, AuditBegin}
use Rattle.dali_locks.specs.declared.mode.LockAnswer.TheVariants.{Granted, Busy}
use Rattle.dali_locks.specs.Locks.{IsAnswer}
use Rattle.dali_att.specs.declared.state.State.TheVariants.{Live, Dead, Cleaning as Claimed}
use Rattle.dali_runs.specs.State.{SystemState, state_of}
use Rattle.dali_runs.specs.Steps.{begun, done_logged, commit_logged, ended_logged, audit_begun, audit_ended, audit_record, in_state, in_checkpoint, granted, refused}
use Rattle.dali_runs.specs.Courses.{Begins, Answers, Commits, Ends, AuditBegins, AuditEnds, Claims as ClaimsIt, GivesBack as GivesItBack, Locks, Refuses}
use Rattle.dali_crash.specs.Checkpoints.{StoreStep, Does, Starts, Finishes}
use Rattle.dali_crash.specs.Traces.{bases_of}
use Rattle.dali_system.specs.Served.{Served}
use Rattle.dali_system.specs.declared.error.SystemError.TheVariants.{LogFull}
use Rattle.dali_system.specs.Refused.{refusal}
use Rattle.dali_system.specs.Audits.{audit_refusal}
use Rattle.dali_transcripts.specs.Words.{StoppedBy, Full, UnderWay}
use Rattle.dali_transcripts.specs.World.{Deed, Logs, Claims, GivesBack, GetsLock, StartsCheckpoint, EndsCheckpoint, Meets, is_dead_in}
use Rattle.dali_transcripts.specs.Telling.Deeds.{refusal_at}
use Rattle.dali_audit.specs.Findings.{Judged, Audited, damaged}
use Rattle.dali_calls.specs.Steps.{call_key, answer_of}
use Rattle.dali_calls.specs.Plans.{Planned, mode_of, answered}
use Rattle.dali_notes.specs.History.{MayAdd, Added, Sight}
use Rattle.dali_concurrent.specs.Entries.{Did}
use Rattle.dali_concurrent.specs.Told.{Leaves, OnSystem, Item}
use Rattle.dali_concurrent.specs.Own.{HasOnly}
use Rattle.dali_locked.specs.Begun.{Begun, may_add, outset, FromEach, Of, homed}
use Rattle.dali_locked.specs.Sights.{ClientSight, SystemSight, HasLogged, Knows}
use Rattle.dali_locked.specs.SystemSteps.{Resting, Driving, Asking, GoesOn, Keeps, Takes, TakesClaim, LetsGo, LetsClaim, StaysAll, StaysBut, Settling, MayEnd, HasGone, Auditing, PassesTold, Cleaning, MayGiveBack, NotChecking, Checking, HasJust, given_in, given as given_by, deed_of}
use Rattle.dali_locked.proofs.SystemTelling.{Hands, may_tell, known, client_kept, system_kept, system_met, met, met_kept, has_still, has_begun, has_ended, has_claimed, has_let, logged_there}
use Rattle.dali_locked.proofs.SystemCases.{done_line, done_rests, commit_line, commit_settles, end_line, end_gone}
use Rattle.dali_locked.proofs.SystemMore.{audit_room, claim_line, claim_cleans, start_line, start_checks, finish_line, finish_ends, meet_line, meet_still, stop_line, audit_line, audit_opened, audit_end_line, claimed_now, give_line, grant_line, grant_drives, busy_line, busy_rests}
use Rattle.dali_locked.proofs.SystemAside.{resting_aside, driving_aside, resting_met, driving_met, begin_full, audit_full, answer_full, full_of}
use Rattle.dali_locked.proofs.system.LockedSystem.meet_full_begin.Given as given
use Rattle.dali_locked.proofs.system.LockedSystem.meet_full_begin.Goals as goal

same_full : (c a b end limit : ℕ) → a ≡ end → b ≡ limit → ◌≡◌ {A = Item} (Did (Meets (Full a b)) c, Leaves, []) (Did (Meets (Full end limit)) c, Leaves, [])
same_full c a b end limit e f = ap (λ v. (Did (Meets (Full v b)) c, Leaves, [])) e ∙ ap (λ v. (Did (Meets (Full end v)) c, Leaves, [])) f

pub tell-requires-clause-may : goal.tell-requires-clause-may
tell-requires-clause-may g c κs within =
    let b = (homed g.H.Home.table g.B.Beginning.begun) in
    let x = c.client.inside.note in
    let y = c.self.inside.note in
    let id : ℕ = c.client.inside.id in
    let st : SystemState = c.self.inside.system.state in
    let h : Hands b x y id st = record { client = c.client.invariant.1; system = c.self.invariant.1; led = c.client.invariant.2; told = c.self.invariant.3 } in
    let full = full_of st.stop st.end (st.limit) (9) c.args.end c.args.limit (subst (λ (z : SystemSight). refusal z.served.state (9) ≡ Some (LogFull c.args.end c.args.limit)) (sym c.self.view_is) c.requires.full) in
    subst (MayAdd (may_add b) (x ∷ y ∷ [])) (sym (same_full id c.args.end c.args.limit st.end (st.limit) full.2 full.3))
    (may_tell b x y id st h (Did (Meets (Full st.end (st.limit))) id, Leaves, []) (λ s p from now hand. begin_full (bases_of s) p (outset b s p) b.count id x.seen st now hand full.0 full.1))

module _ (g : given.Over) (c : goal.After-tell g) where
  abbrev b : Begun
  b = (homed g.H.Home.table g.B.Beginning.begun)

  abbrev x : Sight Item
  x = c.client.inside.note

  abbrev y : Sight Item
  y = c.self.inside.note

  abbrev id : ℕ
  id = c.client.inside.id

  abbrev st : SystemState
  st = c.self.inside.system.state

  hands : Hands b x y id st
  hands = record { client = c.client.invariant.1; system = c.self.invariant.1; led = c.client.invariant.2; told = c.self.invariant.3 }

pub invariant_of-self : goal.invariant_of-self
invariant_of-self g c = system_met (b g c) (x g c) (y g c) (id g c) (st g c) (hands g c) c.tell.new.system (Did (Meets (Full c.args.end c.args.limit)) (id g c)) c.tell.new.client.seen c.tell.ensures.system c.self.invariant.0 c.tell.ensures.added c.tell.ensures.all

pub invariant_of-client : goal.invariant_of-client
invariant_of-client g c = client_kept (b g c) (x g c) (y g c) (id g c) (st g c) (hands g c) c.tell.new.client c.tell.ensures.client c.client.invariant.0 c.tell.ensures.all

pub returns-clause-keeps : goal.returns-clause-keeps
returns-clause-keeps g c =
    subst (λ (v : ClientSight). Keeps (b g c) v (record { id = v.id; seen = c.tell.new.client.seen })) c.client.view_is
    (has_still (b g c) (x g c) (y g c) (id g c) (st g c) (hands g c) (Meets (Full c.args.end c.args.limit)) Leaves [] c.tell.new.client.seen c.tell.ensures.added c.tell.ensures.all refl)
