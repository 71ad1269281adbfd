use Rattle.std.proofs.Common.{◌≡◌, ℕ, true, false, [], ◌∷◌, Option, Some, None, refl, sym, ap, subst, ◌∙◌}
use Rattle.std.specs.Prelude.{◌==◌}
use Rattle.std.specs.FinMap as map
use Rattle.dali_geometry.specs.Places.{regions}
use Rattle.dali_lists.proofs.Numbers.{eqb-self}
use Rattle.dali_record.specs.declared.records.Answer.{Answer}
use Rattle.dali_record.specs.declared.records.Record.{Record}
use Rattle.dali_record.specs.declared.records.Record.TheVariants.{Begin, Done, Commit, Ended, AuditBegin}
use Rattle.dali_locks.specs.declared.mode.LockAnswer.TheVariants.{Granted, Busy}
use Rattle.dali_locks.specs.Locks.{IsAnswer}
use Rattle.dali_att.specs.declared.state.State.TheVariants.{Live, Dead, Cleaning as Claimed}
use Rattle.dali_runs.specs.State.{SystemState, state_of}
use Rattle.dali_runs.specs.Steps.{begun, done_logged, commit_logged, ended_logged, audit_begun, audit_ended, audit_record, in_state, in_checkpoint, granted, refused}
use Rattle.dali_runs.specs.Courses.{Begins, Answers, Commits, Ends, AuditBegins, AuditEnds, Claims as ClaimsIt, GivesBack as GivesItBack, Locks, Refuses}
use Rattle.dali_crash.specs.Checkpoints.{StoreStep, Does, Starts, Finishes}
use Rattle.dali_crash.specs.Traces.{bases_of}
use Rattle.dali_system.specs.Served.{Served}
use Rattle.dali_transcripts.specs.Words.{StoppedBy, UnderWay}
use Rattle.dali_transcripts.specs.World.{Deed, Logs, Claims, GivesBack, GetsLock, StartsCheckpoint, EndsCheckpoint, Meets, is_dead_in}
use Rattle.dali_transcripts.specs.Telling.Deeds.{refusal_at}
use Rattle.dali_audit.specs.Findings.{Judged, Audited, damaged}
use Rattle.dali_calls.specs.Steps.{call_key, answer_of}
use Rattle.dali_calls.specs.Plans.{Planned, mode_of, answered}
use Rattle.dali_notes.specs.History.{MayAdd, Added, Sight}
use Rattle.dali_concurrent.specs.Entries.{Did}
use Rattle.dali_concurrent.specs.Told.{Leaves, OnSystem, Item}
use Rattle.dali_concurrent.specs.Own.{HasOnly}
use Rattle.dali_locked.specs.Begun.{Begun, may_add, outset, FromEach, Of, homed}
use Rattle.dali_locked.specs.Sights.{ClientSight, HasLogged, Knows}
use Rattle.dali_locked.specs.SystemSteps.{Resting, Driving, Asking, GoesOn, Keeps, Takes, TakesClaim, LetsGo, LetsClaim, StaysAll, StaysBut, Settling, MayEnd, HasGone, Auditing, PassesTold, Cleaning, MayGiveBack, NotChecking, Checking, HasJust, given_in, given as given_by, deed_of}
use Rattle.dali_locked.proofs.SystemTelling.{Hands, may_tell, known, client_kept, system_kept, system_met, met, met_kept, has_still, has_begun, has_ended, has_claimed, has_let, logged_there}
use Rattle.dali_locked.proofs.SystemCases.{done_line, done_rests, commit_line, commit_settles, end_line, end_gone}
use Rattle.dali_locked.proofs.SystemMore.{audit_room, claim_line, claim_cleans, start_line, start_checks, finish_line, finish_ends, meet_line, meet_still, stop_line, audit_line, audit_opened, audit_end_line, claimed_now, give_line, grant_line, grant_drives, busy_line, busy_rests}
use Rattle.dali_locked.proofs.SystemAside.{resting_aside, driving_aside, resting_met, driving_met, begin_full, audit_full, answer_full, full_of}
use Rattle.dali_locked.proofs.system.LockedSystem.meet_stop.Given as given
use Rattle.dali_locked.proofs.system.LockedSystem.meet_stop.Goals as goal

pub tell-requires-clause-may : goal.tell-requires-clause-may
tell-requires-clause-may g c κs within =
    let b = (homed g.H.Home.table g.B.Beginning.begun) in
    let x = c.client.inside.note in
    let y = c.self.inside.note in
    let id : ℕ = c.client.inside.id in
    let st : SystemState = c.self.inside.system.state in
    let h : Hands b x y id st = record { client = c.client.invariant.1; system = c.self.invariant.1; led = c.client.invariant.2; told = c.self.invariant.3 } in
    may_tell b x y id st h (Did (Meets (StoppedBy c.in_ok-cause.cause)) id, Leaves, []) (λ s p from now hand. stop_line (bases_of s) p (outset b s p) b.count id x.seen st now hand c.in_ok-cause.cause (sym c.stopped.ensures ∙ c.in_ok-cause.was))

module _ (g : given.Over) (c : goal.After-tell g) where
  abbrev b : Begun
  b = (homed g.H.Home.table g.B.Beginning.begun)

  abbrev x : Sight Item
  x = c.client.inside.note

  abbrev y : Sight Item
  y = c.self.inside.note

  abbrev id : ℕ
  id = c.client.inside.id

  abbrev st : SystemState
  st = c.self.inside.system.state

  hands : Hands b x y id st
  hands = record { client = c.client.invariant.1; system = c.self.invariant.1; led = c.client.invariant.2; told = c.self.invariant.3 }

pub invariant_of-self : goal.invariant_of-self
invariant_of-self g c = system_met (b g c) (x g c) (y g c) (id g c) (st g c) (hands g c) c.tell.new.system (Did (Meets (StoppedBy c.in_ok-cause.cause)) (id g c)) c.tell.new.client.seen c.tell.ensures.system c.self.invariant.0 c.tell.ensures.added c.tell.ensures.all

pub invariant_of-client : goal.invariant_of-client
invariant_of-client g c = client_kept (b g c) (x g c) (y g c) (id g c) (st g c) (hands g c) c.tell.new.client c.tell.ensures.client c.client.invariant.0 c.tell.ensures.all

pub returns-clause-keeps : goal.returns-clause-keeps
returns-clause-keeps g c =
    subst (λ (v : ClientSight). Keeps (b g c) v (record { id = v.id; seen = c.tell.new.client.seen })) c.client.view_is
    (has_still (b g c) (x g c) (y g c) (id g c) (st g c) (hands g c) (Meets (StoppedBy c.in_ok-cause.cause)) Leaves [] c.tell.new.client.seen c.tell.ensures.added c.tell.ensures.all refl)

pub returns-clause-stays : goal.returns-clause-stays
returns-clause-stays g c =
    subst (λ (v : ClientSight). StaysAll (b g c) v (record { id = v.id; seen = c.tell.new.client.seen })) c.client.view_is (λ t. (
      λ w. known (b g c) (x g c) (y g c) (id g c) (st g c) (hands g c) (Did (Meets (StoppedBy c.in_ok-cause.cause)) (id g c), Leaves, []) c.tell.new.client.seen c.tell.ensures.added c.tell.ensures.all (Resting (id g c) t) (λ s p from now hand behind. resting_met (bases_of s) p (outset (b g c) s p) (b g c).count (id g c) (x g c).seen (st g c) now hand (StoppedBy c.in_ok-cause.cause) t (w s p from)),
      λ q own w. known (b g c) (x g c) (y g c) (id g c) (st g c) (hands g c) (Did (Meets (StoppedBy c.in_ok-cause.cause)) (id g c), Leaves, []) c.tell.new.client.seen c.tell.ensures.added c.tell.ensures.all (Driving (id g c) q) (λ s p from now hand behind. driving_met (bases_of s) p (outset (b g c) s p) (b g c).count (id g c) (x g c).seen (st g c) now hand (StoppedBy c.in_ok-cause.cause) q (w s p from)),
    ))
