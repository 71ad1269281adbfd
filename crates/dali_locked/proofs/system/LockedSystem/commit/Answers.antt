use Rattle.std.proofs.Common.{◌≡◌, ℕ, true, false, [], ◌∷◌, Option, Some, None, refl, sym, ap, subst, ◌∙◌}
use Rattle.std.specs.Prelude.{◌==◌}
use Rattle.std.specs.FinMap as map
use Rattle.dali_geometry.specs.Places.{regions}
use Rattle.dali_lists.proofs.Numbers.{eqb-self}
use Rattle.dali_record.specs.declared.records.Answer.{Answer}
use Rattle.dali_record.specs.declared.records.Record.{Record}
use Rattle.dali_record.specs.declared.records.Record.TheVariants.{Begin, Done, Commit, Ended, AuditBegin}
use Rattle.dali_locks.specs.declared.mode.LockAnswer.TheVariants.{Granted, Busy}
use Rattle.dali_locks.specs.Locks.{IsAnswer}
use Rattle.dali_att.specs.declared.state.State.TheVariants.{Live, Dead, Cleaning as Claimed}
use Rattle.dali_runs.specs.State.{SystemState, state_of}
use Rattle.dali_runs.specs.Steps.{begun, done_logged, commit_logged, ended_logged, audit_begun, audit_ended, audit_record, in_state, in_checkpoint, granted, refused}
use Rattle.dali_runs.specs.Courses.{Begins, Answers, Commits, Ends, AuditBegins, AuditEnds, Claims as ClaimsIt, GivesBack as GivesItBack, Locks, Refuses}
use Rattle.dali_crash.specs.Checkpoints.{StoreStep, Does, Starts, Finishes}
use Rattle.dali_crash.specs.Traces.{bases_of}
use Rattle.dali_system.specs.Served.{Served}
use Rattle.dali_transcripts.specs.Words.{StoppedBy, UnderWay}
use Rattle.dali_transcripts.specs.World.{Deed, Logs, Claims, GivesBack, GetsLock, StartsCheckpoint, EndsCheckpoint, Meets, is_dead_in}
use Rattle.dali_transcripts.specs.Telling.Deeds.{refusal_at}
use Rattle.dali_audit.specs.Findings.{Judged, Audited, damaged}
use Rattle.dali_calls.specs.Steps.{call_key, answer_of}
use Rattle.dali_calls.specs.Plans.{Planned, mode_of, answered}
use Rattle.dali_notes.specs.History.{MayAdd, Added, Sight}
use Rattle.dali_concurrent.specs.Entries.{Did}
use Rattle.dali_concurrent.specs.Told.{Leaves, OnSystem, Item}
use Rattle.dali_concurrent.specs.Own.{HasOnly}
use Rattle.dali_locked.specs.Begun.{Begun, may_add, outset, FromEach, Of, homed}
use Rattle.dali_locked.specs.Sights.{ClientSight, HasLogged, Knows}
use Rattle.dali_locked.specs.SystemSteps.{Resting, Driving, Asking, GoesOn, Keeps, Takes, TakesClaim, LetsGo, LetsClaim, Settling, MayEnd, HasGone, Auditing, PassesTold, Cleaning, MayGiveBack, NotChecking, Checking, HasJust, given_in, given as given_by, deed_of}
use Rattle.dali_locked.proofs.SystemTelling.{Hands, may_tell, known, client_kept, system_kept, system_met, met, met_kept, has_still, has_begun, has_ended, has_claimed, has_let, logged_there}
use Rattle.dali_locked.proofs.SystemCases.{done_line, done_rests, commit_line, commit_settles, end_line, end_gone}
use Rattle.dali_locked.proofs.SystemMore.{audit_room, claim_line, claim_cleans, start_line, start_checks, finish_line, finish_ends, meet_line, meet_still, stop_line, audit_line, audit_opened, audit_end_line, claimed_now, give_line, grant_line, grant_drives, busy_line, busy_rests}
use Rattle.dali_lists.proofs.Tests.{not_both_ways}
use Rattle.dali_transcripts.specs.World.{is_claimed_in}
use Rattle.dali_concurrent.specs.Entries.{client_note}
use Rattle.dali_locked.specs.Begun.{Led}
use Rattle.dali_locked.proofs.SystemCases.{resting_now, lives_now}
use Rattle.dali_locked.proofs.system.LockedSystem.commit.Given as given
use Rattle.dali_locked.proofs.system.LockedSystem.commit.Goals as goal

pub tell-requires-clause-may : goal.tell-requires-clause-may
tell-requires-clause-may g c κs within =
    let b = (homed g.H.Home.table g.B.Beginning.begun) in
    let x = c.client.inside.note in
    let y = c.self.inside.note in
    let id : ℕ = c.client.inside.id in
    let st : SystemState = c.self.inside.system.state in
    let h : Hands b x y id st = record { client = c.client.invariant.1; system = c.self.invariant.1; led = c.client.invariant.2; told = c.self.invariant.3 } in
    subst (λ (v : Served). MayAdd (may_add b) (x ∷ y ∷ []) (Did (Logs (Commit c.args.txn)) id, OnSystem v.state, Does (Commits c.args.txn) ∷ [])) (sym c.in-Ok.ensures.system)
    (may_tell b x y id st h (Did (Logs (Commit c.args.txn)) id, OnSystem (commit_logged st c.args.txn), Does (Commits c.args.txn) ∷ []) (λ s p from now hand. commit_line (bases_of s) p (outset b s p) b.count id x.seen st now hand c.args.txn (subst (λ (v : ClientSight). Knows b (Resting v.id c.args.txn) v) (sym c.client.view_is) c.requires.rests s p from) c.in-Ok.ensures.runs))

module _ (g : given.Over) (c : goal.After-tell g) where
  abbrev b : Begun
  b = (homed g.H.Home.table g.B.Beginning.begun)

  abbrev x : Sight Item
  x = c.client.inside.note

  abbrev y : Sight Item
  y = c.self.inside.note

  abbrev id : ℕ
  id = c.client.inside.id

  abbrev st : SystemState
  st = c.self.inside.system.state

  hands : Hands b x y id st
  hands = record { client = c.client.invariant.1; system = c.self.invariant.1; led = c.client.invariant.2; told = c.self.invariant.3 }

  added : Added (x ∷ y ∷ []) (Did (Logs (Commit c.args.txn)) id, OnSystem (commit_logged st c.args.txn), Does (Commits c.args.txn) ∷ []) c.tell.new.client.seen
  added = subst (λ (v : Served). Added (x ∷ y ∷ []) (Did (Logs (Commit c.args.txn)) id, OnSystem v.state, Does (Commits c.args.txn) ∷ []) c.tell.new.client.seen) c.in-Ok.ensures.system c.tell.ensures.added

pub invariant_of-self-2 : goal.invariant_of-self-2
invariant_of-self-2 g c =
    system_kept (b g c) (x g c) (y g c) (id g c) (st g c) (hands g c) c.tell.new.system (Did (Logs (Commit c.args.txn)) (id g c)) c.log_commit.new.system.state (Does (Commits c.args.txn) ∷ []) c.tell.new.client.seen
    c.tell.ensures.system c.self.invariant.0 c.tell.ensures.added c.tell.ensures.all

pub invariant_of-client-2 : goal.invariant_of-client-2
invariant_of-client-2 g c = client_kept (b g c) (x g c) (y g c) (id g c) (st g c) (hands g c) c.tell.new.client c.tell.ensures.client c.client.invariant.0 c.tell.ensures.all

pub returns-clause-settles : goal.returns-clause-settles
returns-clause-settles g c =
    subst (λ (v : ClientSight). Knows (b g c) (Settling v.id c.args.txn c.in-Ok.given.0.items) (record { id = v.id; seen = c.tell.new.client.seen })) c.client.view_is
    (known (b g c) (x g c) (y g c) (id g c) (st g c) (hands g c) (Did (Logs (Commit c.args.txn)) (id g c), OnSystem (commit_logged (st g c) c.args.txn), Does (Commits c.args.txn) ∷ []) c.tell.new.client.seen (added g c) c.tell.ensures.all (Settling (id g c) c.args.txn c.in-Ok.given.0.items) (λ s p from now hand behind. commit_settles (bases_of s) p (outset (b g c) s p) (b g c).count (id g c) (x g c).seen (st g c) now hand c.args.txn (subst (λ (v : ClientSight). Knows (b g c) (Resting v.id c.args.txn) v) (sym c.client.view_is) c.requires.rests s p from) c.in-Ok.ensures.runs c.in-Ok.given.0.items c.in-Ok.ensures.removals))

pub returns-clause-keeps : goal.returns-clause-keeps
returns-clause-keeps g c =
    subst (λ (v : ClientSight). Keeps (b g c) v (record { id = v.id; seen = c.tell.new.client.seen })) c.client.view_is
    (has_still (b g c) (x g c) (y g c) (id g c) (st g c) (hands g c) (Logs (Commit c.args.txn)) (OnSystem c.log_commit.new.system.state) (Does (Commits c.args.txn) ∷ []) c.tell.new.client.seen c.tell.ensures.added c.tell.ensures.all refl)

pub returns-clause-receipt : goal.returns-clause-receipt
returns-clause-receipt g c =
    subst (λ t. Knows (b g c) (HasLogged t (Commit c.args.txn)) (record { id = id g c; seen = c.tell.new.client.seen })) (sym c.in-Ok.ensures.number)
    (known (b g c) (x g c) (y g c) (id g c) (st g c) (hands g c) (Did (Logs (Commit c.args.txn)) (id g c), OnSystem c.log_commit.new.system.state, Does (Commits c.args.txn) ∷ []) c.tell.new.client.seen c.tell.ensures.added c.tell.ensures.all (HasLogged (st g c).records (Commit c.args.txn))
    (λ s p from now hand behind. logged_there (bases_of s) p (outset (b g c) s p) (b g c).count (id g c) (x g c).seen (st g c) now hand _ (Commit c.args.txn) _ _))

-- ---- it isn't live
module _ (g : given.Over) (c : goal.After-meet g) where
  abbrev hands_then : Hands (homed g.H.Home.table g.B.Beginning.begun) c.client.inside.note c.self.inside.note c.client.inside.id c.self.inside.system.state
  hands_then = record { client = c.client.invariant.1; system = c.self.invariant.1; led = c.client.invariant.2; told = c.self.invariant.3 }

  live_then : FromEach (homed g.H.Home.table g.B.Beginning.begun) (λ s p. state_of c.self.inside.system.state c.args.txn ≡ Some Live)
  live_then s p from =
      let hand = met (homed g.H.Home.table g.B.Beginning.begun) c.client.inside.note c.self.inside.note c.client.inside.id c.self.inside.system.state hands_then c.meet.new.note.seen c.meet.ensures.theirs c.meet.ensures.seen c.meet.ensures.all s p from in
      let rests = resting_now (bases_of s) p (outset (homed g.H.Home.table g.B.Beginning.begun) s p) (homed g.H.Home.table g.B.Beginning.begun).count c.client.inside.id c.client.inside.note.seen c.self.inside.system.state c.meet.new.note.seen hand c.args.txn
      (subst (λ (v : ClientSight). Knows (homed g.H.Home.table g.B.Beginning.begun) (Resting v.id c.args.txn) v) (sym c.client.view_is) c.requires.rests s p from) in
      ap (λ (z : SystemState). state_of z c.args.txn) hand.is ∙ lives_now (bases_of s) p (outset (homed g.H.Home.table g.B.Beginning.begun) s p) (homed g.H.Home.table g.B.Beginning.begun).count c.client.inside.id c.client.inside.note.seen c.self.inside.system.state c.meet.new.note.seen hand c.args.txn rests.acts

pub returns-then-not-is_live-clause-unfit : goal.returns-then-not-is_live-clause-unfit
returns-then-not-is_live-clause-unfit g c = λ e s p from. absurd (not_both_ways (c.is_live.ensures.told (c.state.ensures ∙ live_then g c s p from)) c.if-not-is_live.true)

pub invariant_of-self : goal.invariant_of-self
invariant_of-self g c = met_kept (homed g.H.Home.table g.B.Beginning.begun) c.client.inside.note c.self.inside.note c.client.inside.id c.self.inside.system.state (hands_then g c) c.meet.new.note
    (c.meet.ensures.table ∙ c.self.invariant.0) c.meet.ensures.number c.meet.ensures.theirs c.meet.ensures.seen c.meet.ensures.all

pub invariant_of-client : goal.invariant_of-client
invariant_of-client g c = subst (λ (n : Sight Item). (n.table ≡ (homed g.H.Home.table g.B.Beginning.begun).table) × (n.number ≡ client_note (homed g.H.Home.table g.B.Beginning.begun).count c.client.inside.id) × Led (homed g.H.Home.table g.B.Beginning.begun) n.seen) (sym c.meet.ensures.other) c.client.invariant
