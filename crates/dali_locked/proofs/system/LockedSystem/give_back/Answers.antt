use Rattle.std.proofs.Common.{◌≡◌, ℕ, true, false, not, [], ◌∷◌, Option, Some, None, refl, sym, ap, subst, ◌∙◌}
use Rattle.std.specs.Prelude.{◌==◌, if◌then◌else◌}
use Rattle.std.specs.FinMap as map
use Rattle.dali_geometry.specs.Places.{regions}
use Rattle.dali_lists.proofs.Numbers.{eqb-self}
use Rattle.dali_record.specs.declared.records.Answer.{Answer}
use Rattle.dali_record.specs.declared.records.Record.{Record}
use Rattle.dali_record.specs.declared.records.Record.TheVariants.{Begin, Done, Commit, Ended, AuditBegin}
use Rattle.dali_locks.specs.declared.mode.LockAnswer.TheVariants.{Granted, Busy}
use Rattle.dali_locks.specs.Locks.{IsAnswer}
use Rattle.dali_att.specs.declared.state.State.TheVariants.{Live, Dead, Cleaning as Claimed}
use Rattle.dali_runs.specs.State.{SystemState, state_of}
use Rattle.dali_runs.specs.Steps.{begun, done_logged, commit_logged, ended_logged, audit_begun, audit_ended, audit_record, in_state, in_checkpoint, granted, refused}
use Rattle.dali_runs.specs.Courses.{Begins, Answers, Commits, Ends, AuditBegins, AuditEnds, Claims as ClaimsIt, GivesBack as GivesItBack, Locks, Refuses}
use Rattle.dali_crash.specs.Checkpoints.{StoreStep, Does, Starts, Finishes}
use Rattle.dali_crash.specs.Traces.{bases_of}
use Rattle.dali_system.specs.Served.{Served}
use Rattle.dali_transcripts.specs.Words.{StoppedBy, UnderWay}
use Rattle.dali_transcripts.specs.World.{Deed, Logs, Claims, GivesBack, GetsLock, StartsCheckpoint, EndsCheckpoint, Meets, is_dead_in}
use Rattle.dali_transcripts.specs.Telling.Deeds.{refusal_at}
use Rattle.dali_audit.specs.Findings.{Judged, Audited, damaged}
use Rattle.dali_calls.specs.Steps.{call_key, answer_of}
use Rattle.dali_calls.specs.Plans.{Planned, mode_of, answered}
use Rattle.dali_notes.specs.History.{MayAdd, Added, Sight}
use Rattle.dali_concurrent.specs.Entries.{Did}
use Rattle.dali_concurrent.specs.Told.{Leaves, OnSystem, Item}
use Rattle.dali_concurrent.specs.Own.{HasOnly}
use Rattle.dali_locked.specs.Begun.{Begun, may_add, outset, FromEach, Of, homed}
use Rattle.dali_locked.specs.Sights.{ClientSight, HasLogged, Knows}
use Rattle.dali_locked.specs.SystemSteps.{Resting, Driving, Asking, GoesOn, Keeps, Takes, TakesClaim, LetsGo, LetsClaim, StaysAll, StaysBut, Settling, MayEnd, HasGone, Auditing, PassesTold, Cleaning, MayGiveBack, NotChecking, Checking, HasJust, given_in, given as given_by, deed_of}
use Rattle.dali_locked.proofs.SystemTelling.{Hands, may_tell, known, client_kept, system_kept, system_met, met, met_kept, has_still, has_begun, has_ended, has_claimed, has_let, logged_there}
use Rattle.dali_locked.proofs.SystemCases.{done_line, done_rests, commit_line, commit_settles, end_line, end_gone}
use Rattle.dali_locked.proofs.SystemMore.{audit_room, claim_line, claim_cleans, start_line, start_checks, finish_line, finish_ends, meet_line, meet_still, stop_line, audit_line, audit_opened, audit_end_line, claimed_now, give_line, grant_line, grant_drives, busy_line, busy_rests}
use Rattle.dali_lists.proofs.Tests.{not_both_ways}
use Rattle.dali_transcripts.specs.World.{is_claimed_in}
use Rattle.dali_concurrent.specs.Entries.{client_note}
use Rattle.dali_locked.specs.Begun.{Led}
use Rattle.dali_locked.proofs.SystemCases.{resting_now, lives_now}
use Rattle.dali_locked.proofs.SystemAside.{resting_aside, driving_aside, resting_met, driving_met, begin_full, audit_full, answer_full, full_of}
use Rattle.dali_locked.proofs.system.LockedSystem.give_back.Given as given
use Rattle.dali_locked.proofs.system.LockedSystem.give_back.Goals as goal

pub tell-requires-clause-may : goal.tell-requires-clause-may
tell-requires-clause-may g c κs within =
    let b = (homed g.H.Home.table g.B.Beginning.begun) in
    let x = c.client.inside.note in
    let y = c.self.inside.note in
    let id : ℕ = c.client.inside.id in
    let st : SystemState = c.self.inside.system.state in
    let h : Hands b x y id st = record { client = c.client.invariant.1; system = c.self.invariant.1; led = c.client.invariant.2; told = c.self.invariant.3 } in
    subst (λ (v : Served). MayAdd (may_add b) (x ∷ y ∷ []) (Did (GivesBack c.args.txn None) id, OnSystem v.state, Does (GivesItBack c.args.txn None) ∷ [])) (sym c.mark_dead.ensures)
    (may_tell b x y id st h (Did (GivesBack c.args.txn None) id, OnSystem (in_state st c.args.txn (Dead None)), Does (GivesItBack c.args.txn None) ∷ []) (λ s p from now hand. give_line (bases_of s) p (outset b s p) b.count id x.seen st now hand c.args.txn (subst (λ (v : ClientSight). Knows b (MayGiveBack v.id c.args.txn) v) (sym c.client.view_is) c.requires.may s p from)))

module _ (g : given.Over) (c : goal.After-tell g) where
  abbrev b : Begun
  b = (homed g.H.Home.table g.B.Beginning.begun)

  abbrev x : Sight Item
  x = c.client.inside.note

  abbrev y : Sight Item
  y = c.self.inside.note

  abbrev id : ℕ
  id = c.client.inside.id

  abbrev st : SystemState
  st = c.self.inside.system.state

  hands : Hands b x y id st
  hands = record { client = c.client.invariant.1; system = c.self.invariant.1; led = c.client.invariant.2; told = c.self.invariant.3 }

  added : Added (x ∷ y ∷ []) (Did (GivesBack c.args.txn None) id, OnSystem (in_state st c.args.txn (Dead None)), Does (GivesItBack c.args.txn None) ∷ []) c.tell.new.client.seen
  added = subst (λ (v : Served). Added (x ∷ y ∷ []) (Did (GivesBack c.args.txn None) id, OnSystem v.state, Does (GivesItBack c.args.txn None) ∷ []) c.tell.new.client.seen) c.mark_dead.ensures c.tell.ensures.added

pub invariant_of-self-2 : goal.invariant_of-self-2
invariant_of-self-2 g c =
    system_kept (b g c) (x g c) (y g c) (id g c) (st g c) (hands g c) c.tell.new.system (Did (GivesBack c.args.txn None) (id g c)) c.mark_dead.new.self.state (Does (GivesItBack c.args.txn None) ∷ []) c.tell.new.client.seen
    c.tell.ensures.system c.self.invariant.0 c.tell.ensures.added c.tell.ensures.all

pub invariant_of-client-2 : goal.invariant_of-client-2
invariant_of-client-2 g c = client_kept (b g c) (x g c) (y g c) (id g c) (st g c) (hands g c) c.tell.new.client c.tell.ensures.client c.client.invariant.0 c.tell.ensures.all

pub returns-clause-lets : goal.returns-clause-lets
returns-clause-lets g c =
    subst (λ (v : ClientSight). LetsClaim (b g c) v c.args.txn (record { id = v.id; seen = c.tell.new.client.seen })) c.client.view_is
    (has_let (b g c) (x g c) (y g c) (id g c) (st g c) (hands g c) (GivesBack c.args.txn None) (OnSystem c.mark_dead.new.self.state) (Does (GivesItBack c.args.txn None) ∷ []) c.tell.new.client.seen c.tell.ensures.added c.tell.ensures.all c.args.txn (eqb-self c.args.txn))

pub returns-clause-beside : goal.returns-clause-beside
returns-clause-beside g c =
    subst (λ (v : ClientSight). StaysBut (b g c) v c.args.txn (record { id = v.id; seen = c.tell.new.client.seen })) c.client.view_is (λ t apart. (
      λ w. known (b g c) (x g c) (y g c) (id g c) (st g c) (hands g c) (Did (GivesBack c.args.txn None) (id g c), OnSystem (in_state (st g c) c.args.txn (Dead None)), Does (GivesItBack c.args.txn None) ∷ []) c.tell.new.client.seen (added g c) c.tell.ensures.all (Resting (id g c) t) (λ s p from now hand behind. resting_aside (bases_of s) p (outset (b g c) s p) (b g c).count (id g c) (x g c).seen (st g c) now hand (GivesBack c.args.txn None) (in_state (st g c) c.args.txn (Dead None)) (GivesItBack c.args.txn None) behind t (ap not apart) (λ a. refl) (w s p from)),
      λ q own w. known (b g c) (x g c) (y g c) (id g c) (st g c) (hands g c) (Did (GivesBack c.args.txn None) (id g c), OnSystem (in_state (st g c) c.args.txn (Dead None)), Does (GivesItBack c.args.txn None) ∷ []) c.tell.new.client.seen (added g c) c.tell.ensures.all (Driving (id g c) q) (λ s p from now hand behind. driving_aside (bases_of s) p (outset (b g c) s p) (b g c).count (id g c) (x g c).seen (st g c) now hand (GivesBack c.args.txn None) (in_state (st g c) c.args.txn (Dead None)) (GivesItBack c.args.txn None) behind t (ap not apart) (λ a. refl) q own (w s p from)),
    ))

-- ---- it isn't claimed
module _ (g : given.Over) (c : goal.After-meet g) where
  abbrev hands_then : Hands (homed g.H.Home.table g.B.Beginning.begun) c.client.inside.note c.self.inside.note c.client.inside.id c.self.inside.system.state
  hands_then = record { client = c.client.invariant.1; system = c.self.invariant.1; led = c.client.invariant.2; told = c.self.invariant.3 }

  claimed_then : FromEach (homed g.H.Home.table g.B.Beginning.begun) (λ s p. is_claimed_in (state_of c.self.inside.system.state c.args.txn) ≡ true)
  claimed_then s p from =
      let hand = met (homed g.H.Home.table g.B.Beginning.begun) c.client.inside.note c.self.inside.note c.client.inside.id c.self.inside.system.state hands_then c.meet.new.note.seen c.meet.ensures.theirs c.meet.ensures.seen c.meet.ensures.all s p from in
      ap is_claimed_in (claimed_now (bases_of s) p (outset (homed g.H.Home.table g.B.Beginning.begun) s p) (homed g.H.Home.table g.B.Beginning.begun).count c.client.inside.id c.client.inside.note.seen c.self.inside.system.state c.meet.new.note.seen hand c.args.txn
      (subst (λ (v : ClientSight). Knows (homed g.H.Home.table g.B.Beginning.begun) (MayGiveBack v.id c.args.txn) v) (sym c.client.view_is) c.requires.may s p from))

pub returns-then-not-is_claimed-clause-unfit : goal.returns-then-not-is_claimed-clause-unfit
returns-then-not-is_claimed-clause-unfit g c = (refl, λ s p from. absurd (not_both_ways (c.is_claimed.ensures.told ∙ (ap is_claimed_in c.state.ensures ∙ claimed_then g c s p from)) c.if-not-is_claimed.true))

pub invariant_of-self : goal.invariant_of-self
invariant_of-self g c = met_kept (homed g.H.Home.table g.B.Beginning.begun) c.client.inside.note c.self.inside.note c.client.inside.id c.self.inside.system.state (hands_then g c) c.meet.new.note
    (c.meet.ensures.table ∙ c.self.invariant.0) c.meet.ensures.number c.meet.ensures.theirs c.meet.ensures.seen c.meet.ensures.all

pub invariant_of-client : goal.invariant_of-client
invariant_of-client g c = subst (λ (n : Sight Item). (n.table ≡ (homed g.H.Home.table g.B.Beginning.begun).table) × (n.number ≡ client_note (homed g.H.Home.table g.B.Beginning.begun).count c.client.inside.id) × Led (homed g.H.Home.table g.B.Beginning.begun) n.seen) (sym c.meet.ensures.other) c.client.invariant
