use Rattle.std.proofs.Common.{◌≡◌, ℕ, Bool, true, false, not, [], ◌∷◌, Option, Some, None, refl, sym, ap, subst, ◌∙◌}
use Rattle.std.specs.Prelude.{◌==◌}
use Rattle.std.specs.FinMap as map
use Rattle.dali_geometry.specs.Places.{regions}
use Rattle.dali_lists.proofs.Numbers.{eqb-self}
use Rattle.dali_record.specs.declared.records.Answer.{Answer}
use Rattle.dali_record.specs.declared.records.Record.{Record}
use Rattle.dali_record.specs.declared.records.Record.TheVariants.{Begin, Done, Commit, Ended, AuditBegin}
use Rattle.dali_locks.specs.declared.mode.LockAnswer.TheVariants.{Granted, Busy}
use Rattle.dali_locks.specs.Locks.{IsAnswer}
use Rattle.dali_att.specs.declared.state.State.TheVariants.{Live, Dead, Cleaning as Claimed}
use Rattle.dali_runs.specs.State.{SystemState, state_of}
use Rattle.dali_runs.specs.Steps.{begun, done_logged, commit_logged, ended_logged, audit_begun, audit_ended, audit_record, in_state, in_checkpoint, granted, refused}
use Rattle.dali_runs.specs.Courses.{Begins, Answers, Commits, Ends, AuditBegins, AuditEnds, Claims as ClaimsIt, GivesBack as GivesItBack, Locks, Refuses}
use Rattle.dali_crash.specs.Checkpoints.{StoreStep, Does, Starts, Finishes}
use Rattle.dali_crash.specs.Traces.{bases_of}
use Rattle.dali_system.specs.Served.{Served}
use Rattle.dali_transcripts.specs.Words.{StoppedBy, UnderWay}
use Rattle.dali_transcripts.specs.World.{Deed, Logs, Claims, GivesBack, GetsLock, StartsCheckpoint, EndsCheckpoint, Meets, is_dead_in}
use Rattle.dali_transcripts.specs.Telling.Deeds.{refusal_at}
use Rattle.dali_audit.specs.Findings.{Judged, Audited, damaged}
use Rattle.dali_calls.specs.Steps.{call_key, answer_of}
use Rattle.dali_calls.specs.Plans.{Planned, mode_of, answered}
use Rattle.dali_notes.specs.History.{MayAdd, Added, Sight}
use Rattle.dali_concurrent.specs.Entries.{Did, system_note}
use Rattle.dali_concurrent.specs.Kept.{SystemTold}
use Rattle.dali_concurrent.specs.Told.{Leaves, OnSystem, Item}
use Rattle.dali_concurrent.specs.Own.{HasOnly}
use Rattle.dali_locked.specs.Begun.{Begun, may_add, outset, FromEach, Of, Led, homed}
use Rattle.dali_locked.specs.Sights.{ClientSight, HasLogged, Knows}
use Rattle.dali_locked.specs.SystemSteps.{Resting, Driving, Asking, GoesOn, Keeps, Takes, TakesClaim, LetsGo, LetsClaim, Settling, MayEnd, HasGone, Auditing, PassesTold, Cleaning, MayGiveBack, NotChecking, Checking, HasJust, given_in, given as given_by, deed_of}
use Rattle.dali_locked.proofs.SystemTelling.{Hands, may_tell, known, client_kept, system_kept, system_met, met, met_kept, has_still, has_begun, has_ended, has_claimed, has_let, logged_there}
use Rattle.dali_locked.proofs.SystemCases.{done_line, done_rests, commit_line, commit_settles, end_line, end_gone}
use Rattle.dali_locked.proofs.SystemMore.{audit_room, claim_line, claim_cleans, start_line, start_checks, finish_line, finish_ends, meet_line, meet_still, stop_line, audit_line, audit_opened, audit_end_line, claimed_now, give_line, grant_line, grant_drives, busy_line, busy_rests}
use Rattle.dali_concurrent.specs.Stages.{Started}
use Rattle.dali_locked.specs.HeadKept.{HasStage}
use Rattle.dali_locked.proofs.SystemLines.{by_both}
use Rattle.dali_locked.proofs.HeadKept.{start_stage}
use Rattle.dali_locked.proofs.system.LockedSystem.start_checkpoint.Given as given
use Rattle.dali_locked.proofs.system.LockedSystem.start_checkpoint.Goals as goal

clear_of : (b r : Bool) → r ≡ not b → r ≡ true → b ≡ false
clear_of true r e f = absurd (let g : false ≡ true = sym e ∙ f in cc)
clear_of false r e f = refl

set_of : (b r : Bool) → r ≡ not b → r ≡ false → b ≡ true
set_of true r e f = refl
set_of false r e f = absurd (let g : true ≡ false = sym e ∙ f in cc)

-- where one is under way nothing changes
same_flag : (y : SystemState) → y.checking ≡ true → in_checkpoint y true ≡ y
same_flag y e = ap (λ v. record y { checking = v }) (sym e)

pub tell-requires-clause-may : goal.tell-requires-clause-may
tell-requires-clause-may g c κs within =
    let b = (homed g.H.Home.table g.B.Beginning.begun) in
    let x = c.client.inside.note in
    let y = c.self.inside.note in
    let id : ℕ = c.client.inside.id in
    let st : SystemState = c.self.inside.system.state in
    let h : Hands b x y id st = record { client = c.client.invariant.1; system = c.self.invariant.1; led = c.client.invariant.2; told = c.self.invariant.3 } in
    subst (λ (v : Served). MayAdd (may_add b) (x ∷ y ∷ []) (Did StartsCheckpoint id, OnSystem v.state, Starts ∷ [])) (sym c.start_copy-started.ensures.set)
    (may_tell b x y id st h (Did StartsCheckpoint id, OnSystem (in_checkpoint st true), Starts ∷ []) (λ s p from now hand. start_line (bases_of s) p (outset b s p) b.count id x.seen st now hand (clear_of st.checking c.start_copy-started.result c.start_copy-started.ensures.was c.if-started.true)))

pub tell-requires-else-started-clause-may : goal.tell-requires-else-started-clause-may
tell-requires-else-started-clause-may g c κs within =
    let b = (homed g.H.Home.table g.B.Beginning.begun) in
    let x = c.client.inside.note in
    let y = c.self.inside.note in
    let id : ℕ = c.client.inside.id in
    let st : SystemState = c.self.inside.system.state in
    let h : Hands b x y id st = record { client = c.client.invariant.1; system = c.self.invariant.1; led = c.client.invariant.2; told = c.self.invariant.3 } in
    may_tell b x y id st h (Did (Meets UnderWay) id, Leaves, []) (λ s p from now hand. meet_line (bases_of s) p (outset b s p) b.count id x.seen st now hand (subst (λ (v : ClientSight). Knows b (NotChecking v.id) v) (sym c.client.view_is) c.requires.idle s p from) (set_of st.checking c.start_copy-started.result c.start_copy-started.ensures.was c.if-started.false))

module _ (g : given.Over) (c : goal.After-tell g) where
  abbrev b : Begun
  b = (homed g.H.Home.table g.B.Beginning.begun)

  abbrev x : Sight Item
  x = c.client.inside.note

  abbrev y : Sight Item
  y = c.self.inside.note

  abbrev id : ℕ
  id = c.client.inside.id

  abbrev st : SystemState
  st = c.self.inside.system.state

  hands : Hands b x y id st
  hands = record { client = c.client.invariant.1; system = c.self.invariant.1; led = c.client.invariant.2; told = c.self.invariant.3 }

  added : Added (x ∷ y ∷ []) (Did StartsCheckpoint id, OnSystem (in_checkpoint st true), Starts ∷ []) c.tell.new.client.seen
  added = subst (λ (v : Served). Added (x ∷ y ∷ []) (Did StartsCheckpoint id, OnSystem v.state, Starts ∷ []) c.tell.new.client.seen) c.start_copy-started.ensures.set c.tell.ensures.added

pub invariant_of-self : goal.invariant_of-self
invariant_of-self g c =
    system_kept (b g c) (x g c) (y g c) (id g c) (st g c) (hands g c) c.tell.new.system (Did StartsCheckpoint (id g c)) c.start_copy-started.new.self.state (Starts ∷ []) c.tell.new.client.seen c.tell.ensures.system c.self.invariant.0 c.tell.ensures.added c.tell.ensures.all

pub invariant_of-client : goal.invariant_of-client
invariant_of-client g c = client_kept (b g c) (x g c) (y g c) (id g c) (st g c) (hands g c) c.tell.new.client c.tell.ensures.client c.client.invariant.0 c.tell.ensures.all

pub returns-then-started-clause-checks : goal.returns-then-started-clause-checks
returns-then-started-clause-checks g c = λ started.
    subst (λ (v : ClientSight). Knows (b g c) (Checking v.id) (record { id = v.id; seen = c.tell.new.client.seen })) c.client.view_is
    (known (b g c) (x g c) (y g c) (id g c) (st g c) (hands g c) (Did StartsCheckpoint (id g c), OnSystem (in_checkpoint (st g c) true), Starts ∷ []) c.tell.new.client.seen (added g c) c.tell.ensures.all (Checking (id g c)) (λ s p from now hand behind. start_checks (bases_of s) p (outset (b g c) s p) (b g c).count (id g c) (x g c).seen (st g c) now hand))

pub returns-then-started-clause-keeps : goal.returns-then-started-clause-keeps
returns-then-started-clause-keeps g c =
    subst (λ (v : ClientSight). Keeps (b g c) v (record { id = v.id; seen = c.tell.new.client.seen })) c.client.view_is
    (has_still (b g c) (x g c) (y g c) (id g c) (st g c) (hands g c) StartsCheckpoint (OnSystem c.start_copy-started.new.self.state) (Starts ∷ []) c.tell.new.client.seen c.tell.ensures.added c.tell.ensures.all refl)

module _ (g : given.Over) (c : goal.After-tell-else-started g) where
  abbrev b2 : Begun
  b2 = (homed g.H.Home.table g.B.Beginning.begun)

  abbrev x2 : Sight Item
  x2 = c.client.inside.note

  abbrev y2 : Sight Item
  y2 = c.self.inside.note

  abbrev id2 : ℕ
  id2 = c.client.inside.id

  abbrev st2 : SystemState
  st2 = c.self.inside.system.state

  hands2 : Hands b2 x2 y2 id2 st2
  hands2 = record { client = c.client.invariant.1; system = c.self.invariant.1; led = c.client.invariant.2; told = c.self.invariant.3 }

  set_now : st2.checking ≡ true
  set_now = set_of st2.checking c.start_copy-started.result c.start_copy-started.ensures.was c.if-started.false

pub invariant_of-self-else-started : goal.invariant_of-self-else-started
invariant_of-self-else-started g c =
    subst (λ z. (c.tell-else-started.new.system.table ≡ (b2 g c).table) × (c.tell-else-started.new.system.number ≡ system_note) × Led (b2 g c) c.tell-else-started.new.system.seen × Of (b2 g c) (λ o T. SystemTold o z T) c.tell-else-started.new.system.seen)
    (sym (ap (λ (v : Served). v.state) c.start_copy-started.ensures.set ∙ same_flag (st2 g c) (set_now g c)))
    (system_met (b2 g c) (x2 g c) (y2 g c) (id2 g c) (st2 g c) (hands2 g c) c.tell-else-started.new.system (Did (Meets UnderWay) (id2 g c)) c.tell-else-started.new.client.seen c.tell-else-started.ensures.system c.self.invariant.0 c.tell-else-started.ensures.added c.tell-else-started.ensures.all)

pub invariant_of-client-else-started : goal.invariant_of-client-else-started
invariant_of-client-else-started g c = client_kept (b2 g c) (x2 g c) (y2 g c) (id2 g c) (st2 g c) (hands2 g c) c.tell-else-started.new.client c.tell-else-started.ensures.client c.client.invariant.0 c.tell-else-started.ensures.all

pub returns-else-started-clause-still : goal.returns-else-started-clause-still
returns-else-started-clause-still g c = λ refused.
    subst (λ (v : ClientSight). Knows (b2 g c) (NotChecking v.id) (record { id = v.id; seen = c.tell-else-started.new.client.seen })) c.client.view_is
    (known (b2 g c) (x2 g c) (y2 g c) (id2 g c) (st2 g c) (hands2 g c) (Did (Meets UnderWay) (id2 g c), Leaves, []) c.tell-else-started.new.client.seen c.tell-else-started.ensures.added c.tell-else-started.ensures.all (NotChecking (id2 g c)) (λ s p from now hand behind. meet_still (bases_of s) p (outset (b2 g c) s p) (b2 g c).count (id2 g c) (x2 g c).seen (st2 g c) now hand (subst (λ (v : ClientSight). Knows (b2 g c) (NotChecking v.id) v) (sym c.client.view_is) c.requires.idle s p from) (set_now g c)))

pub returns-else-started-clause-keeps : goal.returns-else-started-clause-keeps
returns-else-started-clause-keeps g c =
    subst (λ (v : ClientSight). Keeps (b2 g c) v (record { id = v.id; seen = c.tell-else-started.new.client.seen })) c.client.view_is
    (has_still (b2 g c) (x2 g c) (y2 g c) (id2 g c) (st2 g c) (hands2 g c) (Meets UnderWay) Leaves [] c.tell-else-started.new.client.seen c.tell-else-started.ensures.added c.tell-else-started.ensures.all refl)

pub returns-then-started-clause-stage : goal.returns-then-started-clause-stage
returns-then-started-clause-stage g c = λ started.
    subst (λ (v : ClientSight). Knows (b g c) (HasStage v.id Started) (record { id = v.id; seen = c.tell.new.client.seen })) c.client.view_is
    (known (b g c) (x g c) (y g c) (id g c) (st g c) (hands g c) (Did StartsCheckpoint (id g c), OnSystem (in_checkpoint (st g c) true), Starts ∷ []) c.tell.new.client.seen (added g c) c.tell.ensures.all (HasStage (id g c) Started)
    (λ s p from now hand behind. start_stage (outset (b g c) s p) now (by_both (b g c).count (id g c)) (id g c) (in_checkpoint (st g c) true)))
