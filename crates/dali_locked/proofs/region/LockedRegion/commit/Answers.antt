use Rattle.std.proofs.Common.{◌≡◌, ◌+◌, Err, true, false, [], ◌∷◌, Some, None, IfSome, IsSome, IsSomeAnd, refl, ap, sym, subst, ◌∙◌}
use Rattle.dali_lists.proofs.Lists.{get_set}
use Rattle.dali_lists.proofs.Tests.{not_both_ways}
use Rattle.dali_record.specs.declared.records.Record.TheVariants.{Forward}
use Rattle.dali_record.specs.Spelling.{record_length}
use Rattle.dali_region.specs.State.{RegionState, IsLive, touched, taken_back}
use Rattle.dali_runs.specs.Regions.{IsOpen}
use Rattle.dali_runs.specs.State.{SystemState, state_of}
use Rattle.dali_runs.specs.Steps.{op_logged, back_logged}
use Rattle.dali_runs.specs.Keeps.{HasRoom}
use Rattle.dali_system.specs.Served.{Served}
use Rattle.dali_system.specs.declared.operation.Operation.{Operation}
use Rattle.dali_system.specs.UnderWay.{OneIsUnderWay}
use Rattle.dali_system.proofs.UnderWays.{written_is_open}
use Rattle.dali_att.specs.declared.state.State.TheVariants.{Live}
use Rattle.dali_calls.proofs.SingleLemmas.Going.{row_there}
use Rattle.dali_calls.proofs.StepwiseLemmas.Opening.{is_held}
use Rattle.dali_calls.specs.Plans.{Planned, is_back, went_back, with_operation, commit_refusal, GoesOn, IsWhole}
use Rattle.dali_notes.specs.History.{IsSeen, Added, Sight}
use Rattle.dali_concurrent.specs.Entries.{client_note, region_note, system_note}
use Rattle.dali_concurrent.specs.Told.{Item, History}
use Rattle.dali_concurrent.specs.Kept.{SystemTold}
use Rattle.dali_locked.specs.Begun.{outset, Of, Led, homed}
use Rattle.dali_locked.specs.Sights.{Acts, ClientSight, SystemSight, RegionSight, HasLogged, Knows, client_sight, system_sight, region_sight}
use Rattle.dali_locked.specs.SystemSteps.{Driving}
use Rattle.dali_locked.specs.Regions.{is_live, RegionKept, IsAmid, IsAt, HasGoneBack, freed_item, logged_item, record_on}
use Rattle.dali_locked.proofs.RegionSigns.{signs_pair, signs_three}
use Rattle.dali_locked.proofs.RegionOps.{counted}
use Rattle.dali_locked.proofs.RegionAdding.{led_on, client_is, system_is, met_seen, met_is, still_noted, may_of, added_of, added_before, kept_of, kept_meets, kept_next}
use Rattle.dali_locked.proofs.RegionMay.{tends_of, freed_may}
use Rattle.dali_locked.proofs.RegionKnows.{comes_back, held_for, freed_knows}
use Rattle.dali_locked.proofs.RegionDone.{lives_there, live_is, system_told_on, ok_unrefused, err_refused, refused_in, memory_in, in_hand, some_hold, logs_by, may_of_three, added_of_three, added_before_three, commit_may, committed_knows, committed_system, kept_logged}
use Rattle.dali_locked.proofs.region.LockedRegion.commit.Goals as goal

pub log-requires-clause-written : goal.log-requires-clause-written
log-requires-clause-written g c κs within =
    let b = (homed g.H.Home.table g.B.Beginning.begun) in
    let s = c.self.inside in
    let p = c.args.plan.now in
    let client : ClientSight = record { id = c.client.inside.id; seen = c.client.inside.note.seen } in
    let x : RegionSight = record { number = s.number; steps = s.steps; audits = s.audits; region = s.region; seen = s.note.seen } in
    let seen : IsSeen c.meet-2.new.note.seen (region_note x.number) x.seen = met_seen b s.note c.meet-2.new.note x c.self.invariant c.meet-2.ensures.seen in
    let stood : IsAt x.number c.args.at p.operation client.seen =
    subst (λ (z : ClientSight). IsAt x.number c.args.at p.operation z.seen) (sym c.client.view_is) (subst (λ (z : RegionSight). IsAt z.number c.args.at p.operation c.args.client.now.seen) (sym c.self.view_is) c.requires.stood) in
    let under : OneIsUnderWay p.operation s.region =
    comes_back client x c.args.at p.operation c.client.inside.note.number c.meet-2.new.note.seen c.meet-2.ensures.theirs seen (c.requires.last ∙ ap (λ (z : RegionSight). z.steps) (sym c.self.view_is)) stood c.self.invariant.operation in
    written_is_open p.operation s.region under c.requires.written

pub log-requires-clause-running : goal.log-requires-clause-running
log-requires-clause-running g c κs within =
    row_there c.system.inside.system.state c.args.plan.now.txn Live
    (live_is (state_of c.system.inside.system.state c.args.plan.now.txn) (ap (λ u. is_live (state_of c.system.inside.system.state u)) (sym c.txn.ensures) ∙ (sym c.lives.ensures ∙ c.if-not-lives.false)))

pub log-requires-clause-may : goal.log-requires-clause-may
log-requires-clause-may g c κs within =
    let b = (homed g.H.Home.table g.B.Beginning.begun) in
    let s = c.self.inside in
    let p = c.args.plan.now in
    let client : ClientSight = record { id = c.client.inside.id; seen = c.client.inside.note.seen } in
    let x : RegionSight = record { number = s.number; steps = s.steps; audits = s.audits; region = s.region; seen = s.note.seen } in
    let seen : IsSeen c.meet-2.new.note.seen (region_note x.number) x.seen = met_seen b s.note c.meet-2.new.note x c.self.invariant c.meet-2.ensures.seen in
    let stood : IsAt x.number c.args.at p.operation client.seen =
    subst (λ (z : ClientSight). IsAt x.number c.args.at p.operation z.seen) (sym c.client.view_is) (subst (λ (z : RegionSight). IsAt z.number c.args.at p.operation c.args.client.now.seen) (sym c.self.view_is) c.requires.stood) in
    let under : OneIsUnderWay p.operation s.region =
    comes_back client x c.args.at p.operation c.client.inside.note.number c.meet-2.new.note.seen c.meet-2.ensures.theirs seen (c.requires.last ∙ ap (λ (z : RegionSight). z.steps) (sym c.self.view_is)) stood c.self.invariant.operation in
    let y : RegionSight = record { number = s.number; steps = s.steps; audits = s.audits; region = s.region; seen = c.meet-2.new.note.seen } in
    let kept : RegionKept b s.note.table s.note.number y = kept_meets b s.note.table s.note.number x c.meet-2.new.note.seen c.self.invariant seen c.meet-2.ensures.all in
    let mine : c.meet-2.new.other ≡ client_sight b client = c.meet-2.ensures.other ∙ client_is b c.client.inside.note client.id c.client.invariant.0 c.client.invariant.1 in
    let theirs : c.meet-2.new.note ≡ region_sight b y = met_is b s.note c.meet-2.new.note x c.self.invariant c.meet-2.ensures.table c.meet-2.ensures.number in
    let knows : Knows b (IsAmid client.id x.number p) client =
    subst (λ (z : ClientSight). Knows b (IsAmid z.id x.number p) z) (sym c.client.view_is) (subst (λ (z : RegionSight). Knows b (IsAmid c.args.client.now.id z.number p) c.args.client.now) (sym c.self.view_is) c.requires.amid) in
    let hand = in_hand p y c.requires.whole under c.requires.written (c.requires.wants ∙ ap (λ (z : RegionSight). Some z.number) (sym c.self.view_is)) in
    let w : SystemSight = record { served = c.system.inside.system; seen = c.system.inside.note.seen } in
    let its : c.system.inside.note ≡ system_sight b w = system_is b c.system.inside.note w.served c.system.invariant.0 c.system.invariant.1 in
    λ q z logs.
    let may = logs_by p hand.0 w.served z q hand.1.is_open logs.onward logs.back in
    may_of_three b c.meet-2.new.other c.system.inside.note c.meet-2.new.note (client_sight b client) (system_sight b w) (region_sight b y) _ (logged_item client.id (is_back p) p.txn p.operation w.served.state (touched s.region)) mine its theirs refl
    (commit_may b client s.note.table s.note.number y kept w c.system.invariant.3 p hand.0 hand.1 knows q may.0)

pub tell_both-requires-clause-tables : goal.tell_both-requires-clause-tables
tell_both-requires-clause-tables g c κs within =
    let none = c.in-Err.ensures.untold in (
      ap (λ (n : Sight Item). n.table) (none.0 ∙ c.meet-2.ensures.other) ∙ (c.client.invariant.0 ∙ sym c.requires.home),
      ap (λ (n : Sight Item). n.table) none.2 ∙ (c.meet-2.ensures.table ∙ (c.self.invariant.home ∙ sym c.requires.home)),
    )

pub tell_both-requires-clause-may : goal.tell_both-requires-clause-may
tell_both-requires-clause-may g c κs within =
    let b = (homed g.H.Home.table g.B.Beginning.begun) in
    let s = c.self.inside in
    let p = c.args.plan.now in
    let client : ClientSight = record { id = c.client.inside.id; seen = c.client.inside.note.seen } in
    let x : RegionSight = record { number = s.number; steps = s.steps; audits = s.audits; region = s.region; seen = s.note.seen } in
    let seen : IsSeen c.meet-2.new.note.seen (region_note x.number) x.seen = met_seen b s.note c.meet-2.new.note x c.self.invariant c.meet-2.ensures.seen in
    let stood : IsAt x.number c.args.at p.operation client.seen =
    subst (λ (z : ClientSight). IsAt x.number c.args.at p.operation z.seen) (sym c.client.view_is) (subst (λ (z : RegionSight). IsAt z.number c.args.at p.operation c.args.client.now.seen) (sym c.self.view_is) c.requires.stood) in
    let under : OneIsUnderWay p.operation s.region =
    comes_back client x c.args.at p.operation c.client.inside.note.number c.meet-2.new.note.seen c.meet-2.ensures.theirs seen (c.requires.last ∙ ap (λ (z : RegionSight). z.steps) (sym c.self.view_is)) stood c.self.invariant.operation in
    let y : RegionSight = record { number = s.number; steps = s.steps; audits = s.audits; region = s.region; seen = c.meet-2.new.note.seen } in
    let kept : RegionKept b s.note.table s.note.number y = kept_meets b s.note.table s.note.number x c.meet-2.new.note.seen c.self.invariant seen c.meet-2.ensures.all in
    let mine : c.meet-2.new.other ≡ client_sight b client = c.meet-2.ensures.other ∙ client_is b c.client.inside.note client.id c.client.invariant.0 c.client.invariant.1 in
    let theirs : c.meet-2.new.note ≡ region_sight b y = met_is b s.note c.meet-2.new.note x c.self.invariant c.meet-2.ensures.table c.meet-2.ensures.number in
    let knows : Knows b (IsAmid client.id x.number p) client =
    subst (λ (z : ClientSight). Knows b (IsAmid z.id x.number p) z) (sym c.client.view_is) (subst (λ (z : RegionSight). Knows b (IsAmid c.args.client.now.id z.number p) c.args.client.now) (sym c.self.view_is) c.requires.amid) in
    let hand = in_hand p y c.requires.whole under c.requires.written (c.requires.wants ∙ ap (λ (z : RegionSight). Some z.number) (sym c.self.view_is)) in
    let none = c.in-Err.ensures.untold in
    let h = c.log.new.region in
    let item = freed_item client.id x.number h in
    may_of b c.log.new.client c.log.new.note (client_sight b client) (region_sight b y) _ item (none.0 ∙ mine) (none.2 ∙ theirs) refl
    (freed_may b s.note.table s.note.number y kept client p.txn h (λ u q each. tends_of client.id p.txn (outset b u q) client.seen (knows u q each).acts) hand.1.held (is_held s.region _ hand.0.block hand.1.written) (some_hold s.region _ hand.0.block hand.1.written) c.in-Err.ensures.err.1)

pub invariant_of-client-in-Ok : goal.invariant_of-client-in-Ok
invariant_of-client-in-Ok g c =
    let was = c.meet-2.ensures.other in
    let told = c.in-Ok.ensures.told in (
      told.0 ∙ (ap (λ (n : Sight Item). n.table) was ∙ c.client.invariant.0),
      told.1 ∙ (ap (λ (n : Sight Item). n.number) was ∙ c.client.invariant.1),
      led_on (homed g.H.Home.table g.B.Beginning.begun) c.client.inside.note.seen c.log.new.client.seen c.client.invariant.2 told.2,
    )

pub invariant_of-client-in-Err : goal.invariant_of-client-in-Err
invariant_of-client-in-Err g c =
    let was = c.in-Err.ensures.untold.0 ∙ c.meet-2.ensures.other in (
      c.tell_both.ensures.table ∙ (ap (λ (n : Sight Item). n.table) was ∙ c.client.invariant.0),
      c.tell_both.ensures.number ∙ (ap (λ (n : Sight Item). n.number) was ∙ c.client.invariant.1),
      led_on (homed g.H.Home.table g.B.Beginning.begun) c.client.inside.note.seen c.tell_both.new.client.seen c.client.invariant.2 c.tell_both.ensures.all,
    )

pub invariant_of-self : goal.invariant_of-self
invariant_of-self g c =
    let b = (homed g.H.Home.table g.B.Beginning.begun) in
    let s = c.self.inside in
    let p = c.args.plan.now in
    let client : ClientSight = record { id = c.client.inside.id; seen = c.client.inside.note.seen } in
    let x : RegionSight = record { number = s.number; steps = s.steps; audits = s.audits; region = s.region; seen = s.note.seen } in
    let seen : IsSeen c.meet-2.new.note.seen (region_note x.number) x.seen = met_seen b s.note c.meet-2.new.note x c.self.invariant c.meet-2.ensures.seen in
    let stood : IsAt x.number c.args.at p.operation client.seen =
    subst (λ (z : ClientSight). IsAt x.number c.args.at p.operation z.seen) (sym c.client.view_is) (subst (λ (z : RegionSight). IsAt z.number c.args.at p.operation c.args.client.now.seen) (sym c.self.view_is) c.requires.stood) in
    let under : OneIsUnderWay p.operation s.region =
    comes_back client x c.args.at p.operation c.client.inside.note.number c.meet-2.new.note.seen c.meet-2.ensures.theirs seen (c.requires.last ∙ ap (λ (z : RegionSight). z.steps) (sym c.self.view_is)) stood c.self.invariant.operation in
    let y : RegionSight = record { number = s.number; steps = s.steps; audits = s.audits; region = s.region; seen = c.meet-2.new.note.seen } in
    let kept : RegionKept b s.note.table s.note.number y = kept_meets b s.note.table s.note.number x c.meet-2.new.note.seen c.self.invariant seen c.meet-2.ensures.all in
    let mine : c.meet-2.new.other ≡ client_sight b client = c.meet-2.ensures.other ∙ client_is b c.client.inside.note client.id c.client.invariant.0 c.client.invariant.1 in
    let theirs : c.meet-2.new.note ≡ region_sight b y = met_is b s.note c.meet-2.new.note x c.self.invariant c.meet-2.ensures.table c.meet-2.ensures.number in
    let knows : Knows b (IsAmid client.id x.number p) client =
    subst (λ (z : ClientSight). Knows b (IsAmid z.id x.number p) z) (sym c.client.view_is) (subst (λ (z : RegionSight). Knows b (IsAmid c.args.client.now.id z.number p) c.args.client.now) (sym c.self.view_is) c.requires.amid) in
    let hand = in_hand p y c.requires.whole under c.requires.written (c.requires.wants ∙ ap (λ (z : RegionSight). Some z.number) (sym c.self.view_is)) in
    let w : SystemSight = record { served = c.system.inside.system; seen = c.system.inside.note.seen } in
    let its : c.system.inside.note ≡ system_sight b w = system_is b c.system.inside.note w.served c.system.invariant.0 c.system.invariant.1 in
    let said = c.in-Ok.ensures.logs in
    let logs = logs_by p hand.0 w.served c.log.new.system c.log.new.plan hand.1.is_open said.0.onward said.0.back in
    let h = c.log.new.region in
    let item = logged_item client.id (is_back p) p.txn p.operation w.served.state (touched s.region) in
    let item_is : logged_item client.id (is_back p) p.txn p.operation w.served.state h ≡ item = ap (logged_item client.id (is_back p) p.txn p.operation w.served.state) said.1 in
    let new = c.log.new.client.seen in
    let all = c.in-Ok.ensures.told.2 in
    let told : Added (client_sight b client ∷ system_sight b w ∷ region_sight b y ∷ []) item new =
    added_of_three c.meet-2.new.other c.system.inside.note c.meet-2.new.note (client_sight b client) (system_sight b w) (region_sight b y) _ item new mine its theirs item_is c.in-Ok.ensures.added in
    let is : RegionKept b s.note.table s.note.number (record { number = s.number; steps = s.steps + 1; audits = s.audits; region = touched s.region; seen = new }) = kept_logged b client s.note.table s.note.number y kept w c.system.invariant.3 p hand.0 hand.1 knows c.log.new.plan logs.0 new told all in
    kept_of b s.note c.log.new.note (record { number = s.number; steps = s.steps + 1; audits = s.audits; region = h; seen = new }) (still_noted s.note c.meet-2.new.note c.log.new.note new c.meet-2.ensures.table c.meet-2.ensures.number c.in-Ok.ensures.told.4)
    (subst (λ z. RegionKept b s.note.table s.note.number (record { number = s.number; steps = s.steps + 1; audits = s.audits; region = z; seen = new })) (sym said.1) is)

pub invariant_of-self-in-Err : goal.invariant_of-self-in-Err
invariant_of-self-in-Err g c =
    let b = (homed g.H.Home.table g.B.Beginning.begun) in
    let s = c.self.inside in
    let p = c.args.plan.now in
    let client : ClientSight = record { id = c.client.inside.id; seen = c.client.inside.note.seen } in
    let x : RegionSight = record { number = s.number; steps = s.steps; audits = s.audits; region = s.region; seen = s.note.seen } in
    let seen : IsSeen c.meet-2.new.note.seen (region_note x.number) x.seen = met_seen b s.note c.meet-2.new.note x c.self.invariant c.meet-2.ensures.seen in
    let stood : IsAt x.number c.args.at p.operation client.seen =
    subst (λ (z : ClientSight). IsAt x.number c.args.at p.operation z.seen) (sym c.client.view_is) (subst (λ (z : RegionSight). IsAt z.number c.args.at p.operation c.args.client.now.seen) (sym c.self.view_is) c.requires.stood) in
    let under : OneIsUnderWay p.operation s.region =
    comes_back client x c.args.at p.operation c.client.inside.note.number c.meet-2.new.note.seen c.meet-2.ensures.theirs seen (c.requires.last ∙ ap (λ (z : RegionSight). z.steps) (sym c.self.view_is)) stood c.self.invariant.operation in
    let y : RegionSight = record { number = s.number; steps = s.steps; audits = s.audits; region = s.region; seen = c.meet-2.new.note.seen } in
    let kept : RegionKept b s.note.table s.note.number y = kept_meets b s.note.table s.note.number x c.meet-2.new.note.seen c.self.invariant seen c.meet-2.ensures.all in
    let mine : c.meet-2.new.other ≡ client_sight b client = c.meet-2.ensures.other ∙ client_is b c.client.inside.note client.id c.client.invariant.0 c.client.invariant.1 in
    let theirs : c.meet-2.new.note ≡ region_sight b y = met_is b s.note c.meet-2.new.note x c.self.invariant c.meet-2.ensures.table c.meet-2.ensures.number in
    let knows : Knows b (IsAmid client.id x.number p) client =
    subst (λ (z : ClientSight). Knows b (IsAmid z.id x.number p) z) (sym c.client.view_is) (subst (λ (z : RegionSight). Knows b (IsAmid c.args.client.now.id z.number p) c.args.client.now) (sym c.self.view_is) c.requires.amid) in
    let hand = in_hand p y c.requires.whole under c.requires.written (c.requires.wants ∙ ap (λ (z : RegionSight). Some z.number) (sym c.self.view_is)) in
    let none = c.in-Err.ensures.untold in
    let h = c.log.new.region in
    let item = freed_item client.id x.number h in
    let new = c.tell_both.new.client.seen in
    let told : Added (client_sight b client ∷ region_sight b y ∷ []) item new =
    added_of c.log.new.client c.log.new.note (client_sight b client) (region_sight b y) _ item new (none.0 ∙ mine) (none.2 ∙ theirs) refl c.tell_both.ensures.added in
    let counts = counted s.number (client_note b.count client.id ∷ region_note s.number ∷ []) item h (signs_pair (client_note b.count client.id) s.number) refl refl in
    kept_of b s.note c.tell_both.new.note (record { number = s.number; steps = s.steps + 1; audits = s.audits; region = h; seen = new })
    (still_noted s.note c.meet-2.new.note c.tell_both.new.note new c.meet-2.ensures.table c.meet-2.ensures.number (c.tell_both.ensures.other ∙ ap (λ (n : Sight Item). record n { seen = new }) none.2))
    (kept_next b client s.note.table s.note.number y kept h item new told c.tell_both.ensures.all (λ k at. get_set k.regions s.number s.region h at) (λ n right e. absurd (cc)) counts)

pub invariant_of-system-in-Ok : goal.invariant_of-system-in-Ok
invariant_of-system-in-Ok g c =
    let b = (homed g.H.Home.table g.B.Beginning.begun) in
    let s = c.self.inside in
    let p = c.args.plan.now in
    let client : ClientSight = record { id = c.client.inside.id; seen = c.client.inside.note.seen } in
    let x : RegionSight = record { number = s.number; steps = s.steps; audits = s.audits; region = s.region; seen = s.note.seen } in
    let seen : IsSeen c.meet-2.new.note.seen (region_note x.number) x.seen = met_seen b s.note c.meet-2.new.note x c.self.invariant c.meet-2.ensures.seen in
    let stood : IsAt x.number c.args.at p.operation client.seen =
    subst (λ (z : ClientSight). IsAt x.number c.args.at p.operation z.seen) (sym c.client.view_is) (subst (λ (z : RegionSight). IsAt z.number c.args.at p.operation c.args.client.now.seen) (sym c.self.view_is) c.requires.stood) in
    let under : OneIsUnderWay p.operation s.region =
    comes_back client x c.args.at p.operation c.client.inside.note.number c.meet-2.new.note.seen c.meet-2.ensures.theirs seen (c.requires.last ∙ ap (λ (z : RegionSight). z.steps) (sym c.self.view_is)) stood c.self.invariant.operation in
    let y : RegionSight = record { number = s.number; steps = s.steps; audits = s.audits; region = s.region; seen = c.meet-2.new.note.seen } in
    let kept : RegionKept b s.note.table s.note.number y = kept_meets b s.note.table s.note.number x c.meet-2.new.note.seen c.self.invariant seen c.meet-2.ensures.all in
    let mine : c.meet-2.new.other ≡ client_sight b client = c.meet-2.ensures.other ∙ client_is b c.client.inside.note client.id c.client.invariant.0 c.client.invariant.1 in
    let theirs : c.meet-2.new.note ≡ region_sight b y = met_is b s.note c.meet-2.new.note x c.self.invariant c.meet-2.ensures.table c.meet-2.ensures.number in
    let knows : Knows b (IsAmid client.id x.number p) client =
    subst (λ (z : ClientSight). Knows b (IsAmid z.id x.number p) z) (sym c.client.view_is) (subst (λ (z : RegionSight). Knows b (IsAmid c.args.client.now.id z.number p) c.args.client.now) (sym c.self.view_is) c.requires.amid) in
    let hand = in_hand p y c.requires.whole under c.requires.written (c.requires.wants ∙ ap (λ (z : RegionSight). Some z.number) (sym c.self.view_is)) in
    let w : SystemSight = record { served = c.system.inside.system; seen = c.system.inside.note.seen } in
    let its : c.system.inside.note ≡ system_sight b w = system_is b c.system.inside.note w.served c.system.invariant.0 c.system.invariant.1 in
    let said = c.in-Ok.ensures.logs in
    let logs = logs_by p hand.0 w.served c.log.new.system c.log.new.plan hand.1.is_open said.0.onward said.0.back in
    let h = c.log.new.region in
    let item = logged_item client.id (is_back p) p.txn p.operation w.served.state (touched s.region) in
    let item_is : logged_item client.id (is_back p) p.txn p.operation w.served.state h ≡ item = ap (logged_item client.id (is_back p) p.txn p.operation w.served.state) said.1 in
    let new = c.log.new.client.seen in
    let all = c.in-Ok.ensures.told.2 in
    let told : Added (client_sight b client ∷ system_sight b w ∷ region_sight b y ∷ []) item new =
    added_of_three c.meet-2.new.other c.system.inside.note c.meet-2.new.note (client_sight b client) (system_sight b w) (region_sight b y) _ item new mine its theirs item_is c.in-Ok.ensures.added in
    let still = c.in-Ok.ensures.told.3 in
    let told_now = subst (λ z. Of b (λ o T. SystemTold o z T) new) (sym logs.1) (committed_system b client s.note.table s.note.number y kept w c.system.invariant.3 p hand.0 hand.1 knows c.log.new.plan logs.0 new told all) in (
      ap (λ (n : Sight Item). n.table) still ∙ c.system.invariant.0,
      ap (λ (n : Sight Item). n.number) still ∙ c.system.invariant.1,
      subst (λ (n : Sight Item). Led b n.seen) (sym still) (led_on b c.system.inside.note.seen new c.system.invariant.2 all),
      subst (λ (n : Sight Item). Of b (λ o T. SystemTold o c.log.new.system.state T) n.seen) (sym still) told_now,
    )

pub invariant_of-system-in-Err : goal.invariant_of-system-in-Err
invariant_of-system-in-Err g c =
    let still = c.in-Err.ensures.untold.1 in (
      ap (λ (n : Sight Item). n.table) still ∙ c.system.invariant.0,
      ap (λ (n : Sight Item). n.number) still ∙ c.system.invariant.1,
      subst (λ (n : Sight Item). Led (homed g.H.Home.table g.B.Beginning.begun) n.seen) (sym still) c.system.invariant.2,
      subst (λ (z : Served). Of (homed g.H.Home.table g.B.Beginning.begun) (λ o T. SystemTold o z.state T) c.log.new.of_system.seen) (sym c.in-Err.ensures.err.0)
          (subst (λ (n : Sight Item). Of (homed g.H.Home.table g.B.Beginning.begun) (λ o T. SystemTold o c.system.inside.system.state T) n.seen) (sym still) c.system.invariant.3),
    )

pub invariant_of-system : goal.invariant_of-system
invariant_of-system g c =
    let b = (homed g.H.Home.table g.B.Beginning.begun) in
    let n = c.system.inside.note in
    let w : SystemSight = record { served = c.system.inside.system; seen = n.seen } in
    let theirs : IsSeen c.meet.new.note.seen system_note n.seen = subst (λ k. IsSeen c.meet.new.note.seen k n.seen) c.system.invariant.1 c.meet.ensures.seen in (
      c.meet.ensures.table ∙ c.system.invariant.0,
      c.meet.ensures.number ∙ c.system.invariant.1,
      led_on b n.seen c.meet.new.note.seen c.system.invariant.2 c.meet.ensures.all,
      system_told_on b w c.meet.new.note.seen c.system.invariant.2 c.system.invariant.3 theirs c.meet.ensures.all,
    )

pub returns-then-not-lives-clause-unfit : goal.returns-then-not-lives-clause-unfit
returns-then-not-lives-clause-unfit g c = λ e s p each.
    let b = (homed g.H.Home.table g.B.Beginning.begun) in
    let n = c.system.inside.note in
    let t = c.args.plan.now.txn in
    let w : SystemSight = record { served = c.system.inside.system; seen = n.seen } in
    let client : ClientSight = record { id = c.client.inside.id; seen = c.client.inside.note.seen } in
    let theirs : IsSeen c.meet.new.note.seen system_note n.seen = subst (λ k. IsSeen c.meet.new.note.seen k n.seen) c.system.invariant.1 c.meet.ensures.seen in
    let mine : IsSeen c.meet.new.note.seen (client_note b.count client.id) client.seen = subst (λ k. IsSeen c.meet.new.note.seen k client.seen) c.client.invariant.1 c.meet.ensures.theirs in
    let knows : Knows b (Acts client.id t) client = subst (λ (z : ClientSight). Knows b (Acts z.id t) z) (sym c.client.view_is) (λ u q each. (c.requires.amid u q each).acts) in
    let live : state_of w.served.state t ≡ Some Live = lives_there b client w t c.meet.new.note.seen c.system.invariant.2 c.system.invariant.3 knows theirs mine c.meet.ensures.all s p each in
    not_both_ways (ap is_live live) (ap (λ u. is_live (state_of w.served.state u)) (sym c.txn.ensures) ∙ (sym c.lives.ensures ∙ c.if-not-lives.true))

pub returns-in-Ok-clause-onward : goal.returns-in-Ok-clause-onward
returns-in-Ok-clause-onward g c =
    let p = c.args.plan.now in
    λ way. subst (λ (z : SystemSight). IfSome p.operation (λ o. (c.log.new.system ≡ record z.served { state = op_logged z.served.state p.txn o.block }) × HasRoom z.served.state (Forward p.txn o.block) × GoesOn p o.block c.log.new.plan))
    c.system.view_is (c.in-Ok.ensures.logs.0.onward way)

pub returns-in-Ok-clause-back : goal.returns-in-Ok-clause-back
returns-in-Ok-clause-back g c =
    let p = c.args.plan.now in
    λ way. subst (λ (z : SystemSight). IfSome p.operation (λ o. (c.log.new.system ≡ record z.served { state = back_logged z.served.state p.txn o.block }) × (z.served.state.stop ≡ None) × (c.log.new.plan ≡ went_back p)))
    c.system.view_is (c.in-Ok.ensures.logs.0.back way)

pub returns-in-Ok-clause-done : goal.returns-in-Ok-clause-done
returns-in-Ok-clause-done g c =
    (c.in-Ok.ensures.logs.1 ∙ ap (λ (z : RegionSight). touched z.region) c.self.view_is, ap (λ (z : RegionSight). z.number) c.self.view_is)

pub returns-in-Ok-clause-tells : goal.returns-in-Ok-clause-tells
returns-in-Ok-clause-tells g c =
    let b = (homed g.H.Home.table g.B.Beginning.begun) in
    let s = c.self.inside in
    let p = c.args.plan.now in
    let client : ClientSight = record { id = c.client.inside.id; seen = c.client.inside.note.seen } in
    let x : RegionSight = record { number = s.number; steps = s.steps; audits = s.audits; region = s.region; seen = s.note.seen } in
    let seen : IsSeen c.meet-2.new.note.seen (region_note x.number) x.seen = met_seen b s.note c.meet-2.new.note x c.self.invariant c.meet-2.ensures.seen in
    let stood : IsAt x.number c.args.at p.operation client.seen =
    subst (λ (z : ClientSight). IsAt x.number c.args.at p.operation z.seen) (sym c.client.view_is) (subst (λ (z : RegionSight). IsAt z.number c.args.at p.operation c.args.client.now.seen) (sym c.self.view_is) c.requires.stood) in
    let under : OneIsUnderWay p.operation s.region =
    comes_back client x c.args.at p.operation c.client.inside.note.number c.meet-2.new.note.seen c.meet-2.ensures.theirs seen (c.requires.last ∙ ap (λ (z : RegionSight). z.steps) (sym c.self.view_is)) stood c.self.invariant.operation in
    let y : RegionSight = record { number = s.number; steps = s.steps; audits = s.audits; region = s.region; seen = c.meet-2.new.note.seen } in
    let kept : RegionKept b s.note.table s.note.number y = kept_meets b s.note.table s.note.number x c.meet-2.new.note.seen c.self.invariant seen c.meet-2.ensures.all in
    let mine : c.meet-2.new.other ≡ client_sight b client = c.meet-2.ensures.other ∙ client_is b c.client.inside.note client.id c.client.invariant.0 c.client.invariant.1 in
    let theirs : c.meet-2.new.note ≡ region_sight b y = met_is b s.note c.meet-2.new.note x c.self.invariant c.meet-2.ensures.table c.meet-2.ensures.number in
    let knows : Knows b (IsAmid client.id x.number p) client =
    subst (λ (z : ClientSight). Knows b (IsAmid z.id x.number p) z) (sym c.client.view_is) (subst (λ (z : RegionSight). Knows b (IsAmid c.args.client.now.id z.number p) c.args.client.now) (sym c.self.view_is) c.requires.amid) in
    let hand = in_hand p y c.requires.whole under c.requires.written (c.requires.wants ∙ ap (λ (z : RegionSight). Some z.number) (sym c.self.view_is)) in
    let w : SystemSight = record { served = c.system.inside.system; seen = c.system.inside.note.seen } in
    let its : c.system.inside.note ≡ system_sight b w = system_is b c.system.inside.note w.served c.system.invariant.0 c.system.invariant.1 in
    let said = c.in-Ok.ensures.logs in
    let logs = logs_by p hand.0 w.served c.log.new.system c.log.new.plan hand.1.is_open said.0.onward said.0.back in
    let h = c.log.new.region in
    let item = logged_item client.id (is_back p) p.txn p.operation w.served.state (touched s.region) in
    let item_is : logged_item client.id (is_back p) p.txn p.operation w.served.state h ≡ item = ap (logged_item client.id (is_back p) p.txn p.operation w.served.state) said.1 in
    let new = c.log.new.client.seen in
    let all = c.in-Ok.ensures.told.2 in
    let told : Added (client_sight b client ∷ system_sight b w ∷ region_sight b y ∷ []) item new =
    added_of_three c.meet-2.new.other c.system.inside.note c.meet-2.new.note (client_sight b client) (system_sight b w) (region_sight b y) _ item new mine its theirs item_is c.in-Ok.ensures.added in
    let before : Added (client_sight b client ∷ system_sight b w ∷ region_sight b x ∷ []) item new = added_before_three b client w x c.meet-2.new.note.seen item new seen told in
    subst (λ z. Added (client_sight b c.args.client.now ∷ system_sight b c.args.system.now ∷ region_sight b c.args.self.now ∷ []) (logged_item c.args.client.now.id (is_back p) p.txn p.operation c.args.system.now.served.state z) new) (sym said.1)
    (subst (λ (z : ClientSight). Added (client_sight b z ∷ system_sight b c.args.system.now ∷ region_sight b c.args.self.now ∷ []) (logged_item z.id (is_back p) p.txn p.operation c.args.system.now.served.state (touched s.region)) new) c.client.view_is
    (subst (λ (z : SystemSight). Added (client_sight b client ∷ system_sight b z ∷ region_sight b c.args.self.now ∷ []) (logged_item client.id (is_back p) p.txn p.operation z.served.state (touched s.region)) new) c.system.view_is
    (subst (λ (z : RegionSight). Added (client_sight b client ∷ system_sight b w ∷ region_sight b z ∷ []) item new) c.self.view_is before)))

pub returns-in-Ok-clause-sees : goal.returns-in-Ok-clause-sees
returns-in-Ok-clause-sees g c =
    let told = c.in-Ok.ensures.told in
    (ap (λ (z : ClientSight). z.id) c.client.view_is, ap (λ (n : Sight Item). n.seen) told.4, ap (λ (n : Sight Item). n.seen) told.3)

pub returns-in-Ok-clause-drives : goal.returns-in-Ok-clause-drives
returns-in-Ok-clause-drives g c =
    let b = (homed g.H.Home.table g.B.Beginning.begun) in
    let s = c.self.inside in
    let p = c.args.plan.now in
    let client : ClientSight = record { id = c.client.inside.id; seen = c.client.inside.note.seen } in
    let x : RegionSight = record { number = s.number; steps = s.steps; audits = s.audits; region = s.region; seen = s.note.seen } in
    let seen : IsSeen c.meet-2.new.note.seen (region_note x.number) x.seen = met_seen b s.note c.meet-2.new.note x c.self.invariant c.meet-2.ensures.seen in
    let stood : IsAt x.number c.args.at p.operation client.seen =
    subst (λ (z : ClientSight). IsAt x.number c.args.at p.operation z.seen) (sym c.client.view_is) (subst (λ (z : RegionSight). IsAt z.number c.args.at p.operation c.args.client.now.seen) (sym c.self.view_is) c.requires.stood) in
    let under : OneIsUnderWay p.operation s.region =
    comes_back client x c.args.at p.operation c.client.inside.note.number c.meet-2.new.note.seen c.meet-2.ensures.theirs seen (c.requires.last ∙ ap (λ (z : RegionSight). z.steps) (sym c.self.view_is)) stood c.self.invariant.operation in
    let y : RegionSight = record { number = s.number; steps = s.steps; audits = s.audits; region = s.region; seen = c.meet-2.new.note.seen } in
    let kept : RegionKept b s.note.table s.note.number y = kept_meets b s.note.table s.note.number x c.meet-2.new.note.seen c.self.invariant seen c.meet-2.ensures.all in
    let mine : c.meet-2.new.other ≡ client_sight b client = c.meet-2.ensures.other ∙ client_is b c.client.inside.note client.id c.client.invariant.0 c.client.invariant.1 in
    let theirs : c.meet-2.new.note ≡ region_sight b y = met_is b s.note c.meet-2.new.note x c.self.invariant c.meet-2.ensures.table c.meet-2.ensures.number in
    let knows : Knows b (IsAmid client.id x.number p) client =
    subst (λ (z : ClientSight). Knows b (IsAmid z.id x.number p) z) (sym c.client.view_is) (subst (λ (z : RegionSight). Knows b (IsAmid c.args.client.now.id z.number p) c.args.client.now) (sym c.self.view_is) c.requires.amid) in
    let hand = in_hand p y c.requires.whole under c.requires.written (c.requires.wants ∙ ap (λ (z : RegionSight). Some z.number) (sym c.self.view_is)) in
    let w : SystemSight = record { served = c.system.inside.system; seen = c.system.inside.note.seen } in
    let its : c.system.inside.note ≡ system_sight b w = system_is b c.system.inside.note w.served c.system.invariant.0 c.system.invariant.1 in
    let said = c.in-Ok.ensures.logs in
    let logs = logs_by p hand.0 w.served c.log.new.system c.log.new.plan hand.1.is_open said.0.onward said.0.back in
    let h = c.log.new.region in
    let item = logged_item client.id (is_back p) p.txn p.operation w.served.state (touched s.region) in
    let item_is : logged_item client.id (is_back p) p.txn p.operation w.served.state h ≡ item = ap (logged_item client.id (is_back p) p.txn p.operation w.served.state) said.1 in
    let new = c.log.new.client.seen in
    let all = c.in-Ok.ensures.told.2 in
    let told : Added (client_sight b client ∷ system_sight b w ∷ region_sight b y ∷ []) item new =
    added_of_three c.meet-2.new.other c.system.inside.note c.meet-2.new.note (client_sight b client) (system_sight b w) (region_sight b y) _ item new mine its theirs item_is c.in-Ok.ensures.added in
    subst (λ (z : ClientSight). Of b (Driving z.id c.log.new.plan) new) c.client.view_is (committed_knows b client s.note.table s.note.number y kept w c.system.invariant.3 p hand.0 hand.1 knows c.log.new.plan logs.0 new told all).0

pub returns-in-Ok-clause-receipt : goal.returns-in-Ok-clause-receipt
returns-in-Ok-clause-receipt g c =
    let b = (homed g.H.Home.table g.B.Beginning.begun) in
    let s = c.self.inside in
    let p = c.args.plan.now in
    let client : ClientSight = record { id = c.client.inside.id; seen = c.client.inside.note.seen } in
    let x : RegionSight = record { number = s.number; steps = s.steps; audits = s.audits; region = s.region; seen = s.note.seen } in
    let seen : IsSeen c.meet-2.new.note.seen (region_note x.number) x.seen = met_seen b s.note c.meet-2.new.note x c.self.invariant c.meet-2.ensures.seen in
    let stood : IsAt x.number c.args.at p.operation client.seen =
    subst (λ (z : ClientSight). IsAt x.number c.args.at p.operation z.seen) (sym c.client.view_is) (subst (λ (z : RegionSight). IsAt z.number c.args.at p.operation c.args.client.now.seen) (sym c.self.view_is) c.requires.stood) in
    let under : OneIsUnderWay p.operation s.region =
    comes_back client x c.args.at p.operation c.client.inside.note.number c.meet-2.new.note.seen c.meet-2.ensures.theirs seen (c.requires.last ∙ ap (λ (z : RegionSight). z.steps) (sym c.self.view_is)) stood c.self.invariant.operation in
    let y : RegionSight = record { number = s.number; steps = s.steps; audits = s.audits; region = s.region; seen = c.meet-2.new.note.seen } in
    let kept : RegionKept b s.note.table s.note.number y = kept_meets b s.note.table s.note.number x c.meet-2.new.note.seen c.self.invariant seen c.meet-2.ensures.all in
    let mine : c.meet-2.new.other ≡ client_sight b client = c.meet-2.ensures.other ∙ client_is b c.client.inside.note client.id c.client.invariant.0 c.client.invariant.1 in
    let theirs : c.meet-2.new.note ≡ region_sight b y = met_is b s.note c.meet-2.new.note x c.self.invariant c.meet-2.ensures.table c.meet-2.ensures.number in
    let knows : Knows b (IsAmid client.id x.number p) client =
    subst (λ (z : ClientSight). Knows b (IsAmid z.id x.number p) z) (sym c.client.view_is) (subst (λ (z : RegionSight). Knows b (IsAmid c.args.client.now.id z.number p) c.args.client.now) (sym c.self.view_is) c.requires.amid) in
    let hand = in_hand p y c.requires.whole under c.requires.written (c.requires.wants ∙ ap (λ (z : RegionSight). Some z.number) (sym c.self.view_is)) in
    let w : SystemSight = record { served = c.system.inside.system; seen = c.system.inside.note.seen } in
    let its : c.system.inside.note ≡ system_sight b w = system_is b c.system.inside.note w.served c.system.invariant.0 c.system.invariant.1 in
    let said = c.in-Ok.ensures.logs in
    let logs = logs_by p hand.0 w.served c.log.new.system c.log.new.plan hand.1.is_open said.0.onward said.0.back in
    let h = c.log.new.region in
    let item = logged_item client.id (is_back p) p.txn p.operation w.served.state (touched s.region) in
    let item_is : logged_item client.id (is_back p) p.txn p.operation w.served.state h ≡ item = ap (logged_item client.id (is_back p) p.txn p.operation w.served.state) said.1 in
    let new = c.log.new.client.seen in
    let all = c.in-Ok.ensures.told.2 in
    let told : Added (client_sight b client ∷ system_sight b w ∷ region_sight b y ∷ []) item new =
    added_of_three c.meet-2.new.other c.system.inside.note c.meet-2.new.note (client_sight b client) (system_sight b w) (region_sight b y) _ item new mine its theirs item_is c.in-Ok.ensures.added in
    subst (λ n. Of b (HasLogged n (record_on (is_back p) p.txn p.operation)) new) (sym c.in-Ok.ensures.number) (committed_knows b client s.note.table s.note.number y kept w c.system.invariant.3 p hand.0 hand.1 knows c.log.new.plan logs.0 new told all).1

pub returns-in-Err-clause-err : goal.returns-in-Err-clause-err
returns-in-Err-clause-err g c =
    let b = (homed g.H.Home.table g.B.Beginning.begun) in
    let s = c.self.inside in
    let p = c.args.plan.now in
    let client : ClientSight = record { id = c.client.inside.id; seen = c.client.inside.note.seen } in
    let x : RegionSight = record { number = s.number; steps = s.steps; audits = s.audits; region = s.region; seen = s.note.seen } in
    let seen : IsSeen c.meet-2.new.note.seen (region_note x.number) x.seen = met_seen b s.note c.meet-2.new.note x c.self.invariant c.meet-2.ensures.seen in
    let stood : IsAt x.number c.args.at p.operation client.seen =
    subst (λ (z : ClientSight). IsAt x.number c.args.at p.operation z.seen) (sym c.client.view_is) (subst (λ (z : RegionSight). IsAt z.number c.args.at p.operation c.args.client.now.seen) (sym c.self.view_is) c.requires.stood) in
    let under : OneIsUnderWay p.operation s.region =
    comes_back client x c.args.at p.operation c.client.inside.note.number c.meet-2.new.note.seen c.meet-2.ensures.theirs seen (c.requires.last ∙ ap (λ (z : RegionSight). z.steps) (sym c.self.view_is)) stood c.self.invariant.operation in
    let y : RegionSight = record { number = s.number; steps = s.steps; audits = s.audits; region = s.region; seen = c.meet-2.new.note.seen } in
    let kept : RegionKept b s.note.table s.note.number y = kept_meets b s.note.table s.note.number x c.meet-2.new.note.seen c.self.invariant seen c.meet-2.ensures.all in
    let mine : c.meet-2.new.other ≡ client_sight b client = c.meet-2.ensures.other ∙ client_is b c.client.inside.note client.id c.client.invariant.0 c.client.invariant.1 in
    let theirs : c.meet-2.new.note ≡ region_sight b y = met_is b s.note c.meet-2.new.note x c.self.invariant c.meet-2.ensures.table c.meet-2.ensures.number in
    let knows : Knows b (IsAmid client.id x.number p) client =
    subst (λ (z : ClientSight). Knows b (IsAmid z.id x.number p) z) (sym c.client.view_is) (subst (λ (z : RegionSight). Knows b (IsAmid c.args.client.now.id z.number p) c.args.client.now) (sym c.self.view_is) c.requires.amid) in
    let hand = in_hand p y c.requires.whole under c.requires.written (c.requires.wants ∙ ap (λ (z : RegionSight). Some z.number) (sym c.self.view_is)) in
    let none = c.in-Err.ensures.untold in
    let h = c.log.new.region in
    let item = freed_item client.id x.number h in
    let new = c.tell_both.new.client.seen in
    let told : Added (client_sight b client ∷ region_sight b y ∷ []) item new =
    added_of c.log.new.client c.log.new.note (client_sight b client) (region_sight b y) _ item new (none.0 ∙ mine) (none.2 ∙ theirs) refl c.tell_both.ensures.added in
    let err = c.in-Err.ensures.err in
    let before : Added (client_sight b client ∷ region_sight b x ∷ []) item new = added_before b client x c.meet-2.new.note.seen item new seen told in
    let drives : Of b (Driving client.id (with_operation p None)) new =
    freed_knows b client s.note.table s.note.number y kept p None h new knows hand.1.held (ap (λ (z : RegionState). z.hold) err.1) told c.tell_both.ensures.all in (
      record {
        region = err.1 ∙ ap (λ (z : RegionSight). taken_back z.region) c.self.view_is;
        number = ap (λ (z : RegionSight). z.number) c.self.view_is;
        plan = err.2;
        added = subst (λ (z : ClientSight). Added (client_sight b z ∷ region_sight b c.args.self.now ∷ []) (freed_item z.id c.args.self.now.number h) new) c.client.view_is
            (subst (λ (z : RegionSight). Added (client_sight b client ∷ region_sight b z ∷ []) (freed_item client.id z.number h) new) c.self.view_is before);
        id = ap (λ (z : ClientSight). z.id) c.client.view_is;
        seen = ap (λ (n : Sight Item). n.seen) c.tell_both.ensures.other;
        drives = subst (λ (z : Planned). Of b (Driving c.args.client.now.id z) new) (sym err.2) (subst (λ (z : ClientSight). Of b (Driving z.id (with_operation p None)) new) c.client.view_is drives);
      },
      (λ i. record { served = err.0 i; seen = (none.1 i).seen }) ∙ c.system.view_is,
    )

pub returns-in-Ok-clause-refused : goal.returns-in-Ok-clause-refused
returns-in-Ok-clause-refused g c =
    λ lives.
    let p = c.args.plan.now in
    ok_unrefused p.operation (λ o. commit_refusal (is_back p) c.args.system.now.served.state (record_length (Forward p.txn o.block))) c.in-Ok.receipt
    (refused_in p.operation (is_back p) p.txn c.system.inside.system.state c.args.system.now.served.state (ap (λ (z : SystemSight). z.served.state) c.system.view_is) _ c.in-Ok.ensures.refused)

pub returns-in-Err-clause-refused : goal.returns-in-Err-clause-refused
returns-in-Err-clause-refused g c =
    λ lives.
    let p = c.args.plan.now in
    err_refused p.operation (λ o. commit_refusal (is_back p) c.args.system.now.served.state (record_length (Forward p.txn o.block))) c.in-Err.cause
    (refused_in p.operation (is_back p) p.txn c.system.inside.system.state c.args.system.now.served.state (ap (λ (z : SystemSight). z.served.state) c.system.view_is) _ c.in-Err.ensures.refused)

pub returns-in-Err-clause-memory : goal.returns-in-Err-clause-memory
returns-in-Err-clause-memory g c =
    let p = c.args.plan.now in
    memory_in p.operation (is_back p) p.txn c.system.inside.system.state c.args.system.now.served.state (ap (λ (z : SystemSight). z.served.state) c.system.view_is) (Err c.in-Err.cause) c.in-Err.ensures.memory
