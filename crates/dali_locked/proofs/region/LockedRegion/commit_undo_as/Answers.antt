use Rattle.std.proofs.Common.{◌≡◌, ◌+◌, Err, true, false, [], ◌∷◌, Some, None, IfSome, IsSome, IsSomeAnd, refl, ap, sym, subst, ◌∙◌, arith}
use Rattle.dali_lists.proofs.Lists.{get_set}
use Rattle.dali_record.specs.declared.records.Record.TheVariants.{Back}
use Rattle.dali_att.specs.Table.{undos_at}
use Rattle.dali_runs.specs.State.{SystemState}
use Rattle.dali_runs.specs.Steps.{back_logged}
use Rattle.dali_runs.specs.Courses.{TakesBack}
use Rattle.dali_crash.specs.Checkpoints.{Does}
use Rattle.dali_system.specs.Served.{Served}
use Rattle.dali_system.specs.declared.operation.Operation.{Operation}
use Rattle.dali_system.specs.UnderWay.{OneIsUnderWay}
use Rattle.dali_calls.proofs.StepwiseLemmas.Opening.{is_held}
use Rattle.dali_record.specs.Spelling.{Is64}
use Rattle.dali_region.specs.State.{RegionState, latched, with_reads, touched, taken_back}
use Rattle.dali_system.specs.declared.take_back.TakeBack.{TakeBack}
use Rattle.dali_system.specs.TakenBack.{next_undo, IsUndoBlock}
use Rattle.dali_notes.specs.History.{IsSeen, Added, Sight}
use Rattle.dali_concurrent.specs.Entries.{client_note, region_note}
use Rattle.dali_concurrent.specs.Told.{Item, History}
use Rattle.dali_locked.specs.Begun.{outset, Of, Led, homed}
use Rattle.dali_locked.specs.Sights.{ClientSight, SystemSight, RegionSight, Knows, client_sight, system_sight, region_sight, HasLogged}
use Rattle.dali_locked.specs.Regions.{RegionKept, IsAt, freed_item, logged_item}
use Rattle.dali_locked.specs.Undoing.{HasUndos, IsOwn, Undoes, IsUndoing}
use Rattle.dali_locked.proofs.RegionSigns.{signs_pair}
use Rattle.dali_locked.proofs.RegionOps.{counted}
use Rattle.dali_concurrent.specs.Kept.{SystemTold}
use Rattle.dali_locked.proofs.RegionAdding.{led_on, client_is, system_is, met_seen, met_is, still_noted, may_of, added_of, added_before, kept_of, kept_meets, kept_next}
use Rattle.dali_locked.proofs.RegionMay.{freed_may}
use Rattle.dali_locked.proofs.RegionKnows.{comes_back}
use Rattle.dali_locked.proofs.RegionDone.{some_hold, may_of_three, added_of_three, added_before_three}
use Rattle.dali_locked.proofs.Standing.{freed_stands_known}
use Rattle.dali_locked.proofs.StandingLogged.{logged_may, logged_stands_known, logged_known, logged_system, logged_kept}
use Rattle.dali_locked.proofs.OwnOperation.{own_written, in_hand, if_it, stop_refused, stop_memory}
use Rattle.dali_locked.proofs.RegionUndo.{undo_few, undo_here, undo_item_is, undo_there}
use Rattle.dali_locked.proofs.region.LockedRegion.commit_undo_as.Goals as goal

pub commit-requires : goal.commit-requires
commit-requires g c =
    let b = (homed g.H.Home.table g.B.Beginning.begun) in
    let s = c.self.inside in
    let p = c.args.plan.now in
    let client : ClientSight = record { id = c.client.inside.id; seen = c.client.inside.note.seen } in
    let x : RegionSight = record { number = s.number; steps = s.steps; audits = s.audits; region = s.region; seen = s.note.seen } in
    let seen : IsSeen c.meet.new.note.seen (region_note x.number) x.seen = met_seen b s.note c.meet.new.note x c.self.invariant c.meet.ensures.seen in
    let stood : IsAt x.number c.args.at p.operation client.seen =
    subst (λ (z : ClientSight). IsAt x.number c.args.at p.operation z.seen) (sym c.client.view_is) (subst (λ (z : RegionSight). IsAt z.number c.args.at p.operation c.args.client.now.seen) (sym c.self.view_is) c.requires.stood) in
    let under : OneIsUnderWay p.operation s.region =
    comes_back client x c.args.at p.operation c.client.inside.note.number c.meet.new.note.seen c.meet.ensures.theirs seen (c.requires.last ∙ ap (λ (z : RegionSight). z.steps) (sym c.self.view_is)) stood c.self.invariant.operation in
    record { written = own_written p.txn (IsUndoBlock p.next) p.operation s.region c.requires.own under c.requires.written }

pub add_three-requires-clause-may : goal.add_three-requires-clause-may
add_three-requires-clause-may g c κs within =
    let b = (homed g.H.Home.table g.B.Beginning.begun) in
    let s = c.self.inside in
    let p = c.args.plan.now in
    let client : ClientSight = record { id = c.client.inside.id; seen = c.client.inside.note.seen } in
    let x : RegionSight = record { number = s.number; steps = s.steps; audits = s.audits; region = s.region; seen = s.note.seen } in
    let seen : IsSeen c.meet.new.note.seen (region_note x.number) x.seen = met_seen b s.note c.meet.new.note x c.self.invariant c.meet.ensures.seen in
    let stood : IsAt x.number c.args.at p.operation client.seen =
    subst (λ (z : ClientSight). IsAt x.number c.args.at p.operation z.seen) (sym c.client.view_is) (subst (λ (z : RegionSight). IsAt z.number c.args.at p.operation c.args.client.now.seen) (sym c.self.view_is) c.requires.stood) in
    let under : OneIsUnderWay p.operation s.region =
    comes_back client x c.args.at p.operation c.client.inside.note.number c.meet.new.note.seen c.meet.ensures.theirs seen (c.requires.last ∙ ap (λ (z : RegionSight). z.steps) (sym c.self.view_is)) stood c.self.invariant.operation in
    let y : RegionSight = record { number = s.number; steps = s.steps; audits = s.audits; region = s.region; seen = c.meet.new.note.seen } in
    let kept : RegionKept b s.note.table s.note.number y = kept_meets b s.note.table s.note.number x c.meet.new.note.seen c.self.invariant seen c.meet.ensures.all in
    let mine : c.meet.new.other ≡ client_sight b client = c.meet.ensures.other ∙ client_is b c.client.inside.note client.id c.client.invariant.0 c.client.invariant.1 in
    let theirs : c.meet.new.note ≡ region_sight b y = met_is b s.note c.meet.new.note x c.self.invariant c.meet.ensures.table c.meet.ensures.number in
    let knows : Knows b (IsUndoing client.id x.number p) client =
    subst (λ (z : ClientSight). Knows b (IsUndoing z.id x.number p) z) (sym c.client.view_is) (subst (λ (z : RegionSight). Knows b (IsUndoing c.args.client.now.id z.number p) c.args.client.now) (sym c.self.view_is) c.requires.undoing) in
    let hand = in_hand p.txn (IsUndoBlock p.next) p.operation s.region c.requires.own under c.requires.written in
    let here = undo_here p.next hand.op.block x.number hand.block (subst (λ (z : RegionSight). IsSomeAnd p.next (λ u. u.region ≡ z.number)) (sym c.self.view_is) c.requires.wants) in
    let w : SystemSight = record { served = c.system.inside.system; seen = c.system.inside.note.seen } in
    let runs : w.served.state.stop ≡ None = c.in-Ok.ensures.receipt.runs in
    let fits : Is64 p.txn = subst Is64 c.txn.ensures (omega (arith, c.txn.type_inv)) in
    let both = if_it p.operation hand.op (λ o. (c.commit.new.system ≡ record c.system.inside.system { state = back_logged w.served.state p.txn o.block }) × (c.commit.new.region ≡ touched s.region)) hand.is_it c.in-Ok.ensures.ok in
    let h = c.commit.new.region in
    let item = logged_item client.id true p.txn p.operation w.served.state (touched s.region) in
    let item_is : g.D.RegionItem.item h ≡ item =
    ap (λ (f : RegionState → Item). f h) c.requires.item
    ∙ (ap (λ (z : ClientSight). logged_item z.id true p.txn p.operation c.args.system.now.served.state h) (sym c.client.view_is)
    ∙ (ap (λ (z : SystemSight). logged_item client.id true p.txn p.operation z.served.state h) (sym c.system.view_is) ∙ ap (logged_item client.id true p.txn p.operation w.served.state) both.1)) in
    let its : c.system.inside.note ≡ system_sight b w = system_is b c.system.inside.note w.served c.system.invariant.0 c.system.invariant.1 in
    may_of_three b c.meet.new.other c.system.inside.note c.meet.new.note (client_sight b client) (system_sight b w) (region_sight b y) _ item mine its theirs item_is
    (logged_may b client s.note.table s.note.number y kept w c.system.invariant.3 p.txn hand.op.block.region here (HasUndos p.next p.down_to) (HasUndos (next_undo (undos_at (back_logged w.served.state p.txn hand.op.block).table p.txn) p.down_to) p.down_to) (Back p.txn hand.op.block) (back_logged w.served.state p.txn hand.op.block) (Does (TakesBack p.txn hand.op.block) ∷ []) item (undo_item_is b client y w p hand) knows (undo_there b client y w p hand fits runs))

pub add_both-requires-clause-may : goal.add_both-requires-clause-may
add_both-requires-clause-may g c κs within =
    let b = (homed g.H.Home.table g.B.Beginning.begun) in
    let s = c.self.inside in
    let p = c.args.plan.now in
    let client : ClientSight = record { id = c.client.inside.id; seen = c.client.inside.note.seen } in
    let x : RegionSight = record { number = s.number; steps = s.steps; audits = s.audits; region = s.region; seen = s.note.seen } in
    let seen : IsSeen c.meet.new.note.seen (region_note x.number) x.seen = met_seen b s.note c.meet.new.note x c.self.invariant c.meet.ensures.seen in
    let stood : IsAt x.number c.args.at p.operation client.seen =
    subst (λ (z : ClientSight). IsAt x.number c.args.at p.operation z.seen) (sym c.client.view_is) (subst (λ (z : RegionSight). IsAt z.number c.args.at p.operation c.args.client.now.seen) (sym c.self.view_is) c.requires.stood) in
    let under : OneIsUnderWay p.operation s.region =
    comes_back client x c.args.at p.operation c.client.inside.note.number c.meet.new.note.seen c.meet.ensures.theirs seen (c.requires.last ∙ ap (λ (z : RegionSight). z.steps) (sym c.self.view_is)) stood c.self.invariant.operation in
    let y : RegionSight = record { number = s.number; steps = s.steps; audits = s.audits; region = s.region; seen = c.meet.new.note.seen } in
    let kept : RegionKept b s.note.table s.note.number y = kept_meets b s.note.table s.note.number x c.meet.new.note.seen c.self.invariant seen c.meet.ensures.all in
    let mine : c.meet.new.other ≡ client_sight b client = c.meet.ensures.other ∙ client_is b c.client.inside.note client.id c.client.invariant.0 c.client.invariant.1 in
    let theirs : c.meet.new.note ≡ region_sight b y = met_is b s.note c.meet.new.note x c.self.invariant c.meet.ensures.table c.meet.ensures.number in
    let knows : Knows b (IsUndoing client.id x.number p) client =
    subst (λ (z : ClientSight). Knows b (IsUndoing z.id x.number p) z) (sym c.client.view_is) (subst (λ (z : RegionSight). Knows b (IsUndoing c.args.client.now.id z.number p) c.args.client.now) (sym c.self.view_is) c.requires.undoing) in
    let hand = in_hand p.txn (IsUndoBlock p.next) p.operation s.region c.requires.own under c.requires.written in
    let here = undo_here p.next hand.op.block x.number hand.block (subst (λ (z : RegionSight). IsSomeAnd p.next (λ u. u.region ≡ z.number)) (sym c.self.view_is) c.requires.wants) in
    let h = c.commit.new.region in
    let item = freed_item client.id x.number h in
    let item_is : g.E.RegionItem.item h ≡ item =
    ap (λ (f : RegionState → Item). f h) c.requires.freed
    ∙ (ap (λ (z : ClientSight). freed_item z.id c.args.self.now.number h) (sym c.client.view_is) ∙ ap (λ (z : RegionSight). freed_item client.id z.number h) (sym c.self.view_is)) in
    may_of b c.meet.new.other c.meet.new.note (client_sight b client) (region_sight b y) _ item mine theirs item_is
    (freed_may b s.note.table s.note.number y kept client p.txn h (λ u q each. (knows u q each).stands.tends) hand.held (is_held s.region _ hand.op.block hand.written) (some_hold s.region _ hand.op.block hand.written) c.in-Err.ensures.receipt.err.1)

pub invariant_of-client : goal.invariant_of-client
invariant_of-client g c =
    let was = c.meet.ensures.other in (
      c.add_three.ensures.table ∙ (ap (λ (n : Sight Item). n.table) was ∙ c.client.invariant.0),
      c.add_three.ensures.number ∙ (ap (λ (n : Sight Item). n.number) was ∙ c.client.invariant.1),
      led_on (homed g.H.Home.table g.B.Beginning.begun) c.client.inside.note.seen c.add_three.new.note.seen c.client.invariant.2 c.add_three.ensures.all,
    )

pub invariant_of-client-in-Err : goal.invariant_of-client-in-Err
invariant_of-client-in-Err g c =
    let was = c.meet.ensures.other in (
      c.add_both.ensures.table ∙ (ap (λ (n : Sight Item). n.table) was ∙ c.client.invariant.0),
      c.add_both.ensures.number ∙ (ap (λ (n : Sight Item). n.number) was ∙ c.client.invariant.1),
      led_on (homed g.H.Home.table g.B.Beginning.begun) c.client.inside.note.seen c.add_both.new.note.seen c.client.invariant.2 c.add_both.ensures.all,
    )

pub invariant_of-self : goal.invariant_of-self
invariant_of-self g c =
    let b = (homed g.H.Home.table g.B.Beginning.begun) in
    let s = c.self.inside in
    let p = c.args.plan.now in
    let client : ClientSight = record { id = c.client.inside.id; seen = c.client.inside.note.seen } in
    let x : RegionSight = record { number = s.number; steps = s.steps; audits = s.audits; region = s.region; seen = s.note.seen } in
    let seen : IsSeen c.meet.new.note.seen (region_note x.number) x.seen = met_seen b s.note c.meet.new.note x c.self.invariant c.meet.ensures.seen in
    let stood : IsAt x.number c.args.at p.operation client.seen =
    subst (λ (z : ClientSight). IsAt x.number c.args.at p.operation z.seen) (sym c.client.view_is) (subst (λ (z : RegionSight). IsAt z.number c.args.at p.operation c.args.client.now.seen) (sym c.self.view_is) c.requires.stood) in
    let under : OneIsUnderWay p.operation s.region =
    comes_back client x c.args.at p.operation c.client.inside.note.number c.meet.new.note.seen c.meet.ensures.theirs seen (c.requires.last ∙ ap (λ (z : RegionSight). z.steps) (sym c.self.view_is)) stood c.self.invariant.operation in
    let y : RegionSight = record { number = s.number; steps = s.steps; audits = s.audits; region = s.region; seen = c.meet.new.note.seen } in
    let kept : RegionKept b s.note.table s.note.number y = kept_meets b s.note.table s.note.number x c.meet.new.note.seen c.self.invariant seen c.meet.ensures.all in
    let mine : c.meet.new.other ≡ client_sight b client = c.meet.ensures.other ∙ client_is b c.client.inside.note client.id c.client.invariant.0 c.client.invariant.1 in
    let theirs : c.meet.new.note ≡ region_sight b y = met_is b s.note c.meet.new.note x c.self.invariant c.meet.ensures.table c.meet.ensures.number in
    let knows : Knows b (IsUndoing client.id x.number p) client =
    subst (λ (z : ClientSight). Knows b (IsUndoing z.id x.number p) z) (sym c.client.view_is) (subst (λ (z : RegionSight). Knows b (IsUndoing c.args.client.now.id z.number p) c.args.client.now) (sym c.self.view_is) c.requires.undoing) in
    let hand = in_hand p.txn (IsUndoBlock p.next) p.operation s.region c.requires.own under c.requires.written in
    let here = undo_here p.next hand.op.block x.number hand.block (subst (λ (z : RegionSight). IsSomeAnd p.next (λ u. u.region ≡ z.number)) (sym c.self.view_is) c.requires.wants) in
    let w : SystemSight = record { served = c.system.inside.system; seen = c.system.inside.note.seen } in
    let runs : w.served.state.stop ≡ None = c.in-Ok.ensures.receipt.runs in
    let fits : Is64 p.txn = subst Is64 c.txn.ensures (omega (arith, c.txn.type_inv)) in
    let both = if_it p.operation hand.op (λ o. (c.commit.new.system ≡ record c.system.inside.system { state = back_logged w.served.state p.txn o.block }) × (c.commit.new.region ≡ touched s.region)) hand.is_it c.in-Ok.ensures.ok in
    let h = c.commit.new.region in
    let item = logged_item client.id true p.txn p.operation w.served.state (touched s.region) in
    let item_is : g.D.RegionItem.item h ≡ item =
    ap (λ (f : RegionState → Item). f h) c.requires.item
    ∙ (ap (λ (z : ClientSight). logged_item z.id true p.txn p.operation c.args.system.now.served.state h) (sym c.client.view_is)
    ∙ (ap (λ (z : SystemSight). logged_item client.id true p.txn p.operation z.served.state h) (sym c.system.view_is) ∙ ap (logged_item client.id true p.txn p.operation w.served.state) both.1)) in
    let its : c.system.inside.note ≡ system_sight b w = system_is b c.system.inside.note w.served c.system.invariant.0 c.system.invariant.1 in
    let new = c.add_three.new.note.seen in
    let told : Added (client_sight b client ∷ system_sight b w ∷ region_sight b y ∷ []) item new =
    added_of_three c.meet.new.other c.system.inside.note c.meet.new.note (client_sight b client) (system_sight b w) (region_sight b y) _ item new mine its theirs item_is c.add_three.ensures.added in
    let is : RegionKept b s.note.table s.note.number (record { number = s.number; steps = s.steps + 1; audits = s.audits; region = touched s.region; seen = new }) =
    logged_kept b client s.note.table s.note.number y kept w c.system.invariant.3 p.txn hand.op.block.region here (HasUndos p.next p.down_to) (HasUndos (next_undo (undos_at (back_logged w.served.state p.txn hand.op.block).table p.txn) p.down_to) p.down_to) (Back p.txn hand.op.block) (back_logged w.served.state p.txn hand.op.block) (Does (TakesBack p.txn hand.op.block) ∷ []) item (undo_item_is b client y w p hand) knows (undo_there b client y w p hand fits runs) new told c.add_three.ensures.all in
    kept_of b s.note c.add_three.new.third (record { number = s.number; steps = s.steps + 1; audits = s.audits; region = h; seen = new }) (still_noted s.note c.meet.new.note c.add_three.new.third new c.meet.ensures.table c.meet.ensures.number c.add_three.ensures.third)
    (subst (λ z. RegionKept b s.note.table s.note.number (record { number = s.number; steps = s.steps + 1; audits = s.audits; region = z; seen = new })) (sym both.1) is)

pub invariant_of-self-in-Err : goal.invariant_of-self-in-Err
invariant_of-self-in-Err g c =
    let b = (homed g.H.Home.table g.B.Beginning.begun) in
    let s = c.self.inside in
    let p = c.args.plan.now in
    let client : ClientSight = record { id = c.client.inside.id; seen = c.client.inside.note.seen } in
    let x : RegionSight = record { number = s.number; steps = s.steps; audits = s.audits; region = s.region; seen = s.note.seen } in
    let seen : IsSeen c.meet.new.note.seen (region_note x.number) x.seen = met_seen b s.note c.meet.new.note x c.self.invariant c.meet.ensures.seen in
    let stood : IsAt x.number c.args.at p.operation client.seen =
    subst (λ (z : ClientSight). IsAt x.number c.args.at p.operation z.seen) (sym c.client.view_is) (subst (λ (z : RegionSight). IsAt z.number c.args.at p.operation c.args.client.now.seen) (sym c.self.view_is) c.requires.stood) in
    let under : OneIsUnderWay p.operation s.region =
    comes_back client x c.args.at p.operation c.client.inside.note.number c.meet.new.note.seen c.meet.ensures.theirs seen (c.requires.last ∙ ap (λ (z : RegionSight). z.steps) (sym c.self.view_is)) stood c.self.invariant.operation in
    let y : RegionSight = record { number = s.number; steps = s.steps; audits = s.audits; region = s.region; seen = c.meet.new.note.seen } in
    let kept : RegionKept b s.note.table s.note.number y = kept_meets b s.note.table s.note.number x c.meet.new.note.seen c.self.invariant seen c.meet.ensures.all in
    let mine : c.meet.new.other ≡ client_sight b client = c.meet.ensures.other ∙ client_is b c.client.inside.note client.id c.client.invariant.0 c.client.invariant.1 in
    let theirs : c.meet.new.note ≡ region_sight b y = met_is b s.note c.meet.new.note x c.self.invariant c.meet.ensures.table c.meet.ensures.number in
    let h = c.commit.new.region in
    let item = freed_item client.id x.number h in
    let item_is : g.E.RegionItem.item h ≡ item =
    ap (λ (f : RegionState → Item). f h) c.requires.freed
    ∙ (ap (λ (z : ClientSight). freed_item z.id c.args.self.now.number h) (sym c.client.view_is) ∙ ap (λ (z : RegionSight). freed_item client.id z.number h) (sym c.self.view_is)) in
    let new = c.add_both.new.note.seen in
    let told : Added (client_sight b client ∷ region_sight b y ∷ []) item new = added_of c.meet.new.other c.meet.new.note (client_sight b client) (region_sight b y) _ item new mine theirs item_is c.add_both.ensures.added in
    let counts = counted s.number (client_note b.count client.id ∷ region_note s.number ∷ []) item h (signs_pair (client_note b.count client.id) s.number) refl refl in
    kept_of b s.note c.add_both.new.other (record { number = s.number; steps = s.steps + 1; audits = s.audits; region = h; seen = new }) (still_noted s.note c.meet.new.note c.add_both.new.other new c.meet.ensures.table c.meet.ensures.number c.add_both.ensures.other)
    (kept_next b client s.note.table s.note.number y kept h item new told c.add_both.ensures.all (λ k at. get_set k.regions s.number s.region h at) (λ n right e. absurd (cc)) counts)

pub invariant_of-system : goal.invariant_of-system
invariant_of-system g c =
    let b = (homed g.H.Home.table g.B.Beginning.begun) in
    let s = c.self.inside in
    let p = c.args.plan.now in
    let client : ClientSight = record { id = c.client.inside.id; seen = c.client.inside.note.seen } in
    let x : RegionSight = record { number = s.number; steps = s.steps; audits = s.audits; region = s.region; seen = s.note.seen } in
    let seen : IsSeen c.meet.new.note.seen (region_note x.number) x.seen = met_seen b s.note c.meet.new.note x c.self.invariant c.meet.ensures.seen in
    let stood : IsAt x.number c.args.at p.operation client.seen =
    subst (λ (z : ClientSight). IsAt x.number c.args.at p.operation z.seen) (sym c.client.view_is) (subst (λ (z : RegionSight). IsAt z.number c.args.at p.operation c.args.client.now.seen) (sym c.self.view_is) c.requires.stood) in
    let under : OneIsUnderWay p.operation s.region =
    comes_back client x c.args.at p.operation c.client.inside.note.number c.meet.new.note.seen c.meet.ensures.theirs seen (c.requires.last ∙ ap (λ (z : RegionSight). z.steps) (sym c.self.view_is)) stood c.self.invariant.operation in
    let y : RegionSight = record { number = s.number; steps = s.steps; audits = s.audits; region = s.region; seen = c.meet.new.note.seen } in
    let kept : RegionKept b s.note.table s.note.number y = kept_meets b s.note.table s.note.number x c.meet.new.note.seen c.self.invariant seen c.meet.ensures.all in
    let mine : c.meet.new.other ≡ client_sight b client = c.meet.ensures.other ∙ client_is b c.client.inside.note client.id c.client.invariant.0 c.client.invariant.1 in
    let theirs : c.meet.new.note ≡ region_sight b y = met_is b s.note c.meet.new.note x c.self.invariant c.meet.ensures.table c.meet.ensures.number in
    let knows : Knows b (IsUndoing client.id x.number p) client =
    subst (λ (z : ClientSight). Knows b (IsUndoing z.id x.number p) z) (sym c.client.view_is) (subst (λ (z : RegionSight). Knows b (IsUndoing c.args.client.now.id z.number p) c.args.client.now) (sym c.self.view_is) c.requires.undoing) in
    let hand = in_hand p.txn (IsUndoBlock p.next) p.operation s.region c.requires.own under c.requires.written in
    let here = undo_here p.next hand.op.block x.number hand.block (subst (λ (z : RegionSight). IsSomeAnd p.next (λ u. u.region ≡ z.number)) (sym c.self.view_is) c.requires.wants) in
    let w : SystemSight = record { served = c.system.inside.system; seen = c.system.inside.note.seen } in
    let runs : w.served.state.stop ≡ None = c.in-Ok.ensures.receipt.runs in
    let fits : Is64 p.txn = subst Is64 c.txn.ensures (omega (arith, c.txn.type_inv)) in
    let both = if_it p.operation hand.op (λ o. (c.commit.new.system ≡ record c.system.inside.system { state = back_logged w.served.state p.txn o.block }) × (c.commit.new.region ≡ touched s.region)) hand.is_it c.in-Ok.ensures.ok in
    let h = c.commit.new.region in
    let item = logged_item client.id true p.txn p.operation w.served.state (touched s.region) in
    let item_is : g.D.RegionItem.item h ≡ item =
    ap (λ (f : RegionState → Item). f h) c.requires.item
    ∙ (ap (λ (z : ClientSight). logged_item z.id true p.txn p.operation c.args.system.now.served.state h) (sym c.client.view_is)
    ∙ (ap (λ (z : SystemSight). logged_item client.id true p.txn p.operation z.served.state h) (sym c.system.view_is) ∙ ap (logged_item client.id true p.txn p.operation w.served.state) both.1)) in
    let its : c.system.inside.note ≡ system_sight b w = system_is b c.system.inside.note w.served c.system.invariant.0 c.system.invariant.1 in
    let new = c.add_three.new.note.seen in
    let told : Added (client_sight b client ∷ system_sight b w ∷ region_sight b y ∷ []) item new =
    added_of_three c.meet.new.other c.system.inside.note c.meet.new.note (client_sight b client) (system_sight b w) (region_sight b y) _ item new mine its theirs item_is c.add_three.ensures.added in
    let still = c.add_three.ensures.other in
    let told_now = subst (λ z. Of b (λ o T. SystemTold o z T) new) (sym (ap (λ (z : Served). z.state) both.0)) (logged_system b client s.note.table s.note.number y kept w c.system.invariant.3 p.txn hand.op.block.region here (HasUndos p.next p.down_to) (HasUndos (next_undo (undos_at (back_logged w.served.state p.txn hand.op.block).table p.txn) p.down_to) p.down_to) (Back p.txn hand.op.block) (back_logged w.served.state p.txn hand.op.block) (Does (TakesBack p.txn hand.op.block) ∷ []) item (undo_item_is b client y w p hand) knows (undo_there b client y w p hand fits runs) new told c.add_three.ensures.all) in (
      ap (λ (n : Sight Item). n.table) still ∙ c.system.invariant.0,
      ap (λ (n : Sight Item). n.number) still ∙ c.system.invariant.1,
      subst (λ (n : Sight Item). Led b n.seen) (sym still) (led_on b c.system.inside.note.seen new c.system.invariant.2 c.add_three.ensures.all),
      subst (λ (n : Sight Item). Of b (λ o T. SystemTold o c.commit.new.system.state T) n.seen) (sym still) told_now,
    )

pub invariant_of-system-in-Err : goal.invariant_of-system-in-Err
invariant_of-system-in-Err g c = (
  c.system.invariant.0,
  c.system.invariant.1,
  c.system.invariant.2,
  subst (λ (z : Served). Of (homed g.H.Home.table g.B.Beginning.begun) (λ o T. SystemTold o z.state T) c.system.inside.note.seen) (sym c.in-Err.ensures.receipt.err.0) c.system.invariant.3,
)

pub returns-in-Ok-clause-tells : goal.returns-in-Ok-clause-tells
returns-in-Ok-clause-tells g c =
    let b = (homed g.H.Home.table g.B.Beginning.begun) in
    let s = c.self.inside in
    let p = c.args.plan.now in
    let client : ClientSight = record { id = c.client.inside.id; seen = c.client.inside.note.seen } in
    let x : RegionSight = record { number = s.number; steps = s.steps; audits = s.audits; region = s.region; seen = s.note.seen } in
    let seen : IsSeen c.meet.new.note.seen (region_note x.number) x.seen = met_seen b s.note c.meet.new.note x c.self.invariant c.meet.ensures.seen in
    let stood : IsAt x.number c.args.at p.operation client.seen =
    subst (λ (z : ClientSight). IsAt x.number c.args.at p.operation z.seen) (sym c.client.view_is) (subst (λ (z : RegionSight). IsAt z.number c.args.at p.operation c.args.client.now.seen) (sym c.self.view_is) c.requires.stood) in
    let under : OneIsUnderWay p.operation s.region =
    comes_back client x c.args.at p.operation c.client.inside.note.number c.meet.new.note.seen c.meet.ensures.theirs seen (c.requires.last ∙ ap (λ (z : RegionSight). z.steps) (sym c.self.view_is)) stood c.self.invariant.operation in
    let y : RegionSight = record { number = s.number; steps = s.steps; audits = s.audits; region = s.region; seen = c.meet.new.note.seen } in
    let kept : RegionKept b s.note.table s.note.number y = kept_meets b s.note.table s.note.number x c.meet.new.note.seen c.self.invariant seen c.meet.ensures.all in
    let mine : c.meet.new.other ≡ client_sight b client = c.meet.ensures.other ∙ client_is b c.client.inside.note client.id c.client.invariant.0 c.client.invariant.1 in
    let theirs : c.meet.new.note ≡ region_sight b y = met_is b s.note c.meet.new.note x c.self.invariant c.meet.ensures.table c.meet.ensures.number in
    let knows : Knows b (IsUndoing client.id x.number p) client =
    subst (λ (z : ClientSight). Knows b (IsUndoing z.id x.number p) z) (sym c.client.view_is) (subst (λ (z : RegionSight). Knows b (IsUndoing c.args.client.now.id z.number p) c.args.client.now) (sym c.self.view_is) c.requires.undoing) in
    let hand = in_hand p.txn (IsUndoBlock p.next) p.operation s.region c.requires.own under c.requires.written in
    let here = undo_here p.next hand.op.block x.number hand.block (subst (λ (z : RegionSight). IsSomeAnd p.next (λ u. u.region ≡ z.number)) (sym c.self.view_is) c.requires.wants) in
    let w : SystemSight = record { served = c.system.inside.system; seen = c.system.inside.note.seen } in
    let runs : w.served.state.stop ≡ None = c.in-Ok.ensures.receipt.runs in
    let fits : Is64 p.txn = subst Is64 c.txn.ensures (omega (arith, c.txn.type_inv)) in
    let both = if_it p.operation hand.op (λ o. (c.commit.new.system ≡ record c.system.inside.system { state = back_logged w.served.state p.txn o.block }) × (c.commit.new.region ≡ touched s.region)) hand.is_it c.in-Ok.ensures.ok in
    let h = c.commit.new.region in
    let item = logged_item client.id true p.txn p.operation w.served.state (touched s.region) in
    let item_is : g.D.RegionItem.item h ≡ item =
    ap (λ (f : RegionState → Item). f h) c.requires.item
    ∙ (ap (λ (z : ClientSight). logged_item z.id true p.txn p.operation c.args.system.now.served.state h) (sym c.client.view_is)
    ∙ (ap (λ (z : SystemSight). logged_item client.id true p.txn p.operation z.served.state h) (sym c.system.view_is) ∙ ap (logged_item client.id true p.txn p.operation w.served.state) both.1)) in
    let its : c.system.inside.note ≡ system_sight b w = system_is b c.system.inside.note w.served c.system.invariant.0 c.system.invariant.1 in
    let new = c.add_three.new.note.seen in
    let told : Added (client_sight b client ∷ system_sight b w ∷ region_sight b y ∷ []) item new =
    added_of_three c.meet.new.other c.system.inside.note c.meet.new.note (client_sight b client) (system_sight b w) (region_sight b y) _ item new mine its theirs item_is c.add_three.ensures.added in
    let all : Added (client_sight b client ∷ system_sight b w ∷ region_sight b x ∷ []) item new = added_before_three b client w x c.meet.new.note.seen item new seen told in
    subst (λ z. Added (client_sight b c.args.client.now ∷ system_sight b c.args.system.now ∷ region_sight b c.args.self.now ∷ []) (logged_item c.args.client.now.id true p.txn p.operation c.args.system.now.served.state z) new) (sym both.1)
    (subst (λ (z : ClientSight). Added (client_sight b z ∷ system_sight b c.args.system.now ∷ region_sight b c.args.self.now ∷ []) (logged_item z.id true p.txn p.operation c.args.system.now.served.state (touched s.region)) new) c.client.view_is
    (subst (λ (z : SystemSight). Added (client_sight b client ∷ system_sight b z ∷ region_sight b c.args.self.now ∷ []) (logged_item client.id true p.txn p.operation z.served.state (touched s.region)) new) c.system.view_is
    (subst (λ (z : RegionSight). Added (client_sight b client ∷ system_sight b w ∷ region_sight b z ∷ []) item new) c.self.view_is all)))

pub returns-in-Ok-clause-further : goal.returns-in-Ok-clause-further
returns-in-Ok-clause-further g c =
    let b = (homed g.H.Home.table g.B.Beginning.begun) in
    let s = c.self.inside in
    let p = c.args.plan.now in
    let client : ClientSight = record { id = c.client.inside.id; seen = c.client.inside.note.seen } in
    let x : RegionSight = record { number = s.number; steps = s.steps; audits = s.audits; region = s.region; seen = s.note.seen } in
    let seen : IsSeen c.meet.new.note.seen (region_note x.number) x.seen = met_seen b s.note c.meet.new.note x c.self.invariant c.meet.ensures.seen in
    let stood : IsAt x.number c.args.at p.operation client.seen =
    subst (λ (z : ClientSight). IsAt x.number c.args.at p.operation z.seen) (sym c.client.view_is) (subst (λ (z : RegionSight). IsAt z.number c.args.at p.operation c.args.client.now.seen) (sym c.self.view_is) c.requires.stood) in
    let under : OneIsUnderWay p.operation s.region =
    comes_back client x c.args.at p.operation c.client.inside.note.number c.meet.new.note.seen c.meet.ensures.theirs seen (c.requires.last ∙ ap (λ (z : RegionSight). z.steps) (sym c.self.view_is)) stood c.self.invariant.operation in
    let y : RegionSight = record { number = s.number; steps = s.steps; audits = s.audits; region = s.region; seen = c.meet.new.note.seen } in
    let kept : RegionKept b s.note.table s.note.number y = kept_meets b s.note.table s.note.number x c.meet.new.note.seen c.self.invariant seen c.meet.ensures.all in
    let mine : c.meet.new.other ≡ client_sight b client = c.meet.ensures.other ∙ client_is b c.client.inside.note client.id c.client.invariant.0 c.client.invariant.1 in
    let theirs : c.meet.new.note ≡ region_sight b y = met_is b s.note c.meet.new.note x c.self.invariant c.meet.ensures.table c.meet.ensures.number in
    let knows : Knows b (IsUndoing client.id x.number p) client =
    subst (λ (z : ClientSight). Knows b (IsUndoing z.id x.number p) z) (sym c.client.view_is) (subst (λ (z : RegionSight). Knows b (IsUndoing c.args.client.now.id z.number p) c.args.client.now) (sym c.self.view_is) c.requires.undoing) in
    let hand = in_hand p.txn (IsUndoBlock p.next) p.operation s.region c.requires.own under c.requires.written in
    let here = undo_here p.next hand.op.block x.number hand.block (subst (λ (z : RegionSight). IsSomeAnd p.next (λ u. u.region ≡ z.number)) (sym c.self.view_is) c.requires.wants) in
    let w : SystemSight = record { served = c.system.inside.system; seen = c.system.inside.note.seen } in
    let runs : w.served.state.stop ≡ None = c.in-Ok.ensures.receipt.runs in
    let fits : Is64 p.txn = subst Is64 c.txn.ensures (omega (arith, c.txn.type_inv)) in
    let both = if_it p.operation hand.op (λ o. (c.commit.new.system ≡ record c.system.inside.system { state = back_logged w.served.state p.txn o.block }) × (c.commit.new.region ≡ touched s.region)) hand.is_it c.in-Ok.ensures.ok in
    let h = c.commit.new.region in
    let item = logged_item client.id true p.txn p.operation w.served.state (touched s.region) in
    let item_is : g.D.RegionItem.item h ≡ item =
    ap (λ (f : RegionState → Item). f h) c.requires.item
    ∙ (ap (λ (z : ClientSight). logged_item z.id true p.txn p.operation c.args.system.now.served.state h) (sym c.client.view_is)
    ∙ (ap (λ (z : SystemSight). logged_item client.id true p.txn p.operation z.served.state h) (sym c.system.view_is) ∙ ap (logged_item client.id true p.txn p.operation w.served.state) both.1)) in
    let its : c.system.inside.note ≡ system_sight b w = system_is b c.system.inside.note w.served c.system.invariant.0 c.system.invariant.1 in
    let new = c.add_three.new.note.seen in
    let told : Added (client_sight b client ∷ system_sight b w ∷ region_sight b y ∷ []) item new =
    added_of_three c.meet.new.other c.system.inside.note c.meet.new.note (client_sight b client) (system_sight b w) (region_sight b y) _ item new mine its theirs item_is c.add_three.ensures.added in
    let next : c.commit.new.self ≡ record p { next = next_undo (undos_at (back_logged w.served.state p.txn hand.op.block).table p.txn) p.down_to; operation = None } =
    c.in-Ok.ensures.next ∙ ap (λ (z : Served). record p { next = next_undo (undos_at z.state.table p.txn) p.down_to; operation = None }) both.0 in
    subst (λ (z : TakeBack). Of b (Undoes c.args.client.now.id z) new) (sym next)
    (subst (λ (z : ClientSight). Of b (Undoes z.id (record p { next = next_undo (undos_at (back_logged w.served.state p.txn hand.op.block).table p.txn) p.down_to; operation = None })) new) c.client.view_is
    (logged_stands_known b client s.note.table s.note.number y kept w c.system.invariant.3 p.txn hand.op.block.region here (HasUndos p.next p.down_to) (HasUndos (next_undo (undos_at (back_logged w.served.state p.txn hand.op.block).table p.txn) p.down_to) p.down_to) (Back p.txn hand.op.block) (back_logged w.served.state p.txn hand.op.block) (Does (TakesBack p.txn hand.op.block) ∷ []) item (undo_item_is b client y w p hand) knows (undo_there b client y w p hand fits runs) new told c.add_three.ensures.all))

pub returns-in-Ok-clause-receipt : goal.returns-in-Ok-clause-receipt
returns-in-Ok-clause-receipt g c =
    let b = (homed g.H.Home.table g.B.Beginning.begun) in
    let s = c.self.inside in
    let p = c.args.plan.now in
    let client : ClientSight = record { id = c.client.inside.id; seen = c.client.inside.note.seen } in
    let x : RegionSight = record { number = s.number; steps = s.steps; audits = s.audits; region = s.region; seen = s.note.seen } in
    let seen : IsSeen c.meet.new.note.seen (region_note x.number) x.seen = met_seen b s.note c.meet.new.note x c.self.invariant c.meet.ensures.seen in
    let stood : IsAt x.number c.args.at p.operation client.seen =
    subst (λ (z : ClientSight). IsAt x.number c.args.at p.operation z.seen) (sym c.client.view_is) (subst (λ (z : RegionSight). IsAt z.number c.args.at p.operation c.args.client.now.seen) (sym c.self.view_is) c.requires.stood) in
    let under : OneIsUnderWay p.operation s.region =
    comes_back client x c.args.at p.operation c.client.inside.note.number c.meet.new.note.seen c.meet.ensures.theirs seen (c.requires.last ∙ ap (λ (z : RegionSight). z.steps) (sym c.self.view_is)) stood c.self.invariant.operation in
    let y : RegionSight = record { number = s.number; steps = s.steps; audits = s.audits; region = s.region; seen = c.meet.new.note.seen } in
    let kept : RegionKept b s.note.table s.note.number y = kept_meets b s.note.table s.note.number x c.meet.new.note.seen c.self.invariant seen c.meet.ensures.all in
    let mine : c.meet.new.other ≡ client_sight b client = c.meet.ensures.other ∙ client_is b c.client.inside.note client.id c.client.invariant.0 c.client.invariant.1 in
    let theirs : c.meet.new.note ≡ region_sight b y = met_is b s.note c.meet.new.note x c.self.invariant c.meet.ensures.table c.meet.ensures.number in
    let knows : Knows b (IsUndoing client.id x.number p) client =
    subst (λ (z : ClientSight). Knows b (IsUndoing z.id x.number p) z) (sym c.client.view_is) (subst (λ (z : RegionSight). Knows b (IsUndoing c.args.client.now.id z.number p) c.args.client.now) (sym c.self.view_is) c.requires.undoing) in
    let hand = in_hand p.txn (IsUndoBlock p.next) p.operation s.region c.requires.own under c.requires.written in
    let here = undo_here p.next hand.op.block x.number hand.block (subst (λ (z : RegionSight). IsSomeAnd p.next (λ u. u.region ≡ z.number)) (sym c.self.view_is) c.requires.wants) in
    let w : SystemSight = record { served = c.system.inside.system; seen = c.system.inside.note.seen } in
    let runs : w.served.state.stop ≡ None = c.in-Ok.ensures.receipt.runs in
    let fits : Is64 p.txn = subst Is64 c.txn.ensures (omega (arith, c.txn.type_inv)) in
    let both = if_it p.operation hand.op (λ o. (c.commit.new.system ≡ record c.system.inside.system { state = back_logged w.served.state p.txn o.block }) × (c.commit.new.region ≡ touched s.region)) hand.is_it c.in-Ok.ensures.ok in
    let h = c.commit.new.region in
    let item = logged_item client.id true p.txn p.operation w.served.state (touched s.region) in
    let item_is : g.D.RegionItem.item h ≡ item =
    ap (λ (f : RegionState → Item). f h) c.requires.item
    ∙ (ap (λ (z : ClientSight). logged_item z.id true p.txn p.operation c.args.system.now.served.state h) (sym c.client.view_is)
    ∙ (ap (λ (z : SystemSight). logged_item client.id true p.txn p.operation z.served.state h) (sym c.system.view_is) ∙ ap (logged_item client.id true p.txn p.operation w.served.state) both.1)) in
    let its : c.system.inside.note ≡ system_sight b w = system_is b c.system.inside.note w.served c.system.invariant.0 c.system.invariant.1 in
    let new = c.add_three.new.note.seen in
    let told : Added (client_sight b client ∷ system_sight b w ∷ region_sight b y ∷ []) item new =
    added_of_three c.meet.new.other c.system.inside.note c.meet.new.note (client_sight b client) (system_sight b w) (region_sight b y) _ item new mine its theirs item_is c.add_three.ensures.added in
    let logged : Of b (HasLogged w.served.state.records (Back p.txn hand.op.block)) new = logged_known b client s.note.table s.note.number y kept w c.system.invariant.3 p.txn hand.op.block.region here (HasUndos p.next p.down_to) (HasUndos (next_undo (undos_at (back_logged w.served.state p.txn hand.op.block).table p.txn) p.down_to) p.down_to) (Back p.txn hand.op.block) (back_logged w.served.state p.txn hand.op.block) (Does (TakesBack p.txn hand.op.block) ∷ []) item (undo_item_is b client y w p hand) knows (undo_there b client y w p hand fits runs) new told c.add_three.ensures.all in
    subst (λ q. IfSome q (λ o. Of b (HasLogged c.in-Ok.receipt.number (Back p.txn o.block)) new)) (sym hand.is_it)
    (subst (λ n. Of b (HasLogged n (Back p.txn hand.op.block)) new) (sym c.in-Ok.ensures.receipt.number) logged)

pub returns-in-Err-clause-err : goal.returns-in-Err-clause-err
returns-in-Err-clause-err g c =
    let b = (homed g.H.Home.table g.B.Beginning.begun) in
    let s = c.self.inside in
    let p = c.args.plan.now in
    let client : ClientSight = record { id = c.client.inside.id; seen = c.client.inside.note.seen } in
    let x : RegionSight = record { number = s.number; steps = s.steps; audits = s.audits; region = s.region; seen = s.note.seen } in
    let seen : IsSeen c.meet.new.note.seen (region_note x.number) x.seen = met_seen b s.note c.meet.new.note x c.self.invariant c.meet.ensures.seen in
    let stood : IsAt x.number c.args.at p.operation client.seen =
    subst (λ (z : ClientSight). IsAt x.number c.args.at p.operation z.seen) (sym c.client.view_is) (subst (λ (z : RegionSight). IsAt z.number c.args.at p.operation c.args.client.now.seen) (sym c.self.view_is) c.requires.stood) in
    let under : OneIsUnderWay p.operation s.region =
    comes_back client x c.args.at p.operation c.client.inside.note.number c.meet.new.note.seen c.meet.ensures.theirs seen (c.requires.last ∙ ap (λ (z : RegionSight). z.steps) (sym c.self.view_is)) stood c.self.invariant.operation in
    let y : RegionSight = record { number = s.number; steps = s.steps; audits = s.audits; region = s.region; seen = c.meet.new.note.seen } in
    let mine : c.meet.new.other ≡ client_sight b client = c.meet.ensures.other ∙ client_is b c.client.inside.note client.id c.client.invariant.0 c.client.invariant.1 in
    let theirs : c.meet.new.note ≡ region_sight b y = met_is b s.note c.meet.new.note x c.self.invariant c.meet.ensures.table c.meet.ensures.number in
    let h = c.commit.new.region in
    let item = freed_item client.id x.number h in
    let item_is : g.E.RegionItem.item h ≡ item =
    ap (λ (f : RegionState → Item). f h) c.requires.freed
    ∙ (ap (λ (z : ClientSight). freed_item z.id c.args.self.now.number h) (sym c.client.view_is) ∙ ap (λ (z : RegionSight). freed_item client.id z.number h) (sym c.self.view_is)) in
    let new = c.add_both.new.note.seen in
    let told : Added (client_sight b client ∷ region_sight b y ∷ []) item new = added_of c.meet.new.other c.meet.new.note (client_sight b client) (region_sight b y) _ item new mine theirs item_is c.add_both.ensures.added in
    let all : Added (client_sight b client ∷ region_sight b x ∷ []) item new = added_before b client x c.meet.new.note.seen item new seen told in (
      record {
        region = c.in-Err.ensures.receipt.err.1 ∙ ap (λ (z : RegionSight). taken_back z.region) c.self.view_is;
        number = ap (λ (z : RegionSight). z.number) c.self.view_is;
        added = subst (λ (z : ClientSight). Added (client_sight b z ∷ region_sight b c.args.self.now ∷ []) (freed_item z.id c.args.self.now.number h) new) c.client.view_is
            (subst (λ (z : RegionSight). Added (client_sight b client ∷ region_sight b z ∷ []) (freed_item client.id z.number h) new) c.self.view_is all);
        id = ap (λ (z : ClientSight). z.id) c.client.view_is;
        seen = ap (λ (n : Sight Item). n.seen) c.add_both.ensures.other;
        all = c.add_both.ensures.all;
      },
      ap (λ (z : Served). record { served = z; seen = c.system.inside.note.seen }) c.in-Err.ensures.receipt.err.0 ∙ c.system.view_is,
    )

pub returns-in-Err-clause-again : goal.returns-in-Err-clause-again
returns-in-Err-clause-again g c =
    let b = (homed g.H.Home.table g.B.Beginning.begun) in
    let s = c.self.inside in
    let p = c.args.plan.now in
    let client : ClientSight = record { id = c.client.inside.id; seen = c.client.inside.note.seen } in
    let x : RegionSight = record { number = s.number; steps = s.steps; audits = s.audits; region = s.region; seen = s.note.seen } in
    let seen : IsSeen c.meet.new.note.seen (region_note x.number) x.seen = met_seen b s.note c.meet.new.note x c.self.invariant c.meet.ensures.seen in
    let stood : IsAt x.number c.args.at p.operation client.seen =
    subst (λ (z : ClientSight). IsAt x.number c.args.at p.operation z.seen) (sym c.client.view_is) (subst (λ (z : RegionSight). IsAt z.number c.args.at p.operation c.args.client.now.seen) (sym c.self.view_is) c.requires.stood) in
    let under : OneIsUnderWay p.operation s.region =
    comes_back client x c.args.at p.operation c.client.inside.note.number c.meet.new.note.seen c.meet.ensures.theirs seen (c.requires.last ∙ ap (λ (z : RegionSight). z.steps) (sym c.self.view_is)) stood c.self.invariant.operation in
    let y : RegionSight = record { number = s.number; steps = s.steps; audits = s.audits; region = s.region; seen = c.meet.new.note.seen } in
    let kept : RegionKept b s.note.table s.note.number y = kept_meets b s.note.table s.note.number x c.meet.new.note.seen c.self.invariant seen c.meet.ensures.all in
    let mine : c.meet.new.other ≡ client_sight b client = c.meet.ensures.other ∙ client_is b c.client.inside.note client.id c.client.invariant.0 c.client.invariant.1 in
    let theirs : c.meet.new.note ≡ region_sight b y = met_is b s.note c.meet.new.note x c.self.invariant c.meet.ensures.table c.meet.ensures.number in
    let knows : Knows b (IsUndoing client.id x.number p) client =
    subst (λ (z : ClientSight). Knows b (IsUndoing z.id x.number p) z) (sym c.client.view_is) (subst (λ (z : RegionSight). Knows b (IsUndoing c.args.client.now.id z.number p) c.args.client.now) (sym c.self.view_is) c.requires.undoing) in
    let h = c.commit.new.region in
    let item = freed_item client.id x.number h in
    let item_is : g.E.RegionItem.item h ≡ item =
    ap (λ (f : RegionState → Item). f h) c.requires.freed
    ∙ (ap (λ (z : ClientSight). freed_item z.id c.args.self.now.number h) (sym c.client.view_is) ∙ ap (λ (z : RegionSight). freed_item client.id z.number h) (sym c.self.view_is)) in
    let new = c.add_both.new.note.seen in
    let told : Added (client_sight b client ∷ region_sight b y ∷ []) item new = added_of c.meet.new.other c.meet.new.note (client_sight b client) (region_sight b y) _ item new mine theirs item_is c.add_both.ensures.added in
    let undoes : Of b (Undoes client.id p) new =
    freed_stands_known b client s.note.table s.note.number y kept p.txn (HasUndos p.next p.down_to) h new knows (ap (λ (z : RegionState). z.hold) c.in-Err.ensures.receipt.err.1) told c.add_both.ensures.all in (
      c.in-Err.ensures.receipt.err.2,
      subst (λ (z : TakeBack). Of b (Undoes c.args.client.now.id z) new) (sym c.in-Err.ensures.receipt.err.2) (subst (λ (z : ClientSight). Of b (Undoes z.id p) new) c.client.view_is undoes),
    )

pub returns-in-Ok-clause-refused : goal.returns-in-Ok-clause-refused
returns-in-Ok-clause-refused g c = stop_refused c.system.inside.system.state c.args.system.now.served.state (ap (λ (z : SystemSight). z.served.state) c.system.view_is) _ c.in-Ok.ensures.receipt.refused

pub returns-in-Err-clause-refused : goal.returns-in-Err-clause-refused
returns-in-Err-clause-refused g c = stop_refused c.system.inside.system.state c.args.system.now.served.state (ap (λ (z : SystemSight). z.served.state) c.system.view_is) _ c.in-Err.ensures.receipt.refused

pub returns-in-Err-clause-memory : goal.returns-in-Err-clause-memory
returns-in-Err-clause-memory g c = stop_memory c.system.inside.system.state c.args.system.now.served.state (ap (λ (z : SystemSight). z.served.state) c.system.view_is) (Err c.in-Err.cause) c.in-Err.ensures.receipt.memory
