use Rattle.std.proofs.Common.{◌≡◌, ◌+◌, Err, true, false, [], ◌∷◌, Some, None, IfSome, IsSome, IsSomeAnd, refl, ap, sym, subst, ◌∙◌}
use Rattle.dali_lists.proofs.Lists.{get_set}
use Rattle.dali_system.specs.UnderWay.{OneIsUnderWay, WritesNext}
use Rattle.dali_region.specs.State.{RegionState, latched, with_reads, touched, taken_back}
use Rattle.dali_system.specs.declared.take_back.TakeBack.{TakeBack}
use Rattle.dali_system.specs.TakenBack.{next_undo, IsUndoBlock}
use Rattle.dali_notes.specs.History.{IsSeen, Added, Sight}
use Rattle.dali_concurrent.specs.Entries.{client_note, region_note}
use Rattle.dali_concurrent.specs.Told.{Item, History}
use Rattle.dali_locked.specs.Begun.{outset, Of, homed}
use Rattle.dali_locked.specs.Sights.{ClientSight, RegionSight, Knows, client_sight, region_sight}
use Rattle.dali_locked.specs.Regions.{RegionKept, IsAt}
use Rattle.dali_locked.specs.Undoing.{HasUndos, IsOwn, Undoes, IsUndoing}
use Rattle.dali_locked.proofs.RegionSigns.{signs_pair}
use Rattle.dali_locked.proofs.RegionOps.{counted}
use Rattle.dali_locked.specs.RegionWords.{word_of, value_of, word_item}
use Rattle.dali_locked.proofs.RegionAdding.{led_on, client_is, met_seen, met_is, still_noted, may_of, added_of, added_before, kept_of, kept_meets, kept_next, next_at}
use Rattle.dali_locked.proofs.RegionMay.{word_may}
use Rattle.dali_locked.proofs.RegionKnows.{comes_back, there_is, writes_one, step_of}
use Rattle.dali_locked.proofs.Standing.{updated_stands_known}
use Rattle.dali_locked.proofs.OwnOperation.{own_updated, own_held}
use Rattle.dali_locked.proofs.region.LockedRegion.update_undo_as.Goals as goal

pub update-requires : goal.update-requires
update-requires g c =
    let b = (homed g.H.Home.table g.B.Beginning.begun) in
    let s = c.self.inside in
    let p = c.args.plan.now in
    let client : ClientSight = record { id = c.client.inside.id; seen = c.client.inside.note.seen } in
    let x : RegionSight = record { number = s.number; steps = s.steps; audits = s.audits; region = s.region; seen = s.note.seen } in
    let seen : IsSeen c.meet.new.note.seen (region_note x.number) x.seen = met_seen b s.note c.meet.new.note x c.self.invariant c.meet.ensures.seen in
    let stood : IsAt x.number c.args.at p.operation client.seen =
    subst (λ (z : ClientSight). IsAt x.number c.args.at p.operation z.seen) (sym c.client.view_is) (subst (λ (z : RegionSight). IsAt z.number c.args.at p.operation c.args.client.now.seen) (sym c.self.view_is) c.requires.stood) in
    let under : OneIsUnderWay p.operation s.region =
    comes_back client x c.args.at p.operation c.client.inside.note.number c.meet.new.note.seen c.meet.ensures.theirs seen (c.requires.last ∙ ap (λ (z : RegionSight). z.steps) (sym c.self.view_is)) stood c.self.invariant.operation in
    record { under_way = under }

pub add_both-requires-clause-may : goal.add_both-requires-clause-may
add_both-requires-clause-may g c κs within =
    let b = (homed g.H.Home.table g.B.Beginning.begun) in
    let s = c.self.inside in
    let p = c.args.plan.now in
    let client : ClientSight = record { id = c.client.inside.id; seen = c.client.inside.note.seen } in
    let x : RegionSight = record { number = s.number; steps = s.steps; audits = s.audits; region = s.region; seen = s.note.seen } in
    let seen : IsSeen c.meet.new.note.seen (region_note x.number) x.seen = met_seen b s.note c.meet.new.note x c.self.invariant c.meet.ensures.seen in
    let stood : IsAt x.number c.args.at p.operation client.seen =
    subst (λ (z : ClientSight). IsAt x.number c.args.at p.operation z.seen) (sym c.client.view_is) (subst (λ (z : RegionSight). IsAt z.number c.args.at p.operation c.args.client.now.seen) (sym c.self.view_is) c.requires.stood) in
    let under : OneIsUnderWay p.operation s.region =
    comes_back client x c.args.at p.operation c.client.inside.note.number c.meet.new.note.seen c.meet.ensures.theirs seen (c.requires.last ∙ ap (λ (z : RegionSight). z.steps) (sym c.self.view_is)) stood c.self.invariant.operation in
    let y : RegionSight = record { number = s.number; steps = s.steps; audits = s.audits; region = s.region; seen = c.meet.new.note.seen } in
    let kept : RegionKept b s.note.table s.note.number y = kept_meets b s.note.table s.note.number x c.meet.new.note.seen c.self.invariant seen c.meet.ensures.all in
    let h = c.update.new.region in
    let op = c.update.new.self.operation in
    let one : WritesNext p.operation s.region true op h = writes_one p.operation s.region c.update.result op h under c.requires.left c.update.ensures.writes in
    let item = word_item client.id x.number x.region h in
    let item_is : g.D.RegionItem.item h ≡ item =
    ap (λ (f : RegionState → Item). f h) c.requires.item
    ∙ (ap (λ (z : ClientSight). word_item z.id c.args.self.now.number c.args.self.now.region h) (sym c.client.view_is) ∙ ap (λ (z : RegionSight). word_item client.id z.number z.region h) (sym c.self.view_is)) in
    let mine : c.meet.new.other ≡ client_sight b client = c.meet.ensures.other ∙ client_is b c.client.inside.note client.id c.client.invariant.0 c.client.invariant.1 in
    let theirs : c.meet.new.note ≡ region_sight b y = met_is b s.note c.meet.new.note x c.self.invariant c.meet.ensures.table c.meet.ensures.number in
    let knows : Knows b (IsUndoing client.id x.number p) client =
    subst (λ (z : ClientSight). Knows b (IsUndoing z.id x.number p) z) (sym c.client.view_is) (subst (λ (z : RegionSight). Knows b (IsUndoing c.args.client.now.id z.number p) c.args.client.now) (sym c.self.view_is) c.requires.undoing) in
    may_of b c.meet.new.other c.meet.new.note (client_sight b client) (region_sight b y) _ item mine theirs item_is
    (word_may b s.note.table s.note.number y kept client p.txn h p.operation (λ u q each. (knows u q each).stands.tends) (own_held p.txn (IsUndoBlock p.next) p.operation s.region c.requires.own under) under (step_of p.operation op s.region h under one))

pub invariant_of-client : goal.invariant_of-client
invariant_of-client g c =
    let was = c.meet.ensures.other in (
      c.add_both.ensures.table ∙ (ap (λ (n : Sight Item). n.table) was ∙ c.client.invariant.0),
      c.add_both.ensures.number ∙ (ap (λ (n : Sight Item). n.number) was ∙ c.client.invariant.1),
      led_on (homed g.H.Home.table g.B.Beginning.begun) c.client.inside.note.seen c.add_both.new.note.seen c.client.invariant.2 c.add_both.ensures.all,
    )

pub invariant_of-self : goal.invariant_of-self
invariant_of-self g c =
    let b = (homed g.H.Home.table g.B.Beginning.begun) in
    let s = c.self.inside in
    let p = c.args.plan.now in
    let client : ClientSight = record { id = c.client.inside.id; seen = c.client.inside.note.seen } in
    let x : RegionSight = record { number = s.number; steps = s.steps; audits = s.audits; region = s.region; seen = s.note.seen } in
    let seen : IsSeen c.meet.new.note.seen (region_note x.number) x.seen = met_seen b s.note c.meet.new.note x c.self.invariant c.meet.ensures.seen in
    let stood : IsAt x.number c.args.at p.operation client.seen =
    subst (λ (z : ClientSight). IsAt x.number c.args.at p.operation z.seen) (sym c.client.view_is) (subst (λ (z : RegionSight). IsAt z.number c.args.at p.operation c.args.client.now.seen) (sym c.self.view_is) c.requires.stood) in
    let under : OneIsUnderWay p.operation s.region =
    comes_back client x c.args.at p.operation c.client.inside.note.number c.meet.new.note.seen c.meet.ensures.theirs seen (c.requires.last ∙ ap (λ (z : RegionSight). z.steps) (sym c.self.view_is)) stood c.self.invariant.operation in
    let y : RegionSight = record { number = s.number; steps = s.steps; audits = s.audits; region = s.region; seen = c.meet.new.note.seen } in
    let kept : RegionKept b s.note.table s.note.number y = kept_meets b s.note.table s.note.number x c.meet.new.note.seen c.self.invariant seen c.meet.ensures.all in
    let h = c.update.new.region in
    let op = c.update.new.self.operation in
    let one : WritesNext p.operation s.region true op h = writes_one p.operation s.region c.update.result op h under c.requires.left c.update.ensures.writes in
    let item = word_item client.id x.number x.region h in
    let item_is : g.D.RegionItem.item h ≡ item =
    ap (λ (f : RegionState → Item). f h) c.requires.item
    ∙ (ap (λ (z : ClientSight). word_item z.id c.args.self.now.number c.args.self.now.region h) (sym c.client.view_is) ∙ ap (λ (z : RegionSight). word_item client.id z.number z.region h) (sym c.self.view_is)) in
    let mine : c.meet.new.other ≡ client_sight b client = c.meet.ensures.other ∙ client_is b c.client.inside.note client.id c.client.invariant.0 c.client.invariant.1 in
    let theirs : c.meet.new.note ≡ region_sight b y = met_is b s.note c.meet.new.note x c.self.invariant c.meet.ensures.table c.meet.ensures.number in
    let new = c.add_both.new.note.seen in
    let told : Added (client_sight b client ∷ region_sight b y ∷ []) item new = added_of c.meet.new.other c.meet.new.note (client_sight b client) (region_sight b y) _ item new mine theirs item_is c.add_both.ensures.added in
    let counts = counted s.number (client_note b.count client.id ∷ region_note s.number ∷ []) item h (signs_pair (client_note b.count client.id) s.number) refl refl in
    kept_of b s.note c.add_both.new.other (record { number = s.number; steps = s.steps + 1; audits = s.audits; region = h; seen = new }) (still_noted s.note c.meet.new.note c.add_both.new.other new c.meet.ensures.table c.meet.ensures.number c.add_both.ensures.other)
    (kept_next b client s.note.table s.note.number y kept h item new told c.add_both.ensures.all (λ k at. get_set k.regions s.number s.region h at) (λ n right e. absurd (cc)) counts)

pub returns-clause-writes : goal.returns-clause-writes
returns-clause-writes g c =
    let b = (homed g.H.Home.table g.B.Beginning.begun) in
    let s = c.self.inside in
    let p = c.args.plan.now in
    let client : ClientSight = record { id = c.client.inside.id; seen = c.client.inside.note.seen } in
    let x : RegionSight = record { number = s.number; steps = s.steps; audits = s.audits; region = s.region; seen = s.note.seen } in
    let seen : IsSeen c.meet.new.note.seen (region_note x.number) x.seen = met_seen b s.note c.meet.new.note x c.self.invariant c.meet.ensures.seen in
    let stood : IsAt x.number c.args.at p.operation client.seen =
    subst (λ (z : ClientSight). IsAt x.number c.args.at p.operation z.seen) (sym c.client.view_is) (subst (λ (z : RegionSight). IsAt z.number c.args.at p.operation c.args.client.now.seen) (sym c.self.view_is) c.requires.stood) in
    let under : OneIsUnderWay p.operation s.region =
    comes_back client x c.args.at p.operation c.client.inside.note.number c.meet.new.note.seen c.meet.ensures.theirs seen (c.requires.last ∙ ap (λ (z : RegionSight). z.steps) (sym c.self.view_is)) stood c.self.invariant.operation in
    let h = c.update.new.region in
    let op = c.update.new.self.operation in
    let one : WritesNext p.operation s.region true op h = writes_one p.operation s.region c.update.result op h under c.requires.left c.update.ensures.writes in
    subst (λ (z : RegionSight). WritesNext p.operation z.region true op h) c.self.view_is one

pub returns-clause-tells : goal.returns-clause-tells
returns-clause-tells g c =
    let b = (homed g.H.Home.table g.B.Beginning.begun) in
    let s = c.self.inside in
    let p = c.args.plan.now in
    let client : ClientSight = record { id = c.client.inside.id; seen = c.client.inside.note.seen } in
    let x : RegionSight = record { number = s.number; steps = s.steps; audits = s.audits; region = s.region; seen = s.note.seen } in
    let seen : IsSeen c.meet.new.note.seen (region_note x.number) x.seen = met_seen b s.note c.meet.new.note x c.self.invariant c.meet.ensures.seen in
    let stood : IsAt x.number c.args.at p.operation client.seen =
    subst (λ (z : ClientSight). IsAt x.number c.args.at p.operation z.seen) (sym c.client.view_is) (subst (λ (z : RegionSight). IsAt z.number c.args.at p.operation c.args.client.now.seen) (sym c.self.view_is) c.requires.stood) in
    let under : OneIsUnderWay p.operation s.region =
    comes_back client x c.args.at p.operation c.client.inside.note.number c.meet.new.note.seen c.meet.ensures.theirs seen (c.requires.last ∙ ap (λ (z : RegionSight). z.steps) (sym c.self.view_is)) stood c.self.invariant.operation in
    let y : RegionSight = record { number = s.number; steps = s.steps; audits = s.audits; region = s.region; seen = c.meet.new.note.seen } in
    let h = c.update.new.region in
    let op = c.update.new.self.operation in
    let one : WritesNext p.operation s.region true op h = writes_one p.operation s.region c.update.result op h under c.requires.left c.update.ensures.writes in
    let item = word_item client.id x.number x.region h in
    let item_is : g.D.RegionItem.item h ≡ item =
    ap (λ (f : RegionState → Item). f h) c.requires.item
    ∙ (ap (λ (z : ClientSight). word_item z.id c.args.self.now.number c.args.self.now.region h) (sym c.client.view_is) ∙ ap (λ (z : RegionSight). word_item client.id z.number z.region h) (sym c.self.view_is)) in
    let mine : c.meet.new.other ≡ client_sight b client = c.meet.ensures.other ∙ client_is b c.client.inside.note client.id c.client.invariant.0 c.client.invariant.1 in
    let theirs : c.meet.new.note ≡ region_sight b y = met_is b s.note c.meet.new.note x c.self.invariant c.meet.ensures.table c.meet.ensures.number in
    let new = c.add_both.new.note.seen in
    let told : Added (client_sight b client ∷ region_sight b y ∷ []) item new = added_of c.meet.new.other c.meet.new.note (client_sight b client) (region_sight b y) _ item new mine theirs item_is c.add_both.ensures.added in
    let all : Added (client_sight b client ∷ region_sight b x ∷ []) item new = added_before b client x c.meet.new.note.seen item new seen told in
    subst (λ (z : ClientSight). Added (client_sight b z ∷ region_sight b c.args.self.now ∷ []) (word_item z.id c.args.self.now.number c.args.self.now.region h) new) c.client.view_is
    (subst (λ (z : RegionSight). Added (client_sight b client ∷ region_sight b z ∷ []) (word_item client.id z.number z.region h) new) c.self.view_is all)

pub returns-clause-at : goal.returns-clause-at
returns-clause-at g c =
    let b = (homed g.H.Home.table g.B.Beginning.begun) in
    let s = c.self.inside in
    let p = c.args.plan.now in
    let client : ClientSight = record { id = c.client.inside.id; seen = c.client.inside.note.seen } in
    let x : RegionSight = record { number = s.number; steps = s.steps; audits = s.audits; region = s.region; seen = s.note.seen } in
    let seen : IsSeen c.meet.new.note.seen (region_note x.number) x.seen = met_seen b s.note c.meet.new.note x c.self.invariant c.meet.ensures.seen in
    let stood : IsAt x.number c.args.at p.operation client.seen =
    subst (λ (z : ClientSight). IsAt x.number c.args.at p.operation z.seen) (sym c.client.view_is) (subst (λ (z : RegionSight). IsAt z.number c.args.at p.operation c.args.client.now.seen) (sym c.self.view_is) c.requires.stood) in
    let under : OneIsUnderWay p.operation s.region =
    comes_back client x c.args.at p.operation c.client.inside.note.number c.meet.new.note.seen c.meet.ensures.theirs seen (c.requires.last ∙ ap (λ (z : RegionSight). z.steps) (sym c.self.view_is)) stood c.self.invariant.operation in
    let y : RegionSight = record { number = s.number; steps = s.steps; audits = s.audits; region = s.region; seen = c.meet.new.note.seen } in
    let kept : RegionKept b s.note.table s.note.number y = kept_meets b s.note.table s.note.number x c.meet.new.note.seen c.self.invariant seen c.meet.ensures.all in
    let h = c.update.new.region in
    let op = c.update.new.self.operation in
    let one : WritesNext p.operation s.region true op h = writes_one p.operation s.region c.update.result op h under c.requires.left c.update.ensures.writes in
    let item = word_item client.id x.number x.region h in
    let item_is : g.D.RegionItem.item h ≡ item =
    ap (λ (f : RegionState → Item). f h) c.requires.item
    ∙ (ap (λ (z : ClientSight). word_item z.id c.args.self.now.number c.args.self.now.region h) (sym c.client.view_is) ∙ ap (λ (z : RegionSight). word_item client.id z.number z.region h) (sym c.self.view_is)) in
    let mine : c.meet.new.other ≡ client_sight b client = c.meet.ensures.other ∙ client_is b c.client.inside.note client.id c.client.invariant.0 c.client.invariant.1 in
    let theirs : c.meet.new.note ≡ region_sight b y = met_is b s.note c.meet.new.note x c.self.invariant c.meet.ensures.table c.meet.ensures.number in
    let new = c.add_both.new.note.seen in
    let told : Added (client_sight b client ∷ region_sight b y ∷ []) item new = added_of c.meet.new.other c.meet.new.note (client_sight b client) (region_sight b y) _ item new mine theirs item_is c.add_both.ensures.added in
    let counts = counted s.number (client_note b.count client.id ∷ region_note s.number ∷ []) item h (signs_pair (client_note b.count client.id) s.number) refl refl in (
      refl,
      subst (λ (z : RegionSight). IsAt z.number (s.steps + 1) op new) c.self.view_is
          (next_at b client s.note.table s.note.number y kept h item new told c.add_both.ensures.all (λ k at. get_set k.regions s.number s.region h at) (λ n right e. absurd (cc)) op counts one.under_way),
    )

pub returns-clause-undoing : goal.returns-clause-undoing
returns-clause-undoing g c =
    let b = (homed g.H.Home.table g.B.Beginning.begun) in
    let s = c.self.inside in
    let p = c.args.plan.now in
    let client : ClientSight = record { id = c.client.inside.id; seen = c.client.inside.note.seen } in
    let x : RegionSight = record { number = s.number; steps = s.steps; audits = s.audits; region = s.region; seen = s.note.seen } in
    let seen : IsSeen c.meet.new.note.seen (region_note x.number) x.seen = met_seen b s.note c.meet.new.note x c.self.invariant c.meet.ensures.seen in
    let stood : IsAt x.number c.args.at p.operation client.seen =
    subst (λ (z : ClientSight). IsAt x.number c.args.at p.operation z.seen) (sym c.client.view_is) (subst (λ (z : RegionSight). IsAt z.number c.args.at p.operation c.args.client.now.seen) (sym c.self.view_is) c.requires.stood) in
    let under : OneIsUnderWay p.operation s.region =
    comes_back client x c.args.at p.operation c.client.inside.note.number c.meet.new.note.seen c.meet.ensures.theirs seen (c.requires.last ∙ ap (λ (z : RegionSight). z.steps) (sym c.self.view_is)) stood c.self.invariant.operation in
    let y : RegionSight = record { number = s.number; steps = s.steps; audits = s.audits; region = s.region; seen = c.meet.new.note.seen } in
    let kept : RegionKept b s.note.table s.note.number y = kept_meets b s.note.table s.note.number x c.meet.new.note.seen c.self.invariant seen c.meet.ensures.all in
    let h = c.update.new.region in
    let op = c.update.new.self.operation in
    let one : WritesNext p.operation s.region true op h = writes_one p.operation s.region c.update.result op h under c.requires.left c.update.ensures.writes in
    let item = word_item client.id x.number x.region h in
    let item_is : g.D.RegionItem.item h ≡ item =
    ap (λ (f : RegionState → Item). f h) c.requires.item
    ∙ (ap (λ (z : ClientSight). word_item z.id c.args.self.now.number c.args.self.now.region h) (sym c.client.view_is) ∙ ap (λ (z : RegionSight). word_item client.id z.number z.region h) (sym c.self.view_is)) in
    let mine : c.meet.new.other ≡ client_sight b client = c.meet.ensures.other ∙ client_is b c.client.inside.note client.id c.client.invariant.0 c.client.invariant.1 in
    let theirs : c.meet.new.note ≡ region_sight b y = met_is b s.note c.meet.new.note x c.self.invariant c.meet.ensures.table c.meet.ensures.number in
    let knows : Knows b (IsUndoing client.id x.number p) client =
    subst (λ (z : ClientSight). Knows b (IsUndoing z.id x.number p) z) (sym c.client.view_is) (subst (λ (z : RegionSight). Knows b (IsUndoing c.args.client.now.id z.number p) c.args.client.now) (sym c.self.view_is) c.requires.undoing) in
    let new = c.add_both.new.note.seen in
    let told : Added (client_sight b client ∷ region_sight b y ∷ []) item new = added_of c.meet.new.other c.meet.new.note (client_sight b client) (region_sight b y) _ item new mine theirs item_is c.add_both.ensures.added in
    let amid : Of b (IsUndoing client.id x.number p) new =
    updated_stands_known b client s.note.table s.note.number y kept p.txn (HasUndos p.next p.down_to) h new (word_of s.region h) (value_of s.region h) knows told c.add_both.ensures.all in
    subst (λ (z : TakeBack). Of b (IsUndoing c.args.client.now.id c.args.self.now.number z) new) (sym c.update.ensures.rest)
    (subst (λ (z : ClientSight). Of b (IsUndoing z.id c.args.self.now.number p) new) c.client.view_is
    (subst (λ (z : RegionSight). Of b (IsUndoing client.id z.number p) new) c.self.view_is amid))

pub returns-clause-own : goal.returns-clause-own
returns-clause-own g c =
    let b = (homed g.H.Home.table g.B.Beginning.begun) in
    let s = c.self.inside in
    let p = c.args.plan.now in
    let client : ClientSight = record { id = c.client.inside.id; seen = c.client.inside.note.seen } in
    let x : RegionSight = record { number = s.number; steps = s.steps; audits = s.audits; region = s.region; seen = s.note.seen } in
    let seen : IsSeen c.meet.new.note.seen (region_note x.number) x.seen = met_seen b s.note c.meet.new.note x c.self.invariant c.meet.ensures.seen in
    let stood : IsAt x.number c.args.at p.operation client.seen =
    subst (λ (z : ClientSight). IsAt x.number c.args.at p.operation z.seen) (sym c.client.view_is) (subst (λ (z : RegionSight). IsAt z.number c.args.at p.operation c.args.client.now.seen) (sym c.self.view_is) c.requires.stood) in
    let under : OneIsUnderWay p.operation s.region =
    comes_back client x c.args.at p.operation c.client.inside.note.number c.meet.new.note.seen c.meet.ensures.theirs seen (c.requires.last ∙ ap (λ (z : RegionSight). z.steps) (sym c.self.view_is)) stood c.self.invariant.operation in
    let h = c.update.new.region in
    let op = c.update.new.self.operation in
    let one : WritesNext p.operation s.region true op h = writes_one p.operation s.region c.update.result op h under c.requires.left c.update.ensures.writes in
    subst (λ (z : TakeBack). IsOwn z op) (sym c.update.ensures.rest) (own_updated p.txn (IsUndoBlock p.next) p.operation op c.requires.own (there_is p.operation s.region under) one.same)
