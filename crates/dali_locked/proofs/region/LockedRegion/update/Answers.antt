use Rattle.std.proofs.Common.{◌≡◌, ◌+◌, true, [], ◌∷◌, refl, ap, sym, subst, ◌∙◌}
use Rattle.dali_lists.proofs.Lists.{get_set}
use Rattle.dali_region.specs.State.{RegionState}
use Rattle.dali_system.specs.UnderWay.{OneIsUnderWay, WritesNext, IsUpdated}
use Rattle.dali_calls.specs.Plans.{Planned, with_operation, IsWhole}
use Rattle.dali_notes.specs.History.{IsSeen, Added, Sight}
use Rattle.dali_concurrent.specs.Entries.{client_note, region_note}
use Rattle.dali_concurrent.specs.Told.{Item, History}
use Rattle.dali_locked.specs.Begun.{outset, Of, homed}
use Rattle.dali_locked.specs.Sights.{ClientSight, RegionSight, Knows, client_sight, region_sight}
use Rattle.dali_locked.specs.Regions.{RegionKept, IsAmid, IsAt}
use Rattle.dali_locked.specs.RegionWords.{word_of, value_of, word_item}
use Rattle.dali_locked.proofs.RegionSigns.{signs_pair}
use Rattle.dali_locked.proofs.RegionOps.{counted}
use Rattle.dali_locked.proofs.RegionAdding.{led_on, client_is, met_seen, met_is, still_noted, may_of, added_of, added_before, kept_of, kept_meets, kept_next, next_at}
use Rattle.dali_locked.proofs.RegionMay.{tends_of, word_may}
use Rattle.dali_locked.proofs.RegionKnows.{comes_back, held_for, there_is, writes_one, step_of, updated_whole, updated_knows}
use Rattle.dali_locked.proofs.region.LockedRegion.update.Goals as goal

pub write-requires-clause-under_way : goal.write-requires-clause-under_way
write-requires-clause-under_way g c κs within =
    let b = (homed g.H.Home.table g.B.Beginning.begun) in
    let s = c.self.inside in
    let p = c.args.plan.now in
    let client : ClientSight = record { id = c.client.inside.id; seen = c.client.inside.note.seen } in
    let x : RegionSight = record { number = s.number; steps = s.steps; audits = s.audits; region = s.region; seen = s.note.seen } in
    let seen : IsSeen c.meet.new.note.seen (region_note x.number) x.seen = met_seen b s.note c.meet.new.note x c.self.invariant c.meet.ensures.seen in
    let stood : IsAt x.number c.args.at p.operation client.seen =
    subst (λ (z : ClientSight). IsAt x.number c.args.at p.operation z.seen) (sym c.client.view_is) (subst (λ (z : RegionSight). IsAt z.number c.args.at p.operation c.args.client.now.seen) (sym c.self.view_is) c.requires.stood) in
    let under : OneIsUnderWay p.operation s.region =
    comes_back client x c.args.at p.operation c.client.inside.note.number c.meet.new.note.seen c.meet.ensures.theirs seen (c.requires.last ∙ ap (λ (z : RegionSight). z.steps) (sym c.self.view_is)) stood c.self.invariant.operation in
    under

pub write-requires-clause-may : goal.write-requires-clause-may
write-requires-clause-may g c κs within =
    let b = (homed g.H.Home.table g.B.Beginning.begun) in
    let s = c.self.inside in
    let p = c.args.plan.now in
    let client : ClientSight = record { id = c.client.inside.id; seen = c.client.inside.note.seen } in
    let x : RegionSight = record { number = s.number; steps = s.steps; audits = s.audits; region = s.region; seen = s.note.seen } in
    let seen : IsSeen c.meet.new.note.seen (region_note x.number) x.seen = met_seen b s.note c.meet.new.note x c.self.invariant c.meet.ensures.seen in
    let stood : IsAt x.number c.args.at p.operation client.seen =
    subst (λ (z : ClientSight). IsAt x.number c.args.at p.operation z.seen) (sym c.client.view_is) (subst (λ (z : RegionSight). IsAt z.number c.args.at p.operation c.args.client.now.seen) (sym c.self.view_is) c.requires.stood) in
    let under : OneIsUnderWay p.operation s.region =
    comes_back client x c.args.at p.operation c.client.inside.note.number c.meet.new.note.seen c.meet.ensures.theirs seen (c.requires.last ∙ ap (λ (z : RegionSight). z.steps) (sym c.self.view_is)) stood c.self.invariant.operation in
    let y : RegionSight = record { number = s.number; steps = s.steps; audits = s.audits; region = s.region; seen = c.meet.new.note.seen } in
    let kept : RegionKept b s.note.table s.note.number y = kept_meets b s.note.table s.note.number x c.meet.new.note.seen c.self.invariant seen c.meet.ensures.all in
    let mine : c.meet.new.other ≡ client_sight b client = c.meet.ensures.other ∙ client_is b c.client.inside.note client.id c.client.invariant.0 c.client.invariant.1 in
    let theirs : c.meet.new.note ≡ region_sight b y = met_is b s.note c.meet.new.note x c.self.invariant c.meet.ensures.table c.meet.ensures.number in
    let knows : Knows b (IsAmid client.id x.number p) client =
    subst (λ (z : ClientSight). Knows b (IsAmid z.id x.number p) z) (sym c.client.view_is) (subst (λ (z : RegionSight). Knows b (IsAmid c.args.client.now.id z.number p) c.args.client.now) (sym c.self.view_is) c.requires.amid) in
    λ h op one.
    may_of b c.meet.new.other c.meet.new.note (client_sight b client) (region_sight b y) _ (word_item client.id x.number x.region h) mine theirs refl
    (word_may b s.note.table s.note.number y kept client p.txn h p.operation (λ u q each. tends_of client.id p.txn (outset b u q) client.seen (knows u q each).acts) (held_for p s.region c.requires.whole under) under (step_of p.operation op s.region h under one))

pub invariant_of-client : goal.invariant_of-client
invariant_of-client g c =
    let was = c.meet.ensures.other in (
      c.write.ensures.table ∙ (ap (λ (n : Sight Item). n.table) was ∙ c.client.invariant.0),
      c.write.ensures.number ∙ (ap (λ (n : Sight Item). n.number) was ∙ c.client.invariant.1),
      led_on (homed g.H.Home.table g.B.Beginning.begun) c.client.inside.note.seen c.write.new.client.seen c.client.invariant.2 c.write.ensures.all,
    )

pub invariant_of-self : goal.invariant_of-self
invariant_of-self g c =
    let b = (homed g.H.Home.table g.B.Beginning.begun) in
    let s = c.self.inside in
    let p = c.args.plan.now in
    let client : ClientSight = record { id = c.client.inside.id; seen = c.client.inside.note.seen } in
    let x : RegionSight = record { number = s.number; steps = s.steps; audits = s.audits; region = s.region; seen = s.note.seen } in
    let seen : IsSeen c.meet.new.note.seen (region_note x.number) x.seen = met_seen b s.note c.meet.new.note x c.self.invariant c.meet.ensures.seen in
    let y : RegionSight = record { number = s.number; steps = s.steps; audits = s.audits; region = s.region; seen = c.meet.new.note.seen } in
    let kept : RegionKept b s.note.table s.note.number y = kept_meets b s.note.table s.note.number x c.meet.new.note.seen c.self.invariant seen c.meet.ensures.all in
    let h = c.write.new.region in
    let op = c.write.new.plan.operation in
    let item = word_item client.id x.number x.region h in
    let mine : c.meet.new.other ≡ client_sight b client = c.meet.ensures.other ∙ client_is b c.client.inside.note client.id c.client.invariant.0 c.client.invariant.1 in
    let theirs : c.meet.new.note ≡ region_sight b y = met_is b s.note c.meet.new.note x c.self.invariant c.meet.ensures.table c.meet.ensures.number in
    let new = c.write.new.client.seen in
    let told : Added (client_sight b client ∷ region_sight b y ∷ []) item new = added_of c.meet.new.other c.meet.new.note (client_sight b client) (region_sight b y) _ item new mine theirs refl c.write.ensures.added in
    let counts = counted s.number (client_note b.count client.id ∷ region_note s.number ∷ []) item h (signs_pair (client_note b.count client.id) s.number) refl refl in
    kept_of b s.note c.write.new.note (record { number = s.number; steps = s.steps + 1; audits = s.audits; region = h; seen = new }) (still_noted s.note c.meet.new.note c.write.new.note new c.meet.ensures.table c.meet.ensures.number c.write.ensures.other)
    (kept_next b client s.note.table s.note.number y kept h item new told c.write.ensures.all (λ k at. get_set k.regions s.number s.region h at) (λ n right e. absurd (cc)) counts)

pub returns-clause-writes : goal.returns-clause-writes
returns-clause-writes g c =
    subst (λ (z : RegionSight). WritesNext c.args.plan.now.operation z.region true c.write.new.plan.operation c.write.new.region) c.self.view_is c.write.ensures.writes

pub returns-clause-tells : goal.returns-clause-tells
returns-clause-tells g c =
    let b = (homed g.H.Home.table g.B.Beginning.begun) in
    let s = c.self.inside in
    let p = c.args.plan.now in
    let client : ClientSight = record { id = c.client.inside.id; seen = c.client.inside.note.seen } in
    let x : RegionSight = record { number = s.number; steps = s.steps; audits = s.audits; region = s.region; seen = s.note.seen } in
    let seen : IsSeen c.meet.new.note.seen (region_note x.number) x.seen = met_seen b s.note c.meet.new.note x c.self.invariant c.meet.ensures.seen in
    let y : RegionSight = record { number = s.number; steps = s.steps; audits = s.audits; region = s.region; seen = c.meet.new.note.seen } in
    let kept : RegionKept b s.note.table s.note.number y = kept_meets b s.note.table s.note.number x c.meet.new.note.seen c.self.invariant seen c.meet.ensures.all in
    let h = c.write.new.region in
    let op = c.write.new.plan.operation in
    let item = word_item client.id x.number x.region h in
    let mine : c.meet.new.other ≡ client_sight b client = c.meet.ensures.other ∙ client_is b c.client.inside.note client.id c.client.invariant.0 c.client.invariant.1 in
    let theirs : c.meet.new.note ≡ region_sight b y = met_is b s.note c.meet.new.note x c.self.invariant c.meet.ensures.table c.meet.ensures.number in
    let new = c.write.new.client.seen in
    let told : Added (client_sight b client ∷ region_sight b y ∷ []) item new = added_of c.meet.new.other c.meet.new.note (client_sight b client) (region_sight b y) _ item new mine theirs refl c.write.ensures.added in
    let all : Added (client_sight b client ∷ region_sight b x ∷ []) item new = added_before b client x c.meet.new.note.seen item new seen told in
    subst (λ (z : ClientSight). Added (client_sight b z ∷ region_sight b c.args.self.now ∷ []) (word_item z.id c.args.self.now.number c.args.self.now.region h) new) c.client.view_is
    (subst (λ (z : RegionSight). Added (client_sight b client ∷ region_sight b z ∷ []) (word_item client.id z.number z.region h) new) c.self.view_is all)

pub returns-clause-at : goal.returns-clause-at
returns-clause-at g c =
    let b = (homed g.H.Home.table g.B.Beginning.begun) in
    let s = c.self.inside in
    let p = c.args.plan.now in
    let client : ClientSight = record { id = c.client.inside.id; seen = c.client.inside.note.seen } in
    let x : RegionSight = record { number = s.number; steps = s.steps; audits = s.audits; region = s.region; seen = s.note.seen } in
    let seen : IsSeen c.meet.new.note.seen (region_note x.number) x.seen = met_seen b s.note c.meet.new.note x c.self.invariant c.meet.ensures.seen in
    let y : RegionSight = record { number = s.number; steps = s.steps; audits = s.audits; region = s.region; seen = c.meet.new.note.seen } in
    let kept : RegionKept b s.note.table s.note.number y = kept_meets b s.note.table s.note.number x c.meet.new.note.seen c.self.invariant seen c.meet.ensures.all in
    let h = c.write.new.region in
    let op = c.write.new.plan.operation in
    let item = word_item client.id x.number x.region h in
    let mine : c.meet.new.other ≡ client_sight b client = c.meet.ensures.other ∙ client_is b c.client.inside.note client.id c.client.invariant.0 c.client.invariant.1 in
    let theirs : c.meet.new.note ≡ region_sight b y = met_is b s.note c.meet.new.note x c.self.invariant c.meet.ensures.table c.meet.ensures.number in
    let new = c.write.new.client.seen in
    let told : Added (client_sight b client ∷ region_sight b y ∷ []) item new = added_of c.meet.new.other c.meet.new.note (client_sight b client) (region_sight b y) _ item new mine theirs refl c.write.ensures.added in
    let counts = counted s.number (client_note b.count client.id ∷ region_note s.number ∷ []) item h (signs_pair (client_note b.count client.id) s.number) refl refl in
    let under_way : OneIsUnderWay op h = c.write.ensures.writes.under_way in (
      refl,
      subst (λ (z : RegionSight). IsAt z.number (s.steps + 1) op new) c.self.view_is
          (next_at b client s.note.table s.note.number y kept h item new told c.write.ensures.all (λ k at. get_set k.regions s.number s.region h at) (λ n right e. absurd (cc)) op counts under_way),
    )

pub returns-clause-amid : goal.returns-clause-amid
returns-clause-amid g c =
    let b = (homed g.H.Home.table g.B.Beginning.begun) in
    let s = c.self.inside in
    let p = c.args.plan.now in
    let client : ClientSight = record { id = c.client.inside.id; seen = c.client.inside.note.seen } in
    let x : RegionSight = record { number = s.number; steps = s.steps; audits = s.audits; region = s.region; seen = s.note.seen } in
    let seen : IsSeen c.meet.new.note.seen (region_note x.number) x.seen = met_seen b s.note c.meet.new.note x c.self.invariant c.meet.ensures.seen in
    let stood : IsAt x.number c.args.at p.operation client.seen =
    subst (λ (z : ClientSight). IsAt x.number c.args.at p.operation z.seen) (sym c.client.view_is) (subst (λ (z : RegionSight). IsAt z.number c.args.at p.operation c.args.client.now.seen) (sym c.self.view_is) c.requires.stood) in
    let under : OneIsUnderWay p.operation s.region =
    comes_back client x c.args.at p.operation c.client.inside.note.number c.meet.new.note.seen c.meet.ensures.theirs seen (c.requires.last ∙ ap (λ (z : RegionSight). z.steps) (sym c.self.view_is)) stood c.self.invariant.operation in
    let y : RegionSight = record { number = s.number; steps = s.steps; audits = s.audits; region = s.region; seen = c.meet.new.note.seen } in
    let kept : RegionKept b s.note.table s.note.number y = kept_meets b s.note.table s.note.number x c.meet.new.note.seen c.self.invariant seen c.meet.ensures.all in
    let h = c.write.new.region in
    let op = c.write.new.plan.operation in
    let item = word_item client.id x.number x.region h in
    let mine : c.meet.new.other ≡ client_sight b client = c.meet.ensures.other ∙ client_is b c.client.inside.note client.id c.client.invariant.0 c.client.invariant.1 in
    let theirs : c.meet.new.note ≡ region_sight b y = met_is b s.note c.meet.new.note x c.self.invariant c.meet.ensures.table c.meet.ensures.number in
    let knows : Knows b (IsAmid client.id x.number p) client =
    subst (λ (z : ClientSight). Knows b (IsAmid z.id x.number p) z) (sym c.client.view_is) (subst (λ (z : RegionSight). Knows b (IsAmid c.args.client.now.id z.number p) c.args.client.now) (sym c.self.view_is) c.requires.amid) in
    let new = c.write.new.client.seen in
    let told : Added (client_sight b client ∷ region_sight b y ∷ []) item new = added_of c.meet.new.other c.meet.new.note (client_sight b client) (region_sight b y) _ item new mine theirs refl c.write.ensures.added in
    let amid : Of b (IsAmid client.id x.number (with_operation p op)) new =
    updated_knows b client s.note.table s.note.number y kept p op h new (word_of s.region h) (value_of s.region h) knows (held_for p s.region c.requires.whole under) told c.write.ensures.all in
    subst (λ (z : Planned). Of b (IsAmid c.args.client.now.id c.args.self.now.number z) new) (sym c.write.ensures.rest)
    (subst (λ (z : ClientSight). Of b (IsAmid z.id c.args.self.now.number (with_operation p op)) new) c.client.view_is
    (subst (λ (z : RegionSight). Of b (IsAmid client.id z.number (with_operation p op)) new) c.self.view_is amid))

pub returns-clause-whole : goal.returns-clause-whole
returns-clause-whole g c =
    let b = (homed g.H.Home.table g.B.Beginning.begun) in
    let s = c.self.inside in
    let p = c.args.plan.now in
    let client : ClientSight = record { id = c.client.inside.id; seen = c.client.inside.note.seen } in
    let x : RegionSight = record { number = s.number; steps = s.steps; audits = s.audits; region = s.region; seen = s.note.seen } in
    let seen : IsSeen c.meet.new.note.seen (region_note x.number) x.seen = met_seen b s.note c.meet.new.note x c.self.invariant c.meet.ensures.seen in
    let stood : IsAt x.number c.args.at p.operation client.seen =
    subst (λ (z : ClientSight). IsAt x.number c.args.at p.operation z.seen) (sym c.client.view_is) (subst (λ (z : RegionSight). IsAt z.number c.args.at p.operation c.args.client.now.seen) (sym c.self.view_is) c.requires.stood) in
    let under : OneIsUnderWay p.operation s.region =
    comes_back client x c.args.at p.operation c.client.inside.note.number c.meet.new.note.seen c.meet.ensures.theirs seen (c.requires.last ∙ ap (λ (z : RegionSight). z.steps) (sym c.self.view_is)) stood c.self.invariant.operation in
    subst IsWhole (sym c.write.ensures.rest) (updated_whole p c.write.new.plan.operation c.requires.whole (there_is p.operation s.region under) c.write.ensures.writes.same)
