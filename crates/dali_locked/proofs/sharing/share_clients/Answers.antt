use Rattle.std.proofs.Common.{◌≡◌, ◌+◌, suc, [], ◌∷◌, ◌++◌, length, sym, ap, subst, ◌∙◌, arith}
use Rattle.dali_notes.specs.History.{AreFresh}
use Rattle.dali_locked.specs.Begun.{Led, homed}
use Rattle.dali_locked.specs.Sights.{ClientSight}
use Rattle.dali_locked.specs.Beginnings.{AreNew}
use Rattle.dali_locked.proofs.Freshness.{fresh_front, fresh_last, new_more, one_shorter}
use Rattle.dali_locked.proofs.sharing.share_clients.Goals as goal

pub new-requires-clause-note : goal.new-requires-clause-note
new-requires-clause-note g c κs within =
    let fresh = subst (AreFresh (homed g.H.Home.table g.B.Beginning.begun).table 0) c.in-Some.ensures.items c.loop-list.invariant.fresh in
    let last = fresh_last (homed g.H.Home.table g.B.Beginning.begun).table 0 c.pop.new.self.items c.in-Some.note fresh in
    let shorter = one_shorter c.loop-list.list.items c.pop.new.self.items c.in-Some.note c.in-Some.ensures.items in (last.0, omega (arith, last.1, shorter))

pub new-requires-clause-led : goal.new-requires-clause-led
new-requires-clause-led g c κs within =
    let fresh = subst (AreFresh (homed g.H.Home.table g.B.Beginning.begun).table 0) c.in-Some.ensures.items c.loop-list.invariant.fresh in
    subst (Led (homed g.H.Home.table g.B.Beginning.begun)) (sym (fresh_last (homed g.H.Home.table g.B.Beginning.begun).table 0 c.pop.new.self.items c.in-Some.note fresh).2) c.requires.led

pub loop-list-preserved : goal.loop-list-preserved
loop-list-preserved g c =
    let fresh = subst (AreFresh (homed g.H.Home.table g.B.Beginning.begun).table 0) c.in-Some.ensures.items c.loop-list.invariant.fresh in
    let last = fresh_last (homed g.H.Home.table g.B.Beginning.begun).table 0 c.pop.new.self.items c.in-Some.note fresh in
    let i = c.loop-list.invariant in
    let shorter : length c.loop-list.list.items ≡ suc (length c.pop.new.self.items) = one_shorter c.loop-list.list.items c.pop.new.self.items c.in-Some.note c.in-Some.ensures.items in
    record {
      fresh = fresh_front (homed g.H.Home.table g.B.Beginning.begun).table 0 c.pop.new.self.items c.in-Some.note fresh;
      kept = omega arith;
      within = omega (arith, shorter, i.within);
      room = omega (arith, shorter, i.room);
      spare = c.pop.ensures.capacity ∙ i.spare;
      capacity = c.push_reserved.ensures.capacity ∙ i.capacity;
      clients = subst (AreNew c.args.kept (length c.pop.new.self.items) (length c.args.list.now.items)) (sym c.push_reserved.ensures.items)
          (new_more c.args.kept (length c.pop.new.self.items) (length c.args.list.now.items) c.loop-list.clients.items c.new.result
          (subst (λ k. AreNew c.args.kept k (length c.args.list.now.items) c.loop-list.clients.items) shorter i.clients)
          (ap (λ (x : ClientSight). c.args.kept + x.id) c.new.ensures ∙ omega arith) (ap (λ (x : ClientSight). x.seen) c.new.ensures ∙ last.2));
    }
