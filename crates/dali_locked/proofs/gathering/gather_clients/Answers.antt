use Rattle.std.proofs.Common.{◌≡◌, ◌⊎◌, ◌+◌, ℕ, List, [], ◌∷◌, ◌++◌, Some, length, sym, ap, subst, ◌∙◌, arith}
use Rattle.std.specs.Prelude.{slice_get}
use Rattle.dali_notes.specs.History.{AreOf, In, Sight}
use Rattle.dali_concurrent.specs.Told.{Item}
use Rattle.dali_locked.specs.Begun.{homed}
use Rattle.dali_locked.specs.Sights.{ClientSight, client_sight}
use Rattle.dali_locked.proofs.Freshness.{one_shorter}
use Rattle.dali_locked.proofs.RegionAdding.{client_is}
use Rattle.dali_locked.proofs.RoundLeft.{of_more, one_more, nil_of, clients_more, clients_all}
use Rattle.dali_locked.proofs.gathering.gather_clients.Goals as goal

pub loop-client-preserved : goal.loop-client-preserved
loop-client-preserved g c =
    let b = (homed g.H.Home.table g.B.Beginning.begun) in
    let s = c.client.inside in
    let i = c.loop-client.invariant in
    let was = c.loop-client.notes.items in
    let rest = c.pop.new.self.items in
    let notes = c.push_reserved.ensures.items in
    let gone = c.in-Some.ensures.items in
    let its : s.note ≡ client_sight b c.in-Some.client = client_is b s.note s.id c.client.invariant.0 c.client.invariant.1 ∙ ap (client_sight b) c.client.view_is in
    let longer = one_shorter c.push_reserved.new.self.items was s.note notes in
    let shorter = one_shorter c.loop-client.clients.items rest c.in-Some.client gone in
    record {
      more = (i.more.0 ++ s.note ∷ [], notes ∙ one_more c.args.notes.now.items was i.more.0 s.note i.more.1);
      many = omega (arith, longer, shorter, i.many);
      tables = subst (AreOf g.H.Home.table) (sym notes) (of_more g.H.Home.table was s.note i.tables c.client.invariant.0);
      seen = λ k y at.
          subst (λ (ns : List (Sight Item)). (slice_get rest k ≡ Some y) ⊎ In ns (client_sight b y)) (sym notes)
          (clients_more b c.args.clients.items rest was c.in-Some.client s.note its
          (λ j z here. subst (λ (xs : List ClientSight). (slice_get xs j ≡ Some z) ⊎ In was (client_sight b z)) gone (i.seen j z here)) k y at);
      spare = c.push_reserved.ensures.capacity ∙ i.spare;
    }

pub returns-clause-seen : goal.returns-clause-seen
returns-clause-seen g c =
    let b = (homed g.H.Home.table g.B.Beginning.begun) in
    clients_all b c.args.clients.items c.loop-client.notes.items c.loop-client.clients.items (nil_of c.loop-client.clients.items (grind (arith, c.in_default.ensures.variant, c.in_default.not-Some))) c.loop-client.invariant.seen
