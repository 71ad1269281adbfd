use Rattle.std.proofs.Common.{sym, subst}
use Rattle.dali_locked.specs.Begun.{outset, homed}
use Rattle.dali_locked.specs.Sights.{ClientSight, Knows}
use Rattle.dali_locked.specs.SystemSteps.{MayEnd}
use Rattle.dali_locked.specs.Undoing.{Undoes}
use Rattle.dali_crash.specs.Traces.{bases_of}
use Rattle.dali_locked.proofs.StandingEnds.{undone_may_end}
use Rattle.dali_locked.proofs.client.ClientNote.has_undone.Goals as goal

pub returns : goal.returns
returns g c =
    let b = (homed g.H.Home.table g.B.Beginning.begun) in
    let p = c.args.plan.now in
    let client : ClientSight = record { id = c.self.inside.id; seen = c.self.inside.note.seen } in
    let at : Knows b (Undoes client.id p) client = subst (λ (z : ClientSight). Knows b (Undoes z.id p) z) (sym c.self.view_is) c.requires.undoes in
    subst (λ (z : ClientSight). Knows b (MayEnd z.id p.txn) z) c.self.view_is
    (λ u q each. undone_may_end (bases_of u) q (outset b u q) client.id p client.seen (c.self.invariant.2 u q each).led (at u q each) c.requires.all.0 c.requires.all.1)
