use Rattle.std.proofs.Common.{sym, subst, ◌∙◌}
use Rattle.dali_att.specs.Table.{undos_at}
use Rattle.dali_system.specs.TakenBack.{next_undo}
use Rattle.dali_notes.specs.History.{IsSeen}
use Rattle.dali_concurrent.specs.Entries.{client_note, system_note}
use Rattle.dali_locked.specs.Begun.{Of, homed}
use Rattle.dali_locked.specs.Sights.{ClientSight}
use Rattle.dali_locked.specs.Undoing.{HasUndos, MayUndo, StandsFree}
use Rattle.dali_locked.proofs.RegionAdding.{led_on}
use Rattle.dali_locked.proofs.StandingEnds.{undo_known}
use Rattle.dali_locked.proofs.system.LockedSystem.undo.Goals as goal

pub returns-clause-undoes : goal.returns-clause-undoes
returns-clause-undoes g c =
    let b = (homed g.H.Home.table g.B.Beginning.begun) in
    let t = c.args.txn in
    let client : ClientSight = record { id = c.client.inside.id; seen = c.client.inside.note.seen } in
    let y = c.self.inside.system.state in
    let may : MayUndo b client t = subst (λ (z : ClientSight). MayUndo b z t) (sym c.client.view_is) c.requires.may in
    let now = c.meet.new.note.seen in
    let mine : IsSeen now (client_note b.count client.id) client.seen = subst (λ n. IsSeen now n client.seen) c.client.invariant.1 c.meet.ensures.seen in
    let its : IsSeen now system_note c.self.inside.note.seen = subst (λ n. IsSeen now n c.self.inside.note.seen) c.self.invariant.1 c.meet.ensures.theirs in
    let known : Of b (StandsFree client.id t (HasUndos (next_undo (undos_at y.table t) c.args.down_to) c.args.down_to)) now =
    undo_known b client t c.args.down_to y c.self.inside.note.seen now c.client.invariant.2 c.self.invariant.3 may mine its c.meet.ensures.all in
    let r = c.new.result in
    subst (λ d. Of b (StandsFree c.args.client.now.id r.txn (HasUndos r.next d)) now) (sym c.new.ensures.fields.1)
    (subst (λ u. Of b (StandsFree c.args.client.now.id r.txn (HasUndos u c.args.down_to)) now) (sym c.new.ensures.next)
    (subst (λ u. Of b (StandsFree c.args.client.now.id u (HasUndos (next_undo (undos_at y.table t) c.args.down_to) c.args.down_to)) now) (sym c.new.ensures.fields.0)
    (subst (λ (z : ClientSight). Of b (StandsFree z.id t (HasUndos (next_undo (undos_at y.table t) c.args.down_to) c.args.down_to)) now) c.client.view_is known)))

pub invariant_of-client : goal.invariant_of-client
invariant_of-client g c = (
  c.meet.ensures.table ∙ c.client.invariant.0,
  c.meet.ensures.number ∙ c.client.invariant.1,
  led_on (homed g.H.Home.table g.B.Beginning.begun) c.client.inside.note.seen c.meet.new.note.seen c.client.invariant.2 c.meet.ensures.all,
)
