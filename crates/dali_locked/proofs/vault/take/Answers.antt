use Rattle.std.proofs.Common.{[], ◌∷◌, refl, ap, sym, subst}
use Rattle.dali_system.specs.Served.{Served}
use Rattle.dali_locked.specs.Sights.{ClientSight}
use Rattle.dali_locked.specs.Vaults.{taking, AllAreTaken}
use Rattle.dali_locked.proofs.VaultTelling.{SystemIs, system_met, system_tells, vault_note_on, may_take, took_frame, took_all}
use Rattle.dali_locked.specs.Begun.{homed}
use Rattle.dali_locked.proofs.vault.take.Goals as goal

pub invariant_of-system : goal.invariant_of-system
invariant_of-system g c = subst (λ (y : Served). SystemIs (homed g.H.Home.table g.B.Beginning.begun) y.state c.meet.new.note) (sym c.in_err-frame.ensures.err)
    (system_met (homed g.H.Home.table g.B.Beginning.begun) c.system.inside.system.state c.system.inside.note c.meet.new.note c.system.invariant c.meet.ensures.table c.meet.ensures.number c.meet.ensures.seen c.meet.ensures.all)

pub add_both-requires-clause-may : goal.add_both-requires-clause-may
add_both-requires-clause-may g c κs within =
    let is = system_met (homed g.H.Home.table g.B.Beginning.begun) c.system.inside.system.state c.system.inside.note c.meet.new.note c.system.invariant c.meet.ensures.table c.meet.ensures.number c.meet.ensures.seen c.meet.ensures.all in
    may_take (homed g.H.Home.table g.B.Beginning.begun) c.args.note.now c.meet.new.note c.system.inside.system.state c.take_frame.new.self.state c.requires.home.1.1 is.1 is.3 (ap (λ (y : Served). y.state) c.in_ok-frame.ensures.ok)

pub invariant_of-system-2 : goal.invariant_of-system-2
invariant_of-system-2 g c =
    let is = system_met (homed g.H.Home.table g.B.Beginning.begun) c.system.inside.system.state c.system.inside.note c.meet.new.note c.system.invariant c.meet.ensures.table c.meet.ensures.number c.meet.ensures.seen c.meet.ensures.all in
    system_tells (homed g.H.Home.table g.B.Beginning.begun) c.system.inside.system.state c.take_frame.new.self.state (c.args.note.now ∷ c.meet.new.note ∷ []) c.meet.new.note c.add_both.new.other (taking c.take_frame.new.self.state) c.add_both.new.note.seen is
    (λ w. refl) c.add_both.ensures.added c.add_both.ensures.all c.add_both.ensures.other

pub returns-clause-home : goal.returns-clause-home
returns-clause-home g c = vault_note_on (homed g.H.Home.table g.B.Beginning.begun) c.args.note.now c.add_both.new.note c.requires.home.1 c.add_both.ensures.table c.add_both.ensures.number c.add_both.ensures.all

pub returns-clause-frame : goal.returns-clause-frame
returns-clause-frame g c =
    let is = system_met (homed g.H.Home.table g.B.Beginning.begun) c.system.inside.system.state c.system.inside.note c.meet.new.note c.system.invariant c.meet.ensures.table c.meet.ensures.number c.meet.ensures.seen c.meet.ensures.all in
    took_frame g.V.Store g.B.VaultBeginning.began (homed g.H.Home.table g.B.Beginning.begun) c.args.note.now c.meet.new.note c.args.vault.now c.in_ok-frame.frame c.system.inside.system.state c.take_frame.new.self.state c.add_both.new.note.seen
    c.requires.home.1 is.1 is.3 c.requires.told c.requires.runs (record { body = c.in_ok-frame.ensures.frame.0; records = c.in_ok-frame.ensures.frame.1 }) (ap (λ (y : Served). y.state) c.in_ok-frame.ensures.ok)
    c.add_both.ensures.added c.add_both.ensures.all

pub returns-clause-all : goal.returns-clause-all
returns-clause-all g c =
    let is = system_met (homed g.H.Home.table g.B.Beginning.begun) c.system.inside.system.state c.system.inside.note c.meet.new.note c.system.invariant c.meet.ensures.table c.meet.ensures.number c.meet.ensures.seen c.meet.ensures.all in
    subst (λ (x : ClientSight). AllAreTaken (homed g.H.Home.table g.B.Beginning.begun) x.seen c.add_both.new.note.seen) c.client.view_is
    (took_all g.V.Store g.B.VaultBeginning.began (homed g.H.Home.table g.B.Beginning.begun) c.args.note.now c.meet.new.note c.args.vault.now c.system.inside.system.state c.take_frame.new.self.state c.client.inside.note.seen c.add_both.new.note.seen
    c.client.inside.note.number c.requires.home.1 is.1 is.3 (ap (λ (y : Served). y.state) c.in_ok-frame.ensures.ok) c.meet.ensures.theirs c.add_both.ensures.added c.add_both.ensures.all)
