use Rattle.std.proofs.Common.{[], ◌∷◌, refl, ap, subst, ◌∙◌}
use Rattle.dali_store.specs.declared.store.FileName.TheVariants.{Log}
use Rattle.dali_system.specs.Served.{Served}
use Rattle.dali_core.proofs.Lengths.{torn_length}
use Rattle.dali_notes.specs.History.{Sight}
use Rattle.dali_concurrent.specs.Told.{Item}
use Rattle.dali_locked.specs.Sights.{ClientSight}
use Rattle.dali_locked.specs.Vaults.{taking, AllAreDurable}
use Rattle.dali_locked.proofs.VaultTelling.{system_met, system_tells, vault_note_on, may_take, took_frame, took_all, written_in, fault_in, durable_then, client_as}
use Rattle.dali_locked.specs.Begun.{homed}
use Rattle.dali_locked.proofs.vault.flush_both.Goals as goal

pub add_both-requires-clause-may : goal.add_both-requires-clause-may
add_both-requires-clause-may g c κs within =
    let is = system_met (homed g.H.Home.table g.B.Beginning.begun) c.system.inside.system.state c.system.inside.note c.meet.new.note c.system.invariant c.meet.ensures.table c.meet.ensures.number c.meet.ensures.seen c.meet.ensures.all in
    may_take (homed g.H.Home.table g.B.Beginning.begun) c.args.note.now c.meet.new.note c.system.inside.system.state c.flushed.new.self.state c.requires.home.1.1 is.1 is.3 (ap (λ (y : Served). y.state) c.flushed.ensures)

pub tell_flush-requires-clause-home : goal.tell_flush-requires-clause-home
tell_flush-requires-clause-home g c κs within = (c.requires.home.0, vault_note_on (homed g.H.Home.table g.B.Beginning.begun) c.args.note.now c.add_both.new.note c.requires.home.1 c.add_both.ensures.table c.add_both.ensures.number c.add_both.ensures.all)

pub tell_flush-requires-clause-written : goal.tell_flush-requires-clause-written
tell_flush-requires-clause-written g c κs within =
    let is = system_met (homed g.H.Home.table g.B.Beginning.begun) c.system.inside.system.state c.system.inside.note c.meet.new.note c.system.invariant c.meet.ensures.table c.meet.ensures.number c.meet.ensures.seen c.meet.ensures.all in
    let frame = took_frame g.V.Store g.B.VaultBeginning.began (homed g.H.Home.table g.B.Beginning.begun) c.args.note.now c.meet.new.note c.args.vault.now c.frame.result.now c.system.inside.system.state c.flushed.new.self.state c.add_both.new.note.seen
    c.requires.home.1 is.1 is.3 c.requires.told c.requires.runs.0 (record { body = c.frame.ensures.body; records = c.frame.ensures.records }) (ap (λ (y : Served). y.state) c.flushed.ensures) c.add_both.ensures.added c.add_both.ensures.all in
    let home = vault_note_on (homed g.H.Home.table g.B.Beginning.begun) c.args.note.now c.add_both.new.note c.requires.home.1 c.add_both.ensures.table c.add_both.ensures.number c.add_both.ensures.all in (
      c.frame.result.now,
      c.args.vault.now,
      written_in g.V.Store g.B.VaultBeginning.began (homed g.H.Home.table g.B.Beginning.begun) c.add_both.new.note.seen c.frame.result.now c.args.vault.now c.flush-flushed.new.vault home.2 frame c.requires.runs.0
          (torn_length Log c.args.vault.now.end _ (g.V.Store.told c.args.vault.now.store) (g.V.Store.told c.flush-flushed.new.vault.store) (c.flush-flushed.ensures.torn c.requires.runs.0))
          (c.flush-flushed.ensures.any_moment c.requires.runs.0) c.in-Ok.ensures.ok,
    )

pub invariant_of-system : goal.invariant_of-system
invariant_of-system g c =
    let is = system_met (homed g.H.Home.table g.B.Beginning.begun) c.system.inside.system.state c.system.inside.note c.meet.new.note c.system.invariant c.meet.ensures.table c.meet.ensures.number c.meet.ensures.seen c.meet.ensures.all in
    system_tells (homed g.H.Home.table g.B.Beginning.begun) c.system.inside.system.state c.flushed.new.self.state (c.args.note.now ∷ c.meet.new.note ∷ []) c.meet.new.note c.add_both.new.other (taking c.flushed.new.self.state) c.add_both.new.note.seen is
    (λ w. refl) c.add_both.ensures.added c.add_both.ensures.all c.add_both.ensures.other

pub invariant_of-system-in-Err : goal.invariant_of-system-in-Err
invariant_of-system-in-Err g c =
    let is = system_met (homed g.H.Home.table g.B.Beginning.begun) c.system.inside.system.state c.system.inside.note c.meet.new.note c.system.invariant c.meet.ensures.table c.meet.ensures.number c.meet.ensures.seen c.meet.ensures.all in
    system_tells (homed g.H.Home.table g.B.Beginning.begun) c.system.inside.system.state c.flushed.new.self.state (c.args.note.now ∷ c.meet.new.note ∷ []) c.meet.new.note c.add_both.new.other (taking c.flushed.new.self.state) c.add_both.new.note.seen is
    (λ w. refl) c.add_both.ensures.added c.add_both.ensures.all c.add_both.ensures.other

pub fail-requires-clause-home : goal.fail-requires-clause-home
fail-requires-clause-home g c κs within = (c.requires.home.0, vault_note_on (homed g.H.Home.table g.B.Beginning.begun) c.args.note.now c.add_both.new.note c.requires.home.1 c.add_both.ensures.table c.add_both.ensures.number c.add_both.ensures.all)

pub fail-requires-clause-fault : goal.fail-requires-clause-fault
fail-requires-clause-fault g c κs within =
    let is = system_met (homed g.H.Home.table g.B.Beginning.begun) c.system.inside.system.state c.system.inside.note c.meet.new.note c.system.invariant c.meet.ensures.table c.meet.ensures.number c.meet.ensures.seen c.meet.ensures.all in
    let frame = took_frame g.V.Store g.B.VaultBeginning.began (homed g.H.Home.table g.B.Beginning.begun) c.args.note.now c.meet.new.note c.args.vault.now c.frame.result.now c.system.inside.system.state c.flushed.new.self.state c.add_both.new.note.seen
    c.requires.home.1 is.1 is.3 c.requires.told c.requires.runs.0 (record { body = c.frame.ensures.body; records = c.frame.ensures.records }) (ap (λ (y : Served). y.state) c.flushed.ensures) c.add_both.ensures.added c.add_both.ensures.all in
    let home = vault_note_on (homed g.H.Home.table g.B.Beginning.begun) c.args.note.now c.add_both.new.note c.requires.home.1 c.add_both.ensures.table c.add_both.ensures.number c.add_both.ensures.all in (
      c.frame.result.now,
      c.args.vault.now,
      fault_in g.V.Store g.B.VaultBeginning.began (homed g.H.Home.table g.B.Beginning.begun) c.add_both.new.note.seen c.frame.result.now c.args.vault.now c.flush-flushed.new.vault home.2 frame c.requires.runs.0
          (torn_length Log c.args.vault.now.end _ (g.V.Store.told c.args.vault.now.store) (g.V.Store.told c.flush-flushed.new.vault.store) (c.flush-flushed.ensures.torn c.requires.runs.0))
          (c.flush-flushed.ensures.any_moment c.requires.runs.0) (c.in-Err.ensures.fault (c.in-Err.ensures.runs c.requires.runs.0)),
    )

pub returns-in-Ok-clause-ok : goal.returns-in-Ok-clause-ok
returns-in-Ok-clause-ok g c =
    let is = system_met (homed g.H.Home.table g.B.Beginning.begun) c.system.inside.system.state c.system.inside.note c.meet.new.note c.system.invariant c.meet.ensures.table c.meet.ensures.number c.meet.ensures.seen c.meet.ensures.all in (
      ap (λ (n : Sight Item). client_as c.client.inside.id n.seen) c.meet.ensures.other ∙ c.client.view_is,
      subst (λ (x : ClientSight). AllAreDurable (homed g.H.Home.table g.B.Beginning.begun) x.seen c.tell_flush.new.note.seen) c.client.view_is
          (durable_then (homed g.H.Home.table g.B.Beginning.begun) c.client.inside.note.seen c.add_both.new.note.seen c.tell_flush.new.note.seen
          (took_all g.V.Store g.B.VaultBeginning.began (homed g.H.Home.table g.B.Beginning.begun) c.args.note.now c.meet.new.note c.args.vault.now c.system.inside.system.state c.flushed.new.self.state c.client.inside.note.seen c.add_both.new.note.seen
          c.client.inside.note.number c.requires.home.1 is.1 is.3 (ap (λ (y : Served). y.state) c.flushed.ensures) c.meet.ensures.theirs c.add_both.ensures.added c.add_both.ensures.all)
          c.tell_flush.ensures.all),
    )
