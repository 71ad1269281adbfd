use Rattle.std.proofs.Common.{◌≡◌, [], ◌∷◌, refl, ap, sym, subst, ◌∙◌}
use Rattle.dali_runs.specs.Steps.{store_stopped}
use Rattle.dali_system.specs.Served.{Served}
use Rattle.dali_notes.specs.History.{Sight}
use Rattle.dali_concurrent.specs.Entries.{client_note}
use Rattle.dali_concurrent.specs.Told.{Item}
use Rattle.dali_concurrent.specs.Kept.{SystemTold}
use Rattle.dali_locked.specs.Begun.{Of, homed}
use Rattle.dali_locked.specs.Sights.{ClientSight, SystemSight}
use Rattle.dali_locked.specs.Vaults.{IsTold, failing, vault_told}
use Rattle.dali_locked.proofs.Adding.{led_now}
use Rattle.dali_locked.proofs.VaultTelling.{vault_note_as, system_tells, may_stop, stopped_with, has_stopped}
use Rattle.dali_locked.proofs.vault.tell_fault.Goals as goal

pub add_three-requires-clause-may : goal.add_three-requires-clause-may
add_three-requires-clause-may g c κs within =
    let b = (homed g.H.Home.table g.B.Beginning.begun) in
    let own : c.client.inside.note.number ≡ client_note b.count g.D.Halt.client = c.client.invariant.1 ∙ (ap (λ (x : ClientSight). client_note b.count x.id) c.client.view_is ∙ ap (client_note b.count) (sym c.requires.picked.0)) in
    let was : c.system.inside.system.state ≡ g.D.Halt.was = ap (λ (x : SystemSight). x.served.state) c.system.view_is ∙ sym c.requires.picked.1 in
    may_stop g.V.Store g.B.VaultBeginning.began b c.client.inside.note c.system.inside.note c.args.note.now c.requires.fault.0 c.requires.fault.1 c.args.vault.now g.D.Halt.was g.D.Halt.client own c.system.invariant.1
    c.requires.home.1 (subst (λ y. Of b (λ o T. SystemTold o y T) c.system.inside.note.seen) was c.system.invariant.3) c.requires.fault.2

pub invariant_of-system : goal.invariant_of-system
invariant_of-system g c =
    let was : c.system.inside.system.state ≡ g.D.Halt.was = ap (λ (x : SystemSight). x.served.state) c.system.view_is ∙ sym c.requires.picked.1 in
    system_tells (homed g.H.Home.table g.B.Beginning.begun) c.system.inside.system.state c.stop.new.self.state (c.client.inside.note ∷ c.system.inside.note ∷ c.args.note.now ∷ []) c.system.inside.note c.add_three.new.other
    (failing (vault_told g.V.Store c.args.vault.now) (store_stopped g.D.Halt.was) g.D.Halt.client) c.add_three.new.note.seen c.system.invariant
    (λ w. ap store_stopped (sym was) ∙ sym (ap (λ (y : Served). y.state) c.stop.ensures)) c.add_three.ensures.added c.add_three.ensures.all c.add_three.ensures.other

pub invariant_of-client : goal.invariant_of-client
invariant_of-client g c = (
  c.add_three.ensures.table ∙ c.client.invariant.0,
  c.add_three.ensures.number ∙ c.client.invariant.1,
  led_now (homed g.H.Home.table g.B.Beginning.begun) c.client.inside.note.seen c.add_three.new.note.seen c.client.invariant.2 c.add_three.ensures.all,
)

pub returns-clause-home : goal.returns-clause-home
returns-clause-home g c = vault_note_as (homed g.H.Home.table g.B.Beginning.begun) c.args.note.now c.add_three.new.third c.add_three.new.note.seen c.requires.home.1 c.add_three.ensures.third c.add_three.ensures.all

pub returns-clause-told : goal.returns-clause-told
returns-clause-told g c =
    subst (IsTold g.V.Store g.B.VaultBeginning.began (homed g.H.Home.table g.B.Beginning.begun) c.args.vault.now) (sym (ap (λ (x : Sight Item). x.seen) c.add_three.ensures.third))
    (stopped_with g.V.Store g.B.VaultBeginning.began (homed g.H.Home.table g.B.Beginning.begun) c.client.inside.note c.system.inside.note c.args.note.now c.requires.fault.0 c.requires.fault.1 c.args.vault.now g.D.Halt.was g.D.Halt.client
    c.add_three.new.note.seen c.requires.home.1 c.requires.fault.2 c.add_three.ensures.added c.add_three.ensures.all)

pub returns-clause-stops : goal.returns-clause-stops
returns-clause-stops g c =
    let b = g.B.Beginning.begun in
    has_stopped b c.args.client.now _ c.client.inside.note c.system.inside.note c.args.note.now (vault_told g.V.Store c.args.vault.now) (store_stopped g.D.Halt.was) g.D.Halt.client c.add_three.new.note.seen
    (c.client.invariant.1 ∙ ap (λ (x : ClientSight). client_note b.count x.id) c.client.view_is) (ap (λ (x : ClientSight). x.seen) c.client.view_is) c.requires.picked.0 c.system.invariant.1 c.requires.home.1.1
    c.add_three.ensures.added (ap (λ (x : ClientSight). x.id) c.client.view_is) refl
