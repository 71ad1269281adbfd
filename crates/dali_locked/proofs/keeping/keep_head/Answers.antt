use Rattle.std.proofs.Common.{◌≡◌, ◌-◌, ap, sym, subst, ◌∙◌}
use Rattle.dali_notes.specs.History.{Sight}
use Rattle.dali_concurrent.specs.Entries.{client_note}
use Rattle.dali_concurrent.specs.Told.{Item}
use Rattle.dali_locked.specs.Sights.{ClientSight, SystemSight}
use Rattle.dali_locked.specs.Vaults.{IsTold}
use Rattle.dali_locked.specs.HeadKept.{IsMadeOf}
use Rattle.dali_locked.proofs.Adding.{led_now}
use Rattle.dali_locked.proofs.VaultTelling.{vault_note_as}
use Rattle.dali_locked.proofs.HeadKept.{may_keep, kept_in, stands_kept, system_kept}
use Rattle.dali_locked.specs.Begun.{homed}
use Rattle.dali_locked.proofs.keeping.keep_head.Goals as goal

pub add_three-requires-clause-may : goal.add_three-requires-clause-may
add_three-requires-clause-may g c κs within =
    may_keep g.V.Store g.B.VaultBeginning.began (homed g.H.Home.table g.B.Beginning.begun) c.client.inside.note c.system.inside.note c.args.note.now c.args.vault.now c.system.inside.system.state c.args.client.now.id c.args.client.now.seen
    (c.client.invariant.1 ∙ ap (λ (x : ClientSight). client_note (homed g.H.Home.table g.B.Beginning.begun).count x.id) c.client.view_is) (ap (λ (x : ClientSight). x.seen) c.client.view_is) c.system.invariant c.requires.home.1 c.requires.told
    (subst (λ (x : SystemSight). x.served.state.taken ≡ x.served.state.records - x.served.state.first) (sym c.system.view_is) c.requires.taken) c.requires.runs c.requires.started

pub invariant_of-system : goal.invariant_of-system
invariant_of-system g c =
    system_kept g.V.Store g.B.VaultBeginning.began (homed g.H.Home.table g.B.Beginning.begun) c.client.inside.note c.system.inside.note c.args.note.now c.args.vault.now c.system.inside.system.state c.args.client.now.id c.args.client.now.seen
    (c.client.invariant.1 ∙ ap (λ (x : ClientSight). client_note (homed g.H.Home.table g.B.Beginning.begun).count x.id) c.client.view_is) (ap (λ (x : ClientSight). x.seen) c.client.view_is) c.system.invariant c.requires.home.1 c.requires.told
    (subst (λ (x : SystemSight). x.served.state.taken ≡ x.served.state.records - x.served.state.first) (sym c.system.view_is) c.requires.taken) c.requires.runs c.requires.started
    c.add_three.new.note.seen c.add_three.ensures.added c.add_three.ensures.all c.add_three.new.other c.add_three.ensures.other

pub invariant_of-client : goal.invariant_of-client
invariant_of-client g c = (
  c.add_three.ensures.table ∙ c.client.invariant.0,
  c.add_three.ensures.number ∙ c.client.invariant.1,
  led_now (homed g.H.Home.table g.B.Beginning.begun) c.client.inside.note.seen c.add_three.new.note.seen c.client.invariant.2 c.add_three.ensures.all,
)

pub returns-clause-home : goal.returns-clause-home
returns-clause-home g c = vault_note_as (homed g.H.Home.table g.B.Beginning.begun) c.args.note.now c.add_three.new.third c.add_three.new.note.seen c.requires.home.1 c.add_three.ensures.third c.add_three.ensures.all

pub returns-clause-told : goal.returns-clause-told
returns-clause-told g c =
    subst (IsTold g.V.Store g.B.VaultBeginning.began (homed g.H.Home.table g.B.Beginning.begun) c.args.vault.now) (sym (ap (λ (x : Sight Item). x.seen) c.add_three.ensures.third))
    (stands_kept g.V.Store g.B.VaultBeginning.began (homed g.H.Home.table g.B.Beginning.begun) c.client.inside.note c.system.inside.note c.args.note.now c.args.vault.now c.system.inside.system.state c.args.client.now.id c.args.client.now.seen
    (c.client.invariant.1 ∙ ap (λ (x : ClientSight). client_note (homed g.H.Home.table g.B.Beginning.begun).count x.id) c.client.view_is) (ap (λ (x : ClientSight). x.seen) c.client.view_is) c.system.invariant c.requires.home.1 c.requires.told
    (subst (λ (x : SystemSight). x.served.state.taken ≡ x.served.state.records - x.served.state.first) (sym c.system.view_is) c.requires.taken) c.requires.runs c.requires.started
    c.add_three.new.note.seen c.add_three.ensures.added c.add_three.ensures.all)

pub returns-clause-kept : goal.returns-clause-kept
returns-clause-kept g c =
    kept_in g.V.Store g.B.VaultBeginning.began (homed g.H.Home.table g.B.Beginning.begun) c.client.inside.note c.system.inside.note c.args.note.now c.args.vault.now c.system.inside.system.state c.args.client.now.id c.args.client.now.seen
    (c.client.invariant.1 ∙ ap (λ (x : ClientSight). client_note (homed g.H.Home.table g.B.Beginning.begun).count x.id) c.client.view_is) (ap (λ (x : ClientSight). x.seen) c.client.view_is) c.system.invariant c.requires.home.1 c.requires.told
    (subst (λ (x : SystemSight). x.served.state.taken ≡ x.served.state.records - x.served.state.first) (sym c.system.view_is) c.requires.taken) c.requires.runs c.requires.started
    c.add_three.new.note.seen c.add_three.ensures.added c.add_three.ensures.all c.args.kept.now
    (subst (λ (x : SystemSight). IsMadeOf x.served.state c.args.vault.now c.args.kept.now) (sym c.system.view_is) c.requires.made)
