use Rattle.std.proofs.Common.{◌≤◌, refl, subst, ◌∙◌, arith}
use Rattle.dali_runs.specs.State.{stable}
use Rattle.dali_concurrent.specs.Told.{core_told}
use Rattle.dali_locked.specs.Begun.{Led, FromEach, outset, homed}
use Rattle.dali_locked.specs.Sights.{VaultSight}
use Rattle.dali_locked.proofs.Adding.{led_now}
use Rattle.dali_locked.proofs.VaultTelling.{stable_is, told_on}
use Rattle.dali_locked.proofs.vault.LockedVault.acknowledge.Goals as goal

pub returns-then-not-is_below-clause-no : goal.returns-then-not-is_below-clause-no
returns-then-not-is_below-clause-no g c _ =
    let b = (homed g.H.Home.table g.B.Beginning.begun) in
    let is = stable_is g.V.Store g.B.VaultBeginning.began b c.self.inside.vault c.self.inside.first c.self.inside.note.seen c.self.invariant.0.2 c.self.invariant.1 c.self.invariant.2 in (
      subst (λ (x : VaultSight g.row.V.Denot). FromEach b (λ s p. stable (core_told (outset b s p) x.seen) ≤ c.args.number)) c.self.view_is
          (λ s p here. omega (arith, is s p here, c.is_below.ensures.no, c.flushed.ensures)),
      refl,
    )

pub invariant_of-client : goal.invariant_of-client
invariant_of-client g c = (
  c.meet.ensures.table ∙ c.client.invariant.0,
  c.meet.ensures.number ∙ c.client.invariant.1,
  led_now (homed g.H.Home.table g.B.Beginning.begun) c.client.inside.note.seen c.meet.new.note.seen c.client.invariant.2 c.meet.ensures.all,
)

pub returns-clause-yes : goal.returns-clause-yes
returns-clause-yes g c _ =
    let b = (homed g.H.Home.table g.B.Beginning.begun) in
    let led : Led b c.meet.new.note.seen = led_now b c.client.inside.note.seen c.meet.new.note.seen c.client.invariant.2 c.meet.ensures.all in
    let is = stable_is g.V.Store g.B.VaultBeginning.began b c.self.inside.vault c.self.inside.first c.meet.new.note.seen led
    (told_on g.V.Store g.B.VaultBeginning.began b c.self.inside.vault c.self.inside.note.number c.self.inside.note.seen c.meet.new.note.seen c.self.invariant.0.1 c.meet.ensures.theirs led c.self.invariant.1) c.self.invariant.2 in
    λ s p here. omega (arith, is s p here, c.is_below.ensures.yes, c.flushed.ensures)
