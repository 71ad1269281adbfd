use Rattle.std.proofs.Common.{inl, sym, ◌∙◌}
use Rattle.dali_lists.proofs.Options.{if_some_then}
use Rattle.dali_log.proofs.Finds.{if_some_same, if_some_two}
use Rattle.dali_restart.proofs.Passing.{finds_next, read_in, reload_bad, tail_bad}
use Rattle.dali_restart.proofs.restarting.pass.Goals as goal

pub returns-in-Ok-Whole-clause-ok : goal.returns-in-Ok-Whole-clause-ok
returns-in-Ok-Whole-clause-ok g c =
    let told = g.V.Store.told in
    if_some_two _ _ _ (told c.args.store.now) c.in-Ok.ensures.ok (if_some_same _ _ _ c.in-Ok.ensures.store.reads.same (rw c.in-Ok-Whole.field-0-is at c.in-Ok-Whole.ensures.ok))
    (λ fs begun reloads. read_in fs _ _ _ _ begun (g.V.Store.may_leave c.read_scanned.new.store) _ c.read_scanned.ensures.reads.crash reloads)

pub returns-in-Ok-Whole-clause-in_order : goal.returns-in-Ok-Whole-clause-in_order
returns-in-Ok-Whole-clause-in_order g c = record {
  room = c.in-Ok.ensures.in_order.0;
  small = rw c.in-Ok-Whole.field-0-is at c.in-Ok-Whole.ensures.small;
  ordered = (rw c.in-Ok-Whole.field-0-is at c.in-Ok-Whole.ensures.ordered) c.in-Ok.begun.base.geometry c.in-Ok.ensures.in_order.1;
}

pub returns-in-Ok-Damaged-clause-damaged : goal.returns-in-Ok-Damaged-clause-damaged
returns-in-Ok-Damaged-clause-damaged g c =
    let told = g.V.Store.told in
    if_some_two _ _ _ (told c.args.store.now) c.in-Ok.ensures.ok (if_some_same _ _ _ c.in-Ok.ensures.store.reads.same (rw c.in-Ok-Damaged.field-0-is at c.in-Ok-Damaged.ensures.damaged))
    (λ fs begun finds. finds_next fs _ _ _ _ begun _ _ c.in-Ok.ensures.in_order.0 finds)

pub returns-in-Err-clause-bad : goal.returns-in-Err-clause-bad
returns-in-Err-clause-bad g c file at h = if_some_then _ _ (g.V.Store.told c.args.store.now) (c.in-Err.ensures.bad file at h) (λ fs bad. inl bad)

pub returns-clause-bad : goal.returns-clause-bad
returns-clause-bad g c file at h =
    let told = g.V.Store.told in
    let b = reload_bad c.in-Err-read_scanned.error file at (sym c.into.ensures ∙ h) in
    if_some_two _ _ _ (told c.args.store.now) c.in-Ok.ensures.ok (if_some_same _ _ _ c.in-Ok.ensures.store.reads.same (c.in-Err-read_scanned.ensures.bad at b.1))
    (λ fs begun bad. tail_bad fs _ _ _ _ begun file at b.0 bad)
