use Rattle.std.proofs.Common.{arith, subst}
use Rattle.dali_record.specs.Blocks.{AllAreWords}
use Rattle.dali_log.proofs.Finds.{if_some_two}
use Rattle.dali_restart.proofs.Passing.{begun_in, has_room}
use Rattle.dali_restart.proofs.restarting.begin.Goals as goal

pub returns-clause-ok : goal.returns-clause-ok
returns-clause-ok g c =
    let o = c.in-Ok.opened in
    if_some_two _ _ _ (g.V.Store.told c.args.store.now) c.in-Ok.ensures.opened c.in-Ok.ensures.durable
    (λ fs opened only. begun_in fs o.geometry o.current o.header o.regions.items o.table o.reader _ opened c.in-Ok.ensures.in_range (subst AllAreWords c.deref.ensures.value c.tell_all.ensures) c.new-recovery.ensures.stands c.new-recovery.ensures.plain (g.V.Store.may_leave c.open.new.store) only)

pub returns-clause-in_order : goal.returns-clause-in_order
returns-clause-in_order g c =
    let o = c.in-Ok.opened in
    (has_room o.geometry o.current o.header o.regions.items o.table c.in-Ok.ensures.in_range c.in-Ok.ensures.small, c.new-recovery.ensures.ordered (omega (arith, c.in-Ok.ensures.in_range.next.1)))
