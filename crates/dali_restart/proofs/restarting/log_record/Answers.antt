use Rattle.std.proofs.Common.{None, refl, sym, ap, subst, ◌∙◌, arith}
use Rattle.dali_lists.proofs.Options.{if_some_then}
use Rattle.dali_log.specs.Anchors.{AreAnchored}
use Rattle.dali_restart.specs.Renewal.Logged.{restart_length}
use Rattle.dali_restart.specs.Renewal.Renewed.{end_of}
use Rattle.dali_restart.specs.Deciding.{at_end}
use Rattle.dali_restart.proofs.Due.{are_anchored, closed_there, logs_record, next_is, not_longer, record_is_small, written_at}
use Rattle.dali_restart.proofs.restarting.log_record.Goals as goal

pub renew-requires-clause-closed : goal.renew-requires-clause-closed
renew-requires-clause-closed g c = closed_there (g.V.Store.told c.args.store.now) (g.V.Store.may_leave c.args.store.now) c.args.found.now c.end_of-whole.result c.end_of-whole.ensures c.requires.read

pub renew-requires-clause-anchored : goal.renew-requires-clause-anchored
renew-requires-clause-anchored g c =
    if_some_then _ _ (g.V.Store.told c.args.store.now) c.requires.read
    (λ fs is. subst (λ p. AreAnchored (g.V.Store.may_leave c.args.store.now) p.current) (sym c.end_of-whole.ensures) (are_anchored fs _ c.args.found.now is))

pub overflow_sub-result-in-Ok : goal.overflow_sub-result-in-Ok
overflow_sub-result-in-Ok g c = omega (arith, c.in-Ok.ensures.end, next_is c.end_of-whole.result.place c.deref.result.now c.deref-2.result.now)

pub overflow_add-result-in-Ok : goal.overflow_add-result-in-Ok
overflow_add-result-in-Ok g c =
    let short = not_longer (restart_length c.deref.result.now c.deref-2.result.now) (λ long. let e = c.in-Ok.ensures.long.1 (refl, long) in absurd cc) in
    let weight = ap (λ p. p.weight) c.end_of-whole.ensures in
    let is = c.requires.in_order in
    omega (arith, c.in-Ok.ensures.end, next_is c.end_of-whole.result.place c.deref.result.now c.deref-2.result.now, short, weight, is.room.weight, is.small.bytes, is.small.end)

pub returns-in-Ok-clause-ok : goal.returns-in-Ok-clause-ok
returns-in-Ok-clause-ok g c =
    let p = c.end_of-whole.result in
    let end =
    c.in-Ok.ensures.end
    ∙ (ap (λ l. end_of None p l c.deref-2.result.now) c.deref.ensures.value ∙ ap (end_of None p c.args.found.now.reloaded.recovered.rolled_back.items) c.deref-2.ensures.value) in
    logs_record c.args.found.now p c.rest_at.result c.in-Ok.end c.end_of-whole.ensures c.rest_at.ensures end

pub returns-in-Ok-clause-small : goal.returns-in-Ok-clause-small
returns-in-Ok-clause-small g c =
    let p = c.end_of-whole.result in
    let rs = c.args.found.now.reloaded.recovered.rolled_back.items in
    let end = c.in-Ok.ensures.end ∙ (ap (λ l. end_of None p l c.deref-2.result.now) c.deref.ensures.value ∙ ap (end_of None p rs) c.deref-2.ensures.value) in
    let short = not_longer (restart_length c.deref.result.now c.deref-2.result.now) (λ long. let e = c.in-Ok.ensures.long.1 (refl, long) in absurd cc) in
    let same = ap (λ l. restart_length l c.deref-2.result.now) c.deref.ensures.value ∙ ap (restart_length rs) c.deref-2.ensures.value in
    record_is_small c.args.found.now _ c.requires.in_order (logs_record c.args.found.now p c.rest_at.result c.in-Ok.end c.end_of-whole.ensures c.rest_at.ensures end) (omega (arith, short, same))

pub returns-in-Ok-clause-written : goal.returns-in-Ok-clause-written
returns-in-Ok-clause-written g c =
    let x = c.args.found.now in
    let o = x.reloaded.recovered in
    written_at g.V.Store c.end_of-whole.result (at_end x) None None c.deref.result.now o.rolled_back.items c.deref-2.result.now o.deleted.items c.deref-3.result.now o.regions.items c.args.store.now c.renew.new.store _
    c.end_of-whole.ensures refl c.deref.ensures.value c.deref-2.ensures.value c.deref-3.ensures.value c.in-Ok.ensures.renews c.in-Ok.ensures.stops c.in-Ok.ensures.keeps

pub returns-in-Err-clause-written : goal.returns-in-Err-clause-written
returns-in-Err-clause-written g c =
    let x = c.args.found.now in
    let o = x.reloaded.recovered in
    written_at g.V.Store c.end_of-whole.result (at_end x) None None c.deref.result.now o.rolled_back.items c.deref-2.result.now o.deleted.items c.deref-3.result.now o.regions.items c.args.store.now c.renew.new.store _
    c.end_of-whole.ensures refl c.deref.ensures.value c.deref-2.ensures.value c.deref-3.ensures.value tt c.in-Err.ensures.stops c.in-Err.ensures.keeps
