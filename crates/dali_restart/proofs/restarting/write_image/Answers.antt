use Rattle.std.proofs.Common.{[], Some, refl, sym, ap, subst}
use Rattle.dali_lists.proofs.Options.{if_some_then}
use Rattle.dali_log.specs.Anchors.{AreAnchored}
use Rattle.dali_restart.proofs.Due.{are_anchored, closed_there, same_current, written_at}
use Rattle.dali_restart.proofs.restarting.write_image.Goals as goal

pub renew-requires-clause-closed : goal.renew-requires-clause-closed
renew-requires-clause-closed g c = closed_there (g.V.Store.told c.args.store.now) (g.V.Store.may_leave c.args.store.now) c.args.found.now c.end_of-whole.result c.end_of-whole.ensures c.requires.read

pub renew-requires-clause-anchored : goal.renew-requires-clause-anchored
renew-requires-clause-anchored g c =
    if_some_then _ _ (g.V.Store.told c.args.store.now) c.requires.read
    (λ fs is. subst (AreAnchored (g.V.Store.may_leave c.args.store.now)) (sym (same_current c.args.found.now c.args.standing.now c.requires.due)) (are_anchored fs _ c.args.found.now is))

pub returns-in-Ok-clause-written : goal.returns-in-Ok-clause-written
returns-in-Ok-clause-written g c =
    let x = c.args.found.now in
    let p = c.args.standing.now in
    written_at g.V.Store p p (Some c.end_of-whole.result.place) (Some x.reloaded.end) [] [] [] [] c.deref.result.now x.reloaded.recovered.regions.items c.args.store.now c.renew.new.store _ refl
    (ap (λ q. Some q.place) c.end_of-whole.ensures) refl refl c.deref.ensures.value c.in-Ok.ensures.renews c.in-Ok.ensures.stops c.in-Ok.ensures.keeps

pub returns-in-Err-clause-written : goal.returns-in-Err-clause-written
returns-in-Err-clause-written g c =
    let x = c.args.found.now in
    let p = c.args.standing.now in
    written_at g.V.Store p p (Some c.end_of-whole.result.place) (Some x.reloaded.end) [] [] [] [] c.deref.result.now x.reloaded.recovered.regions.items c.args.store.now c.renew.new.store _ refl
    (ap (λ q. Some q.place) c.end_of-whole.ensures) refl refl c.deref.ensures.value tt c.in-Err.ensures.stops c.in-Err.ensures.keeps
