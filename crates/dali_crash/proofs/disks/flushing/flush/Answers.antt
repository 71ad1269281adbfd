-- Ok leaves the batch, and each moment none or the batch; what is left behind the call is of its last moment.
use Rattle.std.proofs.Common.{IfSome}
use Rattle.std.proofs.lemmas.Option.{IfSome_then}
use Rattle.std.proofs.lemmas.Result.{on_ok_weaker}
use Rattle.dali_store.specs.Store.{Files}
use Rattle.dali_log.specs.Appending.{bodies_of, AllAdded}
use Rattle.dali_crash.specs.Disks.Bridges.{GoesOnBy}
use Rattle.dali_crash.proofs.DisksLemmas.Bridges.{goes_on_by, stops_by, is_right_in}
use Rattle.dali_crash.proofs.disks.flushing.flush.Goals as goal

pub returns-clause-goes_on : goal.returns-clause-goes_on
returns-clause-goes_on g c =
    let old : Files → Type 0 = g.V.Store.may_leave c.args.store.now in
    let new : Files → Type 0 = g.V.Store.may_leave c.flush.new.store in
    on_ok_weaker {P = IfSome (g.V.Store.told c.args.store.now) (λ x. (d : Files) → new d → AllAdded old c.args.at (bodies_of c.args.frame.now.body) d)} {Q = IfSome (g.V.Store.told c.args.store.now) (λ x. GoesOnBy old new c.args.at c.args.frame.now.body)}
    c.flush.result (λ told. IfSome_then (g.V.Store.told c.args.store.now) told (λ fs added. goes_on_by old new c.args.at c.args.frame.now.body added)) c.flush.ensures.acknowledged

pub returns-clause-stops : goal.returns-clause-stops
returns-clause-stops g c =
    let old : Files → Type 0 = g.V.Store.may_leave c.args.store.now in
    let new : Files → Type 0 = g.V.Store.may_leave c.flush.new.store in
    IfSome_then (g.V.Store.told c.args.store.now) c.flush.ensures.any_moment
    (λ fs only. stops_by old new c.args.at c.args.frame.now.body (λ d left. only.each d (g.met.V.Store.counts_now c.flush.new.store (g.V.Store.moment c.args.store.now) d only.later left)))

pub returns-clause-any_moment : goal.returns-clause-any_moment
returns-clause-any_moment g c =
    let old : Files → Type 0 = g.V.Store.may_leave c.args.store.now in
    let since : Files → Type 0 = g.V.Store.left_since c.flush.new.store (g.V.Store.moment c.args.store.now) in
    IfSome_then (g.V.Store.told c.args.store.now) c.flush.ensures.any_moment (λ fs only. is_right_in old since c.args.at c.args.frame.now.body only.each)
