-- Ok leaves the anchor moved, and each moment either number; what is left behind the call is of its last moment.
use Rattle.std.proofs.Common.{IfSome}
use Rattle.std.proofs.lemmas.Option.{IfSome_then}
use Rattle.std.proofs.lemmas.Result.{on_ok_weaker}
use Rattle.dali_store.specs.Store.{Files}
use Rattle.dali_log.specs.Anchors.{HasMoved}
use Rattle.dali_crash.specs.Disks.Bridges.{TurnsBy}
use Rattle.dali_crash.proofs.DisksLemmas.Bridges.{turns_by, turn_stops_by, turn_is_right_in}
use Rattle.dali_crash.proofs.disks.turning.turn.Goals as goal

pub returns-clause-turns : goal.returns-clause-turns
returns-clause-turns g c =
    let old : Files → Type 0 = g.V.Store.may_leave c.args.store.now in
    let new : Files → Type 0 = g.V.Store.may_leave c.move_anchor.new.store in
    on_ok_weaker {P = IfSome (g.V.Store.told c.args.store.now) (λ x. (d : Files) → new d → HasMoved old c.args.number d)} {Q = IfSome (g.V.Store.told c.args.store.now) (λ x. TurnsBy old new c.args.number)}
    c.move_anchor.result (λ told. IfSome_then (g.V.Store.told c.args.store.now) told (λ fs moved. turns_by old new c.args.number moved)) c.move_anchor.ensures.moved

pub returns-clause-stops : goal.returns-clause-stops
returns-clause-stops g c =
    let old : Files → Type 0 = g.V.Store.may_leave c.args.store.now in
    let new : Files → Type 0 = g.V.Store.may_leave c.move_anchor.new.store in
    IfSome_then (g.V.Store.told c.args.store.now) c.move_anchor.ensures.any_moment
    (λ fs only. turn_stops_by old new c.args.number (λ d left. only.each d (g.met.V.Store.counts_now c.move_anchor.new.store (g.V.Store.moment c.args.store.now) d only.later left)))

pub returns-clause-any_moment : goal.returns-clause-any_moment
returns-clause-any_moment g c =
    let old : Files → Type 0 = g.V.Store.may_leave c.args.store.now in
    let since : Files → Type 0 = g.V.Store.left_since c.move_anchor.new.store (g.V.Store.moment c.args.store.now) in
    IfSome_then (g.V.Store.told c.args.store.now) c.move_anchor.ensures.any_moment (λ fs only. turn_is_right_in old since c.args.number only.each)
