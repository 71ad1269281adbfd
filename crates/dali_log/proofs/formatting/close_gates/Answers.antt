use Rattle.dali_store.specs.Store.{Files}
use Rattle.std.proofs.Common.{sym, IfSome}
use Rattle.dali_log.specs.Batch.{IsClosedAt}
use Rattle.dali_store.proofs.Moments.{if_some_with, moved}
use Rattle.dali_log.specs.Formatting.{AreClosed}
use Rattle.dali_log.proofs.Formats.{both_closed, anchor_run, anchor_synced}
use Rattle.dali_log.proofs.formatting.close_gates.Goals as goal

pub returns-in_err-write_at-clause-any_moment : goal.returns-in_err-write_at-clause-any_moment
returns-in_err-write_at-clause-any_moment g c = if_some_with _ _ (λ run. anchor_run g.V.Store.moment g.V.Store.left_since g.V.Store.may_leave c.args.store.now c.close_log.new.store c.write_at.new.self g.met.V.Store.counts_now run c.write_at.ensures.crash c.write_at.ensures.time) c.close_log.ensures.any_moment

pub returns-clause-any_moment : goal.returns-clause-any_moment
returns-clause-any_moment g c = if_some_with _ _ (λ run. anchor_synced g.V.Store.moment g.V.Store.left_since g.V.Store.may_leave c.args.store.now c.close_log.new.store c.write_at.new.self g.met.V.Store.counts_now run c.write_at.ensures.crash c.write_at.ensures.time c.sync.new.self c.sync.ensures.crash c.sync.ensures.time) c.close_log.ensures.any_moment

pub returns-in_err-sync-clause-any_moment : goal.returns-in_err-sync-clause-any_moment
returns-in_err-sync-clause-any_moment g c = if_some_with _ _ (λ run. anchor_synced g.V.Store.moment g.V.Store.left_since g.V.Store.may_leave c.args.store.now c.close_log.new.store c.write_at.new.self g.met.V.Store.counts_now run c.write_at.ensures.crash c.write_at.ensures.time c.sync.new.self c.sync.ensures.crash c.sync.ensures.time) c.close_log.ensures.any_moment

pub returns-clause-closed : goal.returns-clause-closed
returns-clause-closed g c =
    let s0 = c.args.store.now in
    let s1 = c.close_log.new.store in
    let told = g.V.Store.told in
    let may = g.V.Store.may_leave in
    let told_closed : IfSome (told s1) (λ _. (d : Files) → may s1 d → IsClosedAt 0 d.log) = moved {P = (d : Files) → may s1 d → IsClosedAt 0 d.log} ((d : Files) → may s1 d → IsClosedAt 0 d.log) (told s0) (told s1) c.close_log.ensures.tells c.in_ok-close_log.ensures.closed (λ h. h) in
    moved {P = (d : Files) → may c.sync.new.self d → AreClosed d} ((d : Files) → may c.sync.new.self d → AreClosed d) (told s1) (told s0) (sym c.close_log.ensures.tells)
    (both_closed (may s0) (told s1) (told c.write_at.new.self) (may s1) (may c.write_at.new.self) (may c.sync.new.self) told_closed c.write_at.ensures.crash c.in_ok-write_at.ensures.written c.sync.ensures.crash c.in_ok-sync.ensures.durable) (λ h. h)
