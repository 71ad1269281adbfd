use Rattle.dali_store.proofs.Moments.{if_some_both, if_some_with}
use Rattle.dali_log.proofs.Formats.{close_log_crash, log_run, log_synced}
use Rattle.dali_log.proofs.formatting.close_log.Goals as goal

pub returns-in_err-write_at-clause-any_moment : goal.returns-in_err-write_at-clause-any_moment
returns-in_err-write_at-clause-any_moment g c =
    let s0 = c.args.store.now in
    let may = g.V.Store.may_leave in
    if_some_both _ _ c.requires.unformatted (λ unformatted.
    if_some_with _ _ (λ crash. log_run g.V.Store.moment g.V.Store.left_since may s0 c.length.new.self c.write_at.new.self unformatted (λ f left. g.met.V.Store.only_now s0 f left) c.length.ensures.crash c.length.ensures.time c.write_at.ensures.time crash)
    (close_log_crash (may s0) (g.V.Store.told s0) c.in_ok-length.field-0 _ _ c.if-branch-ge2.false (g.met.V.Store.no_longer s0) c.in_ok-length.ensures.length c.length.ensures.crash c.write_at.ensures.crash))

pub returns-clause-any_moment : goal.returns-clause-any_moment
returns-clause-any_moment g c =
    let s0 = c.args.store.now in
    let may = g.V.Store.may_leave in
    if_some_both _ _ c.requires.unformatted (λ unformatted.
    if_some_with _ _ (λ crash. log_synced g.V.Store.moment g.V.Store.left_since may s0 c.length.new.self c.write_at.new.self unformatted (λ f left. g.met.V.Store.only_now s0 f left) c.length.ensures.crash c.length.ensures.time c.write_at.ensures.time crash c.sync-2.new.self c.sync-2.ensures.crash c.sync-2.ensures.time)
    (close_log_crash (may s0) (g.V.Store.told s0) c.in_ok-length.field-0 _ _ c.if-branch-ge2.false (g.met.V.Store.no_longer s0) c.in_ok-length.ensures.length c.length.ensures.crash c.write_at.ensures.crash))
