use Rattle.std.proofs.Common.{◌+◌, [], length, ap, ◌∙◌, arith}
use Rattle.dali_store.specs.declared.store.FileName.TheVariants.{Log}
use Rattle.dali_store.proofs.Moments.{if_some, if_some_with, if_some_both}
use Rattle.dali_log.proofs.Bytes.{length-frame_of, next_one}
use Rattle.dali_log.proofs.Torn.{told_wider, told_on, told_both}
use Rattle.dali_log.proofs.Crash.{gate_crash, opened, staged_run, synced_run, opened_run, whole_run, told_batch, inside_now}
use Rattle.dali_log.proofs.writing.append.Goals as goal

-- ---- what reads give
pub returns-in_err-write_at-clause-torn : goal.returns-in_err-write_at-clause-torn
returns-in_err-write_at-clause-torn g c =
    let size = ap length c.whole.ensures.whole ∙ length-frame_of c.args.frame.now.body in
    told_wider Log (c.args.at + 1) (length c.whole.result.now) c.args.at (length c.args.frame.now.body + 6) _ _ (omega arith) (omega (arith, size)) c.write_at.ensures.torn

pub returns-in_err-sync-clause-torn : goal.returns-in_err-sync-clause-torn
returns-in_err-sync-clause-torn g c =
    let size = ap length c.whole.ensures.whole ∙ length-frame_of c.args.frame.now.body in
    told_on Log c.args.at (length c.args.frame.now.body + 6) _ _ _ c.sync.ensures.told
    (told_wider Log (c.args.at + 1) (length c.whole.result.now) c.args.at (length c.args.frame.now.body + 6) _ _ (omega arith) (omega (arith, size)) c.write_at.ensures.torn)

pub returns-in_err-write_at-2-clause-torn : goal.returns-in_err-write_at-2-clause-torn
returns-in_err-write_at-2-clause-torn g c =
    let size = ap length c.whole.ensures.whole ∙ length-frame_of c.args.frame.now.body in
    told_both Log c.args.at (length c.whole.result.now) (length c.args.frame.now.body + 6) _ _ (g.V.Store.told c.sync.new.self) _ (omega (arith, size)) c.write_at.ensures.torn c.sync.ensures.told c.write_at-2.ensures.torn

pub returns-in_err-sync-2-clause-torn : goal.returns-in_err-sync-2-clause-torn
returns-in_err-sync-2-clause-torn g c =
    let size = ap length c.whole.ensures.whole ∙ length-frame_of c.args.frame.now.body in
    told_on Log c.args.at (length c.args.frame.now.body + 6) _ _ _ c.sync-2.ensures.told (told_both Log c.args.at (length c.whole.result.now) (length c.args.frame.now.body + 6) _ _ (g.V.Store.told c.sync.new.self) _ (omega (arith, size)) c.write_at.ensures.torn c.sync.ensures.told c.write_at-2.ensures.torn)

pub returns-clause-torn : goal.returns-clause-torn
returns-clause-torn g c =
    let size = ap length c.whole.ensures.whole ∙ length-frame_of c.args.frame.now.body in
    told_on Log c.args.at (length c.args.frame.now.body + 6) _ _ _ c.sync-2.ensures.told (told_both Log c.args.at (length c.whole.result.now) (length c.args.frame.now.body + 6) _ _ (g.V.Store.told c.sync.new.self) _ (omega (arith, size)) c.write_at.ensures.torn c.sync.ensures.told c.write_at-2.ensures.torn)

-- ---- the end
pub returns-clause-next : goal.returns-clause-next
returns-clause-next g c = omega (arith, c.len.ensures.len, next_one c.args.at c.args.frame.now.body)

-- ---- what a crash leaves
pub returns-in_err-write_at-clause-any_moment : goal.returns-in_err-write_at-clause-any_moment
returns-in_err-write_at-clause-any_moment g c =
    if_some_both _ _ c.requires.closed (λ closed.
    let s0 = c.args.store.now in
    if_some _ (staged_run g.V.Store.moment g.V.Store.left_since c.args.at c.args.frame.now.body (c.requires.filled, c.whole.ensures.most) (g.V.Store.may_leave s0) _ closed _ s0 c.write_at.new.self (λ f left. g.met.V.Store.only_now s0 f left) c.write_at.ensures.crash c.write_at.ensures.time)
    )

pub returns-in_err-sync-clause-any_moment : goal.returns-in_err-sync-clause-any_moment
returns-in_err-sync-clause-any_moment g c =
    if_some_both _ _ c.requires.closed (λ closed.
    let s0 = c.args.store.now in
    if_some _ (synced_run g.V.Store.moment g.V.Store.left_since c.args.at c.args.frame.now.body (c.requires.filled, c.whole.ensures.most) (g.V.Store.may_leave s0) _ closed _ s0 c.write_at.new.self (λ f left. g.met.V.Store.only_now s0 f left) c.write_at.ensures.crash c.write_at.ensures.time c.sync.new.self _ c.sync.ensures.crash c.sync.ensures.time)
    )

pub returns-in_err-write_at-2-clause-any_moment : goal.returns-in_err-write_at-2-clause-any_moment
returns-in_err-write_at-2-clause-any_moment g c =
    if_some_both _ _ c.requires.closed (λ closed.
    let s0 = c.args.store.now in
    if_some_with _ _ (λ gate. opened_run g.V.Store.moment g.V.Store.left_since c.args.at c.args.frame.now.body (c.requires.filled, c.whole.ensures.most) (g.V.Store.may_leave s0) _ closed _ s0 c.write_at.new.self (λ f left. g.met.V.Store.only_now s0 f left) c.write_at.ensures.crash c.write_at.ensures.time c.sync.new.self _ c.sync.ensures.crash c.sync.ensures.time c.write_at-2.new.self _ c.write_at-2.ensures.time gate)
    (gate_crash c.args.at c.args.frame.now.body (c.requires.filled, c.whole.ensures.most) (g.V.Store.may_leave s0) closed c.whole.result.now _ _ _ _ _ c.whole.ensures.whole (g.met.V.Store.reads_now s0)
    c.in_ok-write_at.ensures.written c.write_at.ensures.crash c.sync.ensures.crash c.in_ok-sync.ensures.durable c.write_at-2.ensures.crash)
    )

pub returns-in_err-sync-2-clause-any_moment : goal.returns-in_err-sync-2-clause-any_moment
returns-in_err-sync-2-clause-any_moment g c =
    if_some_both _ _ c.requires.closed (λ closed.
    let s0 = c.args.store.now in
    if_some_with _ _ (λ gate. whole_run g.V.Store.moment g.V.Store.left_since c.args.at c.args.frame.now.body (c.requires.filled, c.whole.ensures.most) (g.V.Store.may_leave s0) _ closed _ s0 c.write_at.new.self (λ f left. g.met.V.Store.only_now s0 f left) c.write_at.ensures.crash c.write_at.ensures.time c.sync.new.self _ c.sync.ensures.crash c.sync.ensures.time c.write_at-2.new.self c.sync-2.new.self _ _ c.write_at-2.ensures.time c.sync-2.ensures.crash c.sync-2.ensures.time gate)
    (gate_crash c.args.at c.args.frame.now.body (c.requires.filled, c.whole.ensures.most) (g.V.Store.may_leave s0) closed c.whole.result.now _ _ _ _ _ c.whole.ensures.whole (g.met.V.Store.reads_now s0)
    c.in_ok-write_at.ensures.written c.write_at.ensures.crash c.sync.ensures.crash c.in_ok-sync.ensures.durable c.write_at-2.ensures.crash)
    )

pub returns-clause-any_moment : goal.returns-clause-any_moment
returns-clause-any_moment g c =
    if_some_both _ _ c.requires.closed (λ closed.
    let s0 = c.args.store.now in
    if_some_with _ _ (λ gate. whole_run g.V.Store.moment g.V.Store.left_since c.args.at c.args.frame.now.body (c.requires.filled, c.whole.ensures.most) (g.V.Store.may_leave s0) _ closed _ s0 c.write_at.new.self (λ f left. g.met.V.Store.only_now s0 f left) c.write_at.ensures.crash c.write_at.ensures.time c.sync.new.self _ c.sync.ensures.crash c.sync.ensures.time c.write_at-2.new.self c.sync-2.new.self _ _ c.write_at-2.ensures.time c.sync-2.ensures.crash c.sync-2.ensures.time gate)
    (gate_crash c.args.at c.args.frame.now.body (c.requires.filled, c.whole.ensures.most) (g.V.Store.may_leave s0) closed c.whole.result.now _ _ _ _ _ c.whole.ensures.whole (g.met.V.Store.reads_now s0)
    c.in_ok-write_at.ensures.written c.write_at.ensures.crash c.sync.ensures.crash c.in_ok-sync.ensures.durable c.write_at-2.ensures.crash)
    )

pub returns-clause-written : goal.returns-clause-written
returns-clause-written g c =
    told_batch c.args.at c.args.frame.now.body (c.requires.filled, c.whole.ensures.most) c.whole.result.now (g.V.Store.told c.args.store.now) (g.V.Store.told c.write_at.new.self) (g.V.Store.told c.sync.new.self) (g.V.Store.told c.write_at-2.new.self) (g.V.Store.told c.sync-2.new.self)
    c.whole.ensures.whole (inside_now c.args.at (g.V.Store.may_leave c.args.store.now) _ c.requires.closed (g.met.V.Store.reads_now c.args.store.now)) c.in_ok-write_at.ensures.written c.sync.ensures.told c.in_ok-write_at-2.ensures.written c.sync-2.ensures.told

pub returns-clause-acknowledged : goal.returns-clause-acknowledged
returns-clause-acknowledged g c =
    if_some_both _ _ c.requires.closed (λ closed.
    let s0 = c.args.store.now in
    opened c.args.at c.args.frame.now.body (c.requires.filled, c.whole.ensures.most) (g.V.Store.may_leave s0) closed c.whole.result.now _ _ _ _ _ _ _ _ c.whole.ensures.whole (g.met.V.Store.reads_now s0)
    c.in_ok-write_at.ensures.written c.write_at.ensures.crash c.sync.ensures.crash c.sync.ensures.told c.in_ok-write_at-2.ensures.written c.write_at-2.ensures.crash
    c.sync-2.ensures.crash c.in_ok-sync-2.ensures.durable
    )
