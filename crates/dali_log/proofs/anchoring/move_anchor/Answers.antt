use Rattle.std.proofs.Common.{arith}
use Rattle.dali_store.specs.declared.store.FileName.TheVariants.{Anchor}
use Rattle.dali_store.proofs.Moments.{if_some, if_some_with, if_some_both}
use Rattle.dali_log.proofs.Torn.{told_on, told_both}
use Rattle.dali_log.proofs.Anchors.{gate_crash, opened, staged_run, synced_run, opened_run, whole_run, inside_now, told_gates}
use Rattle.dali_log.proofs.anchoring.move_anchor.Goals as goal

pub write_at-requires : goal.write_at-requires
write_at-requires g c = inside_now c.args.number (g.V.Store.may_leave c.args.store.now) _ c.requires.anchored (g.met.V.Store.reads_now c.args.store.now)

-- ---- what reads give
pub returns-in_err-write_at-2-clause-torn : goal.returns-in_err-write_at-2-clause-torn
returns-in_err-write_at-2-clause-torn g c = told_both Anchor c.args.number 1 2 _ _ (g.V.Store.told c.sync.new.self) _ (omega arith) c.write_at.ensures.torn c.sync.ensures.told c.write_at-2.ensures.torn

pub returns-in_err-sync-2-clause-torn : goal.returns-in_err-sync-2-clause-torn
returns-in_err-sync-2-clause-torn g c = told_on Anchor c.args.number 2 _ _ _ c.sync-2.ensures.told (told_both Anchor c.args.number 1 2 _ _ (g.V.Store.told c.sync.new.self) _ (omega arith) c.write_at.ensures.torn c.sync.ensures.told c.write_at-2.ensures.torn)

pub returns-clause-torn : goal.returns-clause-torn
returns-clause-torn g c = told_on Anchor c.args.number 2 _ _ _ c.sync-2.ensures.told (told_both Anchor c.args.number 1 2 _ _ (g.V.Store.told c.sync.new.self) _ (omega arith) c.write_at.ensures.torn c.sync.ensures.told c.write_at-2.ensures.torn)

pub returns-clause-written : goal.returns-clause-written
returns-clause-written g c =
    told_gates c.args.number (g.V.Store.told c.args.store.now) (g.V.Store.told c.write_at.new.self) (g.V.Store.told c.sync.new.self) (g.V.Store.told c.write_at-2.new.self) (g.V.Store.told c.sync-2.new.self)
    (inside_now c.args.number (g.V.Store.may_leave c.args.store.now) _ c.requires.anchored (g.met.V.Store.reads_now c.args.store.now))
    c.in_ok-write_at.ensures.written c.sync.ensures.told c.in_ok-write_at-2.ensures.written c.sync-2.ensures.told

-- ---- what a crash leaves
pub returns-in_err-write_at-clause-any_moment : goal.returns-in_err-write_at-clause-any_moment
returns-in_err-write_at-clause-any_moment g c =
    if_some_both _ _ c.requires.anchored (λ anchored.
    let s0 = c.args.store.now in
    if_some _ (staged_run g.V.Store.moment g.V.Store.left_since c.args.number (g.V.Store.may_leave s0) _ anchored s0 c.write_at.new.self (λ f left. g.met.V.Store.only_now s0 f left) c.write_at.ensures.crash c.write_at.ensures.time)
    )

pub returns-in_err-sync-clause-any_moment : goal.returns-in_err-sync-clause-any_moment
returns-in_err-sync-clause-any_moment g c =
    if_some_both _ _ c.requires.anchored (λ anchored.
    let s0 = c.args.store.now in
    if_some _ (synced_run g.V.Store.moment g.V.Store.left_since c.args.number (g.V.Store.may_leave s0) _ anchored s0 c.write_at.new.self (λ f left. g.met.V.Store.only_now s0 f left) c.write_at.ensures.crash c.write_at.ensures.time c.sync.new.self _ c.sync.ensures.crash c.sync.ensures.time)
    )

pub returns-in_err-write_at-2-clause-any_moment : goal.returns-in_err-write_at-2-clause-any_moment
returns-in_err-write_at-2-clause-any_moment g c =
    if_some_both _ _ c.requires.anchored (λ anchored.
    let s0 = c.args.store.now in
    if_some_with _ _ (λ gate. opened_run g.V.Store.moment g.V.Store.left_since c.args.number (g.V.Store.may_leave s0) _ anchored s0 c.write_at.new.self (λ f left. g.met.V.Store.only_now s0 f left) c.write_at.ensures.crash c.write_at.ensures.time c.sync.new.self _ c.sync.ensures.crash c.sync.ensures.time c.write_at-2.new.self _ c.write_at-2.ensures.time gate)
    (gate_crash c.args.number (g.V.Store.may_leave s0) anchored _ _ _ _ _ (g.met.V.Store.reads_now s0) c.in_ok-write_at.ensures.written c.write_at.ensures.torn c.write_at.ensures.crash c.sync.ensures.crash c.in_ok-sync.ensures.durable c.write_at-2.ensures.crash)
    )

pub returns-in_err-sync-2-clause-any_moment : goal.returns-in_err-sync-2-clause-any_moment
returns-in_err-sync-2-clause-any_moment g c =
    if_some_both _ _ c.requires.anchored (λ anchored.
    let s0 = c.args.store.now in
    if_some_with _ _ (λ gate. whole_run g.V.Store.moment g.V.Store.left_since c.args.number (g.V.Store.may_leave s0) _ anchored s0 c.write_at.new.self (λ f left. g.met.V.Store.only_now s0 f left) c.write_at.ensures.crash c.write_at.ensures.time c.sync.new.self _ c.sync.ensures.crash c.sync.ensures.time c.write_at-2.new.self c.sync-2.new.self _ _ c.write_at-2.ensures.time c.sync-2.ensures.crash c.sync-2.ensures.time gate)
    (gate_crash c.args.number (g.V.Store.may_leave s0) anchored _ _ _ _ _ (g.met.V.Store.reads_now s0) c.in_ok-write_at.ensures.written c.write_at.ensures.torn c.write_at.ensures.crash c.sync.ensures.crash c.in_ok-sync.ensures.durable c.write_at-2.ensures.crash)
    )

pub returns-clause-any_moment : goal.returns-clause-any_moment
returns-clause-any_moment g c =
    if_some_both _ _ c.requires.anchored (λ anchored.
    let s0 = c.args.store.now in
    if_some_with _ _ (λ gate. whole_run g.V.Store.moment g.V.Store.left_since c.args.number (g.V.Store.may_leave s0) _ anchored s0 c.write_at.new.self (λ f left. g.met.V.Store.only_now s0 f left) c.write_at.ensures.crash c.write_at.ensures.time c.sync.new.self _ c.sync.ensures.crash c.sync.ensures.time c.write_at-2.new.self c.sync-2.new.self _ _ c.write_at-2.ensures.time c.sync-2.ensures.crash c.sync-2.ensures.time gate)
    (gate_crash c.args.number (g.V.Store.may_leave s0) anchored _ _ _ _ _ (g.met.V.Store.reads_now s0) c.in_ok-write_at.ensures.written c.write_at.ensures.torn c.write_at.ensures.crash c.sync.ensures.crash c.in_ok-sync.ensures.durable c.write_at-2.ensures.crash)
    )

pub returns-clause-moved : goal.returns-clause-moved
returns-clause-moved g c =
    if_some_both _ _ c.requires.anchored (λ anchored.
    let s0 = c.args.store.now in
    opened c.args.number (g.V.Store.may_leave s0) anchored (g.V.Store.told s0) (g.V.Store.told c.write_at.new.self) _ _ _ (g.met.V.Store.reads_now s0)
    c.in_ok-write_at.ensures.written c.write_at.ensures.torn c.write_at.ensures.crash c.sync.ensures.crash c.in_ok-sync.ensures.durable c.write_at-2.ensures.crash
    (g.V.Store.told c.sync.new.self) (g.V.Store.told c.write_at-2.new.self) _ c.sync.ensures.told c.in_ok-write_at-2.ensures.written c.write_at-2.ensures.torn c.sync-2.ensures.crash c.in_ok-sync-2.ensures.durable
    )
