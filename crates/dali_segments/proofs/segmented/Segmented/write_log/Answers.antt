use Rattle.dali_segments.proofs.Quiets.{cause_behind, cause_here}
use Rattle.dali_segments.proofs.Runs.{torn_behind_sync, crash_behind_sync, time_behind}
use Rattle.dali_segments.proofs.Turns.{can_moved, moved_place, moved_writes, moved_holds}
use Rattle.dali_segments.proofs.segmented.Segmented.write_log.Goals as goal

pub write_parts-requires-clause-inside : goal.write_parts-requires-clause-inside
write_parts-requires-clause-inside g c =
    let can = can_moved c.args.self.now.size c.args.self.now.dropped c.settle_below.new.self.size c.settle_below.new.self.dropped c.args.at _ _ _ _ c.settle_below.ensures.extent.0 c.settle_below.ensures.extent.1 c.in-Some.ensures in
    (can.span.inside, (can.span.under, can.few))

pub write_parts-requires-clause-span : goal.write_parts-requires-clause-span
write_parts-requires-clause-span g c =
    let can = can_moved c.args.self.now.size c.args.self.now.dropped c.settle_below.new.self.size c.settle_below.new.self.dropped c.args.at _ _ _ _ c.settle_below.ensures.extent.0 c.settle_below.ensures.extent.1 c.in-Some.ensures in
    (can.span.begins, can.span.ends)

pub write_parts-requires-clause-kept : goal.write_parts-requires-clause-kept
write_parts-requires-clause-kept g c =
    let can = can_moved c.args.self.now.size c.args.self.now.dropped c.settle_below.new.self.size c.settle_below.new.self.dropped c.args.at _ _ _ _ c.settle_below.ensures.extent.0 c.settle_below.ensures.extent.1 c.in-Some.ensures in
    can.kept

pub write_parts-requires-clause-place : goal.write_parts-requires-clause-place
write_parts-requires-clause-place g c =
    let can = can_moved c.args.self.now.size c.args.self.now.dropped c.settle_below.new.self.size c.settle_below.new.self.dropped c.args.at _ _ _ _ c.settle_below.ensures.extent.0 c.settle_below.ensures.extent.1 c.in-Some.ensures in
    moved_place _ c.args.at can.span.place _ _ c.settle_below.ensures.told c.requires

pub returns-in_err-write_parts-clause-torn : goal.returns-in_err-write_parts-clause-torn
returns-in_err-write_parts-clause-torn g c =
    let can = can_moved c.args.self.now.size c.args.self.now.dropped c.settle_below.new.self.size c.settle_below.new.self.dropped c.args.at _ _ _ _ c.settle_below.ensures.extent.0 c.settle_below.ensures.extent.1 c.in-Some.ensures in
    let writes = moved_writes _ c.args.at _ can.span.place _ _ _ _ _ _ _ _ c.write_parts.ensures.writes in
    torn_behind_sync c.args.at _ _ _ _ c.settle_below.ensures.told writes.torn

pub returns-in_err-write_parts-clause-crash : goal.returns-in_err-write_parts-clause-crash
returns-in_err-write_parts-clause-crash g c =
    let can = can_moved c.args.self.now.size c.args.self.now.dropped c.settle_below.new.self.size c.settle_below.new.self.dropped c.args.at _ _ _ _ c.settle_below.ensures.extent.0 c.settle_below.ensures.extent.1 c.in-Some.ensures in
    let writes = moved_writes _ c.args.at _ can.span.place _ _ _ _ _ _ _ _ c.write_parts.ensures.writes in
    crash_behind_sync c.args.at _ _ _ _ c.settle_below.ensures.crash writes.crash

pub returns-in_err-write_parts-clause-time : goal.returns-in_err-write_parts-clause-time
returns-in_err-write_parts-clause-time g c =
    let can = can_moved c.args.self.now.size c.args.self.now.dropped c.settle_below.new.self.size c.settle_below.new.self.dropped c.args.at _ _ _ _ c.settle_below.ensures.extent.0 c.settle_below.ensures.extent.1 c.in-Some.ensures in
    let writes = moved_writes _ c.args.at _ can.span.place _ _ _ _ _ _ _ _ c.write_parts.ensures.writes in
    time_behind c.args.at _ _ _ _ _ _ _ _ _ _ _ c.settle_below.ensures.time writes

pub returns-in_err-write_parts-clause-cause : goal.returns-in_err-write_parts-clause-cause
returns-in_err-write_parts-clause-cause g c =
    cause_behind _ _ _ _ _ c.from_residual-in_err-write_parts.result c.in_ok-settle_below.ensures.cause.kept c.from_residual-in_err-write_parts.ensures.0 c.write_parts.ensures.extent.1.1
    c.write_parts.ensures.cause.later c.in_err-write_parts.ensures.cause.failed

pub returns-clause-written : goal.returns-clause-written
returns-clause-written g c =
    let can = can_moved c.args.self.now.size c.args.self.now.dropped c.settle_below.new.self.size c.settle_below.new.self.dropped c.args.at _ _ _ _ c.settle_below.ensures.extent.0 c.settle_below.ensures.extent.1 c.in-Some.ensures in
    moved_holds _ c.args.at _ can.span.place _ _ _ c.settle_below.ensures.told c.in_ok-write_parts.ensures.written

pub returns-clause-torn : goal.returns-clause-torn
returns-clause-torn g c =
    let can = can_moved c.args.self.now.size c.args.self.now.dropped c.settle_below.new.self.size c.settle_below.new.self.dropped c.args.at _ _ _ _ c.settle_below.ensures.extent.0 c.settle_below.ensures.extent.1 c.in-Some.ensures in
    let writes = moved_writes _ c.args.at _ can.span.place _ _ _ _ _ _ _ _ c.write_parts.ensures.writes in
    torn_behind_sync c.args.at _ _ _ _ c.settle_below.ensures.told writes.torn

pub returns-clause-crash : goal.returns-clause-crash
returns-clause-crash g c =
    let can = can_moved c.args.self.now.size c.args.self.now.dropped c.settle_below.new.self.size c.settle_below.new.self.dropped c.args.at _ _ _ _ c.settle_below.ensures.extent.0 c.settle_below.ensures.extent.1 c.in-Some.ensures in
    let writes = moved_writes _ c.args.at _ can.span.place _ _ _ _ _ _ _ _ c.write_parts.ensures.writes in
    crash_behind_sync c.args.at _ _ _ _ c.settle_below.ensures.crash writes.crash

pub returns-clause-time : goal.returns-clause-time
returns-clause-time g c =
    let can = can_moved c.args.self.now.size c.args.self.now.dropped c.settle_below.new.self.size c.settle_below.new.self.dropped c.args.at _ _ _ _ c.settle_below.ensures.extent.0 c.settle_below.ensures.extent.1 c.in-Some.ensures in
    let writes = moved_writes _ c.args.at _ can.span.place _ _ _ _ _ _ _ _ c.write_parts.ensures.writes in
    time_behind c.args.at _ _ _ _ _ _ _ _ _ _ _ c.settle_below.ensures.time writes

pub returns-in_default-clause-cause : goal.returns-in_default-clause-cause
returns-in_default-clause-cause g c = cause_here _ _ _ c.refuse.result c.refuse.ensures.fits c.refuse.ensures.more c.refuse.ensures.err
