use Rattle.std.proofs.Common.{refl, arith}
use Rattle.std.proofs.lemmas.Option.{slice_get-get_or}
use Rattle.dali_calls.proofs.Flags.{flags_same, flags_set, flags_further}
use Rattle.dali_calls.proofs.Others.{promises_further}
use Rattle.dali_calls.proofs.SingleLemmas.Flags.{freed_flag, left_flag}
use Rattle.dali_calls.proofs.SingleLemmas.Settled.{none_freed, next_further, those_left, removal_stuck, promised_further, promised_still, promised_one, removal_there, free_there, free_further, free_refused}
use Rattle.dali_calls.proofs.single.settling.free_all.Goals as goal

pub loop-removal-init : goal.loop-removal-init
loop-removal-init c = record {
  goes = none_freed c.args.regions.now c.args.system.now.state c.args.txn c.args.removals.now c.requires.whole c.requires.may c.requires.committed;
  next = omega arith;
  promised = λ h. h;
  promises = λ u e. refl;
  flags = flags_same c.args.regions.now;
}

pub returns-in-Err-clause-err : goal.returns-in-Err-clause-err
returns-in-Err-clause-err c =
    let goes = removal_there c.args.regions.now c.loop-removal.regions c.args.system.now.state c.loop-removal.system.state c.args.txn c.loop-removal.removal-index c.args.removals.now _ c.loop-removal-test.true c.loop-removal.invariant.goes in
    let there = free_there c.args.regions.now c.loop-removal.regions c.args.system.now.state c.loop-removal.system.state c.args.txn c.args.removals.now _ _ goes in
    let left = free_refused c.args.regions.now c.loop-removal.regions c.args.system.now.state c.loop-removal.system c.free.new.system c.args.txn _ c.args.removals.now _ _ c.free.new.region goes (slice_get-get_or c.loop-removal.regions _ _ there) c.in-Err.ensures.err.0 c.in-Err.ensures.err.1 in
    those_left c.args.regions.now _ c.args.system.now.state c.loop-removal.system c.free.new.system c.args.txn c.loop-removal.removal-index c.args.removals.now _ c.loop-removal-test.true c.loop-removal.invariant.next c.in-Err.ensures.err.0 left

pub loop-removal-preserved : goal.loop-removal-preserved
loop-removal-preserved c =
    let goes = removal_there c.args.regions.now c.loop-removal.regions c.args.system.now.state c.loop-removal.system.state c.args.txn c.loop-removal.removal-index c.args.removals.now _ c.loop-removal-test.true c.loop-removal.invariant.goes in
    let there = free_there c.args.regions.now c.loop-removal.regions c.args.system.now.state c.loop-removal.system.state c.args.txn c.args.removals.now _ _ goes in
    record {
      goes = free_further c.args.regions.now c.loop-removal.regions c.args.system.now.state c.loop-removal.system.state c.free.new.system.state c.args.txn c.args.removals.now _ _ _ c.free.new.region c.ranges.txn.fits goes (slice_get-get_or c.loop-removal.regions _ _ there) c.in-Ok.ensures.ok.1;
      next = next_further c.args.system.now.state c.loop-removal.system.state c.free.new.system.state c.args.txn c.loop-removal.removal-index _ _ c.free.new.region c.loop-removal.invariant.next c.in-Ok.ensures.ok.1;
      promised = λ h. promised_further c.loop-removal.system c.free.new.system c.args.txn c.loop-removal.removal-index c.args.removals.now c.loop-removal-test.true (c.loop-removal.invariant.promised h) c.in-Ok.ensures.kept;
      promises = promises_further c.args.system.now c.loop-removal.system c.free.new.system c.args.txn c.loop-removal.invariant.promises c.free.ensures.promises;
      flags = flags_further c.args.regions.now c.loop-removal.regions _ c.loop-removal.invariant.flags
          (flags_set c.loop-removal.regions _ _ c.free.new.region (slice_get-get_or c.loop-removal.regions _ _ there) (freed_flag _ _ c.free.new.region c.loop-removal.system.state c.free.new.system.state c.args.txn c.in-Ok.ensures.ok.1));
    }

pub returns-in-Err-clause-cause : goal.returns-in-Err-clause-cause
returns-in-Err-clause-cause c =
    let goes = removal_there c.args.regions.now c.loop-removal.regions c.args.system.now.state c.loop-removal.system.state c.args.txn c.loop-removal.removal-index c.args.removals.now _ c.loop-removal-test.true c.loop-removal.invariant.goes in
    let there = free_there c.args.regions.now c.loop-removal.regions c.args.system.now.state c.loop-removal.system.state c.args.txn c.args.removals.now _ _ goes in
    removal_stuck c.loop-removal.regions c.args.system.now.state c.loop-removal.system c.free.new.system c.loop-removal.removal-index c.args.removals.now _ _ c.free.new.region c.in-Err.cause c.loop-removal-test.true c.loop-removal.invariant.next c.in-Err.ensures.err.0 (slice_get-get_or c.loop-removal.regions _ c.free.new.region there) c.in-Err.ensures.cause

pub returns-in-Err-clause-promised : goal.returns-in-Err-clause-promised
returns-in-Err-clause-promised c = λ h. c.in-Err.ensures.promised (promised_one c.loop-removal.system c.args.txn c.loop-removal.removal-index c.args.removals.now c.loop-removal-test.true (c.loop-removal.invariant.promised h))

pub returns-in-Err-clause-still : goal.returns-in-Err-clause-still
returns-in-Err-clause-still c = λ h. promised_still c.args.system.now.state c.loop-removal.system c.free.new.system c.args.txn c.loop-removal.removal-index c.args.removals.now c.loop-removal.invariant.next c.in-Err.ensures.err.0 (c.loop-removal.invariant.promised h)

pub returns-in-Err-clause-promises : goal.returns-in-Err-clause-promises
returns-in-Err-clause-promises c = promises_further c.args.system.now c.loop-removal.system c.free.new.system c.args.txn c.loop-removal.invariant.promises c.free.ensures.promises

pub returns-in-Err-clause-flags : goal.returns-in-Err-clause-flags
returns-in-Err-clause-flags c =
    let goes = removal_there c.args.regions.now c.loop-removal.regions c.args.system.now.state c.loop-removal.system.state c.args.txn c.loop-removal.removal-index c.args.removals.now _ c.loop-removal-test.true c.loop-removal.invariant.goes in
    let there = free_there c.args.regions.now c.loop-removal.regions c.args.system.now.state c.loop-removal.system.state c.args.txn c.args.removals.now _ _ goes in
    flags_further c.args.regions.now c.loop-removal.regions _ c.loop-removal.invariant.flags
    (flags_set c.loop-removal.regions _ _ c.free.new.region (slice_get-get_or c.loop-removal.regions _ _ there) (left_flag c.args.txn _ c.free.new.region c.in-Err.ensures.err.1))
