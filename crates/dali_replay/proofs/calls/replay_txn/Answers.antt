use Rattle.std.proofs.Common.{◌+◌, true, false, arith}
use Rattle.dali_replay.proofs.Follows.{txn_on, txn_stop}
use Rattle.dali_replay.proofs.calls.replay_txn.Goals as goal

pub loop-record-preserved : goal.loop-record-preserved
loop-record-preserved c = txn_on c.args.txn c.args.log.now c.loop-record.record-index c.record-item.result c.args.map.now.entries c.loop-record.map.entries c.replay_record.new.map.entries true (omega arith) c.record-item.is c.loop-record.invariant (rw c.if-not-branch.false at c.in_ok-replay_record.ensures)

pub returns-then-not-branch : goal.returns-then-not-branch
returns-then-not-branch c = txn_stop c.args.txn c.args.log.now (c.loop-record.record-index + 1) c.args.map.now.entries c.replay_record.new.map.entries (txn_on c.args.txn c.args.log.now c.loop-record.record-index c.record-item.result c.args.map.now.entries c.loop-record.map.entries c.replay_record.new.map.entries false (omega arith) c.record-item.is c.loop-record.invariant (rw c.if-not-branch.true at c.in_ok-replay_record.ensures))
