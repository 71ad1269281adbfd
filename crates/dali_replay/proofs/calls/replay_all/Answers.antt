use Rattle.std.proofs.Common.{◌+◌, true, false, arith}
use Rattle.dali_replay.proofs.Follows.{all_on, all_stop}
use Rattle.dali_replay.proofs.calls.replay_all.Goals as goal

pub loop-record-preserved : goal.loop-record-preserved
loop-record-preserved c = all_on c.args.deleted.now c.args.log.now c.loop-record.record-index c.record-item.result c.args.map.now.entries c.loop-record.map.entries c.replay_commit.new.map.entries true (omega arith) c.record-item.is c.loop-record.invariant (rw c.if-not-branch.false at c.in_ok-replay_commit.ensures)

pub returns-then-not-branch : goal.returns-then-not-branch
returns-then-not-branch c = all_stop c.args.deleted.now c.args.log.now (c.loop-record.record-index + 1) c.args.map.now.entries c.replay_commit.new.map.entries (all_on c.args.deleted.now c.args.log.now c.loop-record.record-index c.record-item.result c.args.map.now.entries c.loop-record.map.entries c.replay_commit.new.map.entries false (omega arith) c.record-item.is c.loop-record.invariant (rw c.if-not-branch.true at c.in_ok-replay_commit.ensures))
