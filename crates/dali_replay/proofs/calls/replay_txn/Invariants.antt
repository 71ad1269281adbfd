use Rattle.std.proofs.Common.{true, take}
use Rattle.dali_record.specs.Log.{calls_of}
use Rattle.dali_replay.specs.Walking.{calls_made}
use Rattle.dali_replay.specs.Following.{Follows}
use Rattle.dali_replay.proofs.calls.replay_txn.Given as goal

abbrev pub invariant-loop-record : goal.invariant-loop-record
invariant-loop-record l = Follows (λ m. calls_made m (calls_of l.txn (take l.record-index l.log))) l.initial.map.entries l.map.entries true
