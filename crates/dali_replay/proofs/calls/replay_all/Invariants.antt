use Rattle.std.proofs.Common.{true, take}
use Rattle.dali_record.specs.Log.{committed}
use Rattle.dali_replay.specs.Walking.{serial_made}
use Rattle.dali_replay.specs.Following.{Follows, survive_among}
use Rattle.dali_replay.proofs.calls.replay_all.Given as goal

abbrev pub invariant-loop-record : goal.invariant-loop-record
invariant-loop-record l = Follows (λ m. serial_made m (survive_among l.deleted (committed (take l.record-index l.log))) l.log) l.initial.map.entries l.map.entries true
