use Rattle.std.proofs.Common.{◌≡◌, ◌++◌, take, filter}
use Rattle.dali_record.specs.Log.{committed}
use Rattle.dali_replay.specs.Marking.{corrupted}
use Rattle.dali_replay.proofs.deleted.delete_in.Given as goal

abbrev pub invariant-loop-record : goal.invariant-loop-record
invariant-loop-record l = l.deleted.items ≡ l.initial.deleted.items ++ filter (corrupted l.records l.marks.items) (committed (take l.record-index l.records))
