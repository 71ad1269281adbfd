use Rattle.std.proofs.Common.{◌≡◌, [], take, fold}
use Rattle.dali_replay.specs.Marking.{key_step}
use Rattle.dali_replay.proofs.links.undo_keys.Given as goal

abbrev pub invariant-loop-record : goal.invariant-loop-record
invariant-loop-record l = l.keys.items ≡ fold (key_step l.txn) [] (take l.record-index l.records)
