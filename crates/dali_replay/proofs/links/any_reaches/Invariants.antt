use Rattle.std.proofs.Common.{◌≡◌, false, take}
use Rattle.std.specs.List.{list_any}
use Rattle.dali_replay.specs.Marking.{reaches}
use Rattle.dali_replay.proofs.links.any_reaches.Given as goal

abbrev pub invariant-loop-record : goal.invariant-loop-record
invariant-loop-record l = list_any (reaches l.txn l.block) (take l.record-index l.records) ≡ false
