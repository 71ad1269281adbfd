use Rattle.std.proofs.Common.{◌≡◌, [], take, drop}
use Rattle.dali_replay.specs.Marking.{linked_after}
use Rattle.dali_replay.proofs.links.is_linked.Given as goal

abbrev pub invariant-loop-at : goal.invariant-loop-at
invariant-loop-at l = linked_after [] l.records l.marks l.txn l.block ≡ linked_after (take l.at l.records) (drop l.at l.records) (drop l.at l.marks) l.txn l.block
