use Rattle.std.proofs.Common.{◌≡◌, ◌-◌, ◌≤◌, [], length}
use Rattle.dali_notes.specs.History.{AreFresh}
use Rattle.dali_notes.specs.Kept.{fresh_from}
use Rattle.dali_notes.proofs.history.deal.Given as goal

abbrev pub invariant-loop-number : goal.invariant-loop-number
invariant-loop-number g l = record {
  within : l.number ≤ l.count;
  table : l.host.table_id ≡ l.board.table_id;
  host : l.host.me ≡ (fresh_from l.number (l.count - l.number), []);
  dealt : length l.notes.items ≡ l.number;
  fresh : AreFresh l.board.table_id 0 l.notes.items;
}

abbrev pub decreases-loop-number : goal.decreases-loop-number
decreases-loop-number g l = l.count - l.number
