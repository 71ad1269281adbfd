use Rattle.std.proofs.Common.{◌≡◌, [], ◌++◌, vec_len}
use Rattle.dali_notes.specs.History.{AreOf}
use Rattle.dali_notes.proofs.Moves.{hands}
use Rattle.dali_notes.proofs.history.close.Given as goal

abbrev pub invariant-loop-note : goal.invariant-loop-note
invariant-loop-note g l = record {
  table : l.seat.table_id ≡ l.board.table_id;
  tables : AreOf l.board.table_id l.notes.items;
  empty : l.seat.me.1 ≡ [];
  seat : hands l.notes.items ++ l.seat.me.0 ≡ hands l.fn.notes.items;
}

abbrev pub decreases-loop-note : goal.decreases-loop-note
decreases-loop-note g l = vec_len l.notes
