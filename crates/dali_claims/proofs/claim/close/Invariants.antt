use Rattle.std.proofs.Common.{◌≡◌, ℕ, ◌+◌, [], length, vec_len}
use Rattle.dali_claims.specs.Claims.{AreOf, times, drawn_by, over_by}
use Rattle.dali_claims.proofs.claim.close.Given as goal

abbrev pub invariant-loop-taken : goal.invariant-loop-taken
invariant-loop-taken g l = record {
  table : l.seat.table_id ≡ l.board.table_id;
  tables : AreOf l.board.table_id l.seats.items;
  empty : l.seat.me.1 ≡ [];
  seats : l.seat.me.0.seats + length l.seats.items ≡ length l.fn.seats.items;
  drawn : (x : ℕ) → times x l.seat.me.0.drawn + drawn_by x l.seats.items ≡ drawn_by x l.fn.seats.items;
  over : l.seat.me.0.over + over_by l.seats.items ≡ over_by l.fn.seats.items;
}

abbrev pub decreases-loop-taken : goal.decreases-loop-taken
decreases-loop-taken g l = vec_len l.seats
