use Rattle.std.proofs.Common.{◌≡◌, ◌-◌, ◌≤◌, [], length}
use Rattle.dali_claims.specs.Claims.{AreFresh}
use Rattle.dali_claims.specs.Rule.{hand}
use Rattle.dali_claims.proofs.claim.deal.Given as goal

abbrev pub invariant-loop-dealt : goal.invariant-loop-dealt
invariant-loop-dealt l = record {
  within : l.dealt ≤ l.seats;
  table : l.host.table_id ≡ l.board.table_id;
  host : l.host.me ≡ (hand (l.seats - l.dealt) [] 0, []);
  many : length l.list.items ≡ l.dealt;
  fresh : AreFresh l.board.table_id l.list.items;
}

abbrev pub decreases-loop-dealt : goal.decreases-loop-dealt
decreases-loop-dealt l = l.seats - l.dealt
