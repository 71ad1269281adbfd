use Rattle.std.proofs.Common.{◌≡◌, ℕ, false}
use Rattle.std.specs.Prelude.{◌==◌}
use Rattle.std.specs.BTreeMap.{btree_map_len}
use Rattle.dali_locks.specs.Pairs.{mode_at, IsMirror}
use Rattle.dali_locks.proofs.table.release.Given as goal

abbrev pub invariant-loop-key : goal.invariant-loop-key
invariant-loop-key l = record {
  others : (u k : ℕ) → (l.txn == u) ≡ false → mode_at l.held.entries u k ≡ mode_at l.fn.held.entries u k;
  mirror : IsMirror l.held.entries l.holders.entries;
}

abbrev pub decreases-loop-key : goal.decreases-loop-key
decreases-loop-key l = btree_map_len l.held
