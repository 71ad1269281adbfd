use Rattle.std.proofs.Common.{◌≡◌, ◌≤◌, ◌+◌, ℕ, take}
use Rattle.std.specs.Prelude.{◌||◌}
use Rattle.std.specs.HashSet.{spare}
use Rattle.dali_record.specs.Damage.{has}
use Rattle.dali_redo.specs.Taint.Tables.{has_item}
use Rattle.dali_redo.proofs.TaintLemmas.Bits.{keys}
use Rattle.dali_redo.proofs.taint.marks.mark_undone.Given as goal

abbrev pub invariant-loop-pending : goal.invariant-loop-pending
invariant-loop-pending l = ((k : ℕ) → has_item l.items k ≡ (has_item l.initial.items k || has (keys (take l.pending-index l.undos)) k)) × (spare l.initial.items ≤ spare l.items + l.pending-index)
