use Rattle.std.proofs.Common.{◌≡◌, ℕ, take}
use Rattle.dali_record.specs.Damage.{has}
use Rattle.dali_redo.specs.Taint.Tables.{has_number}
use Rattle.dali_redo.proofs.taint.taint.set_of.Given as goal

abbrev pub invariant-loop-number : goal.invariant-loop-number
invariant-loop-number l = (t : ℕ) → has_number l.set t ≡ has (take l.number-index l.numbers) t
