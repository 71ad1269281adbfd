use Rattle.std.proofs.Common.{◌≡◌, ◌++◌, take}
use Rattle.dali_report.specs.Texts.{value_text}
use Rattle.dali_report.proofs.leaves.put_value.Given as goal

abbrev pub invariant-loop-byte : goal.invariant-loop-byte
invariant-loop-byte l = l.into.items ≡ l.fn.into.items ++ value_text (take l.byte-index l.byte-items)
