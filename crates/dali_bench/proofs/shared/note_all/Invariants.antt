use Rattle.std.proofs.Common.{◌≡◌}
use Rattle.dali_bench.proofs.shared.note_all.Given as goal

abbrev pub invariant-loop-number : goal.invariant-loop-number
invariant-loop-number l = (l.writer.table ≡ l.notes.table) × (l.reader.table ≡ l.notes.table)
