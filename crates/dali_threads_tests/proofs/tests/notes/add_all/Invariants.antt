use Rattle.std.proofs.Common.{◌≡◌}
use Rattle.dali_threads_tests.proofs.tests.notes.add_all.Given as goal

abbrev pub invariant-loop-number : goal.invariant-loop-number
invariant-loop-number g l = l.note.table ≡ l.notes.table
