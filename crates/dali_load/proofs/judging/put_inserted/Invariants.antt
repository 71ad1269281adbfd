use Rattle.std.proofs.Common.{◌≡◌, ◌++◌}
use Rattle.dali_load.specs.Answers.{inserted}
use Rattle.dali_load.proofs.judging.put_inserted.Given as goal

abbrev pub invariant-loop : goal.invariant-loop
invariant-loop l = l.text.items ≡ l.initial.text.items ++ inserted l.counter
