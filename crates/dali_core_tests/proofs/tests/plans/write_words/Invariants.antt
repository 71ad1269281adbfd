use Rattle.dali_system.specs.UnderWay.{OneIsUnderWay}
use Rattle.dali_core_tests.proofs.tests.plans.write_words.Given as goal

abbrev pub invariant-loop-words : goal.invariant-loop-words
invariant-loop-words l = record { under_way : OneIsUnderWay l.plan.operation l.region }
