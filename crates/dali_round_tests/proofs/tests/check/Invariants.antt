use Rattle.std.specs.Prelude.{IfSome}
use Rattle.dali_core.specs.Cores.{HoldsPlaces}
use Rattle.dali_round_tests.proofs.tests.check.Given as goal

abbrev pub invariant-loop-text : goal.invariant-loop-text
invariant-loop-text g l = IfSome (g.V.Store.told l.core.vault.store) (HoldsPlaces l.core.regions.items)
