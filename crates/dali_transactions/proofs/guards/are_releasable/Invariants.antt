use Rattle.std.proofs.Common.{◌≡◌, drop}
use Rattle.std.specs.List.{list_all}
use Rattle.dali_transactions.specs.Guards.{is_releasable_on}
use Rattle.dali_transactions.proofs.guards.are_releasable.Given as goal

abbrev pub invariant-loop-undo : goal.invariant-loop-undo
invariant-loop-undo l = record { rest : list_all (is_releasable_on l.regions) l.undos ≡ list_all (is_releasable_on l.regions) (drop l.undo-index l.undos) }
