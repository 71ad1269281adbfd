use Rattle.std.proofs.Common.{◌≡◌, drop}
use Rattle.std.specs.List.{list_all}
use Rattle.dali_transactions.specs.Guards.{is_covered}
use Rattle.dali_transactions.proofs.guards.are_covered.Given as goal

abbrev pub invariant-loop-undo : goal.invariant-loop-undo
invariant-loop-undo l = record { rest : list_all (is_covered l.system.state l.txn) l.undos ≡ list_all (is_covered l.system.state l.txn) (drop l.undo-index l.undos) }
