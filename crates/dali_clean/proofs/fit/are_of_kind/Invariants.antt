use Rattle.std.proofs.Common.{◌≡◌, drop}
use Rattle.std.specs.List.{list_all}
use Rattle.dali_runs.specs.Wholes.{is_of_kind}
use Rattle.dali_clean.proofs.fit.are_of_kind.Given as goal

abbrev pub invariant-loop-pending : goal.invariant-loop-pending
invariant-loop-pending l = list_all (is_of_kind l.geometry) l.undos ≡ list_all (is_of_kind l.geometry) (drop l.pending-index l.undos)
