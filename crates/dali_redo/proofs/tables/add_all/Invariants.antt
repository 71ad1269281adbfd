use Rattle.std.proofs.Common.{take, IsSome}
use Rattle.std.specs.FinMap.{get}
use Rattle.dali_redo.specs.Tables.{AddsAll}
use Rattle.dali_redo.proofs.tables.add_all.Given as goal

abbrev pub invariant-loop-undo : goal.invariant-loop-undo
invariant-loop-undo l = record { added : AddsAll l.initial.table l.table l.txn (take l.undo-index l.undos); there : IsSome (get l.table l.txn) }
