use Rattle.std.proofs.Common.{arith, subst}
use Rattle.dali_calls.specs.declared.stage.Stage.{Stage}
use Rattle.dali_calls.specs.Steps.{IsAt}
use Rattle.dali_calls.proofs.Follows.{fresh_region, put_region, somewhere_outcome, somewhere_follows, removing_follows, removing_at}
use Rattle.dali_calls.proofs.stage.Stage.after.Goals as goal

pub looked-requires-clause-region : goal.looked-requires-clause-region
looked-requires-clause-region c = fresh_region c.args.geometry.now c.args.txn c.args.call.now c.args.self c.args.block.now c.requires.next c.in-Fresh.is (omega (arith, c.index-sizes.ensures.range.some_index))

pub looked-requires-clause-count : goal.looked-requires-clause-count
looked-requires-clause-count c = omega (arith, c.index-sizes.ensures.range.some_index)

pub stored-requires-clause-high : goal.stored-requires-clause-high
stored-requires-clause-high c = put_region c.args.geometry.now c.args.txn c.args.call.now c.args.self c.args.block.now c.requires.next c.in-Nowhere.is (omega (arith, c.index-sizes.ensures.range.some_heap))

pub stored-requires-clause-tried : goal.stored-requires-clause-tried
stored-requires-clause-tried c = omega (arith, c.index-sizes.ensures.range.some_heap)

pub returns-in-Fresh-clause-at : goal.returns-in-Fresh-clause-at
returns-in-Fresh-clause-at c = c.looked.ensures.at c.args.call.now

pub returns-in-Walking-clause-at : goal.returns-in-Walking-clause-at
returns-in-Walking-clause-at c = c.looked-in-Walking.ensures.at c.args.call.now

pub found-requires-clause-outcome : goal.found-requires-clause-outcome
found-requires-clause-outcome c =
    somewhere_outcome c.args.geometry.now c.args.txn c.args.call.now c.args.self c.in-Somewhere.region c.in-Somewhere.entry c.in-Somewhere.place c.args.block.now c.requires.next c.in-Somewhere.is

pub returns-in-Somewhere-clause-follows : goal.returns-in-Somewhere-clause-follows
returns-in-Somewhere-clause-follows c =
    somewhere_follows c.args.geometry.now c.args.txn c.args.call.now c.args.self c.found.result c.in-Somewhere.region c.in-Somewhere.entry c.in-Somewhere.place c.args.block.now c.requires.next c.in-Somewhere.is c.found.ensures.follows

pub returns-in-Removing-clause-follows : goal.returns-in-Removing-clause-follows
returns-in-Removing-clause-follows c =
    removing_follows c.args.geometry.now c.args.txn c.args.call.now c.args.self c.removed.result c.in-Removing.region c.in-Removing.entry c.in-Removing.place c.args.block.now c.requires.next c.in-Removing.is
    (subst (λ (x : Stage). IsAt c.args.geometry.now c.args.call.now x) c.in-Removing.is c.requires.at).2 c.removed.ensures.follows

pub returns-in-Removing-clause-at : goal.returns-in-Removing-clause-at
returns-in-Removing-clause-at c =
    removing_at c.args.geometry.now c.args.call.now c.removed.result (subst (λ (x : Stage). IsAt c.args.geometry.now c.args.call.now x) c.in-Removing.is c.requires.at).2 c.removed.ensures.at
