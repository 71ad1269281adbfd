use Rattle.dali_image.specs.Fields.{row_of}
use Rattle.dali_image.proofs.Tables.{present, pushed, committed}
use Rattle.dali_image.proofs.decoding.keep.Goals as goal

pub push-requires : goal.push-requires
push-requires c = record { present = present c.args.att.now c.loop-undo.att c.args.row.now.txn _ c.loop-undo.invariant }

pub loop-undo-preserved : goal.loop-undo-preserved
loop-undo-preserved c = pushed c.args.att.now c.loop-undo.att c.push.new.self c.args.row.now.txn c.loop-undo.undo-index c.args.row.now.undos.items c.deref-undo-items.result.now _ c.loop-undo-test.true c.deref-undo-items.ensures.value c.loop-undo.invariant c.in_ok-push.ensures.ok

pub set_state-requires : goal.set_state-requires
set_state-requires c = record { present = present c.args.att.now c.loop-undo.att c.args.row.now.txn _ c.loop-undo.invariant }

pub returns-then-row : goal.returns-then-row
returns-then-row c = committed c.args.att.now c.loop-undo.att c.set_state.new.self (row_of c.args.row.now) c.loop-undo.undo-index c.deref-undo-items.result.now c.loop-undo-test.false c.deref-undo-items.ensures.value c.if-row.true c.loop-undo.invariant c.set_state.ensures
