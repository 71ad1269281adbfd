use Rattle.std.proofs.Common.{◌≡◌, ◌+◌, ◌≤◌, sym, ap, subst, ◌∙◌, length}
use Rattle.std.specs.Prelude.{List, ◌++◌, Option, true, None}
use Rattle.dali_record.specs.declared.operations.Pending.{Pending}
use Rattle.dali_record.specs.declared.operations.Block.{Block}
use Rattle.dali_record.specs.Log.{undo_added}
use Rattle.dali_record.specs.Spelling.{IsBlock, is_forward}
use Rattle.dali_system.specs.declared.operation.Operation.{Operation}
use Rattle.dali_calls.specs.Steps.{adds, most, IsNextBlock}
use Rattle.dali_calls.specs.Plans.{Planned, IsWhole, is_back}
use Rattle.dali_calls.specs.Fields.{planned_of}
use Rattle.dali_calls.proofs.Wholes.{onward_spelled, onward_block, onward_room, onward_whole}
use Rattle.dali_calls.proofs.plan.Plan.commit_onward.Goals as goal

pub commit_op-requires-clause-spelled : goal.commit_op-requires-clause-spelled
commit_op-requires-clause-spelled c =
    let w = onward_spelled (planned_of c.self.inside) c.in-Some.operation.now c.self.invariant c.in-Some.ensures.some (ap is_back c.self.view_is ∙ c.requires.way) in
    let now = subst (λ (b : Block). IsBlock b × (is_forward b.op ≡ true)) (sym c.block-block.ensures) w in
    (c.self.invariant.txn, now.0, now.1)

pub note_change-requires : goal.note_change-requires
note_change-requires c = record {
  room =
      subst (λ (b : Block). length c.self.inside.changes + length (undo_added b b.undo) ≤ 2) (sym c.block-block.ensures)
      (onward_room (planned_of c.self.inside) c.in-Some.operation.now c.self.invariant c.in-Some.ensures.some (ap is_back c.self.view_is ∙ c.requires.way));
}

pub after-self-inside-requires-clause-next : goal.after-self-inside-requires-clause-next
after-self-inside-requires-clause-next c =
    subst (IsNextBlock c.self.inside.geometry c.self.inside.txn c.self.inside.call c.self.inside.stage) (sym c.block-block.ensures)
    (onward_block (planned_of c.self.inside) c.in-Some.operation.now c.self.invariant c.in-Some.ensures.some (ap is_back c.self.view_is ∙ c.requires.way))

pub invariant_of-self : goal.invariant_of-self
invariant_of-self c =
    let p : Planned = planned_of c.self.inside in
    subst (λ (o : Option Operation). IsWhole (record p { stage = c.after-self-inside.result; changes = c.note_change.new.changes; operation = o })) (sym c.close.ensures)
    (subst (λ (us : List Pending). IsWhole (record p { stage = c.after-self-inside.result; changes = us; operation = None }))
    (sym (c.note_change.ensures ∙ ap (λ (b : Block). p.changes ++ undo_added b b.undo) c.block-block.ensures))
    (onward_whole p c.in-Some.operation.now c.after-self-inside.result c.self.invariant c.in-Some.ensures.some (ap is_back c.self.view_is ∙ c.requires.way) c.after-self-inside.ensures.at
    (subst (λ (b : Block). adds b.outcome + most c.self.inside.stage ≤ most c.after-self-inside.result) c.block-block.ensures c.after-self-inside.ensures.few)))
