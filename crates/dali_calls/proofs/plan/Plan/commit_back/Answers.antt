use Rattle.std.proofs.Common.{◌≡◌, sym, ap, subst, ◌∙◌}
use Rattle.std.specs.Prelude.{List, Option, true, None}
use Rattle.dali_record.specs.declared.operations.Pending.{Pending}
use Rattle.dali_record.specs.declared.operations.Block.{Block}
use Rattle.dali_record.specs.Spelling.{IsBlock, is_back as takes_back}
use Rattle.dali_system.specs.declared.operation.Operation.{Operation}
use Rattle.dali_calls.specs.Plans.{IsWhole, is_back}
use Rattle.dali_calls.specs.Fields.{planned_of}
use Rattle.dali_calls.proofs.Wholes.{back_spelled, back_whole}
use Rattle.dali_calls.proofs.plan.Plan.commit_back.Goals as goal

pub back_op-requires-clause-spelled : goal.back_op-requires-clause-spelled
back_op-requires-clause-spelled c =
    let w = back_spelled (planned_of c.self.inside) c.in-Some.operation.now c.self.invariant c.in-Some.ensures.some (ap is_back c.self.view_is ∙ c.requires.way) in
    let now = subst (λ (b : Block). IsBlock b × (takes_back b.op ≡ true)) (sym c.block.ensures) w in
    (c.self.invariant.txn, now.0, now.1)

pub invariant_of-self : goal.invariant_of-self
invariant_of-self c =
    subst (λ (o : Option Operation). IsWhole (record (planned_of c.self.inside) { changes = c.pop.new.self; operation = o })) (sym c.close.ensures)
    (subst (λ (us : List Pending). IsWhole (record (planned_of c.self.inside) { changes = us; operation = None })) (sym c.pop.ensures) (back_whole (planned_of c.self.inside) c.self.invariant))
