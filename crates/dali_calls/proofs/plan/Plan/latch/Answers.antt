use Rattle.std.proofs.Common.{ap, sym, subst, ◌∙◌}
use Rattle.dali_calls.specs.Plans.{IsWhole, plan_next}
use Rattle.dali_calls.specs.Fields.{planned_of}
use Rattle.dali_calls.proofs.Nexts.{next_spelled}
use Rattle.dali_calls.proofs.Wholes.{started_whole}
use Rattle.dali_calls.proofs.plan.Plan.latch.Goals as goal

pub start-requires : goal.start-requires
start-requires c = next_spelled c.args.self.now c.in-Some.number c.in-Some.op (subst IsWhole c.self.view_is c.self.invariant) (sym c.in-Some.is ∙ c.next.ensures)

pub invariant_of-self-2 : goal.invariant_of-self-2
invariant_of-self-2 c =
    started_whole (planned_of c.self.inside) c.start.new.self c.args.region.now.words c.key_of.result c.in-Some.number c.in-Some.op c.self.invariant
    (ap plan_next c.self.view_is ∙ sym (sym c.in-Some.is ∙ c.next.ensures)) (sym c.key_of.ensures) c.in_ok-start.ensures.made
