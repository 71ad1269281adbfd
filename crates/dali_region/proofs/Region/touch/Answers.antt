use Rattle.std.proofs.Common.{◌<◌, ◌^◌, subst, arith, rules}
use Rattle.std.proofs.lemmas.Grind.{common_steps}
use Rattle.dali_region.specs.State.{RegionState, IsProtected, touched}
use Rattle.dali_region.specs.Fields.{state_of}
use Rattle.dali_region.proofs.Holds.{touched_keeps, to_same}
use Rattle.dali_region.proofs.Olds.{restored_nothing}
use Rattle.dali_region.proofs.Region.touch.Goals as goal
use Rattle.dali_region.proofs.Region.touch.Goals.{then-hold-ne0, else-hold-ne0}

pub returns-clause-after : goal.returns-clause-after
returns-clause-after c = elim c.if-hold-ne0.branch [
  | then-hold-ne0 w ↦ rw (c.touch.ensures, c.saturating_add-self-inside.ensures, w.self-inside-is, restored_nothing c.self.inside.olds c.self.inside.words) grind (arith, common_steps)
  | else-hold-ne0 w ↦ rw (c.touch.ensures, c.saturating_add-self-inside.ensures, w.self-inside-is, restored_nothing c.self.inside.olds c.self.inside.words) grind (arith, common_steps)
]

pub returns-clause-protected : goal.returns-clause-protected
returns-clause-protected c =
    let small : c.self.inside.touches < 2 ^ 64 = search rules in
    to_same _ _ (returns-clause-after c) (subst (λ (g : RegionState). IsProtected (touched g)) c.self.view_is (touched_keeps (state_of c.self.inside) c.self.invariant small))

pub invariant_of-self : goal.invariant_of-self
invariant_of-self c = returns-clause-protected c
