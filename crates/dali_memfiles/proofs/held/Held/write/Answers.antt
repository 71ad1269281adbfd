use Rattle.std.proofs.Common.{sym, subst}
use Rattle.dali_disk.specs.State.{State}
use Rattle.dali_memfiles.specs.Held.{HeldState, IsHeldSound}
use Rattle.dali_memfiles.specs.Laws.{held_wrote_sound}
use Rattle.dali_memfiles.proofs.Results.{by_result}
use Rattle.dali_memfiles.proofs.held.Held.write.Goals as goal

pub invariant_of-self : goal.invariant_of-self
invariant_of-self c =
    let old : HeldState = record { file = c.self.inside.file; before = c.self.inside.before } in
    by_result c.write.result
    (λ wrote. subst (λ (s : State). IsHeldSound (record old { file = s })) (sym wrote) (held_wrote_sound c.args.at c.args.bytes.now old c.self.invariant))
    (λ same. subst (λ (s : State). IsHeldSound (record old { file = s })) (sym same) c.self.invariant)
    c.write.ensures.ok c.write.ensures.err
