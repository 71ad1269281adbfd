use Rattle.std.proofs.Common.{◌≡◌, ◌<◌, ◌^◌, refl, ap, sym}
use Rattle.std.specs.Prelude.{bit_xor}
use Rattle.std.proofs.Common.{rules}
use Rattle.dali_region.specs.State.{restored, written}
use Rattle.dali_region.proofs.Holds.{reading_keeps, unwritten_hold, with_back}
use Rattle.dali_region.specs.Fields.{state_of}
use Rattle.dali_region.proofs.Region.note_reads.Goals as goal

pub invariant_of-self : goal.invariant_of-self
invariant_of-self c =
    let fits : c.unwrap-hold.result.read < 2 ^ 64 = search rules in
    let unwritten : c.unwrap-hold.result.write ≡ 0 = unwritten_hold (state_of c.self.inside) c.args.self.now c.unwrap-hold.result c.self.view_is c.unwrap-hold.ensures c.requires in
    with_back _ _ (ap (λ o. restored (written o) c.self.inside.olds c.self.inside.words) (sym c.unwrap-hold.ensures)) (reading_keeps (state_of c.self.inside) c.unwrap-hold.result c.args.mask _ _ c.self.invariant c.unwrap-hold.ensures unwritten fits refl (ap (bit_xor c.unwrap-hold.result.xor) c.xor_under.ensures))

pub returns-clause-protected : goal.returns-clause-protected
returns-clause-protected c = invariant_of-self c
