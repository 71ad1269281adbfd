use Rattle.std.proofs.Common.{◌≡◌, ◌<◌, length, refl, sym, ◌∙◌, arith}
use Rattle.dali_region.specs.Fields.{state_of}
use Rattle.dali_region.proofs.Holds.{poked_keeps, poked_is, to_same}
use Rattle.dali_region.proofs.Olds.{poked_back}
use Rattle.dali_region.proofs.Region.poke.Goals as goal

pub invariant_of-self : goal.invariant_of-self
invariant_of-self c =
    let even : length c.self.inside.olds ≡ length c.self.inside.words = c.self.told.1 ∙ sym c.self.told.0 in
    let within : c.args.word < length c.self.inside.words = omega (arith, c.self.told.0, c.requires.in_range) in
    let back = poked_back c.self.inside.hold c.args.word c.args.mask c.self.inside.olds c.self.inside.words c.damage.new.words even within c.damage.ensures in
    rw (c.poke.ensures) (to_same _ _ (poked_is (state_of c.self.inside) (state_of c.self.inside) c.args.word c.args.mask c.damage.new.words _ refl c.damage.ensures back) (poked_keeps (state_of c.self.inside) c.args.word c.args.mask c.self.invariant c.requires.in_range c.ranges.mask.fits))

pub returns-clause-protected : goal.returns-clause-protected
returns-clause-protected c = invariant_of-self c

pub returns-clause-after : goal.returns-clause-after
returns-clause-after c =
    let even : length c.self.inside.olds ≡ length c.self.inside.words = c.self.told.1 ∙ sym c.self.told.0 in
    let within : c.args.word < length c.self.inside.words = omega (arith, c.self.told.0, c.requires.in_range) in
    let back = poked_back c.self.inside.hold c.args.word c.args.mask c.self.inside.olds c.self.inside.words c.damage.new.words even within c.damage.ensures in
    rw (c.poke.ensures) (poked_is (state_of c.self.inside) c.args.self.now c.args.word c.args.mask c.damage.new.words _ c.self.view_is c.damage.ensures back)
