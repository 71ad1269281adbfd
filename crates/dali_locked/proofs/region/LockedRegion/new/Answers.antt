use Rattle.std.proofs.Common.{◌≡◌, [], length, Some, ap, sym, ◌∙◌}
use Rattle.std.specs.Prelude.{slice_get}
use Rattle.dali_concurrent.specs.Entries.{Passed}
use Rattle.dali_concurrent.specs.Told.{plain}
use Rattle.dali_locked.specs.Regions.{op_regions}
use Rattle.dali_locked.proofs.region.LockedRegion.new.Goals as goal

pub invariant_of-result : goal.invariant_of-result
invariant_of-result g c = record {
  home = c.requires.note.0;
  numbered = c.requires.note.1;
  led = c.requires.led;
  told = c.requires.told;
  operation = record { count = ap (λ T. length (op_regions c.args.number T)) c.requires.fresh; last = λ i h o e. absurd (cc) };
  passed = record { below = λ i b k right at. absurd (let none : slice_get [] i ≡ Some (k, Passed c.args.number b right) = ap (λ T. slice_get (plain T) i) (sym c.requires.fresh) ∙ at in cc); last = λ b e. absurd (cc) };
}
