use Rattle.std.proofs.Common.{◌≡◌, refl, sym, ◌∙◌, ap, subst}
use Rattle.dali_disk.specs.State.{State, state_of, begun_with, mixed}
use Rattle.dali_disk.specs.Sound.{kept_sound}
use Rattle.dali_disk.proofs.Images.{mixed_quiet}
use Rattle.dali_disk.proofs.disk.Disk.mix.Goals as goal

pub returns-else-self : goal.returns-else-self
returns-else-self c =
    let start = c.self.inside.start.items in
    let begun : begun_with start ≡ c.args.self.now =
    sym (ap (λ b. state_of b start c.self.inside.seen.items c.self.inside.synced.items c.self.inside.spans.items) c.if-self.false) ∙ c.self.view_is in
    subst (λ (s : State). s ≡ mixed c.args.choice c.args.file s) begun (sym (mixed_quiet c.args.choice c.args.file (begun_with start) (kept_sound (begun_with start)) refl))
