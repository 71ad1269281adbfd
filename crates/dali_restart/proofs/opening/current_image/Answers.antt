use Rattle.std.proofs.Common.{◌≡◌, sym, subst, ◌∙◌}
use Rattle.std.specs.Prelude.{IfSome}
use Rattle.dali_region.specs.declared.Side.{Side}
use Rattle.dali_store.specs.Store.{file_of}
use Rattle.dali_crash.specs.Disks.Disks.{image_name}
use Rattle.dali_restart.specs.Opening.{BadImageAt, expected}
use Rattle.dali_restart.proofs.Causes.{image_bad}
use Rattle.dali_restart.proofs.Finding.{found_bad, stands_in_range}
use Rattle.dali_restart.proofs.opening.current_image.Goals as goal

pub returns-in-Err-read_image-clause-bad : goal.returns-in-Err-read_image-clause-bad
returns-in-Err-read_image-clause-bad g c file at h =
    let n = c.in-Err-read_image.ensures.bad file at (image_bad c.in-Err-read_image.error file at (sym c.into.ensures ∙ h)) in
    let told = g.V.Store.told in
    let x = expected c.args.geometry c.args.current c.in-Ok-length.log in
    found_bad c.args.geometry c.args.current c.in-Ok-length.log file at (told c.args.store.now) (told c.length.new.self) c.if-current-eq0.false c.length.ensures.told
    (subst (λ (side : Side). file ≡ image_name side) c.side_of.ensures n.0)
    c.in-Ok-length.ensures.length
    (subst (λ (side : Side). IfSome (told c.length.new.self) (λ fs. BadImageAt (file_of (image_name side) fs) x at)) c.side_of.ensures n.1)

pub returns-in-Ok-clause-in_range : goal.returns-in-Ok-clause-in_range
returns-in-Ok-clause-in_range g c = stands_in_range c.args.geometry c.in-Ok.image.header c.in-Ok.image.regions.items c.in-Ok.image.table c.in-Ok.ensures
