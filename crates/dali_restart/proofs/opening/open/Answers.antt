use Rattle.dali_restart.proofs.Exact.{never_before}
use Rattle.dali_restart.proofs.Finding.{first_bad, image_bad}
use Rattle.dali_restart.proofs.opening.open.Goals as goal

pub returns-in-Err-clause-bad : goal.returns-in-Err-clause-bad
returns-in-Err-clause-bad g c file at h =
    first_bad file at (g.V.Store.told c.args.store.now) (g.V.Store.told c.sync_all.new.store) c.sync_all.ensures.reads.same (c.in-Err.ensures.bad file at h)

pub returns-in-Err-current_image-clause-bad : goal.returns-in-Err-current_image-clause-bad
returns-in-Err-current_image-clause-bad g c file at h =
    let told = g.V.Store.told in
    image_bad c.in-Ok.first.1 c.in-Ok.first.2 c.in-Ok.first.0 file at (told c.args.store.now) (told c.sync_all.new.store) (told c.read_first.new.store) c.sync_all.ensures.reads.same c.in-Ok.ensures.store.reads.same
    c.in-Ok.ensures.log c.in-Ok.ensures.anchor (c.in-Err-current_image.ensures.bad file at h)

pub returns-in-Err-seek-clause-bad : goal.returns-in-Err-seek-clause-bad
returns-in-Err-seek-clause-bad g c file at h =
    let told = g.V.Store.told in
    let image = c.in-Ok-current_image.image in
    never_before c.in-Ok.first.1 c.in-Ok.first.2 image.header image.regions.items image.table c.in-Ok.first.0 file at (told c.args.store.now) (told c.sync_all.new.store) (told c.read_first.new.store)
    c.sync_all.ensures.reads.same c.in-Ok.ensures.store.reads.same c.in-Ok.ensures.log c.in-Ok-current_image.ensures.ok c.in-Err-seek.ensures.err.1
