use Rattle.dali_store.specs.Store.{file_of}
use Rattle.dali_crash.specs.Disks.Disks.{image_name}
use Rattle.dali_restart.proofs.Finding.{table_bad}
use Rattle.dali_restart.proofs.opening.read_image.Goals as goal

pub returns-in-Err-read_table-clause-bad : goal.returns-in-Err-read_table-clause-bad
returns-in-Err-read_table-clause-bad g c file at e =
    let b = c.in-Err-read_table.ensures.bad file at e in (
      b.0,
      table_bad (λ fs. file_of (image_name c.args.side) fs) c.args.expected.now c.in-Ok.header at (g.V.Store.told c.args.store.now) (g.V.Store.told c.read_checked.new.store) c.in-Ok.ensures.store.reads.same c.in-Ok.ensures.fits c.in-Ok.ensures.good c.in-Ok.ensures.ok b.1,
    )
