use Rattle.std.proofs.Common.{◌≡◌, ◌∙◌, ◌≤◌, Err, length, subst, ap, arith}
use Rattle.dali_lists.proofs.Options.{if_some_then}
use Rattle.dali_store.specs.Store.{file_of}
use Rattle.dali_crash.specs.Disks.Disks.{image_name}
use Rattle.dali_crash.specs.Disks.Places
use Rattle.dali_image.specs.Decoding.{Fails, table_in}
use Rattle.dali_image.proofs.Bounds.{bad_within}
use Rattle.dali_image.proofs.Undos.{are_undos, table_read}
use Rattle.dali_image.proofs.reading.read_table.Goals as goal

pub overflow_add-result : goal.overflow_add-result
overflow_add-result g c =
    let table = table_in c.args.header.now.geometry c.args.header.now.next c.deref.result.now in
    let bad : table ≡ Err c.in-Err-Bad.at = subst (λ e. Fails e table) c.in-Err-Bad.field-0-is c.in-Err-Bad.ensures.read in
    let within : c.in-Err-Bad.at ≤ length c.deref.result.now = bad_within _ _ _ _ bad in
    omega (arith, within, c.deref.ensures.len, c.deref.ensures.value, c.in_ok-bytes.ensures.small, c.place_of-place.ensures)

pub returns-in-Ok-clause-ok : goal.returns-in-Ok-clause-ok
returns-in-Ok-clause-ok g c =
    if_some_then _ _ (g.V.Store.told c.args.store.now) c.in_ok-bytes.ensures.ok
    (λ fs read. table_read (file_of (image_name c.args.side) fs) c.args.header.now c.in-Ok.att c.deref.result.now c.place_of-place.result (c.place_of-place.ensures ∙ ap Places.place_of c.regions.ensures.count) read.0 (c.deref.ensures.value ∙ read.1) c.in-Ok.ensures.fits c.in-Ok.ensures.read)

pub returns-in-Ok-clause-undos : goal.returns-in-Ok-clause-undos
returns-in-Ok-clause-undos g c = are_undos c.args.header.now.geometry c.args.header.now.next c.deref.result.now c.in-Ok.att c.in-Ok.ensures.fits c.in-Ok.ensures.read
