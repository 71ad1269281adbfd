use Rattle.std.proofs.Common.{◌≤◌, length, sym, ◌∙◌, ap, subst, slice_set}
use Rattle.std.proofs.lemmas.Result.{on_ok_weaker}
use Rattle.dali_memfiles.specs.Held.{HeldState, held_wrote}
use Rattle.dali_memfiles.specs.Shelf.{Shelf, reads, with_file}
use Rattle.dali_memfiles.proofs.Shelves.{lent_is, reads_set}
use Rattle.dali_memfiles.proofs.shelf.write_to.Goals as goal

pub write-requires : goal.write-requires
write-requires c =
    let lent = lent_is c.grow.new.files.items c.args.number c.index_mut.result.now c.index_mut.result.now c.in_ok-grow.ensures.long c.index_mut.ensures.value ∙ ap (λ (files : Shelf). files c.args.number) c.in_ok-grow.ensures.same in
    subst (λ (h : HeldState). c.args.at ≤ length h.file.seen) (sym lent) c.requires

pub returns-clause-ok : goal.returns-clause-ok
returns-clause-ok c =
    let lent = lent_is c.grow.new.files.items c.args.number c.index_mut.result.now c.index_mut.result.now c.in_ok-grow.ensures.long c.index_mut.ensures.value ∙ ap (λ (files : Shelf). files c.args.number) c.in_ok-grow.ensures.same in
    let new : HeldState = held_wrote c.args.at c.args.bytes.now (reads c.args.files.now.items c.args.number) in
    on_ok_weaker c.write.result
    (λ wrote.
    ap (λ (h : HeldState). reads (slice_set c.grow.new.files.items c.args.number h)) (wrote ∙ ap (held_wrote c.args.at c.args.bytes.now) lent)
    ∙ reads_set c.grow.new.files.items c.args.number new c.in_ok-grow.ensures.long
    ∙ ap (with_file c.args.number new) c.in_ok-grow.ensures.same)
    c.write.ensures.ok
