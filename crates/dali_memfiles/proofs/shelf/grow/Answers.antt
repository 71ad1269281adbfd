use Rattle.std.proofs.Common.{◌∷◌, [], ◌++◌, ◌∙◌, ap}
use Rattle.dali_memfiles.specs.Held.{HeldState}
use Rattle.dali_memfiles.specs.Shelf.{reads}
use Rattle.dali_memfiles.proofs.Shelves.{reads_more}
use Rattle.dali_memfiles.proofs.shelf.grow.Goals as goal

pub loop-alloc-preserved : goal.loop-alloc-preserved
loop-alloc-preserved c =
    ap reads (c.in_ok-push.ensures.items ∙ ap (λ (h : HeldState). c.loop-alloc.files.items ++ h ∷ []) c.new.ensures)
    ∙ reads_more c.loop-alloc.files.items
    ∙ c.loop-alloc.invariant
