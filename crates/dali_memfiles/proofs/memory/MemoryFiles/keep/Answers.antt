use Rattle.std.proofs.Common.{length, ℕ, sym, ◌∙◌, ap, arith}
use Rattle.dali_memfiles.specs.Held.{held_kept}
use Rattle.dali_memfiles.specs.Shelf.{Shelf, reads, shelf, with_file}
use Rattle.dali_memfiles.specs.declared.event.Event.TheVariants.{Synced}
use Rattle.dali_memfiles.proofs.Shelves.{written_back, shelf_push}
use Rattle.dali_memfiles.proofs.memory.MemoryFiles.keep.Goals as goal

pub invariant_of-self : goal.invariant_of-self
invariant_of-self c =
    let size = ap length c.deref_mut.ensures.value in
    ap reads (written_back c.self.inside.files.len c.sync_of.new.files c.self.inside.files.items (omega (arith, c.deref_mut.ensures.len, size)) (omega (arith, c.sync_of.ensures.size, size)))
    ∙ c.sync_of.ensures.reads
    ∙ ap (λ (files : Shelf). with_file c.number_of.result (held_kept (files c.number_of.result)) files) (ap reads c.deref_mut.ensures.value ∙ c.self.invariant)
    ∙ ap (λ (n : ℕ). with_file n (held_kept (shelf c.self.inside.past.events n)) (shelf c.self.inside.past.events)) c.number_of.ensures
    ∙ sym (shelf_push c.self.inside.past.events c.and-self-inside.result.events (Synced c.args.file) c.and-self-inside.ensures)
