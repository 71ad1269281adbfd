use Rattle.std.proofs.Common.{length, ℕ, sym, ◌∙◌, ap, arith}
use Rattle.dali_memfiles.specs.Held.{held_removed}
use Rattle.dali_memfiles.specs.Shelf.{Shelf, reads, shelf, with_file}
use Rattle.dali_memfiles.specs.declared.event.Event.TheVariants.{Removed}
use Rattle.dali_memfiles.proofs.Shelves.{written_back, shelf_push}
use Rattle.dali_memfiles.proofs.memory.MemoryFiles.take_away.Goals as goal

pub invariant_of-self : goal.invariant_of-self
invariant_of-self c =
    let size = ap length c.deref_mut.ensures.value in
    ap reads (written_back c.self.inside.files.len c.remove_of.new.files c.self.inside.files.items (omega (arith, c.deref_mut.ensures.len, size)) (omega (arith, c.remove_of.ensures.size, size)))
    ∙ c.remove_of.ensures.reads
    ∙ ap (λ (files : Shelf). with_file c.number_of-number.result (held_removed (files c.number_of-number.result)) files) (ap reads c.deref_mut.ensures.value ∙ c.self.invariant)
    ∙ ap (λ (n : ℕ). with_file n (held_removed (shelf c.self.inside.past.events n)) (shelf c.self.inside.past.events)) c.number_of-number.ensures
    ∙ sym (shelf_push c.self.inside.past.events c.and-self-inside.result.events (Removed c.args.file) c.and-self-inside.ensures)
