use Rattle.std.proofs.Common.{◌≡◌, length, sym, ◌∙◌, ap, arith}
use Rattle.dali_memfiles.specs.Held.{held_cut}
use Rattle.dali_memfiles.specs.Shelf.{reads, shelf}
use Rattle.dali_memfiles.specs.declared.event.Event.TheVariants.{Cut}
use Rattle.dali_memfiles.proofs.Shelves.{written_back, shelf_push}
use Rattle.dali_memfiles.proofs.memory.MemoryFiles.crash.Goals as goal

pub invariant_of-self : goal.invariant_of-self
invariant_of-self c =
    let size = ap length c.deref_mut.ensures.value in
    let same : reads c.deref_mut.result.now ≡ shelf c.self.inside.past.events = ap reads c.deref_mut.ensures.value ∙ c.self.invariant in
    ap reads (written_back c.self.inside.files.len c.cut_all.new.files c.self.inside.files.items (omega (arith, c.deref_mut.ensures.len, size)) (omega (arith, c.cut_all.ensures.size, size)))
    ∙ c.cut_all.ensures.reads
    ∙ (λ i n. held_cut c.args.choice n (same i n))
    ∙ sym (shelf_push c.self.inside.past.events c.and-self-inside.result.events (Cut c.args.choice) c.and-self-inside.ensures)
