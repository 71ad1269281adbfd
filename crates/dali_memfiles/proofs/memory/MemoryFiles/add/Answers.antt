use Rattle.std.proofs.Common.{ℕ, sym, ◌∙◌, ap}
use Rattle.dali_memfiles.specs.Held.{held_wrote}
use Rattle.dali_memfiles.specs.Shelf.{Shelf, shelf, with_file}
use Rattle.dali_memfiles.specs.declared.event.Event.TheVariants.{Wrote}
use Rattle.dali_memfiles.proofs.Shelves.{shelf_push}
use Rattle.dali_memfiles.proofs.memory.MemoryFiles.add.Goals as goal

pub invariant_of-self-2 : goal.invariant_of-self-2
invariant_of-self-2 c =
    c.in_ok-write_to.ensures.ok
    ∙ ap (λ (files : Shelf). with_file c.number_of.result (held_wrote c.args.at c.args.bytes.now (files c.number_of.result)) files) c.self.invariant
    ∙ ap (λ (n : ℕ). with_file n (held_wrote c.args.at c.args.bytes.now (shelf c.self.inside.past.events n)) (shelf c.self.inside.past.events)) c.number_of.ensures
    ∙ sym (shelf_push c.self.inside.past.events c.and-self-inside.result.events (Wrote c.args.file c.args.at c.args.bytes.now) c.and-self-inside.ensures)
