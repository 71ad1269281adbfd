use Rattle.std.proofs.Common.{◌∙◌, ap}
use Rattle.dali_memstore.proofs.Events.{wrote_law}
use Rattle.dali_memstore.specs.Memory.{push}
use Rattle.dali_memstore.specs.declared.event.Event.TheVariants.{Wrote}
use Rattle.dali_memstore.proofs.memory.MemoryStore.write_at.Goals as goal

pub returns-in-Ok-clause-files : goal.returns-in-Ok-clause-files
returns-in-Ok-clause-files c =
    wrote_law c.args.file c.args.at c.args.bytes.now _ _ (c.in-Ok.ensures.ok ∙ ap (push (Wrote c.args.file c.args.at c.args.bytes.now)) c.fails_or.ensures.history)
