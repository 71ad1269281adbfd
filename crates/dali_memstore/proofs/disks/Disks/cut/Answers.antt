use Rattle.dali_store.specs.declared.store.FileName.TheVariants.{Log, ImageA, ImageB, Anchor}
use Rattle.dali_memstore.proofs.disks.Disks.cut.Goals as goal

pub cut-requires-clause-sound : goal.cut-requires-clause-sound
cut-requires-clause-sound c = c.requires Log

pub cut-requires-2-clause-sound : goal.cut-requires-2-clause-sound
cut-requires-2-clause-sound c = c.requires ImageA

pub cut-requires-3-clause-sound : goal.cut-requires-3-clause-sound
cut-requires-3-clause-sound c = c.requires ImageB

pub cut-requires-4-clause-sound : goal.cut-requires-4-clause-sound
cut-requires-4-clause-sound c = c.requires Anchor
