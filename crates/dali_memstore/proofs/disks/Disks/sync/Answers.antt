use Rattle.dali_store.specs.declared.store.FileName.TheVariants.{Log, ImageA, ImageB, Anchor}
use Rattle.dali_memstore.proofs.disks.Disks.sync.Goals as goal

pub sync-requires : goal.sync-requires
sync-requires c = c.requires Log

pub sync-requires-in-ImageA : goal.sync-requires-in-ImageA
sync-requires-in-ImageA c = c.requires ImageA

pub sync-requires-in-ImageB : goal.sync-requires-in-ImageB
sync-requires-in-ImageB c = c.requires ImageB

pub sync-requires-in-Anchor : goal.sync-requires-in-Anchor
sync-requires-in-Anchor c = c.requires Anchor
