use Rattle.std.proofs.Common.{length}
use Rattle.dali_crash.specs.Disks.Disks.{image_name}
use Rattle.dali_checkpoint.proofs.Lengths.{torn_length}
use Rattle.dali_checkpoint.proofs.parts.write.Goals as goal

pub returns-in-Ok-clause-files : goal.returns-in-Ok-clause-files
returns-in-Ok-clause-files g c = torn_length (image_name c.args.side) c.args.at (length c.args.bytes.now) (g.V.Store.told c.args.vault.now.store) (g.V.Store.told c.image_write.new.vault.store) (c.image_write.ensures.torn c.requires.runs)

pub returns-in-Err-clause-files : goal.returns-in-Err-clause-files
returns-in-Err-clause-files g c = torn_length (image_name c.args.side) c.args.at (length c.args.bytes.now) (g.V.Store.told c.args.vault.now.store) (g.V.Store.told c.image_write.new.vault.store) (c.image_write.ensures.torn c.requires.runs)
