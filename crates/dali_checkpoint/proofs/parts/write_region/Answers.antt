use Rattle.dali_crash.specs.Disks.Disks.{image_name}
use Rattle.dali_checkpoint.proofs.Lengths.{torn_unless_stopped}
use Rattle.dali_checkpoint.proofs.parts.write_region.Goals as goal

pub returns-in_err-image_write-clause-files : goal.returns-in_err-image_write-clause-files
returns-in_err-image_write-clause-files g c = torn_unless_stopped g.V.Store.told c.args.vault.now c.image_write.new.vault (image_name c.args.side) _ _ (λ stopped. (c.image_write.ensures.stopped stopped).1) c.image_write.ensures.torn

pub returns-clause-files : goal.returns-clause-files
returns-clause-files g c = torn_unless_stopped g.V.Store.told c.args.vault.now c.image_write.new.vault (image_name c.args.side) _ _ (λ stopped. (c.image_write.ensures.stopped stopped).1) c.image_write.ensures.torn
