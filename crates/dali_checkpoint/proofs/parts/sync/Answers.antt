use Rattle.dali_checkpoint.proofs.Lengths.{same_length}
use Rattle.dali_checkpoint.proofs.parts.sync.Goals as goal

pub returns-in-Ok-clause-files : goal.returns-in-Ok-clause-files
returns-in-Ok-clause-files g c = same_length (g.V.Store.told c.args.vault.now.store) (g.V.Store.told c.image_sync.new.vault.store) c.image_sync.ensures.told

pub returns-in-Err-clause-files : goal.returns-in-Err-clause-files
returns-in-Err-clause-files g c = same_length (g.V.Store.told c.args.vault.now.store) (g.V.Store.told c.image_sync.new.vault.store) c.image_sync.ensures.told
