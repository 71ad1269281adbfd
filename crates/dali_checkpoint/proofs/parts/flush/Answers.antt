use Rattle.dali_store.specs.declared.store.FileName.TheVariants.{Log}
use Rattle.dali_checkpoint.proofs.Lengths.{torn_length}
use Rattle.dali_checkpoint.proofs.parts.flush.Goals as goal

pub returns-in-Ok-clause-files : goal.returns-in-Ok-clause-files
returns-in-Ok-clause-files g c = torn_length Log c.args.vault.now.end c.write_out.ensures.torn.0 (g.V.Store.told c.args.vault.now.store) (g.V.Store.told c.write_out.new.vault.store) c.write_out.ensures.torn.1

pub returns-in-Err-clause-files : goal.returns-in-Err-clause-files
returns-in-Err-clause-files g c = torn_length Log c.args.vault.now.end c.write_out.ensures.torn.0 (g.V.Store.told c.args.vault.now.store) (g.V.Store.told c.write_out.new.vault.store) c.write_out.ensures.torn.1
