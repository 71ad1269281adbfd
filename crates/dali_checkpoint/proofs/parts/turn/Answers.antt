use Rattle.dali_store.specs.declared.store.FileName.TheVariants.{Anchor}
use Rattle.dali_checkpoint.proofs.Lengths.{torn_length}
use Rattle.dali_checkpoint.proofs.parts.turn.Goals as goal

pub returns-in-Ok-clause-files : goal.returns-in-Ok-clause-files
returns-in-Ok-clause-files g c = torn_length Anchor c.args.vault.now.current 2 (g.V.Store.told c.args.vault.now.store) (g.V.Store.told c.move_anchor.new.vault.store) (c.move_anchor.ensures.torn c.requires.runs)

pub returns-in-Err-clause-files : goal.returns-in-Err-clause-files
returns-in-Err-clause-files g c = torn_length Anchor c.args.vault.now.current 2 (g.V.Store.told c.args.vault.now.store) (g.V.Store.told c.move_anchor.new.vault.store) (c.move_anchor.ensures.torn c.requires.runs)
