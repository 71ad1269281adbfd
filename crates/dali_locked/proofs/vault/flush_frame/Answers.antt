use Rattle.dali_store.specs.declared.store.FileName.TheVariants.{Log}
use Rattle.dali_core.proofs.Lengths.{torn_length}
use Rattle.dali_locked.proofs.VaultTelling.{written_in, fault_in}
use Rattle.dali_locked.specs.Begun.{homed}
use Rattle.dali_locked.proofs.vault.flush_frame.Goals as goal

pub tell_flush-requires-clause-written : goal.tell_flush-requires-clause-written
tell_flush-requires-clause-written g c κs within = (
  c.args.frame.now,
  c.args.vault.now,
  written_in g.V.Store g.B.VaultBeginning.began (homed g.H.Home.table g.B.Beginning.begun) c.args.note.now.seen c.args.frame.now c.args.vault.now c.flush.new.vault c.requires.home.1.2 c.requires.frame c.requires.runs.0
      (torn_length Log c.args.vault.now.end _ (g.V.Store.told c.args.vault.now.store) (g.V.Store.told c.flush.new.vault.store) (c.flush.ensures.torn c.requires.runs.0))
      (c.flush.ensures.any_moment c.requires.runs.0) c.in-Ok.ensures.ok,
)

pub returns-in-Err-clause-fault : goal.returns-in-Err-clause-fault
returns-in-Err-clause-fault g c =
    fault_in g.V.Store g.B.VaultBeginning.began (homed g.H.Home.table g.B.Beginning.begun) c.args.note.now.seen c.args.frame.now c.args.vault.now c.flush.new.vault c.requires.home.1.2 c.requires.frame c.requires.runs.0
    (torn_length Log c.args.vault.now.end _ (g.V.Store.told c.args.vault.now.store) (g.V.Store.told c.flush.new.vault.store) (c.flush.ensures.torn c.requires.runs.0))
    (c.flush.ensures.any_moment c.requires.runs.0) (c.in-Err.ensures.fault (c.in-Err.ensures.runs c.requires.runs.0))
