use Rattle.dali_lists.proofs.Options.{if_some_then}
use Rattle.dali_verify.proofs.Logs.{whole}
use Rattle.dali_verify.proofs.reading.whole_log.Goals as goal

pub returns-clause-log : goal.returns-clause-log
returns-clause-log g c = if_some_then _ _ (g.V.Store.told c.args.vault.now.store) c.in_ok-log.ensures.file (λ fs file. whole fs.log c.args.system.now.state _ c.add_waiting.new.records.items file c.in_ok-add_waiting.ensures.ok)
