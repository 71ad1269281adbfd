use Rattle.dali_lists.proofs.Options.{if_some_then}
use Rattle.dali_verify.proofs.Logs.{long_found, short_bad}
use Rattle.dali_verify.proofs.reading.is_short.Goals.{in-Ok, in-Err-BadLog, in-Err}
use Rattle.dali_verify.proofs.reading.is_short.Goals as goal

pub returns-clause-short : goal.returns-clause-short
returns-clause-short g c = elim c.match-read_log.branch [
  | in-Ok w ↦ rw w.result-is (if_some_then _ _ (g.V.Store.told c.args.vault.now.store) w.in-Ok.ensures.found (λ fs found. long_found fs.log _ found))
  | in-Err-BadLog w ↦ rw w.result-is (if_some_then _ _ (g.V.Store.told c.args.vault.now.store) (w.in-Err-BadLog.ensures.bad w.in-Err-BadLog.at w.in-Err-BadLog.field-0-is) (λ fs is. short_bad fs.log _ is))
  | in-Err w ↦ rw w.result-is tt
]
