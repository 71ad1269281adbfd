use Rattle.dali_log.proofs.Rows.{ends_of, first_log, grown}
use Rattle.dali_log.proofs.laws.logs_are_batches.Goals as goal

pub returns : goal.returns
returns c = record { ends = ends_of; first = first_log; grow = grown }
