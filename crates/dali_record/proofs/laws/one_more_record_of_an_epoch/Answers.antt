use Rattle.dali_record.proofs.Batches.{last_push, clean_push, failing_push, recovered_push, recovered_restarted}
use Rattle.dali_record.proofs.laws.one_more_record_of_an_epoch.Goals as goal

pub returns : goal.returns
returns c = record {
  longer = last_push;
  clean = clean_push;
  failing = failing_push;
  going_on = recovered_push;
  restarted = recovered_restarted;
}
