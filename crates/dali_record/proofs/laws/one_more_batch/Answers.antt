use Rattle.dali_record.proofs.Batches.{fits_more, fits_restarted}
use Rattle.dali_record.proofs.laws.one_more_batch.Goals as goal

pub returns : goal.returns
returns c = record { going_on = fits_more; restarted = fits_restarted }
