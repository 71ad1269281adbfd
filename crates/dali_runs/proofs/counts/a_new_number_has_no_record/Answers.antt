use Rattle.dali_runs.proofs.CountsLemmas.NewNumbers.{unbegun_above}
use Rattle.dali_runs.proofs.counts.a_new_number_has_no_record.Goals as goal

pub returns : goal.returns
returns c = unbegun_above
