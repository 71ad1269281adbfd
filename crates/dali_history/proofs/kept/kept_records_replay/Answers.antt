use Rattle.dali_history.proofs.KeptLemmas.Law.{law_of_kept_records}
use Rattle.dali_history.proofs.kept.kept_records_replay.Goals as goal

pub returns : goal.returns
returns c = law_of_kept_records
