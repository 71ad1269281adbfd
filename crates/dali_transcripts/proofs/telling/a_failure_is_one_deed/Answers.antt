use Rattle.dali_transcripts.proofs.TellingLemmas.Failing.{failure_tells}
use Rattle.dali_transcripts.proofs.telling.a_failure_is_one_deed.Goals as goal

pub returns : goal.returns
returns c = failure_tells
