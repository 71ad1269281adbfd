use Rattle.dali_transcripts.proofs.TellingLemmas.Courses.{round_tells, stop_is_told}
use Rattle.dali_transcripts.proofs.telling.a_round_begins.Goals as goal

pub returns-clause-begins : goal.returns-clause-begins
returns-clause-begins c = round_tells

pub returns-clause-stop : goal.returns-clause-stop
returns-clause-stop c = stop_is_told
