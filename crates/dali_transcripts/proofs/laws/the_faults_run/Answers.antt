use Rattle.dali_transcripts.proofs.Faults.{faults_run}
use Rattle.dali_transcripts.proofs.laws.the_faults_run.Goals as goal

pub returns : goal.returns
returns c = faults_run
