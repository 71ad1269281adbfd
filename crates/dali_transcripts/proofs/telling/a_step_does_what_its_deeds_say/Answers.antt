use Rattle.dali_transcripts.proofs.TellingLemmas.Effects.{deeds_say}
use Rattle.dali_transcripts.proofs.telling.a_step_does_what_its_deeds_say.Goals as goal

pub returns : goal.returns
returns c = deeds_say
