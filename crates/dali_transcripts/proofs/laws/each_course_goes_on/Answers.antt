use Rattle.dali_transcripts.proofs.Grown.{courses_grow}
use Rattle.dali_transcripts.proofs.laws.each_course_goes_on.Goals as goal

pub returns : goal.returns
returns c = courses_grow
