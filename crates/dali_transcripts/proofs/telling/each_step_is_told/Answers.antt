use Rattle.dali_transcripts.proofs.TellingLemmas.Steps.{step_tells}
use Rattle.dali_transcripts.proofs.TellingLemmas.Courses.{course_tells, meets_tells, goes_on}
use Rattle.dali_transcripts.proofs.telling.each_step_is_told.Goals as goal

pub returns-clause-step : goal.returns-clause-step
returns-clause-step c = step_tells

pub returns-clause-course : goal.returns-clause-course
returns-clause-course c = course_tells

pub returns-clause-meets : goal.returns-clause-meets
returns-clause-meets c = meets_tells

pub returns-clause-further : goal.returns-clause-further
returns-clause-further c = goes_on
