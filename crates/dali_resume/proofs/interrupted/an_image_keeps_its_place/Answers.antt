use Rattle.dali_resume.proofs.InterruptedLemmas.Places.{format_has_place, keeps_place, start_has_place, turned_has_place}
use Rattle.dali_resume.proofs.interrupted.an_image_keeps_its_place.Goals as goal

pub returns-clause-format : goal.returns-clause-format
returns-clause-format c = format_has_place

pub returns-clause-turned : goal.returns-clause-turned
returns-clause-turned c = turned_has_place

pub returns-clause-starts : goal.returns-clause-starts
returns-clause-starts c = start_has_place

pub returns-clause-keeps : goal.returns-clause-keeps
returns-clause-keeps c = keeps_place
