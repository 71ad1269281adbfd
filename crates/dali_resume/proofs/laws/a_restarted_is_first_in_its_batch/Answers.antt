use Rattle.dali_resume.proofs.Batches.{finds_misplaced, fits_in_batches, answers_over_batches, front_answers_over_batches}
use Rattle.dali_resume.proofs.laws.a_restarted_is_first_in_its_batch.Goals as goal

pub returns-clause-finds : goal.returns-clause-finds
returns-clause-finds c = finds_misplaced

pub returns-clause-fits : goal.returns-clause-fits
returns-clause-fits c = fits_in_batches

pub returns-clause-answers : goal.returns-clause-answers
returns-clause-answers c = answers_over_batches

pub returns-clause-front : goal.returns-clause-front
returns-clause-front c = front_answers_over_batches
