use Rattle.dali_access.proofs.IndexLemmas.Forms.{tidy_is_form}
use Rattle.dali_access.proofs.index.laws.tidy_images_are_in_form.Goals as goal

pub returns : goal.returns
returns c = tidy_is_form
