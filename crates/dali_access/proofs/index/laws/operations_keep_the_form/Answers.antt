use Rattle.dali_access.proofs.IndexLemmas.Forms.{form_is_kept}
use Rattle.dali_access.proofs.index.laws.operations_keep_the_form.Goals as goal

pub returns : goal.returns
returns c = form_is_kept
