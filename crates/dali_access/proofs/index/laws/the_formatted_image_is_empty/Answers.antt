use Rattle.dali_access.proofs.IndexLemmas.Forms.{formatted_is_empty}
use Rattle.dali_access.proofs.index.laws.the_formatted_image_is_empty.Goals as goal

pub returns : goal.returns
returns c = formatted_is_empty
