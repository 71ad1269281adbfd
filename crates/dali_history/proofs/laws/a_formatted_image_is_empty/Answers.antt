use Rattle.dali_access.proofs.IndexLemmas.Forms.{formatted_is_image, formatted_is_indexed, formatted_is_tidy}
use Rattle.dali_history.proofs.Formatted.{formatted_has_none}
use Rattle.dali_history.proofs.laws.a_formatted_image_is_empty.Goals as goal

pub returns : goal.returns
returns c = record { image = formatted_is_image; indexed = formatted_is_indexed; tidy = formatted_is_tidy; empty = formatted_has_none }
