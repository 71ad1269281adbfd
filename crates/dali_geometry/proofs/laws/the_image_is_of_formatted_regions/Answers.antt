use Rattle.dali_geometry.proofs.Regions.{region_is_formatted}
use Rattle.dali_geometry.proofs.laws.the_image_is_of_formatted_regions.Goals as goal

pub returns : goal.returns
returns c = region_is_formatted
