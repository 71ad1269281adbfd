use Rattle.dali_generator.proofs.Along.{leaves_them}
use Rattle.dali_generator.proofs.Keys.{has_their_keys}
use Rattle.dali_generator.proofs.laws.every_order_leaves_the_same.Goals as goal

pub returns : goal.returns
returns c = record { map = leaves_them; keys = has_their_keys }
