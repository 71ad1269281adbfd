use Rattle.dali_run.proofs.Lasting.{ends_tell_rounds}
use Rattle.dali_run.proofs.laws.the_end_of_a_round_tells_its_damage.Goals as goal

pub returns : goal.returns
returns g c = ends_tell_rounds g.V.Store
