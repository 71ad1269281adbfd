use Rattle.dali_core.proofs.StepsLemmas.Steps.{places_are_small, places_stand}
use Rattle.dali_core.proofs.steps.laws.the_places_of_a_vault_may_be_asked_for.Goals as goal

pub returns : goal.returns
returns g c = record { small = places_are_small g.V.Store; stand = places_stand g.V.Store }
