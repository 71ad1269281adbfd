use Rattle.dali_served.proofs.Apart.{none_gives_way}
use Rattle.dali_served.proofs.laws.no_request_gives_way.Goals as goal

pub returns : goal.returns
returns c = none_gives_way
