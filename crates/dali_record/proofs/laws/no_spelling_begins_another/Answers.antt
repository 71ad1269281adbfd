use Rattle.dali_record.proofs.Spelled.{one_begins}
use Rattle.dali_record.proofs.laws.no_spelling_begins_another.Goals as goal

pub returns : goal.returns
returns c = one_begins
