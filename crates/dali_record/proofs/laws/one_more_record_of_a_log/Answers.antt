use Rattle.dali_record.proofs.Pushes.{cut_push, rules_state_push}
use Rattle.dali_record.proofs.laws.one_more_record_of_a_log.Goals as goal

pub returns : goal.returns
returns c = record { cut = cut_push; rules = rules_state_push }
