use Rattle.dali_history.proofs.UndoneLemmas.Worked.{entry_is_as_left, change_is_as_left}
use Rattle.dali_history.proofs.undone.worked_undos.Goals as goal

pub returns-clause-entry : goal.returns-clause-entry
returns-clause-entry c = entry_is_as_left

pub returns-clause-change : goal.returns-clause-change
returns-clause-change c = change_is_as_left
