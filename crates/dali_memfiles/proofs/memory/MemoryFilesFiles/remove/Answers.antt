use Rattle.std.proofs.Common.{inr}
use Rattle.std.proofs.lemmas.Result.{on_ok_weaker}
use Rattle.dali_memfiles.proofs.Events.{removed_law, removed_emptied, removed_crash, removed_going, emptied_told, emptied_crash, going_still, elapses_removed, elapses_same}
use Rattle.dali_memfiles.proofs.Results.{by_result}
use Rattle.dali_memfiles.proofs.memory.MemoryFilesFiles.remove.Goals as goal

pub returns-clause-removed : goal.returns-clause-removed
returns-clause-removed c = on_ok_weaker c.remove.result (removed_law c.args.file _ _) c.remove.ensures.removed

pub returns-clause-emptied : goal.returns-clause-emptied
returns-clause-emptied c = by_result c.remove.result (removed_emptied c.args.file _ _) (emptied_told c.args.file _ _) c.remove.ensures.removed c.remove.ensures.unremoved

pub returns-clause-crash : goal.returns-clause-crash
returns-clause-crash c = by_result c.remove.result (removed_crash c.args.file _ _) (emptied_crash c.args.file _ _) c.remove.ensures.removed c.remove.ensures.unremoved

pub returns-clause-going : goal.returns-clause-going
returns-clause-going c =
    by_result c.remove.result (removed_going c.args.file _ _) (λ same g going. inr (going_still _ _ same g going)) c.remove.ensures.removed c.remove.ensures.unremoved

pub returns-clause-time : goal.returns-clause-time
returns-clause-time c = by_result c.remove.result (elapses_removed c.args.file _ _) (elapses_same _ _) c.remove.ensures.removed c.remove.ensures.unremoved
