use Rattle.std.proofs.lemmas.Result.{IfOk-weaker}
use Rattle.dali_recovery.specs.Standing.{Finds, HandsLists}
use Rattle.dali_recovery.proofs.Epochs.{hands_found}
use Rattle.dali_recovery.proofs.recovery.Recovery.lists.Goals as goal

pub returns-clause-ok : goal.returns-clause-ok
returns-clause-ok c = IfOk-weaker c.found.result (λ lists. Finds c.args.self.now lists.0.items lists.1.items) (λ lists. HandsLists c.args.self.now lists.0.items lists.1.items)
    (λ lists f. hands_found c.args.self.now lists.0.items lists.1.items c.if-self.false f) c.found.ensures.ok
