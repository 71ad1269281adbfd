use Rattle.dali_transactions.proofs.Freeing.{commit_ends}
use Rattle.dali_transactions.proofs.Guarding.{clash}
use Rattle.std.proofs.Common.{◌≡◌, true, false, ap, sym, ◌∙◌}
use Rattle.std.proofs.lemmas.Option.{none-some}
use Rattle.dali_system.specs.Refused.{stop_of}
use Rattle.dali_system.specs.Served.{Served}
use Rattle.dali_transactions.proofs.steps.end_commit.Goals as goal

pub returns-in-Ok-clause-ok : goal.returns-in-Ok-clause-ok
returns-in-Ok-clause-ok g c =
    commit_ends g.V.Store c.args.txn c.args.core.now.regions.items c.args.core.now.system.state c.ended.new.self.state c.args.core.now.vault c.in-Ok.ensures.receipt.runs (ap (λ (x : Served). x.state) c.in-Ok.ensures.ok)

pub returns-in-Ok-clause-released : goal.returns-in-Ok-clause-released
returns-in-Ok-clause-released g c = ap (λ (x : Served). x.promised) c.in-Ok.ensures.ok

pub returns-in-Err-clause-promised : goal.returns-in-Err-clause-promised
returns-in-Err-clause-promised g c = λ committed h. absurd (let no : false ≡ true = c.in-Err.ensures.promised (ap stop_of h.runs) h.enough in cc)

pub returns-then-not-is_committed-clause-promised : goal.returns-then-not-is_committed-clause-promised
returns-then-not-is_committed-clause-promised g c = λ committed promised. absurd (clash c.if-not-is_committed.true (c.is_committed.ensures.always committed))

pub returns-in-Some-clause-promised : goal.returns-in-Some-clause-promised
returns-in-Some-clause-promised g c = λ committed promised. absurd (none-some c.in-Some.cause (sym promised.runs ∙ (sym c.stopped.ensures ∙ c.in-Some.is)))

pub returns-then-not-is_committed-clause-unfit : goal.returns-then-not-is_committed-clause-unfit
returns-then-not-is_committed-clause-unfit g c = λ is committed. clash c.if-not-is_committed.true (c.is_committed.ensures.always committed)

pub returns-in-Ok-clause-other : goal.returns-in-Ok-clause-other
returns-in-Ok-clause-other g c = λ runs never. absurd (never (c.is_committed.ensures.is c.if-not-is_committed.false))

pub returns-in-Err-clause-other : goal.returns-in-Err-clause-other
returns-in-Err-clause-other g c = λ runs never. absurd (never (c.is_committed.ensures.is c.if-not-is_committed.false))
