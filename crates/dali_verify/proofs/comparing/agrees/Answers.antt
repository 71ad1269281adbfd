use Rattle.std.proofs.Common.{sym, ◌∙◌}
use Rattle.dali_verify.proofs.Compared.{if_ok_then, not_told, as_replayed}
use Rattle.dali_verify.proofs.comparing.agrees.Goals as goal

pub returns-then-not-branch-clause-is : goal.returns-then-not-branch-clause-is
returns-then-not-branch-clause-is c =
    not_told c.args.geometry.now _ c.args.log.now c.in_ok-replay.replay c.deleted.result.now c.in_ok-tells.field-0 c.in_ok-replay.ensures c.deleted.ensures c.in_ok-tells.ensures c.if-not-branch.true

pub returns-clause-is : goal.returns-clause-is
returns-clause-is c = if_ok_then _ _ c.stores.result c.stores.ensures.is (λ is just.
    as_replayed c.args.geometry.now _ c.args.log.now c.in_ok-replay.replay c.deleted.result.now _ c.in_ok-tells.field-0 is c.in_ok-replay.ensures (sym c.agrees.ensures ∙ c.if-not-agrees.false) c.deleted.ensures c.in_ok-tells.ensures c.if-not-branch.false c.map.ensures just)
