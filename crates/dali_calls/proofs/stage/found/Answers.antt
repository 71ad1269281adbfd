use Rattle.std.proofs.Common.{sym, subst}
use Rattle.dali_record.specs.declared.records.Call.{Call}
use Rattle.dali_calls.specs.Steps.{IsAt}
use Rattle.dali_calls.proofs.stage.found.Goals as goal

pub returns-in-Get-clause-at : goal.returns-in-Get-clause-at
returns-in-Get-clause-at c s h k = subst (λ (x : Call). IsAt s x c.read.result) (sym c.in-Get.is) (c.read.ensures.at s c.in-Get.key)

pub returns-in-Update-clause-at : goal.returns-in-Update-clause-at
returns-in-Update-clause-at c s h k = subst (λ (x : Call). IsAt s x c.changed.result) (sym c.in-Update.is) (c.changed.ensures.at s c.in-Update.key c.in-Update.value)
