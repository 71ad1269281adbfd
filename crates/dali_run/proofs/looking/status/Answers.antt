use Rattle.std.proofs.lemmas.Result.{IfOk-weaker}
use Rattle.dali_run.proofs.looking.status.Goals as goal

pub returns-in-Ok-clause-looks : goal.returns-in-Ok-clause-looks
returns-in-Ok-clause-looks g c =
    IfOk-weaker c.tell_status.result _ _ (λ text tells. record { found = c.in-Ok.found; finds = c.in-Ok.ensures.finds; tells = tells }) c.tell_status.ensures.text
