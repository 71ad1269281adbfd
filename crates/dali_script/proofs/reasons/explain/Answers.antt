use Rattle.std.proofs.Common.{rules, ◌≡◌}
use Rattle.dali_script.specs.Reasons.{reason_in, seen_reason}
use Rattle.dali_script.proofs.Told.{always_told}
use Rattle.dali_script.proofs.reasons.explain.Goals as goal

pub returns-in_err-text-clause-told : goal.returns-in_err-text-clause-told
returns-in_err-text-clause-told c =
    let same : seen_reason c.from_residual.result ≡ reason_in c.args.script.now c.args.line c.args.kind = search rules in
    always_told c.args.script.now c.args.line c.args.kind c.from_residual.result same

pub returns-in_err-word-clause-told : goal.returns-in_err-word-clause-told
returns-in_err-word-clause-told c =
    let same : seen_reason c.from_residual-in_err-word.result ≡ reason_in c.args.script.now c.args.line c.args.kind = search rules in
    always_told c.args.script.now c.args.line c.args.kind c.from_residual-in_err-word.result same
