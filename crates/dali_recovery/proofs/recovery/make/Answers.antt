use Rattle.std.proofs.Common.{sym, subst, Some}
use Rattle.std.specs.Prelude.{OnOk}
use Rattle.std.proofs.lemmas.Result.{err_from_is_err_and}
use Rattle.dali_recovery.specs.Standing.{Makes}
use Rattle.dali_recovery.proofs.Making.{makes_none, refuses_none}
use Rattle.dali_recovery.proofs.Records.{no_error}
use Rattle.dali_recovery.proofs.Ordered.{ordered_plain}
use Rattle.dali_recovery.proofs.recovery.make.Goals as goal

pub returns-in_err-apply-in-None-clause-err : goal.returns-in_err-apply-in-None-clause-err
returns-in_err-apply-in-None-clause-err c =
    let p = err_from_is_err_and c.from_residual.result c.from_residual.ensures.1 in
    rw (p.1, p.2) (refuses_none c.args.redo.now _ c.args.scan.now c.args.number c.args.logged.now c.in_err-apply-in-None.field-0.0 c.in-None.is c.requires.tested c.in_err-apply-in-None.ensures.misfit c.in_err-apply-in-None.ensures.err)

pub returns-in_ok-apply-in-None-clause-ok : goal.returns-in_ok-apply-in-None-clause-ok
returns-in_ok-apply-in-None-clause-ok c = makes_none c.args.redo.now c.apply.new.self c.args.scan.now c.args.number c.args.logged.now c.in-None.is c.requires.tested (λ k w h. no_error _ _ ((c.in_ok-apply-in-None.ensures.misfit k w).1 h)) c.in_ok-apply-in-None.ensures.ok

pub returns-in-Some-clause-ok : goal.returns-in-Some-clause-ok
returns-in-Some-clause-ok c = subst (λ o. OnOk c.make.result (Makes c.args.redo.now o c.args.number c.args.logged.now c.make.new.redo (Some c.make.new.self))) (sym c.in-Some.is) c.make.ensures.ok

pub returns-in_ok-apply-in-None-clause-ordered : goal.returns-in_ok-apply-in-None-clause-ordered
returns-in_ok-apply-in-None-clause-ordered c = ordered_plain c.args.redo.now c.apply.new.self c.args.logged.now c.requires.tested (λ k w h. no_error _ _ ((c.in_ok-apply-in-None.ensures.misfit k w).1 h)) c.in_ok-apply-in-None.ensures.ok
