use Rattle.std.proofs.lemmas.Result.{err_from_is_err_and}
use Rattle.dali_recovery.proofs.Making.{only_memory}
use Rattle.dali_recovery.proofs.scan.carry_out.Goals as goal

pub returns-in_err-apply-in-Keep-clause-err : goal.returns-in_err-apply-in-Keep-clause-err
returns-in_err-apply-in-Keep-clause-err c =
    let p = err_from_is_err_and c.from_residual.result c.from_residual.ensures.1 in
    rw (p.1, p.2) (only_memory c.args.redo.now c.args.logged.now c.in_err-apply-in-Keep.field-0.0 c.requires.fits c.in_err-apply-in-Keep.ensures.misfit)

pub returns-in_err-skip-in-Drop-clause-err : goal.returns-in_err-skip-in-Drop-clause-err
returns-in_err-skip-in-Drop-clause-err c =
    let p = err_from_is_err_and c.from_residual-in_err-skip-in-Drop.result c.from_residual-in_err-skip-in-Drop.ensures.1 in
    rw (p.1, p.2) (only_memory c.args.redo.now c.args.logged.now c.in_err-skip-in-Drop.field-0.0 c.requires.fits c.in_err-skip-in-Drop.ensures.misfit)
