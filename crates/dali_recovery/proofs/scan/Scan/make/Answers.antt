use Rattle.std.proofs.Common.{sym, refl, ◌∙◌}
use Rattle.std.proofs.lemmas.Result.{err_from_is_err_and}
use Rattle.dali_recovery.proofs.Making.{makes_scanned, refuses_scanned, wants_scanned}
use Rattle.dali_recovery.proofs.Ordered.{ordered_judged}
use Rattle.dali_recovery.proofs.scan.Scan.make.Goals as goal

pub returns-then-misfits-clause-err : goal.returns-then-misfits-clause-err
returns-then-misfits-clause-err c = refuses_scanned c.args.redo.now c.args.redo.now c.args.self.now c.args.self.now c.args.number c.args.logged.now c.requires.tested (λ k w. sym (c.misfits.ensures k w) ∙ c.if-misfits.true) refl refl

pub returns-in_err-judgement-clause-err : goal.returns-in_err-judgement-clause-err
returns-in_err-judgement-clause-err c =
    let p = err_from_is_err_and c.from_residual.result c.from_residual.ensures.1 in
    rw (p.1, p.2) (wants_scanned c.args.redo.now _ c.args.self.now _ c.args.number c.args.logged.now c.requires.tested (λ k w. sym (c.misfits.ensures k w) ∙ c.if-misfits.false))

pub returns-in_err-carry_out-clause-err : goal.returns-in_err-carry_out-clause-err
returns-in_err-carry_out-clause-err c =
    let p = err_from_is_err_and c.from_residual-in_err-carry_out.result c.from_residual-in_err-carry_out.ensures.1 in
    rw (p.1, p.2, c.in_err-carry_out.ensures.err) (wants_scanned c.args.redo.now _ c.args.self.now _ c.args.number c.args.logged.now c.requires.tested (λ k w. sym (c.misfits.ensures k w) ∙ c.if-misfits.false))

pub returns-clause-ok : goal.returns-clause-ok
returns-clause-ok c = makes_scanned c.args.redo.now c.carry_out.new.redo c.args.self.now c.judge.new.self c.args.number c.args.logged.now c.in_ok-judgement.judgement c.requires.tested (λ k w. sym (c.misfits.ensures k w) ∙ c.if-misfits.false) c.in_ok-judgement.ensures.ok c.in_ok-carry_out.ensures.ok

pub returns-clause-ordered : goal.returns-clause-ordered
returns-clause-ordered c = ordered_judged c.args.redo.now c.carry_out.new.redo c.in_ok-judgement.judgement c.args.logged.now c.requires.tested (λ k w. sym (c.misfits.ensures k w) ∙ c.if-misfits.false) c.in_ok-carry_out.ensures.ok
