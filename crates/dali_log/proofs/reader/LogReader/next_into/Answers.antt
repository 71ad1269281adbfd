use Rattle.std.proofs.Common.{sym, subst}
use Rattle.std.proofs.lemmas.Result.{err_from_is_err_and}
use Rattle.dali_lists.proofs.Options.{if_some_then}
use Rattle.dali_log.specs.Stream.{IsReadFrom}
use Rattle.dali_log.proofs.Finds.{if_some_any}
use Rattle.dali_log.proofs.Fronts.{log_bad}
use Rattle.dali_log.proofs.reader.LogReader.next_into.Goals as goal

pub returns-in_err-next_record-clause-bad : goal.returns-in_err-next_record-clause-bad
returns-in_err-next_record-clause-bad g c =
    let p = err_from_is_err_and c.from_residual.result c.from_residual.ensures.1 in
    rw (p.1, p.2) (λ bad e. if_some_any _ (g.V.Store.told c.args.store.now) (λ fs start front done read. c.in_err-next_record.ensures.bad bad e fs.log start front done read))

pub returns-then-self-clause-read : goal.returns-then-self-clause-read
returns-then-self-clause-read g c = λ more. if_some_any _ (g.V.Store.told c.args.store.now) (λ fs start front done read. c.in_ok-next_record.ensures.read fs.log start front done read)

pub returns-in_err-next_batch-clause-bad : goal.returns-in_err-next_batch-clause-bad
returns-in_err-next_batch-clause-bad g c =
    let p = err_from_is_err_and c.from_residual-in_err-next_batch.result c.from_residual-in_err-next_batch.ensures.1 in
    rw (p.1, p.2) (λ bad e. c.in_err-next_batch.ensures.bad bad (log_bad c.in_err-next_batch.field-0.0 bad e))

pub returns-in_err-next_record-2-clause-bad : goal.returns-in_err-next_record-2-clause-bad
returns-in_err-next_record-2-clause-bad g c =
    let p = err_from_is_err_and c.from_residual-in_err-next_record-2.result c.from_residual-in_err-next_record-2.ensures.1 in
    rw (p.1, p.2) (λ bad e. if_some_then _ _ (g.V.Store.told c.args.store.now) (c.in_ok-next_batch.ensures.stands c.if-not-branch.false)
    (λ fs goes start front done read. c.in_err-next_record-2.ensures.bad bad e fs.log start front done (goes start front done read)))

pub returns-clause-read : goal.returns-clause-read
returns-clause-read g c = λ more. if_some_then _ _ (g.V.Store.told c.args.store.now) (c.in_ok-next_batch.ensures.stands c.if-not-branch.false)
    (λ fs goes start front done read. c.in_ok-next_record-2.ensures.read fs.log start front done (goes start front done read))

pub returns-in_err-next_record-2-clause-wanting : goal.returns-in_err-next_record-2-clause-wanting
returns-in_err-next_record-2-clause-wanting g c = λ e. if_some_then _ _ (g.V.Store.told c.args.store.now) (c.in_ok-next_batch.ensures.stands c.if-not-branch.false)
    (λ fs goes start front done read. subst (IsReadFrom fs.log start front done) (sym c.in_err-next_record-2.ensures.err) (goes start front done read))
