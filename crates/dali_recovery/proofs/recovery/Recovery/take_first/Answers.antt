use Rattle.dali_record.specs.declared.records.Record.TheVariants.{Restarted}
use Rattle.std.proofs.Common.{inl}
use Rattle.std.proofs.lemmas.Result.{err_from_is_err_and}
use Rattle.dali_recovery.proofs.Records.{takes_as}
use Rattle.dali_recovery.proofs.Epochs.{applied_as, refuses_first, takes_first}
use Rattle.dali_recovery.proofs.Ordered.{keeps_first}
use Rattle.dali_recovery.proofs.recovery.Recovery.take_first.Goals as goal

pub returns-in_err-apply-clause-err : goal.returns-in_err-apply-clause-err
returns-in_err-apply-clause-err c =
    let p = err_from_is_err_and c.from_residual.result c.from_residual.ensures.1 in
    rw (p.1, p.2) (refuses_first c.args.self.now c.apply.new.self c.args.logged.now c.args.rolled_back.items c.args.deleted.items c.in_err-apply.field-0.0 c.requires.restarted c.in_err-apply.ensures.misfit c.in_err-apply.ensures.err)

pub returns-clause-ok : goal.returns-clause-ok
returns-clause-ok c = takes_as c.args.self.now c.begin_epoch.new.self c.args.logged.now (Restarted c.args.rolled_back.items c.args.deleted.items) c.requires.restarted (takes_first c.args.self.now c.begin_epoch.new.self c.apply.new.self c.args.rolled_back.items c.args.deleted.items c.requires.first c.requires.alone (applied_as _ _ _ _ c.requires.restarted c.in_ok-apply.ensures.ok) c.begin_epoch.ensures.begins)

pub returns-clause-ordered : goal.returns-clause-ordered
returns-clause-ordered c = λ spelled. keeps_first c.args.self.now c.begin_epoch.new.self c.apply.new.self c.args.logged.now c.args.rolled_back.items c.args.deleted.items c.requires.restarted c.in_ok-apply.ensures.ok c.begin_epoch.ensures.ordered spelled

pub returns-clause-scanned : goal.returns-clause-scanned
returns-clause-scanned c = λ e. inl c.requires.first
