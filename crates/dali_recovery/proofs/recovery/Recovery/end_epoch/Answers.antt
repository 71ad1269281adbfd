use Rattle.std.proofs.Common.{inr, subst, sym, ◌∙◌}
use Rattle.std.proofs.lemmas.Bool.{ne_eqb}
use Rattle.dali_record.specs.declared.records.Record.TheVariants.{Restarted}
use Rattle.dali_recovery.specs.Standing.{Tells}
use Rattle.dali_recovery.proofs.Records.{takes_as}
use Rattle.dali_recovery.proofs.Epochs.{begins_as, takes_end}
use Rattle.dali_recovery.proofs.Ordered.{keeps_end}
use Rattle.dali_recovery.proofs.recovery.Recovery.end_epoch.Goals as goal

pub returns-then-self-2-clause-ok : goal.returns-then-self-2-clause-ok
returns-then-self-2-clause-ok c = c.take_first.ensures.ok

pub returns-clause-ok : goal.returns-clause-ok
returns-clause-ok c =
    let x = c.args.self.now in
    let rs = c.args.rolled_back.now in
    let ds = c.args.deleted.now in
    takes_as x c.begin_epoch.new.self c.args.logged.now (Restarted rs ds) c.requires
    (takes_end x c.begin_epoch.new.self c.recover.new.redo rs ds c.if-self.false (ne_eqb x.number x.image c.if-self-2.false) (sym c.is_unscanned.ensures ∙ c.if-is_unscanned.false) (subst (Tells x rs ds) c.if-not-branch.false c.in_ok-tells.ensures.ok) c.recover.ensures
    (begins_as (record x { redo = c.recover.new.redo }) c.begin_epoch.new.self c.in_ok-rolled.rolled.items c.in_ok-gone.gone.items rs ds c.in_ok-rolled.ensures.items c.in_ok-gone.ensures.items c.begin_epoch.ensures.begins))

pub returns-then-self-2-clause-ordered : goal.returns-then-self-2-clause-ordered
returns-then-self-2-clause-ordered c = c.take_first.ensures.ordered

pub returns-clause-ordered : goal.returns-clause-ordered
returns-clause-ordered c = λ spelled. keeps_end c.args.self.now c.begin_epoch.new.self c.recover.new.redo c.args.logged.now c.in_ok-rolled.rolled.items c.in_ok-gone.gone.items c.args.rolled_back.now c.args.deleted.now c.requires c.in_ok-rolled.ensures.items c.in_ok-gone.ensures.items c.recover.ensures c.begin_epoch.ensures.ordered spelled

pub returns-then-self-2-clause-scanned : goal.returns-then-self-2-clause-scanned
returns-then-self-2-clause-scanned c = c.take_first.ensures.scanned

pub returns-clause-scanned : goal.returns-clause-scanned
returns-clause-scanned c = λ e. inr (sym c.is_unscanned.ensures ∙ c.if-is_unscanned.false)
