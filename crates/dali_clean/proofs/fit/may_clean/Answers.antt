use Rattle.std.proofs.Common.{rules, ◌≡◌, true, length, Option, ℕ, sym, ap, subst, ◌∙◌}
use Rattle.std.specs.List.{list_all}
use Rattle.dali_geometry.specs.Places.{regions as regions_of}
use Rattle.dali_att.specs.declared.state.State.{State}
use Rattle.dali_att.specs.Table.{undos_at}
use Rattle.dali_runs.specs.Wholes.{is_of_kind, latched_in}
use Rattle.dali_clean.specs.Fit.{IsNamed, StandSo}
use Rattle.dali_clean.proofs.Fitting.{fits, stand_fit}
use Rattle.dali_clean.proofs.fit.may_clean.Goals as goal

pub returns-clause-is : goal.returns-clause-is
returns-clause-is c h =
    let count : length c.args.regions.now ≡ regions_of c.args.system.now.state.sizes = search rules in
    let kinds : list_all (is_of_kind c.args.system.now.state.sizes) (undos_at c.args.system.now.state.table c.args.txn) ≡ true = search rules in
    fits c.args.regions.now c.args.system.now.state c.args.txn count kinds
    (subst (λ (o : Option State). IsNamed c.args.regions.now o c.args.txn) c.state-state.ensures (c.is_named.ensures.is c.if-not-is_named.false))
    (subst (λ (o : Option ℕ). StandSo o c.args.txn c.args.regions.now) (c.latched_in.ensures ∙ ap latched_in c.state-state.ensures) (c.stand_so.ensures.is h))

pub returns-clause-always : goal.returns-clause-always
returns-clause-always c may =
    c.stand_so.ensures.always (subst (λ (o : Option ℕ). StandSo o c.args.txn c.args.regions.now) (sym (c.latched_in.ensures ∙ ap latched_in c.state-state.ensures)) (stand_fit c.args.regions.now c.args.system.now.state c.args.txn may))
