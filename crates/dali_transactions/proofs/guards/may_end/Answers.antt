use Rattle.std.proofs.Common.{◌≡◌, ◌∙◌, length, ap, sym, rules}
use Rattle.std.specs.List.{list_all}
use Rattle.dali_geometry.specs.Places.{regions}
use Rattle.dali_att.specs.Table.{undos_at}
use Rattle.dali_transactions.specs.Guards.{is_covered, is_releasable_on}
use Rattle.dali_transactions.proofs.Guarding.{clash, spelled_in, covered_of, of_covered}
use Rattle.dali_transactions.proofs.guards.may_end.Goals as goal

pub returns-then-not-are_covered-clause-always : goal.returns-then-not-are_covered-clause-always
returns-then-not-are_covered-clause-always c = λ may.
    let us : c.undos-undos.result.now ≡ undos_at c.args.system.now.state.table c.args.txn = search rules in
    let all = of_covered c.args.system.now.state c.args.txn (undos_at c.args.system.now.state.table c.args.txn) may.covered in
    absurd (clash c.if-not-are_covered.true (c.are_covered.ensures ∙ (ap (list_all (is_covered c.args.system.now.state c.args.txn)) us ∙ all)))

pub returns-clause-is : goal.returns-clause-is
returns-clause-is c = λ yes.
    let us : c.undos-undos.result.now ≡ undos_at c.args.system.now.state.table c.args.txn = search rules in
    let whole : length c.args.regions.now ≡ regions c.args.system.now.state.sizes = search rules in
    record {
      whole = whole;
      lives = c.is_live.ensures.is c.if-not-is_live.false;
      covered =
          covered_of c.args.system.now.state c.args.txn (undos_at c.args.system.now.state.table c.args.txn) (spelled_in c.args.system.now.state.next c.args.txn c.args.system.now.state c.table.ensures.rows)
          (ap (list_all (is_covered c.args.system.now.state c.args.txn)) (sym us) ∙ (sym c.are_covered.ensures ∙ c.if-not-are_covered.false));
      releasable = ap (list_all (is_releasable_on c.args.regions.now)) (sym us) ∙ (sym c.are_releasable.ensures ∙ yes);
    }
