use Rattle.std.proofs.Common.{◌≡◌, length, sym, ◌∙◌, rules}
use Rattle.dali_geometry.specs.Places.{regions}
use Rattle.dali_transactions.proofs.Guarding.{clash}
use Rattle.dali_transactions.proofs.Freeing.{may_free, covered_removal}
use Rattle.dali_transactions.proofs.guards.may_free.Goals as goal

pub returns-clause-is : goal.returns-clause-is
returns-clause-is c = λ yes.
    let whole : length c.args.regions.now ≡ regions c.args.system.now.state.sizes = search rules in
    record {
      whole = whole;
      committed = c.is_committed.ensures.is c.if-not-is_committed.false;
      may = may_free c.args.system.now.state c.args.txn c.args.removal.now (c.is_removal.ensures.is c.if-not-is_removal.false) (sym c.is_covered.ensures ∙ c.if-not-is_covered.false);
      releasable = sym c.is_releasable_on.ensures ∙ yes;
    }

pub returns-then-not-is_committed-clause-always : goal.returns-then-not-is_committed-clause-always
returns-then-not-is_committed-clause-always c = λ may. absurd (clash c.if-not-is_committed.true (c.is_committed.ensures.always may.committed))

pub returns-then-not-is_removal-clause-always : goal.returns-then-not-is_removal-clause-always
returns-then-not-is_removal-clause-always c = λ may. absurd (clash c.if-not-is_removal.true (c.is_removal.ensures.always may.may.removal may.may.spelled))

pub returns-then-not-is_covered-clause-always : goal.returns-then-not-is_covered-clause-always
returns-then-not-is_covered-clause-always c = λ may. absurd (clash c.if-not-is_covered.true (c.is_covered.ensures ∙ covered_removal c.args.system.now.state c.args.txn c.args.removal.now may.may))

pub returns-clause-always : goal.returns-clause-always
returns-clause-always c = λ may. c.is_releasable_on.ensures ∙ may.releasable
