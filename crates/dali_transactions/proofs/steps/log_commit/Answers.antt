use Rattle.std.proofs.Common.{◌≡◌, List, inl, refl, sym, subst}
use Rattle.dali_region.specs.State.{RegionState}
use Rattle.dali_transactions.specs.Guards.{MayEnd}
use Rattle.dali_transactions.proofs.Guarding.{clash}
use Rattle.dali_transactions.proofs.Alone.{rows_left}
use Rattle.dali_transactions.proofs.Freeing.{commit_logs}
use Rattle.dali_transactions.proofs.steps.log_commit.Goals as goal

pub commit-requires-clause-covered : goal.commit-requires-clause-covered
commit-requires-clause-covered g c = (c.may_end.ensures.is c.if-not-may_end.false).covered

pub commit-requires-clause-lives : goal.commit-requires-clause-lives
commit-requires-clause-lives g c = (c.may_end.ensures.is c.if-not-may_end.false).lives

pub returns-in-Ok-clause-ok : goal.returns-in-Ok-clause-ok
returns-in-Ok-clause-ok g c =
    commit_logs g.V.Store c.args.core.now.regions.items c.args.core.now.system.state c.commit.new.system.state c.args.core.now.vault c.args.txn c.in-Ok.removals.items
    (c.may_end.ensures.is c.if-not-may_end.false).lives c.in-Ok.ensures.ok

pub returns-in-Ok-clause-others : goal.returns-in-Ok-clause-others
returns-in-Ok-clause-others g c = rows_left c.args.core.now.regions.items c.args.core.now.regions.items c.args.core.now.system.state c.commit.new.system.state c.args.txn c.in-Ok.ensures.others (λ r. inl refl)

pub returns-then-not-may_end-clause-unfit : goal.returns-then-not-may_end-clause-unfit
returns-then-not-may_end-clause-unfit g c = λ is may.
    clash c.if-not-may_end.true (c.may_end.ensures.always (subst (λ (rs : List RegionState). MayEnd rs c.args.core.now.system.state c.args.txn) (sym c.deref.ensures.value) may))

pub returns-in-Ok-clause-other : goal.returns-in-Ok-clause-other
returns-in-Ok-clause-other g c = λ runs there never.
    absurd (never (subst (λ (rs : List RegionState). MayEnd rs c.args.core.now.system.state c.args.txn) c.deref.ensures.value (c.may_end.ensures.is c.if-not-may_end.false)))

pub returns-in-Err-clause-other : goal.returns-in-Err-clause-other
returns-in-Err-clause-other g c = λ runs there never.
    absurd (never (subst (λ (rs : List RegionState). MayEnd rs c.args.core.now.system.state c.args.txn) c.deref.ensures.value (c.may_end.ensures.is c.if-not-may_end.false)))
