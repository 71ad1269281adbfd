use Rattle.std.proofs.Common.{◌≡◌, true, false, [], List, sym, subst, ◌∙◌}
use Rattle.std.proofs.lemmas.Option.{none-some}
use Rattle.dali_region.specs.State.{RegionState}
use Rattle.dali_transactions.specs.Guards.{MayFreeOn}
use Rattle.dali_transactions.specs.Left.{none_of}
use Rattle.dali_transactions.proofs.Standing.{comes_none, comes_left}
use Rattle.dali_transactions.proofs.Guarding.{clash}
use Rattle.dali_transactions.proofs.Freeing.{removal_frees}
use Rattle.dali_transactions.proofs.steps.free_removal.Goals as goal

pub free_core-requires : goal.free_core-requires
free_core-requires g c =
    subst (λ (rs : List RegionState). MayFreeOn rs c.args.core.now.system.state c.args.txn c.args.removal.now) c.deref.ensures.value (c.may_free.ensures.is c.if-not-may_free.false)

pub returns-then-not-may_free-clause-left : goal.returns-then-not-may_free-clause-left
returns-then-not-may_free-clause-left g c = comes_none g.V.Store c.args.txn none_of c.args.core.now.regions.items c.args.core.now.system.state c.args.core.now.vault

pub returns-in-Ok-clause-ok : goal.returns-in-Ok-clause-ok
returns-in-Ok-clause-ok g c = removal_frees g.V.Store c.args.txn c.args.removal.now c.args.core.now.regions.items c.free_core.new.core.regions.items c.args.core.now.system.state c.free_core.new.core.system.state c.args.core.now.vault c.in-Ok.ensures.freed c.free_core.ensures.others

pub returns-in-Err-clause-left : goal.returns-in-Err-clause-left
returns-in-Err-clause-left g c = comes_left g.V.Store none_of [] c.args.txn c.args.core.now.regions.items c.free_core.new.core.regions.items c.args.core.now.system c.free_core.new.core.system c.args.core.now.vault c.in-Err.ensures.left

pub returns-then-not-may_free-clause-promised : goal.returns-then-not-may_free-clause-promised
returns-then-not-may_free-clause-promised g c = λ may promised.
    absurd (clash c.if-not-may_free.true (c.may_free.ensures.always (subst (λ (rs : List RegionState). MayFreeOn rs c.args.core.now.system.state c.args.txn c.args.removal.now) (sym c.deref.ensures.value) may)))

pub returns-in-Err-clause-promised : goal.returns-in-Err-clause-promised
returns-in-Err-clause-promised g c = λ may promised. absurd (let no : false ≡ true = c.in-Err.ensures.promised promised in cc)

pub returns-in-Some-clause-left : goal.returns-in-Some-clause-left
returns-in-Some-clause-left g c = comes_none g.V.Store c.args.txn none_of c.args.core.now.regions.items c.args.core.now.system.state c.args.core.now.vault

pub returns-then-not-may_free-clause-unfit : goal.returns-then-not-may_free-clause-unfit
returns-then-not-may_free-clause-unfit g c = λ is may.
    clash c.if-not-may_free.true (c.may_free.ensures.always (subst (λ (rs : List RegionState). MayFreeOn rs c.args.core.now.system.state c.args.txn c.args.removal.now) (sym c.deref.ensures.value) may))

pub returns-in-Ok-clause-other : goal.returns-in-Ok-clause-other
returns-in-Ok-clause-other g c = λ runs never.
    absurd (never (subst (λ (rs : List RegionState). MayFreeOn rs c.args.core.now.system.state c.args.txn c.args.removal.now) c.deref.ensures.value (c.may_free.ensures.is c.if-not-may_free.false)))

pub returns-in-Err-clause-other : goal.returns-in-Err-clause-other
returns-in-Err-clause-other g c = λ runs never.
    absurd (never (subst (λ (rs : List RegionState). MayFreeOn rs c.args.core.now.system.state c.args.txn c.args.removal.now) c.deref.ensures.value (c.may_free.ensures.is c.if-not-may_free.false)))

pub returns-in-Some-clause-promised : goal.returns-in-Some-clause-promised
returns-in-Some-clause-promised g c = λ may promised. absurd (none-some c.in-Some.cause (sym promised.runs ∙ (sym c.stopped.ensures ∙ c.in-Some.is)))
