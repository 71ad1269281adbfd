use Rattle.std.proofs.Common.{[], ◌∷◌, List, sym, subst}
use Rattle.dali_record.specs.declared.records.Record.TheVariants.{Ended}
use Rattle.dali_region.specs.State.{RegionState}
use Rattle.dali_calls.proofs.Flags.{flags_same}
use Rattle.dali_calls.specs.Single.Ending.{IsBackOf}
use Rattle.dali_transactions.specs.Guards.{MayEnd}
use Rattle.dali_transactions.proofs.Guarding.{clash, never_unfit}
use Rattle.dali_transactions.proofs.Standing.{up_runs, comes_none, comes_ok, comes_err, up_ended, still_live}
use Rattle.dali_transactions.proofs.Wholes.{whole_ended}
use Rattle.dali_transactions.proofs.aborting.abort.Goals as goal

pub returns-in-Some-clause-left : goal.returns-in-Some-clause-left
returns-in-Some-clause-left g c = comes_none g.V.Store c.args.txn (IsBackOf c.args.txn) c.args.core.now.regions.items c.args.core.now.system.state c.args.core.now.vault

pub returns-in-Some-clause-flags : goal.returns-in-Some-clause-flags
returns-in-Some-clause-flags g c = flags_same c.args.core.now.regions.items

pub returns-then-not-may_end-clause-left : goal.returns-then-not-may_end-clause-left
returns-then-not-may_end-clause-left g c = comes_none g.V.Store c.args.txn (IsBackOf c.args.txn) c.args.core.now.regions.items c.args.core.now.system.state c.args.core.now.vault

pub returns-then-not-may_end-clause-flags : goal.returns-then-not-may_end-clause-flags
returns-then-not-may_end-clause-flags g c = flags_same c.args.core.now.regions.items

pub abort_running-requires-clause-may : goal.abort_running-requires-clause-may
abort_running-requires-clause-may g c =
    subst (λ (rs : List RegionState). MayEnd rs c.args.core.now.system.state c.args.txn) c.deref.ensures.value (c.may_end.ensures.is c.if-not-may_end.false)

pub returns-clause-ok : goal.returns-clause-ok
returns-clause-ok g c =
    comes_ok g.V.Store c.abort_running.result (IsBackOf c.args.txn) (Ended c.args.txn ∷ []) c.args.txn c.args.core.now.regions.items c.abort_running.new.core.regions.items c.args.core.now.system c.abort_running.new.core.system c.args.core.now.vault c.abort_running.ensures.ok

pub returns-clause-left : goal.returns-clause-left
returns-clause-left g c =
    comes_err g.V.Store c.abort_running.result (IsBackOf c.args.txn) [] c.args.txn c.args.core.now.regions.items c.abort_running.new.core.regions.items c.args.core.now.system c.abort_running.new.core.system c.args.core.now.vault c.abort_running.ensures.left

pub returns-clause-up : goal.returns-clause-up
returns-clause-up g c = λ up.
    up_ended g.V.Store c.abort_running.result (IsBackOf c.args.txn) (Ended c.args.txn ∷ []) c.args.txn c.args.core.now.regions.items c.abort_running.new.core.regions.items c.args.core.now.system c.abort_running.new.core.system c.args.core.now.vault c.abort_running.new.core.vault
    c.abort_running.ensures.vault up c.abort_running.ensures.ok c.abort_running.ensures.left

pub returns-clause-in_the_way : goal.returns-clause-in_the_way
returns-clause-in_the_way g c = λ up. c.abort_running.ensures.in_the_way (up_runs g.V.Store c.args.core.now.regions.items c.args.core.now.system.state c.args.core.now.vault up)

pub returns-clause-lives : goal.returns-clause-lives
returns-clause-lives g c = still_live c.abort_running.result c.args.core.now.system.state c.abort_running.new.core.system.state c.args.txn (c.may_end.ensures.is c.if-not-may_end.false).lives c.abort_running.ensures.lives

pub returns-clause-whole : goal.returns-clause-whole
returns-clause-whole g c = λ up.
    whole_ended g.V.Store c.abort_running.result (IsBackOf c.args.txn) (Ended c.args.txn ∷ []) c.args.txn c.args.core.now.regions.items c.abort_running.new.core.regions.items c.args.core.now.system c.abort_running.new.core.system c.args.core.now.vault c.abort_running.new.core.vault
    c.abort_running.ensures.vault up c.abort_running.ensures.ok c.abort_running.ensures.left

pub returns-then-not-may_end-clause-unfit : goal.returns-then-not-may_end-clause-unfit
returns-then-not-may_end-clause-unfit g c = λ is may.
    clash c.if-not-may_end.true (c.may_end.ensures.always (subst (λ (rs : List RegionState). MayEnd rs c.args.core.now.system.state c.args.txn) (sym c.deref.ensures.value) may))

pub returns-then-not-may_end-clause-memory : goal.returns-then-not-may_end-clause-memory
returns-then-not-may_end-clause-memory g c = λ runs may.
    absurd (clash c.if-not-may_end.true (c.may_end.ensures.always (subst (λ (rs : List RegionState). MayEnd rs c.args.core.now.system.state c.args.txn) (sym c.deref.ensures.value) may)))

pub returns-clause-other : goal.returns-clause-other
returns-clause-other g c = λ runs never.
    absurd (never (subst (λ (rs : List RegionState). MayEnd rs c.args.core.now.system.state c.args.txn) c.deref.ensures.value (c.may_end.ensures.is c.if-not-may_end.false)))

pub returns-clause-unfit : goal.returns-clause-unfit
returns-clause-unfit g c = λ is may. never_unfit c.abort_running.result c.abort_running.ensures.memory is

pub returns-clause-unchanged : goal.returns-clause-unchanged
returns-clause-unchanged g c = λ is. absurd (never_unfit c.abort_running.result c.abort_running.ensures.memory is)
