use Rattle.std.proofs.Common.{◌≡◌, List, length, sym, subst, rules}
use Rattle.dali_region.specs.State.{RegionState}
use Rattle.dali_core.proofs.CleanedUp.{put_back}
use Rattle.dali_calls.specs.Flags.{FlagsStay}
use Rattle.dali_transactions.specs.Left.{Settled}
use Rattle.dali_transactions.proofs.committing.settle_core.Goals as goal

pub returns-clause-settled : goal.returns-clause-settled
returns-clause-settled g c =
    let size : length c.free_removals.new.regions ≡ c.args.core.now.regions.len = search rules in
    subst (λ (rs : List RegionState). Settled c.args.txn c.args.removals.now c.args.core.now.regions.items c.args.core.now.system rs c.free_removals.new.system)
    (sym (put_back c.args.core.now.regions.len c.free_removals.new.regions c.args.core.now.regions.items size))
    (subst (λ (rs : List RegionState). Settled c.args.txn c.args.removals.now rs c.args.core.now.system c.free_removals.new.regions c.free_removals.new.system) c.deref_mut.ensures.value c.free_removals.ensures.settled)

pub returns-clause-flags : goal.returns-clause-flags
returns-clause-flags g c =
    let size : length c.free_removals.new.regions ≡ c.args.core.now.regions.len = search rules in
    subst (λ (rs : List RegionState). FlagsStay c.args.core.now.regions.items rs)
    (sym (put_back c.args.core.now.regions.len c.free_removals.new.regions c.args.core.now.regions.items size))
    (subst (λ (rs : List RegionState). FlagsStay rs c.free_removals.new.regions) c.deref_mut.ensures.value c.free_removals.ensures.flags)
