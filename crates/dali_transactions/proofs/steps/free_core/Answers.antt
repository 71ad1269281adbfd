use Rattle.std.proofs.Common.{◌≡◌, [], List, length, sym, subst, OnOk, OnErr, rules}
use Rattle.dali_region.specs.State.{RegionState}
use Rattle.dali_core.proofs.CleanedUp.{put_back}
use Rattle.dali_calls.specs.Flags.{FlagsStay}
use Rattle.dali_clean.specs.Others.{OthersStay}
use Rattle.dali_transactions.specs.Guards.{MayFreeOn}
use Rattle.dali_transactions.specs.Left.{none_of, FreesIn, Left}
use Rattle.dali_transactions.proofs.steps.free_core.Goals as goal

pub free_one-requires : goal.free_one-requires
free_one-requires g c = subst (λ (rs : List RegionState). MayFreeOn rs c.args.core.now.system.state c.args.txn c.args.removal.now) (sym c.deref_mut.ensures.value) c.requires

pub returns-clause-freed : goal.returns-clause-freed
returns-clause-freed g c =
    let size : length c.free_one.new.regions ≡ c.args.core.now.regions.len = search rules in
    subst (λ (rs : List RegionState). OnOk c.free_one.result (FreesIn c.args.txn c.args.removal.now c.args.core.now.regions.items c.args.core.now.system.state rs c.free_one.new.system.state))
    (sym (put_back c.args.core.now.regions.len c.free_one.new.regions c.args.core.now.regions.items size))
    (subst (λ (rs : List RegionState). OnOk c.free_one.result (FreesIn c.args.txn c.args.removal.now rs c.args.core.now.system.state c.free_one.new.regions c.free_one.new.system.state)) c.deref_mut.ensures.value c.free_one.ensures.freed)

pub returns-clause-left : goal.returns-clause-left
returns-clause-left g c =
    let size : length c.free_one.new.regions ≡ c.args.core.now.regions.len = search rules in
    subst (λ (rs : List RegionState). OnErr c.free_one.result (Left none_of [] c.args.txn c.args.core.now.regions.items c.args.core.now.system rs c.free_one.new.system))
    (sym (put_back c.args.core.now.regions.len c.free_one.new.regions c.args.core.now.regions.items size))
    (subst (λ (rs : List RegionState). OnErr c.free_one.result (Left none_of [] c.args.txn rs c.args.core.now.system c.free_one.new.regions c.free_one.new.system)) c.deref_mut.ensures.value c.free_one.ensures.left)

pub returns-clause-others : goal.returns-clause-others
returns-clause-others g c =
    let size : length c.free_one.new.regions ≡ c.args.core.now.regions.len = search rules in
    subst (λ (rs : List RegionState). OthersStay c.args.core.now.regions.items c.args.core.now.system.state c.args.txn rs c.free_one.new.system.state)
    (sym (put_back c.args.core.now.regions.len c.free_one.new.regions c.args.core.now.regions.items size))
    (subst (λ (rs : List RegionState). OthersStay rs c.args.core.now.system.state c.args.txn c.free_one.new.regions c.free_one.new.system.state) c.deref_mut.ensures.value c.free_one.ensures.others)

pub returns-clause-flags : goal.returns-clause-flags
returns-clause-flags g c =
    let size : length c.free_one.new.regions ≡ c.args.core.now.regions.len = search rules in
    subst (λ (rs : List RegionState). FlagsStay c.args.core.now.regions.items rs)
    (sym (put_back c.args.core.now.regions.len c.free_one.new.regions c.args.core.now.regions.items size))
    (subst (λ (rs : List RegionState). FlagsStay rs c.free_one.new.regions) c.deref_mut.ensures.value c.free_one.ensures.flags)
