use Rattle.std.proofs.Common.{◌≡◌, List, [], ◌∷◌, OnOk, OnErr, length, sym, subst, rules}
use Rattle.dali_record.specs.declared.records.Record.TheVariants.{Ended}
use Rattle.dali_region.specs.State.{RegionState}
use Rattle.dali_calls.specs.Flags.{FlagsStay}
use Rattle.dali_calls.specs.Single.Ending.{IsBackOf}
use Rattle.dali_core.proofs.CleanedUp.{put_back}
use Rattle.dali_att.specs.Table.{undos_at}
use Rattle.dali_transactions.specs.Left.{HoldsStay, IsRunning, Left}
use Rattle.dali_transactions.proofs.aborting.abort_running.Goals as goal

pub returns-clause-ok : goal.returns-clause-ok
returns-clause-ok g c =
    let size : length c.take_back.new.regions ≡ c.args.core.now.regions.len = search rules in
    subst (λ (rs : List RegionState). OnOk c.take_back.result (Left (IsBackOf c.args.txn) (Ended c.args.txn ∷ []) c.args.txn c.args.core.now.regions.items c.args.core.now.system rs c.take_back.new.system))
    (sym (put_back c.args.core.now.regions.len c.take_back.new.regions c.args.core.now.regions.items size))
    (subst (λ (rs : List RegionState). OnOk c.take_back.result (Left (IsBackOf c.args.txn) (Ended c.args.txn ∷ []) c.args.txn rs c.args.core.now.system c.take_back.new.regions c.take_back.new.system)) c.deref_mut.ensures.value c.take_back.ensures.ok)

pub returns-clause-left : goal.returns-clause-left
returns-clause-left g c =
    let size : length c.take_back.new.regions ≡ c.args.core.now.regions.len = search rules in
    subst (λ (rs : List RegionState). OnErr c.take_back.result (Left (IsBackOf c.args.txn) [] c.args.txn c.args.core.now.regions.items c.args.core.now.system rs c.take_back.new.system))
    (sym (put_back c.args.core.now.regions.len c.take_back.new.regions c.args.core.now.regions.items size))
    (subst (λ (rs : List RegionState). OnErr c.take_back.result (Left (IsBackOf c.args.txn) [] c.args.txn rs c.args.core.now.system c.take_back.new.regions c.take_back.new.system)) c.deref_mut.ensures.value c.take_back.ensures.left)

pub returns-clause-in_the_way : goal.returns-clause-in_the_way
returns-clause-in_the_way g c =
    let size : length c.take_back.new.regions ≡ c.args.core.now.regions.len = search rules in
    subst (λ (rs : List RegionState). IsRunning c.args.core.now.regions.items c.args.core.now.system.state → HoldsStay (undos_at c.args.core.now.system.state.table c.args.txn) c.args.core.now.regions.items rs)
    (sym (put_back c.args.core.now.regions.len c.take_back.new.regions c.args.core.now.regions.items size))
    (subst (λ (rs : List RegionState). IsRunning rs c.args.core.now.system.state → HoldsStay (undos_at c.args.core.now.system.state.table c.args.txn) rs c.take_back.new.regions) c.deref_mut.ensures.value c.take_back.ensures.in_the_way)

pub returns-clause-flags : goal.returns-clause-flags
returns-clause-flags g c =
    let size : length c.take_back.new.regions ≡ c.args.core.now.regions.len = search rules in
    subst (λ (rs : List RegionState). FlagsStay c.args.core.now.regions.items rs)
    (sym (put_back c.args.core.now.regions.len c.take_back.new.regions c.args.core.now.regions.items size))
    (subst (λ (rs : List RegionState). FlagsStay rs c.take_back.new.regions) c.deref_mut.ensures.value c.take_back.ensures.flags)
