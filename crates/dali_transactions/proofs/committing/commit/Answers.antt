use Rattle.std.proofs.Common.{is_some, ◌≡◌, ◌∙◌, ◌≤◌, List, None, length, ap, sym, refl, subst, rules, arith}
use Rattle.dali_record.specs.declared.operations.Pending.{Pending}
use Rattle.dali_record.specs.Legal.{dead_of}
use Rattle.dali_att.specs.Table.{undos_at}
use Rattle.dali_region.specs.State.{RegionState}
use Rattle.dali_geometry.specs.Places.{regions}
use Rattle.dali_runs.specs.State.{SystemState}
use Rattle.dali_runs.specs.Steps.{taken, commit_logged}
use Rattle.dali_core.specs.Cores.{IsNoShorter}
use Rattle.dali_calls.specs.Flags.{FlagsStay}
use Rattle.dali_calls.proofs.Flags.{flags_same, flags_equal}
use Rattle.dali_transactions.specs.Guards.{is_releasable_on}
use Rattle.dali_transactions.specs.Stands.{IsUp}
use Rattle.std.specs.List.{AllByRecursion, list_all}
use Rattle.dali_system.specs.Promised.{Promised, promised_to}
use Rattle.dali_calls.specs.Single.Settling.{MayFree, settle_room}
use Rattle.dali_clean.specs.Others.{OthersStay}
use Rattle.dali_core.proofs.Lengths.{same_length}
use Rattle.dali_transactions.proofs.Guarding.{clash, of_removals}
use Rattle.dali_transactions.proofs.Durable.{commit_fails, four_calls, faults_kept, up_committed, up_failed, may_taken, others_taken, commit_done, kept_at, calls_at, within_at, fault_only, commit_kept, holds_stand}
use Rattle.dali_transactions.proofs.Wholes.{whole_logged, whole_committed, whole_over}
use Rattle.dali_transactions.proofs.committing.commit.Goals as goal

pub commit-requires-clause-covered : goal.commit-requires-clause-covered
commit-requires-clause-covered g c = (c.may_commit.ensures.is c.if-not-may_commit.false).0.covered

pub flush-requires : goal.flush-requires
flush-requires g c = record { small = (c.may_commit.ensures.is c.if-not-may_commit.false).1 }

pub returns-in-Err-flush-clause-up : goal.returns-in-Err-flush-clause-up
returns-in-Err-flush-clause-up g c = λ between.
    let only = fault_only c.in-Err-flush.field-0 c.args.core.now.vault.stopped c.in-Err-flush.ensures.runs (sym c.stopped-2.ensures ∙ c.if-stopped.false) in
    let core_is = (c.in-Err-flush.ensures.fault only).0 in
    let first : c.flush.new.core.system.state.first ≡ c.commit.new.system.state.first = ap (λ k. k.system.state.first) core_is in
    let flushed : c.flush.new.core.vault.flushed ≡ c.args.core.now.vault.flushed = ap (λ k. k.vault.flushed) core_is in
    let fails = commit_fails g.V.Store c.args.core.now.regions.items c.args.core.now.system.state c.commit.new.system.state c.flush.new.core.system.state c.args.core.now.vault c.flush.new.core.vault c.args.txn c.in-Ok.removals.items (c.may_commit.ensures.is c.if-not-may_commit.false).0.lives c.in-Ok.ensures.ok (c.in-Err-flush.ensures.stops only) first flushed in
    let same : c.flush.new.core.regions.items ≡ c.args.core.now.regions.items = ap (λ k. k.regions.items) core_is in
    subst (λ (rs : List RegionState). IsUp g.V.Store rs c.flush.new.core.system.state c.flush.new.core.vault) (sym same) (up_failed g.V.Store c.args.core.now.regions.items c.args.core.now.system.state c.flush.new.core.system.state c.args.core.now.vault c.flush.new.core.vault c.args.txn between fails)

pub returns-in-Err-flush-clause-fault : goal.returns-in-Err-flush-clause-fault
returns-in-Err-flush-clause-fault g c =
    let only = fault_only c.in-Err-flush.field-0 c.args.core.now.vault.stopped c.in-Err-flush.ensures.runs (sym c.stopped-2.ensures ∙ c.if-stopped.false) in
    let core_is = (c.in-Err-flush.ensures.fault only).0 in
    let first : c.flush.new.core.system.state.first ≡ c.commit.new.system.state.first = rw core_is refl in
    let flushed : c.flush.new.core.vault.flushed ≡ c.args.core.now.vault.flushed = rw core_is refl in
    let fails = commit_fails g.V.Store c.args.core.now.regions.items c.args.core.now.system.state c.commit.new.system.state c.flush.new.core.system.state c.args.core.now.vault c.flush.new.core.vault c.args.txn c.in-Ok.removals.items (c.may_commit.ensures.is c.if-not-may_commit.false).0.lives c.in-Ok.ensures.ok (c.in-Err-flush.ensures.stops only) first flushed in
    λ _. fails

pub returns-in-Err-flush-clause-any_moment : goal.returns-in-Err-flush-clause-any_moment
returns-in-Err-flush-clause-any_moment g c = λ runs none fits stop. within_at g.V.Store g.V.Store.moment g.V.Store.left_since c.args.core.now.vault c.flush.new.core.vault c.flush.new.core.vault c.commit.new.system.state (commit_logged c.args.core.now.system.state c.args.txn) refl c.in-Ok.ensures.logged (c.flush.ensures.any_moment runs)

pub settle_core-requires-clause-whole : goal.settle_core-requires-clause-whole
settle_core-requires-clause-whole g c =
    let same : c.flush.new.core.regions.items ≡ c.args.core.now.regions.items = search rules in
    let sizes : c.flush.new.core.system.state.sizes ≡ c.commit.new.system.state.sizes = search rules in
    ap length same ∙ ((c.may_commit.ensures.is c.if-not-may_commit.false).0.whole ∙ ap regions (sym (sizes ∙ c.in-Ok.ensures.sizes)))

pub settle_core-requires-clause-releasable : goal.settle_core-requires-clause-releasable
settle_core-requires-clause-releasable g c =
    let same : c.flush.new.core.regions.items ≡ c.args.core.now.regions.items = search rules in
    ap (list_all (is_releasable_on c.flush.new.core.regions.items)) (c.deref.ensures.value ∙ c.in-Ok.ensures.removals)
    ∙ (ap (λ (rs : List RegionState). list_all (is_releasable_on rs) (dead_of (undos_at c.args.core.now.system.state.table c.args.txn))) same
    ∙ of_removals (is_releasable_on c.args.core.now.regions.items) (undos_at c.args.core.now.system.state.table c.args.txn) (c.may_commit.ensures.is c.if-not-may_commit.false).0.releasable)

pub settle_core-requires-clause-may : goal.settle_core-requires-clause-may
settle_core-requires-clause-may g c =
    let is : c.flush.new.core.system.state ≡ taken c.commit.new.system.state = search rules in
    subst (λ (ps : List Pending). AllByRecursion (MayFree c.flush.new.core.system.state c.args.txn) ps) (sym c.deref.ensures.value) (may_taken c.commit.new.system.state c.flush.new.core.system.state c.args.txn c.in-Ok.removals.items is c.in-Ok.ensures.may)

pub settle_core-requires-clause-promised : goal.settle_core-requires-clause-promised
settle_core-requires-clause-promised g c =
    let stop : c.flush.new.core.system.state.stop ≡ c.commit.new.system.state.stop = search rules in
    let promised : c.flush.new.core.system.promised ≡ c.commit.new.system.promised = search rules in
    let runs : c.args.core.now.system.state.stop ≡ None = search rules in
    record {
      runs = stop ∙ (ap (λ (x : SystemState). x.stop) c.in-Ok.ensures.logged ∙ runs);
      enough = subst (λ (m : Promised). settle_room (length c.deref.result.now) ≤ promised_to m c.args.txn) (sym promised) (subst (λ (ps : List Pending). settle_room (length ps) ≤ promised_to c.commit.new.system.promised c.args.txn) (sym c.deref.ensures.value) (let is = c.in-Ok.ensures.promised in omega (arith, is)));
    }

pub returns-clause-ok : goal.returns-clause-ok
returns-clause-ok g c =
    let same : c.flush.new.core.regions.items ≡ c.args.core.now.regions.items = search rules in
    let sizes : c.flush.new.core.system.state.sizes ≡ c.commit.new.system.state.sizes = search rules in
    let done = commit_done g.V.Store c.args.core.now.regions.items c.flush.new.core.regions.items c.settle_core.new.core.regions.items c.args.core.now.system.state c.commit.new.system.state c.flush.new.core.system c.settle_core.new.core.system c.args.core.now.vault c.flush.new.core.vault c.settle_core.new.core.vault c.args.txn c.in-Ok.removals.items _ (c.may_commit.ensures.is c.if-not-may_commit.false).0.lives c.in-Ok.ensures.ok c.in-Ok-flush.ensures.durable sizes same c.deref.ensures.value c.settle_core.ensures.vault c.settle_core.ensures.settled in
    done

pub returns-clause-up : goal.returns-clause-up
returns-clause-up g c = λ between.
    let same : c.flush.new.core.regions.items ≡ c.args.core.now.regions.items = search rules in
    let sizes : c.flush.new.core.system.state.sizes ≡ c.commit.new.system.state.sizes = search rules in
    let done = commit_done g.V.Store c.args.core.now.regions.items c.flush.new.core.regions.items c.settle_core.new.core.regions.items c.args.core.now.system.state c.commit.new.system.state c.flush.new.core.system c.settle_core.new.core.system c.args.core.now.vault c.flush.new.core.vault c.settle_core.new.core.vault c.args.txn c.in-Ok.removals.items _ (c.may_commit.ensures.is c.if-not-may_commit.false).0.lives c.in-Ok.ensures.ok c.in-Ok-flush.ensures.durable sizes same c.deref.ensures.value c.settle_core.ensures.vault c.settle_core.ensures.settled in
    up_committed g.V.Store c.args.core.now.regions.items c.settle_core.new.core.regions.items c.args.core.now.system.state c.settle_core.new.core.system.state c.args.core.now.vault c.settle_core.new.core.vault c.args.txn between done

pub returns-clause-kept : goal.returns-clause-kept
returns-clause-kept g c = λ between.
    let sizes : c.flush.new.core.system.state.sizes ≡ c.commit.new.system.state.sizes = search rules in
    kept_at g.V.Store c.args.core.now.vault c.flush.new.core.vault c.settle_core.new.core.vault c.settle_core.ensures.vault (faults_kept g.V.Store c.args.core.now.regions.items c.args.core.now.system.state c.commit.new.system.state c.flush.new.core.system.state c.args.core.now.vault c.flush.new.core.vault c.args.txn c.in-Ok.removals.items between (c.may_commit.ensures.is c.if-not-may_commit.false).0.lives c.in-Ok.ensures.ok c.in-Ok-flush.ensures.durable sizes)

pub returns-clause-calls : goal.returns-clause-calls
returns-clause-calls g c = λ between. calls_at g.V.Store g.V.Store.lets_pass c.args.core.now.vault c.flush.new.core.vault c.settle_core.new.core.vault _ 4 c.settle_core.ensures.vault (four_calls g.V.Store c.args.core.now.regions.items c.args.core.now.system.state c.commit.new.system.state c.args.core.now.vault c.args.txn c.in-Ok.removals.items between c.in-Ok.ensures.ok) c.in-Ok-flush.ensures.calls

pub returns-clause-any_moment : goal.returns-clause-any_moment
returns-clause-any_moment g c = λ runs none fits stop. within_at g.V.Store g.V.Store.moment g.V.Store.left_since c.args.core.now.vault c.flush.new.core.vault c.settle_core.new.core.vault c.commit.new.system.state (commit_logged c.args.core.now.system.state c.args.txn) c.settle_core.ensures.vault c.in-Ok.ensures.logged (c.flush.ensures.any_moment runs)

pub returns-clause-others : goal.returns-clause-others
returns-clause-others g c =
    let same : c.flush.new.core.regions.items ≡ c.args.core.now.regions.items = search rules in
    let is : c.flush.new.core.system.state ≡ taken c.commit.new.system.state = search rules in
    others_taken c.args.core.now.regions.items c.settle_core.new.core.regions.items c.args.core.now.system.state c.commit.new.system.state c.flush.new.core.system.state c.settle_core.new.core.system.state c.args.txn c.in-Ok.ensures.others is (subst (λ (rs : List RegionState). OthersStay rs c.flush.new.core.system.state c.args.txn c.settle_core.new.core.regions.items c.settle_core.new.core.system.state) same c.settle_core.ensures.settled.others)

pub returns-in-Err-flush-clause-whole : goal.returns-in-Err-flush-clause-whole
returns-in-Err-flush-clause-whole g c = λ between whole. c.flush.ensures.whole (whole_logged g.V.Store c.args.core.now.regions.items c.args.core.now.system.state c.commit.new.system.state c.args.core.now.vault c.args.txn c.in-Ok.removals.items between (c.may_commit.ensures.is c.if-not-may_commit.false).0.lives c.in-Ok.ensures.ok whole)

pub returns-clause-whole : goal.returns-clause-whole
returns-clause-whole g c = λ between whole.
    let same : c.flush.new.core.regions.items ≡ c.args.core.now.regions.items = search rules in
    let sizes : c.flush.new.core.system.state.sizes ≡ c.commit.new.system.state.sizes = search rules in
    let done = commit_done g.V.Store c.args.core.now.regions.items c.flush.new.core.regions.items c.settle_core.new.core.regions.items c.args.core.now.system.state c.commit.new.system.state c.flush.new.core.system c.settle_core.new.core.system c.args.core.now.vault c.flush.new.core.vault c.settle_core.new.core.vault c.args.txn c.in-Ok.removals.items _ (c.may_commit.ensures.is c.if-not-may_commit.false).0.lives c.in-Ok.ensures.ok c.in-Ok-flush.ensures.durable sizes same c.deref.ensures.value c.settle_core.ensures.vault c.settle_core.ensures.settled in
    let flushed = c.flush.ensures.whole (whole_logged g.V.Store c.args.core.now.regions.items c.args.core.now.system.state c.commit.new.system.state c.args.core.now.vault c.args.txn c.in-Ok.removals.items between (c.may_commit.ensures.is c.if-not-may_commit.false).0.lives c.in-Ok.ensures.ok whole) in
    whole_committed g.V.Store c.args.core.now.regions.items c.settle_core.new.core.regions.items c.args.core.now.system.state c.flush.new.core.system.state c.settle_core.new.core.system.state c.args.core.now.vault c.settle_core.new.core.vault c.args.txn between done
    (whole_over g.V.Store c.args.core.now.regions.items c.flush.new.core.regions.items c.flush.new.core.system.state c.flush.new.core.vault c.settle_core.new.core.vault c.settle_core.ensures.vault same flushed)

pub returns-in-Err-flush-clause-regions : goal.returns-in-Err-flush-clause-regions
returns-in-Err-flush-clause-regions g c =
    let only = fault_only c.in-Err-flush.field-0 c.args.core.now.vault.stopped c.in-Err-flush.ensures.runs (sym c.stopped-2.ensures ∙ c.if-stopped.false) in
    ap (λ k. k.regions.items) (c.in-Err-flush.ensures.fault only).0

pub returns-in-Err-flush-clause-unflushed : goal.returns-in-Err-flush-clause-unflushed
returns-in-Err-flush-clause-unflushed g c =
    let only = fault_only c.in-Err-flush.field-0 c.args.core.now.vault.stopped c.in-Err-flush.ensures.runs (sym c.stopped-2.ensures ∙ c.if-stopped.false) in
    ap (λ k. k.vault.flushed) (c.in-Err-flush.ensures.fault only).0

pub returns-in-Err-flush-clause-tells : goal.returns-in-Err-flush-clause-tells
returns-in-Err-flush-clause-tells g c = c.flush.ensures.tells

pub returns-clause-tells : goal.returns-clause-tells
returns-clause-tells g c = ap (λ v. is_some (g.V.Store.told v.store)) c.settle_core.ensures.vault ∙ c.flush.ensures.tells

pub returns-in-Err-flush-clause-in_the_way : goal.returns-in-Err-flush-clause-in_the_way
returns-in-Err-flush-clause-in_the_way g c = λ between.
    let only = fault_only c.in-Err-flush.field-0 c.args.core.now.vault.stopped c.in-Err-flush.ensures.runs (sym c.stopped-2.ensures ∙ c.if-stopped.false) in
    holds_stand (dead_of (undos_at c.args.core.now.system.state.table c.args.txn)) c.args.core.now.regions.items c.flush.new.core.regions.items (ap (λ k. k.regions.items) (c.in-Err-flush.ensures.fault only).0)

pub returns-clause-in_the_way : goal.returns-clause-in_the_way
returns-clause-in_the_way g c = λ between.
    let same : c.flush.new.core.regions.items ≡ c.args.core.now.regions.items = search rules in
    let sizes : c.flush.new.core.system.state.sizes ≡ c.commit.new.system.state.sizes = search rules in
    commit_kept g.V.Store c.args.core.now.regions.items c.flush.new.core.regions.items c.settle_core.new.core.regions.items c.args.core.now.system.state c.commit.new.system.state c.flush.new.core.system c.settle_core.new.core.system c.args.core.now.vault c.flush.new.core.vault c.args.txn c.in-Ok.removals.items _ (c.may_commit.ensures.is c.if-not-may_commit.false).0.lives c.in-Ok.ensures.ok c.in-Ok-flush.ensures.durable sizes same c.deref.ensures.value c.settle_core.ensures.settled between

pub returns-clause-released : goal.returns-clause-released
returns-clause-released g c = c.settle_core.ensures.settled.released

-- ---- flags and files
pub returns-in-Some-clause-flags : goal.returns-in-Some-clause-flags
returns-in-Some-clause-flags g c = flags_same c.args.core.now.regions.items

pub returns-then-stopped-clause-flags : goal.returns-then-stopped-clause-flags
returns-then-stopped-clause-flags g c = flags_same c.args.core.now.regions.items

pub returns-then-not-may_commit-clause-flags : goal.returns-then-not-may_commit-clause-flags
returns-then-not-may_commit-clause-flags g c = flags_same c.args.core.now.regions.items

pub returns-in-Err-clause-flags : goal.returns-in-Err-clause-flags
returns-in-Err-clause-flags g c = flags_same c.args.core.now.regions.items

pub returns-in-Err-flush-clause-flags : goal.returns-in-Err-flush-clause-flags
returns-in-Err-flush-clause-flags g c =
    let only = fault_only c.in-Err-flush.field-0 c.args.core.now.vault.stopped c.in-Err-flush.ensures.runs (sym c.stopped-2.ensures ∙ c.if-stopped.false) in
    flags_equal c.args.core.now.regions.items c.flush.new.core.regions.items (ap (λ k. k.regions.items) (c.in-Err-flush.ensures.fault only).0)

pub returns-clause-flags : goal.returns-clause-flags
returns-clause-flags g c =
    let same : c.flush.new.core.regions.items ≡ c.args.core.now.regions.items = search rules in
    subst (λ (rs : List RegionState). FlagsStay rs c.settle_core.new.core.regions.items) same c.settle_core.ensures.flags

pub returns-in-Some-clause-files : goal.returns-in-Some-clause-files
returns-in-Some-clause-files g c = same_length (g.V.Store.told c.args.core.now.vault.store) (g.V.Store.told c.args.core.now.vault.store) refl

pub returns-then-stopped-clause-files : goal.returns-then-stopped-clause-files
returns-then-stopped-clause-files g c = same_length (g.V.Store.told c.args.core.now.vault.store) (g.V.Store.told c.args.core.now.vault.store) refl

pub returns-then-not-may_commit-clause-files : goal.returns-then-not-may_commit-clause-files
returns-then-not-may_commit-clause-files g c = same_length (g.V.Store.told c.args.core.now.vault.store) (g.V.Store.told c.args.core.now.vault.store) refl

pub returns-in-Err-clause-files : goal.returns-in-Err-clause-files
returns-in-Err-clause-files g c = same_length (g.V.Store.told c.args.core.now.vault.store) (g.V.Store.told c.args.core.now.vault.store) refl

pub returns-clause-files : goal.returns-clause-files
returns-clause-files g c = subst (λ v. IsNoShorter g.V.Store.told c.args.core.now.vault v) (sym c.settle_core.ensures.vault) c.flush.ensures.files

pub returns-then-not-may_commit-clause-unfit : goal.returns-then-not-may_commit-clause-unfit
returns-then-not-may_commit-clause-unfit g c = λ is may flush. clash c.if-not-may_commit.true (c.may_commit.ensures.always may flush)

pub returns-clause-other : goal.returns-clause-other
returns-clause-other g c = λ stop runs never. absurd (never (c.may_commit.ensures.is c.if-not-may_commit.false))

pub returns-in-Err-clause-other : goal.returns-in-Err-clause-other
returns-in-Err-clause-other g c = λ stop runs never. absurd (never (c.may_commit.ensures.is c.if-not-may_commit.false))

pub returns-in-Err-flush-clause-other : goal.returns-in-Err-flush-clause-other
returns-in-Err-flush-clause-other g c = λ stop runs never. absurd (never (c.may_commit.ensures.is c.if-not-may_commit.false))
