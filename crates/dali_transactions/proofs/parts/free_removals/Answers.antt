use Rattle.std.proofs.Common.{◌∙◌, arith, ap, sym, refl}
use Rattle.std.proofs.lemmas.List.{length-set}
use Rattle.std.proofs.lemmas.Option.{slice_get-get_or, slice_get_within}
use Rattle.dali_lists.proofs.Lists.{get_set}
use Rattle.dali_geometry.specs.Places.{regions}
use Rattle.dali_runs.specs.Regions.{is_alive}
use Rattle.dali_runs.specs.State.{hold_in, state_in}
use Rattle.dali_calls.proofs.Flags.{flags_same, flags_further, flags_set}
use Rattle.dali_transactions.proofs.Releasing.{cleared}
use Rattle.dali_transactions.proofs.Alone.{cleared_none, cleared_on, removal_there, releasable_there, unheld_on, may_still, settled_on, all_freed, not_stuck, promised_on, kept_but}
use Rattle.dali_transactions.proofs.parts.free_removals.Goals as goal

pub loop-removal-init : goal.loop-removal-init
loop-removal-init c = record {
  cleared = cleared_none c.args.txn c.args.regions.now c.args.system.now;
  whole = c.requires.whole;
  flags = flags_same c.args.regions.now;
  holds = λ q none. refl;
  unheld = λ i u less. absurd (omega (arith, less));
}

pub bounds-regions-removal : goal.bounds-regions-removal
bounds-regions-removal c = removal_there c.args.txn c.args.removals.now c.args.regions.now c.loop-removal.regions c.args.system.now c.loop-removal.system c.loop-removal.removal-index _ c.loop-removal.invariant.whole c.requires.may c.loop-removal.invariant.cleared c.loop-removal-test.true

pub release-requires : goal.release-requires
release-requires c =
    let inv = c.loop-removal.invariant in
    let there = removal_there c.args.txn c.args.removals.now c.args.regions.now c.loop-removal.regions c.args.system.now c.loop-removal.system c.loop-removal.removal-index _ inv.whole c.requires.may inv.cleared c.loop-removal-test.true in
    record { dead = releasable_there c.args.removals.now c.args.regions.now c.loop-removal.regions c.loop-removal.removal-index _ _ c.requires.releasable inv.cleared.left.others.holds (slice_get-get_or c.args.removals.now c.loop-removal.removal-index _ c.loop-removal-test.true) (slice_get-get_or c.loop-removal.regions _ _ there) }

pub loop-removal-preserved : goal.loop-removal-preserved
loop-removal-preserved c =
    let inv = c.loop-removal.invariant in
    let there = removal_there c.args.txn c.args.removals.now c.args.regions.now c.loop-removal.regions c.args.system.now c.loop-removal.system c.loop-removal.removal-index _ inv.whole c.requires.may inv.cleared c.loop-removal-test.true in
    let at = slice_get-get_or c.loop-removal.regions _ _ there in
    let alive = ap is_alive (ap state_in inv.cleared.row ∙ c.requires.committed) in
    let one = cleared c.loop-removal.regions c.loop-removal.system c.release.new.system c.args.txn _ _ c.release.new.region alive at c.release.ensures.released c.release.ensures.promised in
    record {
      cleared = cleared_on c.args.txn c.args.regions.now c.loop-removal.regions _ c.args.system.now c.loop-removal.system c.release.new.system inv.cleared one;
      whole = length-set c.loop-removal.regions _ c.release.new.region ∙ (inv.whole ∙ sym (ap regions one.sizes));
      flags = flags_further c.args.regions.now c.loop-removal.regions _ inv.flags (flags_set c.loop-removal.regions _ _ c.release.new.region at c.release.ensures.flags);
      holds = kept_but c.args.removals.now c.args.removals.now c.loop-removal.removal-index _ c.args.regions.now c.loop-removal.regions c.release.new.region inv.holds (λ q none. none) (slice_get-get_or c.args.removals.now c.loop-removal.removal-index _ c.loop-removal-test.true);
      unheld = unheld_on c.loop-removal.regions _ c.args.removals.now c.loop-removal.removal-index _ inv.unheld one.left.others.holds c.loop-removal-test.true (ap hold_in (get_set c.loop-removal.regions _ _ c.release.new.region at) ∙ c.release.ensures.unheld);
    }

pub settle-requires-clause-may : goal.settle-requires-clause-may
settle-requires-clause-may c = may_still c.args.txn c.args.removals.now c.args.regions.now c.loop-removal.regions c.args.system.now c.loop-removal.system c.loop-removal.invariant.cleared c.requires.may

pub settle-requires-clause-committed : goal.settle-requires-clause-committed
settle-requires-clause-committed c = ap state_in c.loop-removal.invariant.cleared.row ∙ c.requires.committed

pub unreachable-requires : goal.unreachable-requires
unreachable-requires c =
    let inv = c.loop-removal.invariant in
    not_stuck c.loop-removal.regions c.settle.new.regions c.settle.new.system.state c.args.removals.now _ _
    (λ i u at. let less = slice_get_within c.args.removals.now i u at in inv.unheld i u (omega (arith, less, c.loop-removal-test.false)) at)
    c.in-Err.ensures.holds
    c.in-Err.ensures.cause
    (c.in-Err.ensures.promised (promised_on c.args.txn _ c.args.regions.now c.loop-removal.regions c.args.system.now c.loop-removal.system inv.cleared (record { runs = c.requires.promised.runs; enough = c.requires.promised.enough })))

pub returns-clause-settled : goal.returns-clause-settled
returns-clause-settled c =
    let inv = c.loop-removal.invariant in
    settled_on c.args.txn c.args.removals.now c.args.regions.now c.loop-removal.regions c.settle.new.regions c.args.system.now c.loop-removal.system c.settle.new.system inv.cleared inv.holds
    (all_freed c.loop-removal.regions c.settle.new.regions c.loop-removal.system c.settle.new.system c.args.txn c.args.removals.now (ap state_in inv.cleared.row ∙ c.requires.committed) c.in-Ok.ensures.ok c.in-Ok.ensures.others c.in-Ok.ensures.promises c.in-Ok.ensures.holds c.in-Ok.ensures.gone c.in-Ok.ensures.released)

pub returns-clause-flags : goal.returns-clause-flags
returns-clause-flags c = flags_further c.args.regions.now c.loop-removal.regions c.settle.new.regions c.loop-removal.invariant.flags c.in-Ok.ensures.flags
