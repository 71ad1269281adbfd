use Rattle.std.proofs.Common.{ap, refl, ◌∙◌}
use Rattle.std.proofs.lemmas.Option.{slice_get-get_or}
use Rattle.dali_system.specs.declared.take_back.TakeBack.{TakeBack}
use Rattle.dali_calls.proofs.Flags.{flags_same, flags_set, flags_further, undone_flag}
use Rattle.dali_calls.proofs.Undoing.{none_wanted}
use Rattle.dali_calls.proofs.SingleLemmas.Flags.{left_flag}
use Rattle.dali_calls.proofs.SingleLemmas.Refusing.{undo_stuck}
use Rattle.dali_calls.proofs.SingleLemmas.Undoing.{nothing_undone, undo_region, undo_further, undo_fewer, undo_next, undo_refused}
use Rattle.dali_calls.proofs.single.ending.take_back.Goals as goal

pub loop-region-init : goal.loop-region-init
loop-region-init c = record {
  goes = nothing_undone c.args.regions.now c.args.system.now.state c.args.txn c.requires.whole c.requires.lives c.requires.covered;
  promised = refl;
  flags = flags_same c.args.regions.now;
  stands = (c.new-back.ensures.fields.0, c.new-back.ensures.fields.1, c.new-back.ensures.next);
  undoes = c.new-back.ensures.undoes;
  closed = c.new-back.ensures.fields.2;
}

pub bounds-regions-region : goal.bounds-regions-region
bounds-regions-region c = undo_region c.args.regions.now c.loop-region.regions c.args.system.now.state c.loop-region.system.state c.args.txn c.in-Region.region c.loop-region.back.next c.loop-region.invariant.goes c.loop-region.invariant.stands.2 c.in-Region.ensures

pub loop-region-smaller : goal.loop-region-smaller
loop-region-smaller c = undo_fewer c.loop-region.system.state c.undo.new.system.state c.args.txn c.in-Region.region c.loop-region.back c.undo.new.back _ c.undo.new.region c.loop-region.invariant.goes.lives c.loop-region.invariant.stands.0 c.loop-region.invariant.stands.2 c.in-Region.ensures c.in-Ok.ensures.ok

pub loop-region-preserved : goal.loop-region-preserved
loop-region-preserved c =
    let there = undo_region c.args.regions.now c.loop-region.regions c.args.system.now.state c.loop-region.system.state c.args.txn c.in-Region.region c.loop-region.back.next c.loop-region.invariant.goes c.loop-region.invariant.stands.2 c.in-Region.ensures in
    let one = c.in-Ok.ensures.ok in
    record {
      goes = undo_further c.args.regions.now c.loop-region.regions c.args.system.now.state c.loop-region.system.state c.undo.new.system.state c.args.txn c.in-Region.region c.loop-region.back c.undo.new.back _ c.undo.new.region c.ranges.txn.fits c.loop-region.invariant.goes c.loop-region.invariant.stands.0 c.loop-region.invariant.stands.2 c.in-Region.ensures (slice_get-get_or c.loop-region.regions c.in-Region.region _ there) one;
      promised = c.undo.ensures.promised ∙ c.loop-region.invariant.promised;
      flags = flags_further c.args.regions.now c.loop-region.regions _ c.loop-region.invariant.flags
          (flags_set c.loop-region.regions c.in-Region.region _ c.undo.new.region (slice_get-get_or c.loop-region.regions c.in-Region.region _ there) (undone_flag c.loop-region.back c.undo.new.back _ c.undo.new.region c.loop-region.system.state c.undo.new.system.state one));
      stands = (
        ap (λ (b : TakeBack). b.txn) one.next ∙ c.loop-region.invariant.stands.0,
        ap (λ (b : TakeBack). b.down_to) one.next ∙ c.loop-region.invariant.stands.1,
        undo_next c.loop-region.system.state c.undo.new.system.state c.args.txn c.loop-region.back c.undo.new.back _ c.undo.new.region c.loop-region.invariant.stands.0 c.loop-region.invariant.stands.1 one,
      );
      undoes = c.in-Ok.ensures.undoes;
      closed = ap (λ (b : TakeBack). b.operation) one.next;
    }

pub returns-in-Err-clause-goes : goal.returns-in-Err-clause-goes
returns-in-Err-clause-goes c =
    let there = undo_region c.args.regions.now c.loop-region.regions c.args.system.now.state c.loop-region.system.state c.args.txn c.in-Region.region c.loop-region.back.next c.loop-region.invariant.goes c.loop-region.invariant.stands.2 c.in-Region.ensures in
    undo_refused c.args.regions.now c.loop-region.regions c.args.system.now.state c.loop-region.system c.undo.new.system c.args.txn c.in-Region.region c.loop-region.back _ c.undo.new.region c.loop-region.invariant.goes c.loop-region.invariant.stands.0 (slice_get-get_or c.loop-region.regions c.in-Region.region _ there) c.in-Err.ensures.err.1 c.in-Err.ensures.err.2

pub returns : goal.returns
returns c = record {
  goes = c.loop-region.invariant.goes;
  all = none_wanted _ c.loop-region.back.next c.loop-region.invariant.stands.2 (λ r e. c.in_default.not-Region r (c.wants.ensures ∙ e));
  cause = tt;
  promised = c.loop-region.invariant.promised;
  flags = c.loop-region.invariant.flags;
}

pub returns-in-Err-clause-cause : goal.returns-in-Err-clause-cause
returns-in-Err-clause-cause c =
    let there = undo_region c.args.regions.now c.loop-region.regions c.args.system.now.state c.loop-region.system.state c.args.txn c.in-Region.region c.loop-region.back.next c.loop-region.invariant.goes c.loop-region.invariant.stands.2 c.in-Region.ensures in
    undo_stuck c.loop-region.regions c.loop-region.system c.undo.new.system c.args.txn c.in-Region.region c.loop-region.back.next _ c.undo.new.region c.in-Err.cause c.loop-region.invariant.stands.2 c.in-Region.ensures (slice_get-get_or c.loop-region.regions c.in-Region.region c.undo.new.region there) c.in-Err.ensures.err.1 c.in-Err.ensures.cause

pub returns-in-Err-clause-flags : goal.returns-in-Err-clause-flags
returns-in-Err-clause-flags c =
    let there = undo_region c.args.regions.now c.loop-region.regions c.args.system.now.state c.loop-region.system.state c.args.txn c.in-Region.region c.loop-region.back.next c.loop-region.invariant.goes c.loop-region.invariant.stands.2 c.in-Region.ensures in
    flags_further c.args.regions.now c.loop-region.regions _ c.loop-region.invariant.flags
    (flags_set c.loop-region.regions c.in-Region.region _ c.undo.new.region (slice_get-get_or c.loop-region.regions c.in-Region.region _ there) (left_flag c.loop-region.back.txn _ c.undo.new.region c.in-Err.ensures.err.2))
