use Rattle.std.proofs.Common.{◌∙◌, ap, refl, slice_set}
use Rattle.std.proofs.lemmas.List.{get_or-set_same}
use Rattle.std.proofs.lemmas.Option.{slice_get-get_or}
use Rattle.dali_region.specs.State.{RegionState}
use Rattle.dali_system.specs.declared.take_back.TakeBack.{TakeBack}
use Rattle.dali_calls.proofs.Flags.{flags_same, flags_set, flags_further, undone_flag, taken_back_flag}
use Rattle.dali_calls.proofs.Undoing.{none_wanted}
use Rattle.dali_clean.proofs.Steps.{stays}
use Rattle.dali_clean.proofs.Cleaning.{region_in, dead_of_quiet, there_still, turned, turn_fewer, refused_as, undone_next}
use Rattle.dali_clean.proofs.Others.{others_further, others_same, release_others, undone_others, refused_others, kept_further, kept_same, released_locks, undone_locks}
use Rattle.dali_clean.proofs.cleaner.take_back.Goals as goal

pub loop-region-init : goal.loop-region-init
loop-region-init c = record {
  goes = stays c.args.regions.now c.args.system.now.state c.args.txn;
  is = record { regions = c.requires.regions; kind = c.requires.kind; quiet = c.requires.quiet; claimed = c.requires.claimed };
  others = others_same c.args.regions.now c.args.regions.now c.args.system.now.state c.args.system.now.state c.args.txn refl refl;
  kept = kept_same c.args.system.now c.args.system.now refl;
  flags = flags_same c.args.regions.now;
  stop = refl;
  stands = (c.new-back.ensures.fields.0, c.new-back.ensures.fields.1, c.new-back.ensures.next);
  undoes = c.new-back.ensures.undoes;
  closed = c.new-back.ensures.fields.2;
}

pub bounds-regions-region : goal.bounds-regions-region
bounds-regions-region c = region_in c.loop-region.regions c.loop-region.system.state c.args.txn c.in-Region.region c.loop-region.back.next c.loop-region.invariant.is c.loop-region.invariant.stands.2 c.in-Region.ensures

pub release-requires : goal.release-requires
release-requires c =
    let less = region_in c.loop-region.regions c.loop-region.system.state c.args.txn c.in-Region.region c.loop-region.back.next c.loop-region.invariant.is c.loop-region.invariant.stands.2 c.in-Region.ensures in
    record { dead = dead_of_quiet c.args.txn c.loop-region.regions c.loop-region.invariant.is.quiet c.in-Region.region _ (slice_get-get_or c.loop-region.regions c.in-Region.region _ less) }

pub bounds-regions-region-in-Region : goal.bounds-regions-region-in-Region
bounds-regions-region-in-Region c =
    there_still c.loop-region.regions c.in-Region.region c.release.new.region (region_in c.loop-region.regions c.loop-region.system.state c.args.txn c.in-Region.region c.loop-region.back.next c.loop-region.invariant.is c.loop-region.invariant.stands.2 c.in-Region.ensures)

pub undo-requires-clause-unheld : goal.undo-requires-clause-unheld
undo-requires-clause-unheld c =
    let less = region_in c.loop-region.regions c.loop-region.system.state c.args.txn c.in-Region.region c.loop-region.back.next c.loop-region.invariant.is c.loop-region.invariant.stands.2 c.in-Region.ensures in
    ap (λ (g : RegionState). g.hold) (get_or-set_same c.loop-region.regions c.in-Region.region c.release.new.region c.index-regions-region-in-Region.result less) ∙ c.release.ensures.unheld

pub loop-region-smaller : goal.loop-region-smaller
loop-region-smaller c =
    let less = region_in c.loop-region.regions c.loop-region.system.state c.args.txn c.in-Region.region c.loop-region.back.next c.loop-region.invariant.is c.loop-region.invariant.stands.2 c.in-Region.ensures in
    turn_fewer c.args.regions.now c.loop-region.regions c.args.system.now.state c.loop-region.system.state c.release.new.system.state c.args.txn c.in-Region.region c.loop-region.back _ c.release.new.region _ c.undo.new.region
    c.loop-region.invariant.goes c.loop-region.invariant.is c.loop-region.invariant.stop c.loop-region.invariant.stands.0 c.loop-region.invariant.stands.2 c.in-Region.ensures
    (slice_get-get_or c.loop-region.regions c.in-Region.region _ less) c.release.ensures.released (slice_get-get_or _ c.in-Region.region _ (there_still c.loop-region.regions c.in-Region.region c.release.new.region less))
    c.undo.new.system.state c.undo.new.back c.in-Ok.ensures.ok

pub loop-region-preserved : goal.loop-region-preserved
loop-region-preserved c =
    let less = region_in c.loop-region.regions c.loop-region.system.state c.args.txn c.in-Region.region c.loop-region.back.next c.loop-region.invariant.is c.loop-region.invariant.stands.2 c.in-Region.ensures in
    let one = c.in-Ok.ensures.ok in
    let turn =
    turned c.args.regions.now c.loop-region.regions c.args.system.now.state c.loop-region.system.state c.release.new.system.state c.args.txn c.in-Region.region c.loop-region.back _ c.release.new.region _ c.undo.new.region
    c.loop-region.invariant.goes c.loop-region.invariant.is c.loop-region.invariant.stop c.loop-region.invariant.stands.0 c.loop-region.invariant.stands.2 c.in-Region.ensures
    (slice_get-get_or c.loop-region.regions c.in-Region.region _ less) c.release.ensures.released (slice_get-get_or _ c.in-Region.region _ (there_still c.loop-region.regions c.in-Region.region c.release.new.region less))
    c.undo.new.system.state c.undo.new.back c.ranges.txn.fits one in
    record {
      goes = turn.goes;
      is = turn.is;
      others = others_further c.args.regions.now c.loop-region.regions _ c.args.system.now.state c.loop-region.system.state c.undo.new.system.state c.args.txn c.loop-region.invariant.others
          (others_further c.loop-region.regions (slice_set c.loop-region.regions c.in-Region.region c.release.new.region) _ c.loop-region.system.state c.release.new.system.state c.undo.new.system.state c.args.txn
          (release_others c.loop-region.regions c.loop-region.system.state c.release.new.system.state c.args.txn c.in-Region.region _ c.release.new.region (slice_get-get_or c.loop-region.regions c.in-Region.region _ less) c.release.ensures.released)
          (undone_others (slice_set c.loop-region.regions c.in-Region.region c.release.new.region) c.release.new.system.state c.undo.new.system.state c.args.txn c.in-Region.region c.loop-region.back c.undo.new.back _ c.undo.new.region (slice_get-get_or _ c.in-Region.region _ (there_still c.loop-region.regions c.in-Region.region c.release.new.region less)) c.loop-region.invariant.stands.0 one));
      kept = kept_further c.args.system.now c.loop-region.system c.undo.new.system c.loop-region.invariant.kept
          (kept_further c.loop-region.system c.release.new.system c.undo.new.system (record { locks = released_locks _ c.release.new.region c.loop-region.system.state c.release.new.system.state c.release.ensures.released; promised = c.release.ensures.promised }) (record { locks = undone_locks c.loop-region.back c.undo.new.back _ c.undo.new.region c.release.new.system.state c.undo.new.system.state one; promised = c.undo.ensures.promised }));
      flags = flags_further c.args.regions.now c.loop-region.regions _ c.loop-region.invariant.flags
          (flags_further c.loop-region.regions (slice_set c.loop-region.regions c.in-Region.region c.release.new.region) _
          (flags_set c.loop-region.regions c.in-Region.region _ c.release.new.region (slice_get-get_or c.loop-region.regions c.in-Region.region _ less) c.release.ensures.flags)
          (flags_set (slice_set c.loop-region.regions c.in-Region.region c.release.new.region) c.in-Region.region _ c.undo.new.region (slice_get-get_or _ c.in-Region.region _ (there_still c.loop-region.regions c.in-Region.region c.release.new.region less)) (undone_flag c.loop-region.back c.undo.new.back _ c.undo.new.region c.release.new.system.state c.undo.new.system.state one)));
      stop = turn.stop;
      stands = (
        ap (λ (b : TakeBack). b.txn) one.next ∙ c.loop-region.invariant.stands.0,
        ap (λ (b : TakeBack). b.down_to) one.next ∙ c.loop-region.invariant.stands.1,
        undone_next c.undo.new.system.state c.args.txn c.loop-region.back c.undo.new.back _ c.undo.new.region c.release.new.system.state c.loop-region.invariant.stands.0 c.loop-region.invariant.stands.1 one,
      );
      undoes = c.in-Ok.ensures.undoes;
      closed = ap (λ (b : TakeBack). b.operation) one.next;
    }

pub returns-in-Err-clause-goes : goal.returns-in-Err-clause-goes
returns-in-Err-clause-goes c =
    let less = region_in c.loop-region.regions c.loop-region.system.state c.args.txn c.in-Region.region c.loop-region.back.next c.loop-region.invariant.is c.loop-region.invariant.stands.2 c.in-Region.ensures in
    (refused_as c.args.regions.now c.loop-region.regions c.args.system.now.state c.loop-region.system.state c.release.new.system c.undo.new.system c.args.txn c.in-Region.region c.loop-region.back _ c.release.new.region _ c.undo.new.region
    c.loop-region.invariant.goes c.loop-region.invariant.is c.loop-region.invariant.stop c.loop-region.invariant.stands.0 c.loop-region.invariant.stands.2 c.in-Region.ensures
    (slice_get-get_or c.loop-region.regions c.in-Region.region _ less) c.release.ensures.released (slice_get-get_or _ c.in-Region.region _ (there_still c.loop-region.regions c.in-Region.region c.release.new.region less))
    c.in-Err.ensures.err.0 c.in-Err.ensures.err.1).goes

pub returns-in-Err-clause-is : goal.returns-in-Err-clause-is
returns-in-Err-clause-is c =
    let less = region_in c.loop-region.regions c.loop-region.system.state c.args.txn c.in-Region.region c.loop-region.back.next c.loop-region.invariant.is c.loop-region.invariant.stands.2 c.in-Region.ensures in
    (refused_as c.args.regions.now c.loop-region.regions c.args.system.now.state c.loop-region.system.state c.release.new.system c.undo.new.system c.args.txn c.in-Region.region c.loop-region.back _ c.release.new.region _ c.undo.new.region
    c.loop-region.invariant.goes c.loop-region.invariant.is c.loop-region.invariant.stop c.loop-region.invariant.stands.0 c.loop-region.invariant.stands.2 c.in-Region.ensures
    (slice_get-get_or c.loop-region.regions c.in-Region.region _ less) c.release.ensures.released (slice_get-get_or _ c.in-Region.region _ (there_still c.loop-region.regions c.in-Region.region c.release.new.region less))
    c.in-Err.ensures.err.0 c.in-Err.ensures.err.1).is

pub returns : goal.returns
returns c = record {
  goes = c.loop-region.invariant.goes;
  is = c.loop-region.invariant.is;
  others = c.loop-region.invariant.others;
  kept = c.loop-region.invariant.kept;
  flags = c.loop-region.invariant.flags;
  stop = c.loop-region.invariant.stop;
  all = none_wanted _ c.loop-region.back.next c.loop-region.invariant.stands.2 (λ r e. c.in_default.not-Region r (c.wants.ensures ∙ e));
  refused = tt;
  memory = λ e. tt;
}

pub returns-in-Err-clause-others : goal.returns-in-Err-clause-others
returns-in-Err-clause-others c =
    let less = region_in c.loop-region.regions c.loop-region.system.state c.args.txn c.in-Region.region c.loop-region.back.next c.loop-region.invariant.is c.loop-region.invariant.stands.2 c.in-Region.ensures in
    others_further c.args.regions.now c.loop-region.regions _ c.args.system.now.state c.loop-region.system.state c.undo.new.system.state c.args.txn c.loop-region.invariant.others
    (others_further c.loop-region.regions (slice_set c.loop-region.regions c.in-Region.region c.release.new.region) _ c.loop-region.system.state c.release.new.system.state c.undo.new.system.state c.args.txn
    (release_others c.loop-region.regions c.loop-region.system.state c.release.new.system.state c.args.txn c.in-Region.region _ c.release.new.region (slice_get-get_or c.loop-region.regions c.in-Region.region _ less) c.release.ensures.released)
    (refused_others (slice_set c.loop-region.regions c.in-Region.region c.release.new.region) c.release.new.system c.undo.new.system c.args.txn c.loop-region.back.txn c.in-Region.region _ c.undo.new.region (slice_get-get_or _ c.in-Region.region _ (there_still c.loop-region.regions c.in-Region.region c.release.new.region less)) c.in-Err.ensures.err.0 c.in-Err.ensures.err.1))

pub returns-in-Err-clause-kept : goal.returns-in-Err-clause-kept
returns-in-Err-clause-kept c =
    kept_further c.args.system.now c.loop-region.system c.undo.new.system c.loop-region.invariant.kept
    (kept_further c.loop-region.system c.release.new.system c.undo.new.system (record { locks = released_locks _ c.release.new.region c.loop-region.system.state c.release.new.system.state c.release.ensures.released; promised = c.release.ensures.promised }) (kept_same c.release.new.system c.undo.new.system c.in-Err.ensures.err.0))

pub returns-in-Err-clause-flags : goal.returns-in-Err-clause-flags
returns-in-Err-clause-flags c =
    let less = region_in c.loop-region.regions c.loop-region.system.state c.args.txn c.in-Region.region c.loop-region.back.next c.loop-region.invariant.is c.loop-region.invariant.stands.2 c.in-Region.ensures in
    flags_further c.args.regions.now c.loop-region.regions _ c.loop-region.invariant.flags
    (flags_further c.loop-region.regions (slice_set c.loop-region.regions c.in-Region.region c.release.new.region) _
    (flags_set c.loop-region.regions c.in-Region.region _ c.release.new.region (slice_get-get_or c.loop-region.regions c.in-Region.region _ less) c.release.ensures.flags)
    (flags_set (slice_set c.loop-region.regions c.in-Region.region c.release.new.region) c.in-Region.region _ c.undo.new.region (slice_get-get_or _ c.in-Region.region _ (there_still c.loop-region.regions c.in-Region.region c.release.new.region less)) (taken_back_flag c.loop-region.back.txn _ c.undo.new.region c.in-Err.ensures.err.1)))
